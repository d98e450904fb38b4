-- A heap's rows read back are that heap, and the rows of a sound heap are written down again as they were. Assumes nothing.
use Prim.Native.Nat.{ℕ, zero, suc, ◌+◌, ◌*◌, ◌-◌, ◌≤◌, ◌<◌, zero-le}
use mathlib.Core.Path.{◌≡◌, refl, sym, ap, ◌∙◌}
use mathlib.Core.Option.{Option, none, some}
use mathlib.Core.List.{List, [], ◌∷◌, ◌++◌, map}
use native.Mathlib.Omega.{arith}
use lib.ListN.{length, take, drop, get_or, replicate, length-append, length-drop, length-replicate, get_or-replicate, length-map, take-append-drop}
use lib.Seq.{ext_get_or, get_or-drop, length-take-le, take_at}
use lib.IntN.{ℤ, pos, negsuc}
use Rattle.rules.specs.declared.Head.{Head}
use Rattle.rules.specs.declared.Call.{Call}
use Rattle.rules.specs.declared.Field.{Field}
use Rattle.rules.specs.declared.Field.TheVariants.{Nothing, Figure, Cell, Free}
use Rattle.rules.specs.declared.Sizes.{Sizes}
use Rattle.rules.specs.Field.{kind_of, value_of, field_of, variable_of, held_of}
use Rattle.rules.specs.Table.{Entry, addresses, counts, pad, Above, Below, Ascending}
use Rattle.rules.specs.Heap.{Transaction, allocates, creates, destroys, Heap, place, field}
use Rattle.rules.specs.Step.{batch}
use Rattle.rules.specs.Rows.{Lent, words, rows_of, head_of, fields_of, entries_of, heap_of}
use Rattle.rules.specs.Sound.{Word, Variable, ZeroFrom, Sound, Sized}
use Rattle.rules.specs.Refusals.{cleared}
use Rattle.rules.proofs.Positions.{half}
use Rattle.rules.specs.Invariant.{Chain, Inv, Ended}
use Rattle.rules.specs.Head.{Limits}

-- ---- written down and read back

pub field_back : (f : Field) → field_of (kind_of f) (value_of f) ≡ f
field_back Nothing = refl
field_back (Figure x) = refl
field_back (Cell a) = refl
field_back (Free a) = refl

pub fields_back : (fs : List Field) → fields_of (map kind_of fs) (map value_of fs) ≡ fs
fields_back [] = refl
fields_back (f ∷ fs) = rw (field_back f, fields_back fs)

pub held_back : (o : Option ℕ) → held_of (variable_of o) ≡ o
held_back none = refl
held_back (some a) = refl

pub variables_back : (vs : List (Option ℕ)) → map held_of (map variable_of vs) ≡ vs
variables_back [] = refl
variables_back (v ∷ vs) = rw (held_back v, variables_back vs)

pub entries_back : (es : List Entry) → entries_of (addresses es) (counts es) ≡ es
entries_back [] = refl
entries_back (e ∷ es) = ap (λ (l : List Entry). e ∷ l) (entries_back es)

pub take-pad : (n k : ℕ) (z : List ℕ) → length z ≡ k → take k (pad n z) ≡ z
take-pad n k z e = take_at z (replicate (n - length z) 0) k e

-- the heap that a batch starts from: its log is empty, and nothing is freed yet
abbrev pub started : Heap → Heap
started h = record { shape = h.shape; first = h.first; tables = h.tables; log = []; freed = 0 }

module _ (s : Sizes) (h : Heap) where
  addresses-of : take (length h.tables.mrt) (pad s.n (addresses h.tables.mrt)) ≡ addresses h.tables.mrt
  addresses-of = take-pad s.n _ (addresses h.tables.mrt) (length-map h.tables.mrt _)

  counts_of : take (length h.tables.mrt) (pad s.n (counts h.tables.mrt)) ≡ counts h.tables.mrt
  counts_of = take-pad s.n _ (counts h.tables.mrt) (length-map h.tables.mrt _)

  pub heap-of-rows : heap_of (head_of s h) (rows_of s h) ≡ started h
  unfolding heap_of head_of rows_of
  heap-of-rows =
      rw (fields_back h.shape.fields, variables_back h.shape.variables, take-pad s.n (length h.tables.zct) h.tables.zct refl, addresses-of, counts_of, entries_back h.tables.mrt)

-- so a batch on the rows of a heap is a batch on the heap
pub batch-of_ended : {s : Sizes} {h : Heap} (cs : List Call) → Ended s h → batch s cs (heap_of (head_of s h) (rows_of s h)) ≡ batch s cs h
unfolding batch
batch-of_ended {s} {h} cs E = rw (heap-of-rows s h, E.log_empty)

-- ---- read and written down again

-- a kind and a value that a field has
abbrev Fit : ℕ → ℤ → Type 0
Fit k v = (kind_of (field_of k v) ≡ k) × (value_of (field_of k v) ≡ v)

pub word_fits : (n : ℕ) (ks : List ℕ) (a f k : ℕ) (v : ℤ) → Word n ks a f k v → Fit k v
unfolding Word
word_fits n ks a f zero v w = (refl, sym w)
word_fits n ks a f (suc zero) v w = (refl, refl)
word_fits n ks a f (suc (suc zero)) (pos b) w = (refl, refl)
word_fits n ks a f (suc (suc zero)) (negsuc b) w = absurd (let h = w.cell in omega arith)
word_fits n ks a f (suc (suc (suc zero))) (pos b) w = (refl, refl)
word_fits n ks a f (suc (suc (suc zero))) (negsuc b) w = absurd (let h = w.next in omega arith)
word_fits n ks a f (suc (suc (suc (suc k)))) v w = absurd w

-- every place of the two rows fits
abbrev Fits : List ℕ → List ℤ → Type 0
Fits ks vs = (i : ℕ) → i < length ks → Fit (get_or ks i 0) (get_or vs i (pos 0))

kinds_again : (ks : List ℕ) (vs : List ℤ) → length ks ≡ length vs → Fits ks vs → map kind_of (fields_of ks vs) ≡ ks
kinds_again [] vs e F = refl
kinds_again (k ∷ ks) [] e F = absurd (omega arith)
kinds_again (k ∷ ks) (v ∷ vs) e F = rw ((F 0 (omega arith)).0, kinds_again ks vs (omega arith) (λ i h. F (suc i) (omega arith)))

values_again : (ks : List ℕ) (vs : List ℤ) → length ks ≡ length vs → Fits ks vs → map value_of (fields_of ks vs) ≡ vs
values_again [] [] e F = refl
values_again [] (v ∷ vs) e F = absurd (omega arith)
values_again (k ∷ ks) [] e F = absurd (omega arith)
values_again (k ∷ ks) (v ∷ vs) e F = rw ((F 0 (omega arith)).1, values_again ks vs (omega arith) (λ i h. F (suc i) (omega arith)))

pub variable_again : (n : ℕ) (ks : List ℕ) (x : ℤ) → Variable n ks x → variable_of (held_of x) ≡ x
variable_again n ks (pos a) A = refl
variable_again n ks (negsuc zero) A = refl
variable_again n ks (negsuc (suc a)) A =
    absurd (let h = (A (λ e. let z : ◌≡◌ {A = ℕ} (suc a) 0 = cc in omega arith)).cell in omega arith)

pub variables_again : (n : ℕ) (ks : List ℕ) (xs : List ℤ) → ((v : ℕ) → v < length xs → Variable n ks (get_or xs v (pos 0))) → map variable_of (map held_of xs) ≡ xs
variables_again n ks [] A = refl
variables_again n ks (x ∷ xs) A = rw (variable_again n ks x (A 0 (omega arith)), variables_again n ks xs (λ v h. A (suc v) (omega arith)))

addresses_again : (as' cs : List ℕ) → length as' ≡ length cs → addresses (entries_of as' cs) ≡ as'
addresses_again [] cs e = refl
addresses_again (a ∷ as') [] e = absurd (omega arith)
addresses_again (a ∷ as') (c ∷ cs) e = rw (addresses_again as' cs (omega arith))

counts_again : (as' cs : List ℕ) → length as' ≡ length cs → counts (entries_of as' cs) ≡ cs
counts_again [] [] e = refl
counts_again [] (c ∷ cs) e = absurd (omega arith)
counts_again (a ∷ as') [] e = absurd (omega arith)
counts_again (a ∷ as') (c ∷ cs) e = rw (counts_again as' cs (omega arith))

length-entries : (as' cs : List ℕ) → length as' ≡ length cs → length (entries_of as' cs) ≡ length as'
length-entries [] cs e = refl
length-entries (a ∷ as') [] e = absurd (omega arith)
length-entries (a ∷ as') (c ∷ cs) e = rw (length-entries as' cs (omega arith))

-- a row that is zero from k on is its first k words, padded
pub pad_again : (n k : ℕ) (row : List ℕ) → length row ≡ n → k ≤ n → ZeroFrom row k → pad n (take k row) ≡ row
pad_again n k row e h Z =
    let l : length (take k row) ≡ k = length-take-le k row (omega arith) in
    rw l (ap (λ (t : List ℕ). take k row ++ t) rest ∙ take-append-drop k row)
  where
    rest : replicate (n - k) 0 ≡ drop k row
    rest =
        ext_get_or 0 (replicate (n - k) 0) (drop k row) (omega (arith, length-replicate {A = ℕ} (n - k) 0, length-drop k row))
        (λ i j. let m = length-replicate {A = ℕ} (n - k) 0 in rw (get_or-drop k row i 0, get_or-replicate {A = ℕ} (n - k) i 0 0 (omega arith)) (sym (Z (k + i) (omega arith) (omega arith))))

module _ {h : Head} {r : Lent} (Z : Sized h r) where
  zct-long : length (take h.zct r.tables.zct) ≡ h.zct
  zct-long = let l = Z.lengths in let m = Z.within in length-take-le h.zct r.tables.zct (omega arith)

  mrt-long : length (take h.mrt r.tables.mrt) ≡ h.mrt
  mrt-long = let l = Z.lengths in let m = Z.within in length-take-le h.mrt r.tables.mrt (omega arith)

  counts-long : length (take h.mrt r.tables.counts) ≡ h.mrt
  counts-long = let l = Z.lengths in let m = Z.within in length-take-le h.mrt r.tables.counts (omega arith)

  pub head-of-heap : head_of h.sizes (heap_of h r) ≡ h
  unfolding head_of heap_of
  head-of-heap = rw (zct-long, length-entries (take h.mrt r.tables.mrt) (take h.mrt r.tables.counts) (mrt-long ∙ sym counts-long), mrt-long)

  module _ (S : Sound h r) where
    fits : Fits r.kinds r.values
    fits i l =
        let g = half i in
        let k = g.is in
        let z = Z.lengths in
        rw k (word_fits h.sizes.n r.kinds g.cell g.part _ _ (S.cells.words g.cell (omega arith) g.part g.small))

    pub rows-of-heap : rows_of h.sizes (heap_of h r) ≡ cleared h r
    unfolding rows_of heap_of
    rows-of-heap =
        let l = Z.lengths in
        let m = Z.within in
        let e = mrt-long ∙ sym counts-long in
        rw (
          kinds_again r.kinds r.values (omega arith) fits,
          values_again r.kinds r.values (omega arith) fits,
          variables_again h.sizes.n r.kinds r.variables S.cells.variables,
          pad_again h.sizes.n h.zct r.tables.zct l.for_zct m.zct_most S.tables.zct_row.zeros,
          addresses_again (take h.mrt r.tables.mrt) (take h.mrt r.tables.counts) e,
          counts_again (take h.mrt r.tables.mrt) (take h.mrt r.tables.counts) e,
          pad_again h.sizes.n h.mrt r.tables.mrt l.for_mrt m.mrt_most S.tables.mrt_row.zeros,
          pad_again h.sizes.n h.mrt r.tables.counts l.for_counts m.mrt_most S.tables.counts_row.zeros,
          pad_again (2 * h.sizes.l) 0 r.log l.for_log zero-le S.log_zero,
        )

-- ---- lengths

pub beside : (n y : ℕ) (z : List ℕ) → y < n → Above y z → Ascending z → Below n z → suc y + length z ≤ n
beside n y [] l s t b = omega arith
beside n y (w ∷ z) l s t b = let h = s.0 in omega (arith, beside n w z b.0 t.0 t.1 b.1)

-- an ascending list below n has at most n entries
pub fits_below : (n : ℕ) (z : List ℕ) → Ascending z → Below n z → length z ≤ n
fits_below n [] s b = zero-le
fits_below n (y ∷ z) s b = omega (arith, beside n y z b.0 s.0 s.1 b.1)

pub length-pad : (n : ℕ) (z : List ℕ) → length z ≤ n → length (pad n z) ≡ n
length-pad n z h = omega (arith, length-append z (replicate (n - length z) 0), length-replicate {A = ℕ} (n - length z) 0)

pub length-words : (xs : List Transaction) → length (words xs) ≡ 2 * length xs
length-words [] = refl
length-words (allocates a ∷ xs) = omega (arith, length-words xs)
length-words (creates a ∷ xs) = omega (arith, length-words xs)
length-words (destroys a ∷ xs) = omega (arith, length-words xs)

-- a place that holds a free cell's mark is there
pub mark-there : (fs : List Field) (i b : ℕ) → get_or fs i Nothing ≡ Free b → i < length fs
mark-there [] i b e = absurd (let z : ◌≡◌ {A = ℕ} 0 1 = cc in omega arith)
mark-there (x ∷ fs) zero b e = omega arith
mark-there (x ∷ fs) (suc i) b e = omega (arith, mark-there fs i b e)

-- a free list starts at a cell, or at n
pub chain-within : (fs : List Field) (n : ℕ) → length fs ≡ 2 * n → (a : ℕ) (l : List ℕ) → Chain fs n a l → a ≤ n
unfolding field place
chain-within fs n e a [] c = omega arith
chain-within fs n e a (x ∷ l) c = omega (arith, mark-there fs (2 * a + 0) c.1.0 c.1.1)

module _ {s : Sizes} {h : Heap} (I : Inv s h) where
  pub first-within : h.first ≤ s.n
  first-within = chain-within h.shape.fields s.n I.good.len h.first I.frees.list I.frees.chain

  pub zct_fits : length h.tables.zct ≤ s.n
  zct_fits = fits_below s.n h.tables.zct I.kept.zct_up I.kept.zct_below

  pub addresses-fit : length (addresses h.tables.mrt) ≤ s.n
  addresses-fit = fits_below s.n (addresses h.tables.mrt) I.kept.mrt_up I.kept.mrt_below

  pub mrt_fits : length h.tables.mrt ≤ s.n
  mrt_fits = rw length-map at addresses-fit

  pub counts-fit : length (counts h.tables.mrt) ≤ s.n
  counts-fit = rw length-map mrt_fits

  pub log-fits : length (words h.log) ≤ 2 * s.l
  log-fits = let k = I.log_room in omega (arith, length-words h.log)

pub sized_of : {s : Sizes} {h : Heap} → Limits s → Inv s h → Sized (head_of s h) (rows_of s h)
unfolding head_of rows_of
sized_of {s} {h} F I =
    record {
      within = record { limits = F; free_most = first-within I; zct_most = zct_fits I; mrt_most = mrt_fits I };
      lengths =
          record {
            for_kinds = length-map h.shape.fields kind_of ∙ I.good.len;
            for_values = length-map h.shape.fields value_of ∙ I.good.len;
            for_variables = length-map h.shape.variables variable_of ∙ I.variables_long;
            for_zct = length-pad s.n h.tables.zct (zct_fits I);
            for_mrt = length-pad s.n (addresses h.tables.mrt) (addresses-fit I);
            for_counts = length-pad s.n (counts h.tables.mrt) (counts-fit I);
            for_log = length-pad (2 * s.l) (words h.log) (log-fits I);
            for_work = length-replicate s.n 0;
          };
    }

pub sized-of_ended : {s : Sizes} {h : Heap} → Limits s → Ended s h → Sized (head_of s h) (rows_of s h)
sized-of_ended F E = sized_of F E.inv
