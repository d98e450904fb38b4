-- Two heaps equal but for the figures have rows equal but for the figures; so have two batches' words and answers. Assumes nothing.
use Prim.Native.Nat.{ℕ, suc, ◌*◌}
use mathlib.Core.Path.{◌≡◌, refl, sym, ap, ◌∙◌}
use mathlib.Core.Logic.{inl, inr}
use mathlib.Core.Bool.{Bool, true, false, cond, ◌&&◌, false≢true}
use mathlib.Core.Option.{Option, none, some}
use mathlib.Core.List.{List, [], ◌∷◌, ◌++◌, map}
use native.Mathlib.Omega.{arith}
use lib.Dec.{eqb, leb}
use lib.IntN.{ℤ, pos, negsuc}
use lib.Signed.{mag}
use lib.ListN.{length, get_or, drop, length-map, get_or-map}
use borrow.Author.Tests.{lt-ltb, eqb-true}
use Rattle.rules.specs.declared.Field.{Field}
use Rattle.rules.specs.declared.Field.TheVariants.{Nothing, Figure, Cell, Free}
use Rattle.rules.specs.declared.Deed.TheVariants.{Copy, Clear, Link, Put, Blank, Follow, Read, Same}
use Rattle.rules.specs.declared.Call.{Call}
use Rattle.rules.specs.declared.Call.TheVariants.{New, Do, Settle}
use Rattle.rules.specs.declared.Sizes.{Sizes}
use Rattle.rules.specs.Field.{kind_of, value_of}
use Rattle.rules.specs.Heap.{Heap}
use Rattle.rules.specs.Call.{Answer, is_below, is_nought, is_signed32, given, number, call_by, call_of, and_then, calls_of, calls_in}
use Rattle.rules.specs.Rows.{rows_of, head_of}
use Rattle.rules.specs.Refusals.{answer_words, answered}
use Rattle.rules.specs.Run.{AlikeWord, AlikeCalls, AlikeRows, AlikeAnswers}
use Rattle.rules.proofs.Erase.{erase_f, erase_c, erase, is_read, SameCalls, SameAnswers}

-- ---- rows

kind-erase : (x : Field) → kind_of (erase_f x) ≡ kind_of x
kind-erase Nothing = refl
kind-erase (Figure x) = refl
kind-erase (Cell a) = refl
kind-erase (Free a) = refl

kinds-erase : (l : List Field) → map kind_of (map erase_f l) ≡ map kind_of l
kinds-erase [] = refl
kinds-erase (x ∷ l) = rw (kind-erase x, kinds-erase l)

value-erase : (x : Field) → (kind_of x ≡ 1 → ⊥) → value_of (erase_f x) ≡ value_of x
value-erase Nothing d = refl
value-erase (Figure x) d = absurd (d refl)
value-erase (Cell a) d = refl
value-erase (Free a) d = refl

value_alike : (x y : Field) → erase_f x ≡ erase_f y → (kind_of x ≡ 1 → ⊥) → value_of x ≡ value_of y
value_alike x y e d =
    let k : kind_of y ≡ kind_of x = sym (kind-erase y) ∙ ap kind_of (sym e) ∙ kind-erase x in
    sym (value-erase x d) ∙ ap value_of e ∙ value-erase y (λ z. d (sym k ∙ z))

values_alike : (l k : List Field) → map erase_f l ≡ map erase_f k → (i : ℕ) → (get_or (map kind_of l) i 0 ≡ 1 → ⊥) → get_or (map value_of l) i (pos 0) ≡ get_or (map value_of k) i (pos 0)
values_alike l k e i d =
    let x = get_or l i Nothing in
    let y = get_or k i Nothing in
    let m : erase_f x ≡ erase_f y = sym (get_or-map erase_f l i Nothing) ∙ ap (λ t. get_or t i Nothing) e ∙ get_or-map erase_f k i Nothing in
    get_or-map value_of l i Nothing ∙ value_alike x y m (λ z. d (get_or-map kind_of l i Nothing ∙ z)) ∙ sym (get_or-map value_of k i Nothing)

lengths_alike : (l k : List Field) → map erase_f l ≡ map erase_f k → length (map value_of l) ≡ length (map value_of k)
lengths_alike l k e = length-map l value_of ∙ sym (length-map l erase_f) ∙ ap length e ∙ length-map k erase_f ∙ sym (length-map k value_of)

pub rows_alike : (s : Sizes) (h k : Heap) → erase h ≡ erase k → AlikeRows (rows_of s h) (rows_of s k)
unfolding rows_of
rows_alike s h k e =
    let f : map erase_f h.shape.fields ≡ map erase_f k.shape.fields = ap (λ (t : Heap). t.shape.fields) e in
    record {
      kinds = sym (kinds-erase h.shape.fields) ∙ ap (map kind_of) f ∙ kinds-erase k.shape.fields;
      values_long = lengths_alike h.shape.fields k.shape.fields f;
      values = values_alike h.shape.fields k.shape.fields f;
      variables = ap (λ (t : Heap). (rows_of s t).variables) e;
      tables = ap (λ (t : Heap). (rows_of s t).tables) e;
      log = ap (λ (t : Heap). (rows_of s t).log) e;
      work = refl;
    }

pub head_alike : (s : Sizes) (h k : Heap) → erase h ≡ erase k → head_of s h ≡ head_of s k
unfolding head_of
head_alike s h k e = ap (head_of s) e

pub freed_alike : (h k : Heap) → erase h ≡ erase k → h.freed ≡ k.freed
freed_alike h k e = ap (λ (t : Heap). t.freed) e

-- ---- calls

pub same-calls : (cs : List Call) → SameCalls cs cs
same-calls [] = tt
same-calls (c ∷ cs) = (refl, same-calls cs)

pub same_length : (cs ds : List Call) → SameCalls cs ds → length cs ≡ length ds
same_length [] [] e = refl
same_length [] (d ∷ ds) e = absurd e
same_length (c ∷ cs) [] e = absurd e
same_length (c ∷ cs) (d ∷ ds) e = ap suc (same_length cs ds e.1)

-- both wrong, or equal but for the figures put
abbrev SameCall : Option Call → Option Call → Type 0
SameCall none none = Unit {0}
SameCall none (some d) = ⊥
SameCall (some c) none = ⊥
SameCall (some c) (some d) = erase_c c ≡ erase_c d

abbrev pub SameDecoded : Option (List Call) → Option (List Call) → Type 0
SameDecoded none none = Unit {0}
SameDecoded none (some ds) = ⊥
SameDecoded (some cs) none = ⊥
SameDecoded (some cs) (some ds) = SameCalls cs ds

same-call : (o : Option Call) → SameCall o o
same-call none = tt
same-call (some c) = refl

same-decoded : (o : Option (List Call)) → SameDecoded o o
same-decoded none = tt
same-decoded (some cs) = same-calls cs

and-then : (o p : Option Call) (r q : Option (List Call)) → SameCall o p → SameDecoded r q → SameDecoded (and_then o r) (and_then p q)
and-then none none r q e f = tt
and-then none (some d) r q e f = absurd e
and-then (some c) none r q e f = absurd e
and-then (some c) (some d) none none e f = tt
and-then (some c) (some d) none (some ds) e f = absurd f
and-then (some c) (some d) (some cs) none e f = absurd f
and-then (some c) (some d) (some cs) (some ds) e f = (e, f)

put_alike : (q : Bool) (v f : ℕ) (x y : ℤ) → SameCall (given q (Do (Put v f x))) (given q (Do (Put v f y)))
put_alike true v f x y = refl
put_alike false v f x y = tt

call_alike : (m : ℕ) (op a b x y : ℤ) → AlikeWord op x y → SameCall (call_of m op a b x) (call_of m op a b y)
unfolding call_of
call_alike m op a b x y (inl e) = rw e (same-call (call_of m op a b y))
call_alike m op a b x y (inr w) =
    rw (w.0, lt-ltb (mag x) 2147483648 w.1, lt-ltb (mag y) 2147483648 w.2) (put_alike (is_below m a && is_below 2 b && true) (number a) (number b) x y)

calls_alike : (m : ℕ) (ws vs : List ℤ) → AlikeCalls ws vs → (length ws ≡ length vs) × SameDecoded (calls_of m ws) (calls_of m vs)
unfolding calls_of
calls_alike m [] vs e = rw (← e) (refl, tt)
calls_alike m (op ∷ []) vs e = rw (← e) (refl, tt)
calls_alike m (op ∷ a ∷ []) vs e = rw (← e) (refl, tt)
calls_alike m (op ∷ a ∷ b ∷ []) vs e = rw (← e) (refl, tt)
calls_alike m (op ∷ a ∷ b ∷ x ∷ ws) [] e = absurd e
calls_alike m (op ∷ a ∷ b ∷ x ∷ ws) (op' ∷ []) e = absurd e
calls_alike m (op ∷ a ∷ b ∷ x ∷ ws) (op' ∷ a' ∷ []) e = absurd e
calls_alike m (op ∷ a ∷ b ∷ x ∷ ws) (op' ∷ a' ∷ b' ∷ []) e = absurd e
calls_alike m (op ∷ a ∷ b ∷ x ∷ ws) (op' ∷ a' ∷ b' ∷ y ∷ vs) e =
    let r = calls_alike m ws vs e.4 in (
      ap (λ n. suc (suc (suc (suc n)))) r.0,
      rw (← e.0, ← e.1, ← e.2) (and-then (call_of m op a b x) (call_of m op a b y) (calls_of m ws) (calls_of m vs) (call_alike m op a b x y e.3) r.1),
    )

pub decoded_alike : (m : ℕ) (ws vs : List ℤ) → AlikeCalls ws vs → SameDecoded (calls_in m ws) (calls_in m vs)
unfolding calls_in
decoded_alike m ws vs e = let r = calls_alike m ws vs e in rw r.0 (go (leb (length vs) 1024) r.1)
  where
    go : (q : Bool) → SameDecoded (calls_of m ws) (calls_of m vs) → SameDecoded (cond q (calls_of m ws) none) (cond q (calls_of m vs) none)
    go true r = r
    go false r = tt

-- ---- answers

-- where o is a read, P
abbrev Reads : Type 0 → Option Call → Type 0
Reads P o = (c : Call) → o ≡ some c → is_read c ≡ true → P

none_reads : {P : Type 0} → Reads P none
none_reads c e r = let z : ◌≡◌ {A = ℕ} 0 1 = cc in absurd (omega arith)

given_reads : {P : Type 0} (q : Bool) (c : Call) → is_read c ≡ false → Reads P (given q c)
given_reads true c n d e r = let x : c ≡ d = cc in let z : false ≡ true = sym n ∙ ap is_read x ∙ r in absurd (false≢true z)
given_reads false c n d e r = none_reads d e r

else_reads : {P : Type 0} {o p : Option Call} (q : Bool) → Reads P o → Reads P p → Reads P (cond q o p)
else_reads true f g = f
else_reads false f g = g

here_reads : {P : Type 0} (o : Option Call) {p : Option Call} (q : Bool) → (q ≡ true → P) → Reads P p → Reads P (cond q o p)
here_reads o true f g c e r = f refl
here_reads o false f g c e r = g c e r

-- only operation 8 is a read
by_reads : (m k : ℕ) (a b x : ℤ) → Reads (k ≡ 8) (call_by m k a b x)
by_reads m k a b x =
    else_reads (eqb k 1) (given_reads (is_below m a && is_nought b && is_nought x) (New (number a)) refl)
    (else_reads (eqb k 2) (given_reads (is_below m a && is_below m b && is_nought x) (Do (Copy (number a) (number b))) refl)
    (else_reads (eqb k 3) (given_reads (is_below m a && is_nought b && is_nought x) (Do (Clear (number a))) refl)
    (else_reads (eqb k 4) (given_reads (is_below m a && is_below 2 b && is_below m x) (Do (Link (number a) (number b) (number x))) refl)
    (else_reads (eqb k 5) (given_reads (is_below m a && is_below 2 b && is_signed32 x) (Do (Put (number a) (number b) x)) refl)
    (else_reads (eqb k 6) (given_reads (is_below m a && is_below 2 b && is_nought x) (Do (Blank (number a) (number b))) refl)
    (else_reads (eqb k 7) (given_reads (is_below m a && is_below 2 b && is_below m x) (Do (Follow (number a) (number b) (number x))) refl)
    (here_reads (given (is_below m a && is_below 2 b && is_nought x) (Do (Read (number a) (number b)))) (eqb k 8) (eqb-true k 8)
    (else_reads (eqb k 9) (given_reads (is_below m a && is_below m b && is_nought x) (Do (Same (number a) (number b))) refl)
    (else_reads (eqb k 10) (given_reads (is_nought a && is_nought b && is_nought x) Settle refl) none_reads)))))))))

read_op : (m : ℕ) (op a b x : ℤ) → Reads (op ≡ pos 8) (call_of m op a b x)
unfolding call_of
read_op m (pos k) a b x c e r = ap pos (by_reads m k a b x c e r)
read_op m (negsuc k) a b x c e r = none_reads c e r

-- the first call, and those after it
pub no-first : (o : Option Call) (r : Option (List Call)) → and_then o r ≡ some [] → ⊥
no-first none r e = let z : ◌≡◌ {A = ℕ} 0 1 = cc in omega arith
no-first (some c) none e = let z : ◌≡◌ {A = ℕ} 0 1 = cc in omega arith
no-first (some c) (some cs) e = let z : ◌≡◌ {A = ℕ} 0 1 = cc in omega arith

pub first-call : (o : Option Call) (r : Option (List Call)) (c : Call) (cs : List Call) → and_then o r ≡ some (c ∷ cs) → (o ≡ some c) × (r ≡ some cs)
first-call none r c cs e = let z : ◌≡◌ {A = ℕ} 0 1 = cc in absurd (omega arith)
first-call (some d) none c cs e = let z : ◌≡◌ {A = ℕ} 0 1 = cc in absurd (omega arith)
first-call (some d) (some ds) c cs e = ((cc), (cc))

answers_alike : (m : ℕ) (ws rest : List ℤ) (cs : List Call) (as' bs : List Answer) → calls_of m ws ≡ some cs → SameAnswers cs as' bs → AlikeAnswers ws (answer_words as' ++ rest) (answer_words bs ++ rest)
unfolding calls_of
answers_alike m [] rest [] [] [] e s = refl
answers_alike m [] rest [] [] (b ∷ bs) e s = absurd s
answers_alike m [] rest [] (a ∷ as') bs e s = absurd s
answers_alike m [] rest (c ∷ cs) as' bs e s = let z : ◌≡◌ {A = ℕ} 0 1 = cc in absurd (omega arith)
answers_alike m (op ∷ []) rest cs as' bs e s = let z : ◌≡◌ {A = ℕ} 0 1 = cc in absurd (omega arith)
answers_alike m (op ∷ a ∷ []) rest cs as' bs e s = let z : ◌≡◌ {A = ℕ} 0 1 = cc in absurd (omega arith)
answers_alike m (op ∷ a ∷ b ∷ []) rest cs as' bs e s = let z : ◌≡◌ {A = ℕ} 0 1 = cc in absurd (omega arith)
answers_alike m (op ∷ a ∷ b ∷ x ∷ ws) rest [] as' bs e s = absurd (no-first (call_of m op a b x) (calls_of m ws) e)
answers_alike m (op ∷ a ∷ b ∷ x ∷ ws) rest (c ∷ cs) [] bs e s = absurd s
answers_alike m (op ∷ a ∷ b ∷ x ∷ ws) rest (c ∷ cs) (p ∷ as') [] e s = absurd s
answers_alike m (op ∷ a ∷ b ∷ x ∷ ws) rest (c ∷ cs) (p ∷ as') (q ∷ bs) e s =
    let f = first-call (call_of m op a b x) (calls_of m ws) c cs e in
    (ap pos s.0, λ n. s.1 (λ d. n (read_op m op a b x c f.0 d.0, ap pos d.1)), answers_alike m ws rest cs as' bs f.1 s.2)

answers_length : (cs : List Call) (as' bs : List Answer) → SameAnswers cs as' bs → length as' ≡ length bs
answers_length [] [] [] s = refl
answers_length [] [] (b ∷ bs) s = absurd s
answers_length [] (a ∷ as') bs s = absurd s
answers_length (c ∷ cs) [] bs s = absurd s
answers_length (c ∷ cs) (a ∷ as') [] s = absurd s
answers_length (c ∷ cs) (a ∷ as') (b ∷ bs) s = ap suc (answers_length cs as' bs s.2)

in_of : (m : ℕ) (ws : List ℤ) (cs : List Call) → calls_in m ws ≡ some cs → calls_of m ws ≡ some cs
unfolding calls_in
in_of m ws cs e = go (leb (length ws) 1024) e
  where
    go : (q : Bool) → cond q (calls_of m ws) none ≡ some cs → calls_of m ws ≡ some cs
    go true e = e
    go false e = let z : ◌≡◌ {A = ℕ} 0 1 = cc in absurd (omega arith)

pub answered_alike : (m : ℕ) (ws row : List ℤ) (cs : List Call) (as' bs : List Answer) → calls_in m ws ≡ some cs → SameAnswers cs as' bs → AlikeAnswers ws (answered as' row) (answered bs row)
unfolding answered
answered_alike m ws row cs as' bs e s = rw (answers_length cs as' bs s) (answers_alike m ws (drop (2 * length bs) row) cs as' bs (in_of m ws cs e) s)

pub alike_answers : (ws : List ℤ) (row : List ℤ) → AlikeAnswers ws row row
alike_answers [] row = refl
alike_answers (op ∷ []) row = refl
alike_answers (op ∷ a ∷ []) row = refl
alike_answers (op ∷ a ∷ b ∷ []) row = refl
alike_answers (op ∷ a ∷ b ∷ c ∷ ws) [] = refl
alike_answers (op ∷ a ∷ b ∷ c ∷ ws) (s ∷ []) = refl
alike_answers (op ∷ a ∷ b ∷ c ∷ ws) (s ∷ x ∷ row) = (refl, λ r. refl, alike_answers ws row)
