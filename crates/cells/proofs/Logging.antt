-- Laws of the log row: an entry more, an entry read. Assumes nothing.
use mathlib.Core.Path.{◌≡◌, refl, ap, ◌∙◌}
use mathlib.Core.Bool.{Bool, true, false}
use mathlib.Core.List.{List, [], ◌∷◌, ◌++◌, append-nil}
use Prim.Native.Nat.{ℕ, zero, suc, ◌+◌, ◌-◌, ◌*◌, ◌≤◌, ◌<◌}
use native.Mathlib.Numerals.{add-one}
use native.Mathlib.Omega.{arith}
use lib.ListN.{length, drop, get_or, set, replicate, length-set, length-append, length-replicate}
use lib.Seq.{get_or-set_same, get_or-set_other}
use lib.Dec.{eqb}
use borrow.Author.Tests.{eqb-true, eqb-false}
use Rattle.rules.specs.Heap.{Transaction, allocates, creates, destroys}
use Rattle.rules.specs.Rows.{words}
use Rattle.rules.specs.Whole.{Logged}
use Rattle.rules.proofs.Roundtrip.{length-words}
use Rattle.cells.specs.declared.Note.{Note}
use Rattle.cells.specs.declared.Entry.{Entry}
use Rattle.cells.specs.declared.Entry.TheVariants.{Allocate, Create, Destroy}
use Rattle.cells.specs.Log.{transaction, note_of, logs_as, with_entry}
use Rattle.cells.proofs.Filling.{put_two}

pub words_append : (xs ys : List Transaction) → words (xs ++ ys) ≡ words xs ++ words ys
words_append [] ys = refl
words_append (allocates a ∷ xs) ys = ap (λ (l : List ℕ). 1 ∷ a ∷ l) (words_append xs ys)
words_append (creates a ∷ xs) ys = ap (λ (l : List ℕ). 2 ∷ a ∷ l) (words_append xs ys)
words_append (destroys a ∷ xs) ys = ap (λ (l : List ℕ). 3 ∷ a ∷ l) (words_append xs ys)

-- the two words of an entry
words_of : (e : Entry) → words (logs_as e ∷ []) ≡ (note_of e).kind ∷ (note_of e).address ∷ []
words_of (Allocate a) = refl
words_of (Create a) = refl
words_of (Destroy a) = refl

pub logged-same : {n : ℕ} {log : List ℕ} {len : ℕ} {xs : List Transaction} → Logged n log len xs → Logged n log len (xs ++ [])
logged-same {xs = xs} L = rw (append-nil xs) L

-- an empty log
pub logged_none : (n l : ℕ) {log : List ℕ} → log ≡ replicate l 0 → Logged n log 0 []
logged_none n l {log} e =
    record {
      count = refl;
      fits = omega arith;
      row =
          let g : length log ≡ l = ap length e ∙ length-replicate l 0 in
          let d : length log - 0 ≡ l = omega arith in
          e ∙ rw d;
      small = λ i h. omega arith;
    }

pub logged-more : {n : ℕ} {log log' : List ℕ} {len : ℕ} {xs : List Transaction} (e : Entry) → Logged n log len xs → 2 * len + 1 < length log
    → (note_of e).address < n → log' ≡ with_entry log len (note_of e) → Logged n log' (len + 1) (xs ++ (logs_as e ∷ []))
logged-more {n} {log} {log'} {len} {xs} x L h s e =
    let k = (note_of x).kind in
    let b = (note_of x).address in
    let c = L.count in
    let w = length-words xs in
    let p : length (words xs) ≡ 2 * len = omega arith in
    let g : length log' ≡ length log = ap length e ∙ simp length-set in
    let d : length log - length (words xs) ≡ suc (suc (length log - length (words xs ++ (k ∷ b ∷ [])))) = omega (arith, length-append (words xs) (k ∷ b ∷ [])) in
    record {
      count = omega (arith, length-append xs (logs_as x ∷ []));
      fits = omega arith;
      row =
          rw (g, words_append xs (logs_as x ∷ []), words_of x)
          (e ∙ ap (λ (l : List ℕ). set (set l (2 * len) k) (2 * len + 1) b) (L.row ∙ ap (λ (j : ℕ). words xs ++ replicate j 0) d)
          ∙ put_two (words xs) (replicate (length log - length (words xs ++ (k ∷ b ∷ []))) 0) 0 0 k b (2 * len) p);
      small = λ i l. at i (eqb i len) refl l;
    }
  where
    at : (i : ℕ) (t : Bool) → eqb i len ≡ t → i < len + 1 → get_or log' (2 * i + 1) 0 < n
    at i true q l =
        let z = eqb-true i len q in
        rw (e, z, get_or-set_same (set log (2 * len) (note_of x).kind) (2 * len + 1) (note_of x).address 0 (simp length-set h)) s
    at i false q l =
        let z = eqb-false i len q in
        let m : i < len = under l z in
        rw (e, get_or-set_other (set log (2 * len) (note_of x).kind) (2 * len + 1) (2 * i + 1) (note_of x).address 0 (λ r. omega arith), get_or-set_other log (2 * len) (2 * i + 1) (note_of x).kind 0 (λ r. omega arith))
        (L.small i m)
      where
        under : i < len + 1 → (i ≡ len → ⊥) → i < len
        under l z = omega arith

-- past the first entry of the log
later : (i : ℕ) (x : Transaction) (xs : List Transaction) (rest : List ℕ)
    → drop i xs ≡ transaction (get_or (words xs ++ rest) (2 * i) 0) (get_or (words xs ++ rest) (2 * i + 1) 0) ∷ drop (suc i) xs
    → drop i xs ≡ transaction (get_or (words (x ∷ xs) ++ rest) (2 * suc i) 0) (get_or (words (x ∷ xs) ++ rest) (2 * suc i + 1) 0) ∷ drop (suc i) xs
later i x xs rest e = go x
  where
    p : 2 * suc i ≡ suc (suc (2 * i))
    p = omega arith

    q : suc (suc (2 * i)) + 1 ≡ suc (suc (2 * i + 1))
    q = omega arith

    go : (x : Transaction) → drop i xs ≡ transaction (get_or (words (x ∷ xs) ++ rest) (2 * suc i) 0) (get_or (words (x ∷ xs) ++ rest) (2 * suc i + 1) 0) ∷ drop (suc i) xs
    go (allocates a) = rw (p, q) e
    go (creates a) = rw (p, q) e
    go (destroys a) = rw (p, q) e

-- the words at 2i and 2i+1 are the entry at i
entry_at : (i : ℕ) (xs : List Transaction) (rest : List ℕ) → i < length xs
    → drop i xs ≡ transaction (get_or (words xs ++ rest) (2 * i) 0) (get_or (words xs ++ rest) (2 * i + 1) 0) ∷ drop (suc i) xs
unfolding transaction
entry_at i [] rest h = absurd (omega arith)
entry_at zero (allocates a ∷ xs) rest h = refl
entry_at zero (creates a ∷ xs) rest h = refl
entry_at zero (destroys a ∷ xs) rest h = refl
entry_at (suc i) (x ∷ xs) rest h = later i x xs rest (entry_at i xs rest (omega arith))

pub logged-at : {log : List ℕ} {i k a : ℕ} → k ≡ get_or log (2 * i) 0 → a ≡ get_or log (2 * i + 1) 0
    → (n len : ℕ) (xs : List Transaction) → Logged n log len xs → i < len → drop i xs ≡ transaction k a ∷ drop (i + 1) xs
logged-at {log} {i} {k} {a} ek ea n len xs L h =
    let c = L.count in
    let r = L.row in
    let e = entry_at i xs (replicate (length log - length (words xs)) 0) (omega arith) in
    rw (ek, ea, add-one i) (rw (← r) at e)

-- its kind is 1 to 3
kind-known : (i : ℕ) (xs : List Transaction) (rest : List ℕ) → i < length xs → (1 ≤ get_or (words xs ++ rest) (2 * i) 0) × (get_or (words xs ++ rest) (2 * i) 0 ≤ 3)
kind-known i [] rest h = absurd (omega arith)
kind-known zero (allocates a ∷ xs) rest h = (omega arith, omega arith)
kind-known zero (creates a ∷ xs) rest h = (omega arith, omega arith)
kind-known zero (destroys a ∷ xs) rest h = (omega arith, omega arith)
kind-known (suc i) (x ∷ xs) rest h = past x (kind-known i xs rest (omega arith))
  where
    p : 2 * suc i ≡ suc (suc (2 * i))
    p = omega arith

    past : (x : Transaction) → (1 ≤ get_or (words xs ++ rest) (2 * i) 0) × (get_or (words xs ++ rest) (2 * i) 0 ≤ 3)
        → (1 ≤ get_or (words (x ∷ xs) ++ rest) (2 * suc i) 0) × (get_or (words (x ∷ xs) ++ rest) (2 * suc i) 0 ≤ 3)
    past (allocates a) k = rw p k
    past (creates a) k = rw p k
    past (destroys a) k = rw p k

pub logged-known : {log : List ℕ} {i : ℕ} (n len : ℕ) (xs : List Transaction) → Logged n log len xs → i < len → (1 ≤ get_or log (2 * i) 0) × (get_or log (2 * i) 0 ≤ 3)
logged-known {log} {i} n len xs L h =
    let c = L.count in
    let r = L.row in
    let e = kind-known i xs (replicate (length log - length (words xs)) 0) (omega arith) in
    rw (← r) at e

-- for callers: the entry whose words were read is the one that the log has there
pub logs-of : (n : Note) (e : Entry) → n ≡ note_of e → transaction n.kind n.address ≡ logs_as e
unfolding transaction
logs-of n (Allocate a) q = rw q
logs-of n (Create a) q = rw q
logs-of n (Destroy a) q = rw q
