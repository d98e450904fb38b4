-- Laws of the work row's marks, and of what a variable holds. Assumes nothing.
use mathlib.Core.Path.{◌≡◌, refl, ap, ◌∙◌}
use mathlib.Core.Bool.{Bool, true, false, cond, ◌||◌}
use mathlib.Core.Option.{Option, none, some}
use mathlib.Core.List.{List, [], ◌∷◌, ◌++◌, map, map-append}
use Prim.Native.Nat.{ℕ, zero, suc, ◌+◌, ◌≤◌, ◌<◌}
use native.Mathlib.Numerals.{add-one}
use native.Mathlib.Omega.{arith}
use lib.ListN.{length, take, get_or, set, replicate, length-set, get_or-replicate}
use lib.Seq.{take-suc, take_all, get_or-set_same, get_or-set_other}
use lib.Dec.{eqb, ltb}
use lib.IntN.{ℤ, pos}
use borrow.Author.Tests.{eqb-true, eqb-false, lt-ltb, le-ltb}
use Rattle.rules.specs.Field.{address_of, variable_of, held_of}
use Rattle.rules.specs.Settle.{holds}
use Rattle.rules.proofs.Roundtrip.{variables_back}
use Rattle.cells.specs.Marks.{Marks}

-- is o a?
abbrev names : ℕ → Option ℕ → Bool
names a none = false
names a (some b) = eqb a b

swap : (b c d : Bool) → b || (c || d) ≡ c || (b || d)
swap true true d = refl
swap true false d = refl
swap false true d = refl
swap false false d = refl

holds_more : (a : ℕ) (hs : List (Option ℕ)) (o : Option ℕ) → holds a (hs ++ (o ∷ [])) ≡ names a o || holds a hs
holds_more a [] none = refl
holds_more a [] (some b) = refl
holds_more a (none ∷ hs) o = holds_more a hs o
holds_more a (some b ∷ hs) o = ap (λ (t : Bool). eqb a b || t) (holds_more a hs o) ∙ swap (eqb a b) (names a o) (holds a hs)

-- the row with the mark of what is held
abbrev pub marked : List ℕ → Option ℕ → List ℕ
marked w none = w
marked w (some b) = set w b 1

mark-one : (n : ℕ) (w : List ℕ) (hs : List (Option ℕ)) (o : Option ℕ) → Marks n w hs → (a : ℕ) → a < n → get_or (marked w o) a 0 ≡ cond (names a o || holds a hs) 1 0
mark-one n w hs none M a h = M.marks a h
mark-one n w hs (some b) M a h = go (eqb a b) refl
  where
    go : (t : Bool) → eqb a b ≡ t → get_or (set w b 1) a 0 ≡ cond (eqb a b || holds a hs) 1 0
    go true e =
        let q = eqb-true a b e in
        let l = M.long in
        rw (e, ← q) (get_or-set_same w a 1 0 (omega arith))
    go false e = rw e (get_or-set_other w b a 1 0 (eqb-false a b e) ∙ M.marks a h)

mark-long : (w : List ℕ) (o : Option ℕ) → length (marked w o) ≡ length w
mark-long w none = refl
mark-long w (some b) = simp length-set

pub marked-none : (o w : List ℕ) (xs : List ℤ) → length w ≡ length o → w ≡ replicate (length o) 0 → Marks (length w) w (map held_of (take 0 xs))
marked-none o w xs l e = record { long = refl; marks = λ a h. rw e (get_or-replicate (length o) a 0 0 (omega arith)) }

-- one more variable: the mark of what it holds
pub marked_next : {n v : ℕ} {w w' : List ℕ} (xs : List ℤ) (o : Option ℕ) → v < length xs → Marks n w (map held_of (take v xs))
    → o ≡ held_of (get_or xs v (pos 0)) → w' ≡ marked w o → Marks n w' (map held_of (take (v + 1) xs))
marked_next {n} {v} {w} xs o h M e q =
    let hs = map held_of (take v xs) in
    let m : map held_of (take (v + 1) xs) ≡ hs ++ (o ∷ []) = rw (add-one, take-suc xs v (pos 0) h, e) (map-append held_of (take v xs) (get_or xs v (pos 0) ∷ [])) in
    record {
      long = ap length q ∙ mark-long w o ∙ M.long;
      marks = λ b l. rw (q, m, holds_more b hs o) (mark-one n w hs o M b l);
    }

pub marked_all : (n v : ℕ) (w : List ℕ) (xs : List ℤ) → length xs ≤ v → Marks n w (map held_of (take v xs)) → Marks n w (map held_of xs)
marked_all n v w xs h M = rw (take_all v xs h) at M

-- ---- for callers: what a variable's word holds, and what is put into it

-- a row of variables that is the holds hs has the marks of hs
pub marks-of : {n : ℕ} {w : List ℕ} {xs : List ℤ} → Marks n w (map held_of xs) → (hs : List (Option ℕ)) → xs ≡ map variable_of hs → Marks n w hs
marks-of {xs = xs} M hs e =
    let q : map held_of xs ≡ hs = rw e (variables_back hs) in
    rw q at M

-- the address that is read is that of the hold
pub held-is : (n v : ℕ) (xs : List ℤ) (hs : List (Option ℕ)) → xs ≡ map variable_of hs → v < length xs → address_of n (get_or xs v (pos 0)) ≡ address_of n (variable_of (get_or hs v none))
held-is n v xs [] e h = absurd (omega (arith, ap length e))
held-is n zero xs (o ∷ hs) e h = rw e
held-is n (suc v) xs (o ∷ hs) e h = let k = rw e at h in rw e (held-is n v (map variable_of hs) hs refl (omega arith))

-- a, or nothing where a is n or more
abbrev pub held_as : ℕ → ℕ → Option ℕ
held_as n a = cond (ltb a n) (some a) none

-- what is read is put back
pub held_again : (n : ℕ) (o : Option ℕ) → ((a : ℕ) → o ≡ some a → a < n) → held_as n (address_of n (variable_of o)) ≡ o
held_again n none h = rw (le-ltb n n (omega arith))
held_again n (some a) h = rw (lt-ltb a n (h a refl))
