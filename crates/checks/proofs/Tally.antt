-- Pointers counted, one word at a time. Assumes nothing.
use Prim.Native.Nat.{ℕ, zero, suc, ◌+◌, ◌<◌, ◌≤◌}
use mathlib.Core.Path.{◌≡◌, refl, sym}
use mathlib.Core.Bool.{Bool, true, false, cond}
use mathlib.Core.List.{List}
use native.Mathlib.Omega.{arith}
use native.Mathlib.Numerals.{add-one}
use lib.Dec.{eqb}
use lib.IntN.{ℤ, pos}
use lib.ListN.{get_or, set, replicate, length-set, length-replicate}
use lib.Seq.{get_or-set_same, get_or-set_other}
use borrow.Author.Tests.{eqb-true, eqb-false, ne_eqb}
use Rattle.rules.specs.Field.{address_of}
use Rattle.rules.specs.Sound.{points_to, pointers}
use Rattle.rules.proofs.Positions.{zeros-at}
use Rattle.checks.specs.Counts.{CountedTo}

module _ (n : ℕ) (ks : List ℕ) (vs : List ℤ) where
  pub pointers-most : (b i : ℕ) → pointers n ks vs b i ≤ i
  pointers-most b zero = omega arith
  pointers-most b (suc i) = let h = pointers-most b i in go (eqb (points_to n (get_or ks i 0) (get_or vs i (pos 0))) b) h
    where
      go : (q : Bool) → pointers n ks vs b i ≤ i → cond q 1 0 + pointers n ks vs b i ≤ suc i
      go true h = omega arith
      go false h = omega arith

  pub counted_none : (work : List ℕ) → work ≡ replicate n 0 → CountedTo n ks vs 0 work
  counted_none work e = record { long = rw e (length-replicate n 0); each = λ b h. rw e (zeros-at n b) }

  module _ (i : ℕ) (work : List ℕ) (c : CountedTo n ks vs i work) (t : ℕ) (s : t ≡ points_to n (get_or ks i 0) (get_or vs i (pos 0))) where
    pub counted-more : t < n → CountedTo n ks vs (i + 1) (set work t (get_or work t 0 + 1))
    counted-more h = record { long = simp length-set c.long; each = λ b k. rw (add-one i, ← s) (go b k (eqb t b) refl) }
      where
        go : (b : ℕ) → b < n → (q : Bool) → eqb t b ≡ q → get_or (set work t (get_or work t 0 + 1)) b 0 ≡ cond q 1 0 + pointers n ks vs b i
        go b k true e = rw (sym (eqb-true t b e), get_or-set_same work t (get_or work t 0 + 1) 0 (omega (arith, c.long))) (omega (arith, c.each t h))
        go b k false e = rw (get_or-set_other work t b (get_or work t 0 + 1) 0 (λ o. eqb-false t b e (sym o))) (omega (arith, c.each b k))

    pub counted_same : n ≤ t → CountedTo n ks vs (i + 1) work
    counted_same h = record { long = c.long; each = λ b k. rw (add-one i, ← s, ne_eqb t b (omega arith)) (omega (arith, c.each b k)) }

-- what a word that was read points to
pub points_else : (n k : ℕ) (v : ℤ) → (k ≡ 2 → ⊥) → n ≡ points_to n k v
points_else n k v d = rw (ne_eqb k 2 d)

pub points-cell : (n k : ℕ) (v : ℤ) → k ≡ 2 → (y : ℤ) → y ≡ v → (t : ℕ) → t ≡ address_of n y → t ≡ points_to n k v
points-cell n k v e y b t s = rw (e, ← b) s
