-- Words of a row gathered by `|`: all are zero exactly when what was gathered is. Assumes nothing.
use Prim.Native.Nat.{ℕ, ◌+◌, ◌<◌, ◌≤◌}
use mathlib.Core.Path.{◌≡◌, refl, sym, ◌∙◌}
use mathlib.Core.List.{List}
use native.Mathlib.Omega.{arith}
use borrow.Author.Count.{below_more}
use lib.Bits.{bit_or, or_add_and, or_zero_l, and_le_r}
use lib.ListN.{length, get_or}
use Rattle.rules.specs.Sound.{ZeroFrom}

or_left : (a b : ℕ) → bit_or a b ≡ 0 → a ≡ 0
or_left a b e = omega (arith, or_add_and a b, and_le_r a b)

or_right : (a b : ℕ) → bit_or a b ≡ 0 → b ≡ 0
or_right a b e = let z = or_left a b e in sym (or_zero_l b) ∙ rw z at e

or_both : (a b : ℕ) → a ≡ 0 → b ≡ 0 → bit_or a b ≡ 0
or_both a b d e = rw (d, e)

-- what was gathered from a place on, up to j
pub record GatheredUp (row : List ℕ) (from j seen : ℕ) : Type 0 where
  pub zeros : seen ≡ 0 → (k : ℕ) → k < j → from ≤ k → get_or row k 0 ≡ 0
  pub nothing : ZeroFrom row from → seen ≡ 0

pub gathered_none : (row : List ℕ) (from : ℕ) → GatheredUp row from from 0
gathered_none row from = record { zeros = λ e k h f. absurd (omega arith); nothing = λ z. refl }

pub gathered_more : (row : List ℕ) (from j seen : ℕ) → from ≤ j → j < length row → GatheredUp row from j seen → GatheredUp row from (j + 1) (bit_or seen (get_or row j 0))
gathered_more row from j seen f h g =
    record {
      zeros = λ e. below_more (λ k. from ≤ k → get_or row k 0 ≡ 0) j (g.zeros (or_left seen (get_or row j 0) e)) (λ f. or_right seen (get_or row j 0) e);
      nothing = λ z. or_both seen (get_or row j 0) (g.nothing z) (z j f h);
    }
