-- A word that is as it is to be has a kind, so both rows show it. Assumes nothing.
use Prim.Native.Nat.{ℕ, zero, suc, ◌≤◌}
use mathlib.Core.List.{List}
use native.Mathlib.Omega.{arith}
use lib.IntN.{ℤ}
use Rattle.rules.specs.Sound.{kind, word, Word, WordAt}
use Rattle.checks.specs.declared.Row.{Row}
use Rattle.checks.specs.declared.Row.TheVariants.{Kinds, Values}
use Rattle.checks.specs.CellRows.{WordIn}

kind-most : (n a f k : ℕ) (ks : List ℕ) (x : ℤ) → Word n ks a f k x → k ≤ 3
unfolding Word
kind-most n a f zero ks x w = omega arith
kind-most n a f (suc zero) ks x w = omega arith
kind-most n a f (suc (suc zero)) ks x w = omega arith
kind-most n a f (suc (suc (suc zero))) ks x w = omega arith
kind-most n a f (suc (suc (suc (suc k)))) ks x w = absurd w

pub in_row : (n : ℕ) (ks : List ℕ) (vs : List ℤ) (row : Row) (a f : ℕ) → WordAt n ks vs a f → WordIn n ks vs row a f
in_row n ks vs Kinds a f w = kind-most n a f (kind ks a f) ks (word vs a f) w
in_row n ks vs Values a f w = w
