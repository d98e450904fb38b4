-- The lengths that the checks of cells lean on, and what each of the two rows is to show of a field. Assumes nothing.
use Rattle.std.specs.Prelude.{ℕ, ◌*◌, ◌≤◌, ◌≡◌, List, length, ℤ}
use Rattle.rules.specs.Sound.{kind, WordAt}
use Rattle.checks.specs.declared.Row.{Row}
use Rattle.checks.specs.declared.Row.TheVariants.{Kinds, Values}

-- the rows of n cells: two kinds and two values each
pub record CellRows (n : ℕ) (ks : List ℕ) (vs : List ℤ) : Type 0 where
  pub some : 1 ≤ n
  pub most : n ≤ 1024
  pub kinds : length ks ≡ 2 * n
  pub values : length vs ≡ 2 * n

-- field f of cell a: the row of kinds has a kind from 0 to 3; the row of values has a value that goes with it
abbrev pub WordIn : ℕ → List ℕ → List ℤ → Row → ℕ → ℕ → Type 0
WordIn n ks vs Kinds a f = kind ks a f ≤ 3
WordIn n ks vs Values a f = WordAt n ks vs a f
