-- What freeing a cell, and taking the first free cell, leaves. Assumes nothing.
use Rattle.std.specs.Prelude.{ℕ, ◌≤◌, ◌≡◌, List, ℤ}
use Rattle.rules.specs.declared.Field.{Field}
use Rattle.rules.specs.declared.Field.TheVariants.{Nothing, Free}
use Rattle.rules.specs.Heap.{field, store}
use Rattle.rules.specs.Step.{after}
use Rattle.rules.specs.Whole.{Cells}

-- the rows are fs with nothing in field 0 of a, and r is the free address after a
pub record CellTaken (n : ℕ) (ks : List ℕ) (xs : List ℤ) (a r : ℕ) (fs : List Field) : Type 0 where
  pub cells : Cells n ks xs (store fs a 0 Nothing)
  pub next : r ≡ after (field fs a 0)
  pub within : r ≤ n

-- the rows of fields fs are fs with a free, and next its next free address
abbrev pub FreedTo : ℕ → ℕ → List ℕ → List ℤ → List ℕ → List ℤ → Type 0
FreedTo a next ks xs ks' xs' = (n : ℕ) (fs : List Field) → Cells n ks xs fs → next ≤ n → Cells n ks' xs' (store (store fs a 0 (Free next)) a 1 Nothing)
