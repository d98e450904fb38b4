-- The work row's marks of what is held. Assumes nothing.
use Rattle.std.specs.Prelude.{ℕ, ◌<◌, ◌≡◌, cond, List, length, get_or}
use Rattle.std.proofs.Math.Option.{Option}
use Rattle.rules.specs.Settle.{holds}

-- a work row of n: 1 at each address that one of the holds names, else 0
pub record Marks (n : ℕ) (work : List ℕ) (hs : List (Option ℕ)) : Type 0 where
  pub long : length work ≡ n
  pub marks : (a : ℕ) → a < n → get_or work a 0 ≡ cond (holds a hs) 1 0
