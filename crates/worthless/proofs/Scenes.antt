-- Small heaps and batches, in which the heaps that cheat are seen. Assumes nothing.
use Prim.Native.Nat.{ℕ, ◌*◌}
use mathlib.Core.Path.{◌≡◌}
use mathlib.Core.List.{List, [], ◌∷◌}
use native.Mathlib.Omega.{arith}
use lib.IntN.{pos, negsuc}
use lib.ListN.{length, replicate}
use Rattle.rules.specs.declared.Head.{Head}
use Rattle.rules.specs.declared.Sizes.{Sizes}
use Rattle.rules.specs.declared.Call.{Call}
use Rattle.rules.specs.Head.{fresh_head, sized}
use Rattle.rules.specs.Call.{words_of}
use Rattle.rules.specs.Step.{fresh}
use Rattle.rules.specs.Rows.{Lent, lent, rows_of}
use Rattle.rules.specs.Run.{Batch}

-- a batch of these calls, with an answers row just as long, of -7s
abbrev pub of : List Call → Batch
of cs = record { calls = words_of cs; answers = replicate (2 * length cs) (negsuc 6) }

-- n cells, m variables, 2 log entries, cap 3: the rows of a fresh heap
abbrev pub sizes : ℕ → ℕ → Sizes
sizes n m = sized n m 2 3

abbrev pub fresh_rows : ℕ → ℕ → Lent
fresh_rows n m = rows_of (sizes n m) (fresh (sizes n m))

-- one cell and one variable: fresh, and with its cell held
abbrev pub h₀ : Head
h₀ = fresh_head (sizes 1 1)

abbrev pub r₀ : Lent
r₀ = lent (3 ∷ 0 ∷ []) (pos 1 ∷ pos 0 ∷ []) (negsuc 0 ∷ []) (0 ∷ []) (0 ∷ []) (0 ∷ []) (0 ∷ 0 ∷ 0 ∷ 0 ∷ []) (0 ∷ [])

abbrev pub h₁ : Head
h₁ = record { sizes = sizes 1 1; free = 1; zct = 1; mrt = 0 }

abbrev pub r₁ : Lent
r₁ = lent (0 ∷ 0 ∷ []) (pos 0 ∷ pos 0 ∷ []) (pos 0 ∷ []) (0 ∷ []) (0 ∷ []) (0 ∷ []) (0 ∷ 0 ∷ 0 ∷ 0 ∷ []) (0 ∷ [])

-- fresh, with a work row that is not zero
abbrev pub scratched : Lent
scratched = lent (3 ∷ 0 ∷ []) (pos 1 ∷ pos 0 ∷ []) (negsuc 0 ∷ []) (0 ∷ []) (0 ∷ []) (0 ∷ []) (0 ∷ 0 ∷ 0 ∷ 0 ∷ []) (1 ∷ [])

-- with no work row
abbrev pub unsized : Lent
unsized = lent (3 ∷ 0 ∷ []) (pos 1 ∷ pos 0 ∷ []) (negsuc 0 ∷ []) (0 ∷ []) (0 ∷ []) (0 ∷ []) (0 ∷ 0 ∷ 0 ∷ 0 ∷ []) []

-- with a variable that names the free cell
abbrev pub unsound : Lent
unsound = lent (3 ∷ 0 ∷ []) (pos 1 ∷ pos 0 ∷ []) (pos 0 ∷ []) (0 ∷ []) (0 ∷ []) (0 ∷ []) (0 ∷ 0 ∷ 0 ∷ 0 ∷ []) (1 ∷ [])

-- one cell that two variables hold
abbrev pub h₂ : Head
h₂ = record { sizes = sizes 1 2; free = 1; zct = 1; mrt = 0 }

abbrev pub r₂ : Lent
r₂ = lent (0 ∷ 0 ∷ []) (pos 0 ∷ pos 0 ∷ []) (pos 0 ∷ pos 0 ∷ []) (0 ∷ []) (0 ∷ []) (0 ∷ []) (0 ∷ 0 ∷ 0 ∷ 0 ∷ []) (0 ∷ [])

-- two cells: both fields of cell 0 point to cell 1, whose count is at the cap
abbrev pub h₃ : Head
h₃ = record { sizes = sizes 2 2; free = 2; zct = 1; mrt = 1 }

abbrev pub r₃ : Lent
r₃ = lent (2 ∷ 2 ∷ 0 ∷ 0 ∷ []) (pos 1 ∷ pos 1 ∷ pos 0 ∷ pos 0 ∷ []) (pos 0 ∷ pos 1 ∷ []) (0 ∷ 0 ∷ []) (1 ∷ 0 ∷ []) (3 ∷ 0 ∷ []) (0 ∷ 0 ∷ 0 ∷ 0 ∷ []) (0 ∷ 0 ∷ [])

-- ---- numbers that are not the same

pub pos-same : (j k : ℕ) → pos j ≡ pos k → j ≡ k
pos-same j k e = cc

pub not_neg : (j k : ℕ) → pos j ≡ negsuc k → ⊥
not_neg j k e = let z : ◌≡◌ {A = ℕ} 0 1 = cc in omega arith
