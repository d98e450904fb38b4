-- Each entry so far is marked.
use Rattle.std.proofs.Common.{◌≡◌, ℕ, ◌<◌, get_or}
use Rattle.checks.proofs.all_held.Given as goal

abbrev pub invariant-loop-b : goal.invariant-loop-b
invariant-loop-b l = (k : ℕ) → k < l.b-index → get_or l.work (get_or l.zct k 0) 0 ≡ 0 → ⊥
