-- The words that were passed are as they are to be.
use Rattle.std.proofs.Common.{◌≡◌, true, ℕ, ◌<◌, get_or}
use Rattle.checks.specs.declared.Row.TheVariants.{Kinds}
use Rattle.checks.specs.CellRows.{WordIn}
use Rattle.checks.proofs.Cells.words.Given as goal

abbrev pub invariant-rows : goal.invariant-rows
invariant-rows l =
    let c = l.self in
    record {
      flag : l.sound ≡ true;
      passed : (r : ℕ) → r < l.row-index → (b : ℕ) → b < c.kinds.n → (g : ℕ) → g < 2 → WordIn c.kinds.n c.kinds.row.now c.values.now (get_or l.row-items r Kinds) b g;
    }

abbrev pub invariant-loop-a : goal.invariant-loop-a
invariant-loop-a l =
    let c = l.self in
    record { flag : l.sound ≡ true; passed : (b : ℕ) → b < l.a → (g : ℕ) → g < 2 → WordIn c.kinds.n c.kinds.row.now c.values.now l.row b g }

abbrev pub invariant-loop-f : goal.invariant-loop-f
invariant-loop-f l =
    let c = l.self in
    record { flag : l.sound ≡ true; passed : (g : ℕ) → g < l.f → WordIn c.kinds.n c.kinds.row.now c.values.now l.row l.a g }
