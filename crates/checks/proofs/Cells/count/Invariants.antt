-- The first i words are counted.
use Rattle.checks.specs.Counts.{CountedTo}
use Rattle.checks.proofs.Cells.count.Given as goal

abbrev pub invariant-loop-i : goal.invariant-loop-i
invariant-loop-i l = CountedTo l.self.kinds.n l.self.kinds.row.now l.self.values.now l.i l.work
