-- What the walk has met is marked; fewer are without a mark at each turn.
use Rattle.checks.specs.Walk.{Met, zeros}
use Rattle.checks.proofs.Cells.walk.Given as goal

abbrev pub invariant-loop-at : goal.invariant-loop-at
invariant-loop-at l = Met l.self.kinds.n l.self.kinds.row.now l.self.values.now l.first l.at l.work

abbrev pub decreases-loop-at : goal.decreases-loop-at
decreases-loop-at l = zeros l.work
