use Rattle.std.proofs.Common.{◌-◌, ◌≤◌}
use Rattle.tally.proofs.run.Given as goal

abbrev pub invariant-loop-count : goal.invariant-loop-count
invariant-loop-count g l = (l.closed ≤ l.reader.number) × (l.reader.number ≤ 1000000)

abbrev pub decreases-loop-count : goal.decreases-loop-count
decreases-loop-count g l = 1000000 - l.reader.number
