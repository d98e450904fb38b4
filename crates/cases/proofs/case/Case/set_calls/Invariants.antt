use Rattle.std.proofs.Common.{length}
use Rattle.cases.proofs.case.Case.set_calls.Given as goal

abbrev pub decreases-loop-left : goal.decreases-loop-left
decreases-loop-left l = length l.left.bytes.now
