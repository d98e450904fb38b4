-- One word more is gathered.
use Rattle.std.proofs.Common.{arith}
use Rattle.checks.proofs.Gathered.{gathered_more}
use Rattle.checks.proofs.zero_from.Goals as goal

pub loop-j-preserved : goal.loop-j-preserved
loop-j-preserved c = gathered_more _ _ _ _ (omega arith) (omega arith) c.loop-j.invariant
