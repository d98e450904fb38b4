-- Every entry that was passed has a mark.
use Rattle.reclaim.specs.Reclaiming.{Marked}
use Rattle.reclaim.proofs.unheld.Given as goal

abbrev pub invariant-loop-p : goal.invariant-loop-p
invariant-loop-p l = Marked l.zct l.work l.p
