use Rattle.std.proofs.Common.{◌-◌, length}
use Rattle.print.specs.Filling.{Taken}
use Rattle.print.proofs.read_full.Given as goal

abbrev pub invariant-loop-done : goal.invariant-loop-done
invariant-loop-done g l = Taken (g.R.Read.remaining l.fn.input) (g.R.Read.remaining l.input) l.row l.done

abbrev pub decreases-loop-done : goal.decreases-loop-done
decreases-loop-done g l = length l.initial.row - l.done
