use Rattle.reclaim.proofs.Reclaiming.{scan_from}
use Rattle.reclaim.proofs.unheld.Goals.{in-Ok, in-Ok-2}
use Rattle.reclaim.proofs.unheld.Goals as goal

pub loop-p-init : goal.loop-p-init
loop-p-init c =
    elim c.match-find.branch [
      | in-Ok w ↦ rw (← w.from-is) at (scan_from c.requires w.in-Ok.from w.in-Ok.ensures.0)
      | in-Ok-2 w ↦ rw (← w.from-is) at (scan_from c.requires w.in-Ok.from w.in-Ok.ensures.0)
    ]
