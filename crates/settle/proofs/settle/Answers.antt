-- Replay, clear, mark, reclaim, clear.
use Rattle.std.proofs.Common.{rules}
use Rattle.cells.proofs.Marking.{marks-of}
use Rattle.settle.proofs.Settling.{reclaimable_by, settled-by}
use Rattle.settle.proofs.settle.Goals as goal

pub reclaim-requires : goal.reclaim-requires
reclaim-requires c = reclaimable_by c.replay.ensures.tables (marks-of c.mark_held.ensures) c.requires

pub returns-clause-settles : goal.returns-clause-settles
returns-clause-settles c = settled-by c.replay.ensures.tables (marks-of c.mark_held.ensures) c.reclaim.ensures.reclaims (search rules) (search rules)
