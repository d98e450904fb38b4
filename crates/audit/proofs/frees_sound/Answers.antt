-- What the walk's answer says of the free list.
use Rattle.rules.proofs.Answers.{isn't, same}
use Rattle.checks.proofs.Walks.{came, no-list, met-frees, frees-met}
use Rattle.audit.proofs.frees_sound.Goals as goal

pub returns-then-walk : goal.returns-then-walk
returns-then-walk c =
    let m = came _ _ _ _ c.walk.ensures c.if-walk.true in
    same (met-frees _ _ _ _ _ m) (frees-met _ _ _ _ _ m) c.all_met.ensures

pub returns-else-walk : goal.returns-else-walk
returns-else-walk c = rw c.if-walk.false (isn't (no-list _ _ _ _ c.walk.ensures c.if-walk.false))
