use Rattle.settle.proofs.replay_one.Goals as goal

pub returns-in-Allocate-clause-tables : goal.returns-in-Allocate-clause-tables
returns-in-Allocate-clause-tables c =
    let E = c.allocate.ensures in
    λ n t R. rw (c.in-Allocate.is, E.mrt_rows.0, E.mrt_rows.1) (E.tables _ _ _ n t R)
