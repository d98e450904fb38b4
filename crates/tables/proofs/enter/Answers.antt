use Rattle.std.proofs.Common.{arith}
use Rattle.tables.proofs.Single.{place-fits, enter-there, enter-room, enter-put}
use Rattle.tables.proofs.enter.Goals as goal

pub returns-in-Ok : goal.returns-in-Ok
returns-in-Ok c = enter-there c.requires.listed c.args.a _ c.in-Ok.ensures.0 c.in-Ok.ensures.1

pub put_at-requires-clause-p_le_used : goal.put_at-requires-clause-p_le_used
put_at-requires-clause-p_le_used c =
    let F = c.in-Err.ensures in
    (omega (arith, place-fits c.requires.listed c.args.a _ F.0), enter-room c.requires.listed c.args.a _ F.0 c.requires.a_in_bounds F.1)

pub returns-in-Err : goal.returns-in-Err
returns-in-Err c =
    let F = c.in-Err.ensures in
    enter-put c.requires.listed c.args.a _ F.0 c.requires.a_in_bounds F.1 c.put_at.ensures.value c.put_at.ensures.row_after
