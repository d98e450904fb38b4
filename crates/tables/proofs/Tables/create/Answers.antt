-- a leaves ZCT, or its count goes up.
use Rattle.std.proofs.Common.{arith}
use Rattle.tables.proofs.Single.{entry-used, leave_cut}
use Rattle.tables.proofs.Steps.{zct-rows, created_zct}
use Rattle.tables.proofs.Tables.create.Goals as goal

pub cut_at-used-requires-clause-p_lt_used : goal.cut_at-used-requires-clause-p_lt_used
cut_at-used-requires-clause-p_lt_used c = omega (arith, entry-used (zct-rows c.requires.tabled) c.args.a _ c.in-Ok.ensures.0 c.in-Ok.ensures.1)

pub returns-in-Ok-clause-tables : goal.returns-in-Ok-clause-tables
returns-in-Ok-clause-tables c =
    let F = c.in-Ok.ensures in
    let C = c.cut_at-used.ensures in
    created_zct c.requires.tabled c.args.a c.requires.a_in_bounds F.1 (leave_cut (zct-rows c.requires.tabled) c.args.a _ F.0 F.1 C.value C.row_after)
