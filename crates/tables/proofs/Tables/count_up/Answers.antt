-- The laws of MRT's two rows are in `Pairs`.
use Rattle.std.proofs.Common.{arith}
use Rattle.tables.proofs.Single.{place-fits}
use Rattle.tables.proofs.Pairs.{pair_row, pair_room, counted-up, stays-up, counted_in}
use Rattle.tables.proofs.Steps.{mrt-rows, mrt-small, created_mrt}
use Rattle.tables.proofs.Tables.count_up.Goals as goal

pub offset_bounds-self-p : goal.offset_bounds-self-p
offset_bounds-self-p c = omega (arith, pair_row (mrt-rows c.requires.tabled) c.args.a _ c.in-Ok.ensures.0 c.in-Ok.ensures.1)

pub bounds-self-p : goal.bounds-self-p
bounds-self-p c = pair_row (mrt-rows c.requires.tabled) c.args.a _ c.in-Ok.ensures.0 c.in-Ok.ensures.1

pub returns-then-count-cap-clause-tables : goal.returns-then-count-cap-clause-tables
returns-then-count-cap-clause-tables c =
    let T = c.requires.tabled in
    let F = c.in-Ok.ensures in
    created_mrt T c.args.a c.requires.a_in_bounds c.requires.not_in_zct (counted-up (mrt-rows T) c.args.a _ F.0 F.1 c.if-count-cap.true)

pub returns-else-count-cap-clause-tables : goal.returns-else-count-cap-clause-tables
returns-else-count-cap-clause-tables c =
    let T = c.requires.tabled in
    let F = c.in-Ok.ensures in
    created_mrt T c.args.a c.requires.a_in_bounds c.requires.not_in_zct (stays-up (mrt-rows T) c.args.a _ F.0 F.1 c.if-count-cap.false)

pub put_at-used-requires-clause-p_le_used : goal.put_at-used-requires-clause-p_le_used
put_at-used-requires-clause-p_le_used c =
    let C = mrt-rows c.requires.tabled in
    let F = c.in-Err.ensures in
    (place-fits C.listed c.args.a _ F.0, (pair_room C c.args.a _ F.0 (mrt-small c.requires.tabled c.args.a c.requires.a_in_bounds) F.1).0)

pub put_at-used-requires-in-Err-clause-p_le_used : goal.put_at-used-requires-in-Err-clause-p_le_used
put_at-used-requires-in-Err-clause-p_le_used c =
    let C = mrt-rows c.requires.tabled in
    let F = c.in-Err.ensures in
    (place-fits C.listed c.args.a _ F.0, (pair_room C c.args.a _ F.0 (mrt-small c.requires.tabled c.args.a c.requires.a_in_bounds) F.1).1)

pub returns-in-Err-clause-tables : goal.returns-in-Err-clause-tables
returns-in-Err-clause-tables c =
    let T = c.requires.tabled in
    let F = c.in-Err.ensures in
    let S = mrt-small T c.args.a c.requires.a_in_bounds in
    let E = c.put_at-used-in-Err.ensures in
    created_mrt T c.args.a c.requires.a_in_bounds c.requires.not_in_zct (counted_in (mrt-rows T) c.args.a _ F.0 S F.1 E.value c.put_at-used.ensures.row_after E.row_after)
