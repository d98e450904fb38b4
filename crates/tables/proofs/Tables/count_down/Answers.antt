-- The laws of MRT's two rows are in `Pairs`.
use Rattle.tables.proofs.Pairs.{entry-there, counted-down, stays-down, counted_out}
use Rattle.tables.proofs.Steps.{mrt-rows, mrt-entry, destroyed_mrt}
use Rattle.tables.proofs.Tables.count_down.Goals as goal

pub returns-then-counts-p-clause-tables : goal.returns-then-counts-p-clause-tables
returns-then-counts-p-clause-tables c =
    let T = c.requires.tabled in
    let p = c.args.p in
    let l = c.requires.p_lt_mrt in
    let F = entry-there (mrt-rows T).listed p l in
    let E = c.cut_at-used-then-counts-p.ensures in
    destroyed_mrt T _ (mrt-entry T p l) F.1 (counted_out (mrt-rows T) _ p F.0 F.1 c.if-counts-p.true E.value c.cut_at-used.ensures.row_after E.row_after)

pub returns-then-counts-p-2-clause-tables : goal.returns-then-counts-p-2-clause-tables
returns-then-counts-p-2-clause-tables c =
    let T = c.requires.tabled in
    let p = c.args.p in
    let l = c.requires.p_lt_mrt in
    let F = entry-there (mrt-rows T).listed p l in
    destroyed_mrt T _ (mrt-entry T p l) F.1 (counted-down (mrt-rows T) _ p F.0 F.1 c.if-counts-p.false c.if-counts-p-2.true)

pub returns-else-counts-p-2-clause-tables : goal.returns-else-counts-p-2-clause-tables
returns-else-counts-p-2-clause-tables c =
    let T = c.requires.tabled in
    let p = c.args.p in
    let l = c.requires.p_lt_mrt in
    let F = entry-there (mrt-rows T).listed p l in
    destroyed_mrt T _ (mrt-entry T p l) F.1 (stays-down (mrt-rows T) _ p F.0 F.1 c.if-counts-p-2.false)
