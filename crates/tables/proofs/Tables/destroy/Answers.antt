-- The count goes down, or a enters in ZCT.
use Rattle.tables.proofs.Single.{entry-used, entry-is}
use Rattle.tables.proofs.Steps.{mrt-rows, destroyed_zct}
use Rattle.tables.proofs.Tables.destroy.Goals as goal

pub count_down-requires-clause-p_lt_mrt : goal.count_down-requires-clause-p_lt_mrt
count_down-requires-clause-p_lt_mrt c = entry-used (mrt-rows c.requires.tabled).listed c.args.a _ c.in-Ok.ensures.0 c.in-Ok.ensures.1

pub returns-in-Ok-clause-tables : goal.returns-in-Ok-clause-tables
returns-in-Ok-clause-tables c =
    rw (entry-is (mrt-rows c.requires.tabled).listed c.args.a _ c.in-Ok.ensures.0 c.in-Ok.ensures.1) at c.count_down.ensures.tables

pub returns-in-Err-clause-tables : goal.returns-in-Err-clause-tables
returns-in-Err-clause-tables c = destroyed_zct c.requires.tabled c.args.a c.requires.a_in_bounds c.in-Err.ensures.1 c.enter-used.ensures
