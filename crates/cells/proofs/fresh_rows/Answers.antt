-- Each row by what writes it.
use Rattle.std.proofs.Common.{rules}
use Rattle.cells.proofs.Freshness.{rows-fresh}
use Rattle.cells.proofs.fresh_rows.Goals as goal

pub returns-clause-rows : goal.returns-clause-rows
returns-clause-rows c =
    rows-fresh c.requires c.free_all.ensures.kinds c.free_all.ensures.values (search rules) (search rules) (search rules) (search rules) (search rules) (search rules)
