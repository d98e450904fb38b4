use Rattle.std.proofs.Common.{◌-◌, arith}
use Rattle.tables.proofs.Laws.{cut-part}
use Rattle.tables.proofs.cut_at.Goals as goal

pub returns-clause-row_after : goal.returns-clause-row_after
returns-clause-row_after c =
    cut-part c.args.row.now c.args.used c.requires.padded c.args.p (c.args.used - c.args.p) c.shift_down.new.tail (omega arith) (omega arith) c.shift_down.ensures
