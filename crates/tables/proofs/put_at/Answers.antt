use Rattle.std.proofs.Common.{◌+◌, ◌-◌, arith}
use Rattle.tables.proofs.Laws.{put-part}
use Rattle.tables.proofs.put_at.Goals as goal

pub returns-clause-row_after : goal.returns-clause-row_after
returns-clause-row_after c =
    put-part c.args.row.now c.args.used c.requires.padded c.args.p (c.args.used + 1 - c.args.p) c.args.x c.shift_up.new.tail (omega arith) (omega arith) (omega arith) c.shift_up.ensures
