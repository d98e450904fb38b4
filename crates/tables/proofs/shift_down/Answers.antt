use Rattle.tables.proofs.Laws.{turned_down}
use Rattle.tables.proofs.shift_down.Goals as goal

pub returns : goal.returns
returns c = turned_down c.args.tail.now _ c.requires c.rotate_left.ensures.after
