-- The field that was read, and a store of nothing.
use Rattle.cells.proofs.Storing.{taken}
use Rattle.cells.proofs.Fields.take_free.Goals as goal

pub returns-clause-cells : goal.returns-clause-cells
returns-clause-cells c n fs C =
    let y = c.put_field.ensures in
    taken c.args.a _ c.field_at-old.result C c.field_at-old.ensures c.after_field.ensures y.kinds y.values
