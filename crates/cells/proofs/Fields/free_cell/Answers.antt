-- Two stores to each row are two stores to the fields.
use Rattle.rules.specs.declared.Field.TheVariants.{Nothing, Free}
use Rattle.cells.proofs.Storing.{stored_at, stored_first}
use Rattle.cells.proofs.Fields.free_cell.Goals as goal

pub returns-clause-cells : goal.returns-clause-cells
returns-clause-cells c n fs C h =
    let x = c.put_field.ensures in
    let y = c.put_field-2.ensures in
    stored_at c.args.a 1 Nothing (stored_first c.args.a (Free c.args.next) C h x.kinds x.values) tt y.kinds y.values
