use Rattle.tables.proofs.Steps.{allocated}
use Rattle.tables.proofs.Tables.allocate.Goals as goal

pub returns-clause-tables : goal.returns-clause-tables
returns-clause-tables c = allocated c.args.a c.requires.a_in_bounds c.enter-used.ensures
