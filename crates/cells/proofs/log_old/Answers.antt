-- An entry where the field is a cell.
use Rattle.cells.proofs.log_old.Goals as goal

pub returns-in-Cell-clause-logged : goal.returns-in-Cell-clause-logged
returns-in-Cell-clause-logged c = rw c.in-Cell.is (λ n xs L I. c.add_entry.ensures.logged n xs L I)
