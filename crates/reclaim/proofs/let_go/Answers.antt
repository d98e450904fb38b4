-- A destroy for a cell, and nothing for any other field.
use Rattle.reclaim.proofs.Freeing.{let_go, let_nothing_go}
use Rattle.reclaim.proofs.let_go.Goals as goal

pub returns-in-Cell-clause-tables : goal.returns-in-Cell-clause-tables
returns-in-Cell-clause-tables c = let_go c.args.f c.in-Cell.is c.destroy.ensures.tables

pub returns-in_default-clause-tables : goal.returns-in_default-clause-tables
returns-in_default-clause-tables c = let_nothing_go c.args.f c.in_default.not-Cell
