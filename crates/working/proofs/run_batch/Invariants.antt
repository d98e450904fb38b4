use Rattle.tables.specs.Lending.{SameTables}
use Rattle.cells.specs.Lending.{lent_in, SameFields}
use Rattle.working.proofs.Loop.{BatchGoing}
use Rattle.working.proofs.run_batch.Given as goal

abbrev pub invariant-loop-i : goal.invariant-loop-i
invariant-loop-i l =
    SameFields l.fn.fields l.fields × SameTables l.fn.tables l.tables
    × BatchGoing l.fn.head l.calls (lent_in l.fn.fields l.fn.variables l.fn.tables l.fn.log l.fn.work) l.fn.answers (lent_in l.fields l.variables l.tables l.log l.work) l.answers l.at l.i
