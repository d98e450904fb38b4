-- The marks of what the variables before `v` hold.
use Rattle.std.proofs.Common.{length, map, take}
use Rattle.rules.specs.Field.{held_of}
use Rattle.cells.specs.Marks.{Marks}
use Rattle.cells.proofs.mark_held.Given as goal

abbrev pub invariant-loop-v : goal.invariant-loop-v
invariant-loop-v l = Marks (length l.fn.work) l.work (map held_of (take l.v l.variables))
