-- The mark of what one more variable holds.
use Rattle.std.proofs.Common.{rules}
use Rattle.rules.specs.Field.{option_of}
use Rattle.cells.proofs.Marking.{marked_next}
use Rattle.cells.proofs.mark_held.Goals as goal
use Rattle.cells.proofs.mark_held.Goals.{in-Some, in_default}

pub loop-v-preserved : goal.loop-v-preserved
loop-v-preserved c =
    marked_next c.args.variables.now (option_of c.held.result) c.loop-v-test.true c.loop-v.invariant c.held.ensures
    (elim c.match-held.branch [ in-Some w ↦ search rules | in_default w ↦ search rules ])
