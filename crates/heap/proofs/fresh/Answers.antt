-- Refused with 1, or written.
use Rattle.heap.proofs.Entering.{no_fresh, fresh_sized, made_fresh}
use Rattle.audit.proofs.Whole.{looked_at}
use Rattle.heap.proofs.fresh.Goals as goal

pub returns-then-not-sized-clause-leaves : goal.returns-then-not-sized-clause-leaves
returns-then-not-sized-clause-leaves c = no_fresh c.fresh-head.ensures (c.of.ensures.shown _) (looked_at c.lengths.ensures c.sized.ensures) (rw c.if-not-sized.true) c.plain.ensures c.fresh.ensures

pub fresh_rows-requires : goal.fresh_rows-requires
fresh_rows-requires c = fresh_sized c.fresh-head.ensures (c.of.ensures.shown _) (looked_at c.lengths.ensures c.sized.ensures) (rw c.if-not-sized.false)

pub returns-clause-leaves : goal.returns-clause-leaves
returns-clause-leaves c = made_fresh c.fresh-head.ensures (c.of.ensures.shown _) (looked_at c.lengths.ensures c.sized.ensures) (rw c.if-not-sized.false) c.fresh_rows.ensures.rows
