-- Refused by what says no, or worked.
use Rattle.std.proofs.Common.{rules}
use Rattle.heap.proofs.Entering.{said_no, runnable, accepted_by}
use Rattle.heap.proofs.batch.Goals as goal

pub returns-in-Err-clause-leaves : goal.returns-in-Err-clause-leaves
returns-in-Err-clause-leaves c = said_no _ (c.of-seen.ensures.shown _) (c.of-seen.ensures.shown _) (rw c.in-Err.is at c.judge.ensures)

pub run_batch-requires : goal.run_batch-requires
run_batch-requires c = runnable _ (c.of-seen.ensures.shown _) (c.of-seen.ensures.shown _) (rw c.in-Ok.is at c.judge.ensures)

pub returns-in-Ok-clause-leaves : goal.returns-in-Ok-clause-leaves
returns-in-Ok-clause-leaves c = accepted_by _ (c.of-seen.ensures.shown _) (c.of-seen.ensures.shown _) (rw c.in-Ok.is at c.judge.ensures) c.run_batch.ensures.runs
