-- Refused with 1 to 4, or passed.
use Rattle.std.proofs.Common.{rules}
use Rattle.heap.proofs.Entering.{refused_1, refused_2, refused_3, refused_4, nothing_says_no}
use Rattle.audit.proofs.Whole.{looked_at}
use Rattle.heap.proofs.judge.Goals as goal

pub returns-then-not-sized : goal.returns-then-not-sized
returns-then-not-sized c = refused_1 _ _ _ (looked_at c.lengths.ensures c.sized.ensures) (rw c.if-not-sized.true)

pub returns-then-not-calls_right : goal.returns-then-not-calls_right
returns-then-not-calls_right c = refused_2 _ _ _ (looked_at c.lengths.ensures c.sized.ensures) (rw c.if-not-sized.false) c.calls_right.ensures (rw c.if-not-calls_right.true)

pub returns-then-answers-calls : goal.returns-then-answers-calls
returns-then-answers-calls c = refused_3 _ _ _ (looked_at c.lengths.ensures c.sized.ensures) (rw c.if-not-sized.false) c.calls_right.ensures (rw c.if-not-calls_right.false) c.if-answers-calls.true

pub returns-then-not-good : goal.returns-then-not-good
returns-then-not-good c =
    rw c.sound-good.ensures.work_after
    (refused_4 _ _ _ (looked_at c.lengths.ensures c.sized.ensures) (rw c.if-not-sized.false) c.calls_right.ensures (rw c.if-not-calls_right.false) c.if-answers-calls.false c.sound-good.ensures.says (rw c.if-not-good.true))

pub returns : goal.returns
returns c = (
  nothing_says_no _ _ _ (looked_at c.lengths.ensures c.sized.ensures) (rw c.if-not-sized.false) c.calls_right.ensures (rw c.if-not-calls_right.false) c.if-answers-calls.false c.sound-good.ensures.says (rw c.if-not-good.false),
  rw c.sound-good.ensures.work_after,
)
