-- i calls are worked, and what is left is the batch of the others.
use Rattle.std.proofs.Common.{refl, rules}
use Rattle.settle.proofs.Settling.{settleable}
use Rattle.working.proofs.Loop.{going_first, now-at, few-here, workable, roomy, again, finish, more_words}
use Rattle.working.proofs.run_batch.Goals as goal

pub loop-i-init : goal.loop-i-init
loop-i-init c = ((refl, refl), (refl, refl, refl), going_first c.requires c.start-at.ensures)

pub step-answer-requires : goal.step-answer-requires
step-answer-requires c = let G = c.loop-i.invariant.2 in workable G (more_words c.loop-i-test.true)

pub write_answer-requires : goal.write_answer-requires
write_answer-requires c = let G = c.loop-i.invariant.2 in roomy G (more_words c.loop-i-test.true)

pub loop-i-preserved : goal.loop-i-preserved
loop-i-preserved c = (
  search rules,
  search rules,
  again c.loop-i.invariant.2 (more_words c.loop-i-test.true) c.step-answer.ensures.works c.write_answer.ensures,
)

pub settle-requires : goal.settle-requires
settle-requires c = let G = c.loop-i.invariant.2 in settleable (now-at G).standing.whole (few-here G)

pub returns-clause-runs : goal.returns-clause-runs
returns-clause-runs c = finish c.loop-i.invariant.2 c.loop-i-test.false c.settle.ensures.settles refl c.ended.ensures
