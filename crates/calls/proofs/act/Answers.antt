-- The call by its kind.
use Rattle.rules.specs.Step.{acted}
use Rattle.std.proofs.Common.{◌∙◌}
use Rattle.cells.proofs.Signed.{back}
use Rattle.before.proofs.Seeing.{shown-there, reaches-there}
use Rattle.calls.proofs.Arms.{shown_of, can_answer, deed_done, settle_done}
use Rattle.calls.proofs.act.Goals as goal

pub returns-in-New-clause-does : goal.returns-in-New-clause-does
unfolding acted
returns-in-New-clause-does c t work h W = rw c.in-New.is (c.take.ensures.does t work h W)

pub answer-value-requires : goal.answer-value-requires
answer-value-requires c = reaches-there c.of.ensures.seen (can_answer (rw c.in-Do.is at c.requires.0))

pub returns-in-Do-clause-does : goal.returns-in-Do-clause-does
returns-in-Do-clause-does c t work h W =
    rw c.in-Do.is (deed_done _ _ _ (c.change.ensures.changes t work h W) (back _ c.answer-value.type_inv ∙ c.answer-value.ensures _ (shown-there c.of.ensures.seen (shown_of W))))

pub returns-in-Settle-clause-does : goal.returns-in-Settle-clause-does
returns-in-Settle-clause-does c t work h W = rw c.in-Settle.is (settle_done _ _ W (back _ c.value_of.type_inv ∙ c.value_of.ensures))
