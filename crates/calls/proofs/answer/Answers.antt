-- What a deed answers.
use Rattle.std.proofs.Common.{ap, ◌∙◌}
use Rattle.cells.proofs.Signed.{back}
use Rattle.rules.specs.Call.{figure_of, var, value}
use Rattle.calls.proofs.Acting.{one-for, other-value}
use Rattle.calls.proofs.answer.Goals as goal

pub returns-in-Read : goal.returns-in-Read
unfolding value
returns-in-Read c s S = rw c.in-Read.is (back _ c.figure_of.type_inv ∙ c.figure_of.ensures ∙ ap figure_of (c.field_of.ensures.seen s S))

pub returns-in-Same : goal.returns-in-Same
unfolding value var
returns-in-Same c s S = rw c.in-Same.is (back _ c.from.type_inv ∙ c.from.ensures ∙ one-for _ _ (c.same.ensures c.args.n _ S.held))

pub returns-in_default : goal.returns-in_default
returns-in_default c s S = other-value c.args.deed s c.in_default.not-Read c.in_default.not-Same
