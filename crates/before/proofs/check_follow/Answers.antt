-- What is said of v, and else of the field.
use Rattle.std.proofs.Common.{ap, ◌∙◌}
use Rattle.rules.specs.declared.Field.{Field}
use Rattle.rules.specs.Call.{var, refuses, want, is_cell}
use Rattle.before.proofs.Seeing.{handed_on, first_no, first_yes}
use Rattle.before.proofs.check_follow.Goals as goal

pub returns-in_err-check_held : goal.returns-in_err-check_held
unfolding refuses var
returns-in_err-check_held c w s S = handed_on _ _ c.from_residual.ensures.1 ∙ first_no _ _ _ (c.in_err-check_held.ensures c.args.n _ S.held)

pub returns : goal.returns
unfolding refuses var
returns c w s S = first_yes _ _ _ (c.in_ok-check_held.ensures c.args.n _ S.held) (c.check_cell.ensures ∙ ap (λ (x : Field). want (is_cell x) 12) (c.field_of.ensures.seen s S))
