-- The call that was found is refused, or settled first where it wants that, and done.
use Rattle.std.proofs.Common.{sym, ◌∙◌, ap}
use Rattle.std.proofs.lemmas.Result.{err_from_is_err_and}
use Rattle.rules.specs.Call.{status_of}
use Rattle.rules.proofs.Step.{needs_two}
use Rattle.before.proofs.Seeing.{shown-there, reaches-there}
use Rattle.calls.proofs.Arms.{shown_of}
use Rattle.working.proofs.Steps.{reaches, few, refused_as, roomable, able_now, worked_as, same-call, found_fits, answered-call}
use Rattle.working.proofs.step.Goals as goal

pub check-requires : goal.check-requires
check-requires c =
    reaches-there c.of-seen.ensures.seen (reaches c.requires.standing _ (found_fits c.args.sizes.m c.args.words.now c.in-Some.is c.call_at.ensures))

pub returns-in_err-check-clause-works : goal.returns-in_err-check-clause-works
returns-in_err-check-clause-works c =
    let p = err_from_is_err_and c.from_residual.result c.from_residual.ensures.1 in
    rw (p.1, p.2) (λ d h e S.
    answered-call h (same-call c.in-Some.is c.call_at.ensures e) (refused_as S _ _ (sym (ap status_of c.in_err-check.was) ∙ c.check.ensures _ (shown-there c.of-seen.ensures.seen (shown_of S.whole)))))

pub need-entries-requires : goal.need-entries-requires
need-entries-requires c =
    reaches-there c.of-seen.ensures.seen (reaches c.requires.standing _ (found_fits c.args.sizes.m c.args.words.now c.in-Some.is c.call_at.ensures))

pub settles_first-make-requires : goal.settles_first-make-requires
settles_first-make-requires c =
    let S = c.requires.standing in
    (rw (c.need-entries.ensures _ (shown-there c.of-seen.ensures.seen (shown_of S.whole))) (needs_two c.in-Some.call c.requires.heap.shape), (few S).0)

pub settle_for-requires : goal.settle_for-requires
settle_for-requires c = roomable c.requires.standing _ (found_fits c.args.sizes.m c.args.words.now c.in-Some.is c.call_at.ensures) c.requires.few

pub act-requires : goal.act-requires
act-requires c =
    let fit = found_fits c.args.sizes.m c.args.words.now c.in-Some.is c.call_at.ensures in
    able_now _
    (λ sh v. sym (ap status_of c.in_ok-check.was) ∙ c.check.ensures sh (shown-there c.of-seen.ensures.seen v))
    (λ sh v. c.need-entries.ensures sh (shown-there c.of-seen.ensures.seen v))
    c.settles_first-make.ensures c.settle_for.ensures.room fit c.requires.standing

pub returns-clause-works : goal.returns-clause-works
returns-clause-works c =
    let fit = found_fits c.args.sizes.m c.args.words.now c.in-Some.is c.call_at.ensures in
    λ d h e S. answered-call h (same-call c.in-Some.is c.call_at.ensures e)
    (worked_as _
    (λ sh v. sym (ap status_of c.in_ok-check.was) ∙ c.check.ensures sh (shown-there c.of-seen.ensures.seen v))
    (λ sh v. c.need-entries.ensures sh (shown-there c.of-seen.ensures.seen v))
    c.settles_first-make.ensures c.settle_for.ensures.room fit S c.act.ensures.does)
