-- What is said of what a deed needs.
use mathlib.Core.Logic.{⊎_elim}
use Rattle.rules.specs.Call.{refuses, var}
use Rattle.before.proofs.check_deed.Goals as goal

pub returns-in-Follow : goal.returns-in-Follow
returns-in-Follow c s S = rw c.in-Follow.is (c.check_follow.ensures c.in-Follow.field-2 s S)

pub returns-in-Put : goal.returns-in-Put
unfolding refuses var
returns-in-Put c s S =
    let k = c.check_held.ensures c.args.n s.variables S.held in
    ⊎_elim (λ p. rw p.2 k) (λ p. rw p.1 k) c.in-Put.is

pub returns-in-Link : goal.returns-in-Link
unfolding refuses var
returns-in-Link c s S =
    let k = c.check_both.ensures c.args.n s.variables S.held in
    ⊎_elim (λ p. rw p.1 k) (λ p. rw p k) c.in-Link.is
