-- What is said of w, where v holds a cell.
use Rattle.std.proofs.Common.{◌≡◌, ◌∙◌, get_or}
use Rattle.std.proofs.Math.Option.{none, some}
use Rattle.before.proofs.Seeing.{held-is}
use Rattle.before.proofs.check_both.Goals as goal

pub returns-in-Some : goal.returns-in-Some
returns-in-Some c n hs H =
    let e : some c.in-Some.field-0 ≡ get_or hs c.args.v none = c.in-Some.ensures ∙ held-is H c.args.v c.requires.0 in
    rw (← e) (c.check_held.ensures n hs H)
