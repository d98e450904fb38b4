-- One cell more is marked, and the walk stands at the next.
use Rattle.std.proofs.Common.{◌≡◌, ◌*◌, get_or, pos, arith, rules}
use mir.Syntax.{w32}
use mir.Val.{to_z, of_z}
use Rattle.checks.proofs.Walks.{zeros-less, turned}
use Rattle.checks.proofs.Cells.walk.Goals as goal

pub loop-at-smaller : goal.loop-at-smaller
loop-at-smaller c = zeros-less c.loop-at.work c.loop-at.at (omega arith) c.if-met.false

pub loop-at-preserved : goal.loop-at-preserved
loop-at-preserved c =
    let v = get_or c.args.self.values.now (2 * c.loop-at.at) (pos 0) in
    let read : to_z w32 (of_z w32 v) ≡ v = search rules in
    turned _ _ _ _ _ _ c.loop-at.invariant c.loop-at-test.true (c.free.ensures.yes c.if-not-free.false) c.if-met.false _ read _ c.address_or-at.ensures
