-- No cell has more pointers than words were counted.
use Rattle.std.proofs.Common.{arith}
use Rattle.checks.proofs.Tally.{pointers-most}
use Rattle.checks.proofs.Cells.count.Goals as goal

pub overflow_add-work : goal.overflow_add-work
overflow_add-work c =
    let t = c.in-Some.t in
    let n = c.args.self.kinds.n in
    omega (arith, c.in-Some.ensures.0, c.loop-i.invariant.each t c.in-Some.ensures.0, pointers-most n c.args.self.kinds.row.now c.args.self.values.now t c.loop-i.i)
