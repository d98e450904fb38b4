-- A link's destroy and its create.
use Rattle.std.proofs.Common.{length-append, arith}
use Rattle.rules.specs.Call.{var, logs}
use Rattle.before.proofs.entries.Goals as goal

pub returns-in-Link : goal.returns-in-Link
unfolding logs var
returns-in-Link c s S =
    let d = c.drop_count.ensures.0 in
    let m = c.make_count.ensures.count c.args.n s.variables S.held in
    rw (c.in-Link.is, ← c.field_of.ensures.seen s S, length-append) (omega arith)
