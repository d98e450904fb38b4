use Rattle.std.proofs.Common.{rules}
use Rattle.tables.proofs.Steps.{tabled}
use Rattle.settle.proofs.Replaying.{entry_next, entry_small, replaying_next, replaying_done}
use Rattle.settle.proofs.replay.Goals as goal

pub unreachable-requires : goal.unreachable-requires
unreachable-requires c =
    let K = c.entry_at.ensures.known _ _ _ c.requires.logged c.loop-i-test.true in
    c.in_default.ensures.1 K.0 K.1

pub replay_one-requires-clause-tabled : goal.replay_one-requires-clause-tabled
replay_one-requires-clause-tabled c =
    let S = c.requires in
    tabled (c.loop-i.invariant.rest _ _ _ S.logged S.ready).ready S.most S.big

pub replay_one-requires-clause-a_in_bounds : goal.replay_one-requires-clause-a_in_bounds
replay_one-requires-clause-a_in_bounds c =
    let S = c.requires in
    entry_small c.in-Ok.entry c.entry_at.ensures c.in-Ok.ensures S.logged c.loop-i-test.true (c.loop-i.invariant.rest _ _ _ S.logged S.ready).ready

pub loop-i-preserved : goal.loop-i-preserved
loop-i-preserved c = record {
  rest = λ n xs t L R.
      replaying_next _ (c.loop-i.invariant.rest n xs t L R) (entry_next c.in-Ok.entry c.entry_at.ensures c.in-Ok.ensures L c.loop-i-test.true) c.replay_one.ensures.tables;
  same = search rules;
}

pub returns-clause-tables : goal.returns-clause-tables
returns-clause-tables c = λ n xs t L R. replaying_done (c.loop-i.invariant.rest n xs t L R) L c.loop-i-test.false
