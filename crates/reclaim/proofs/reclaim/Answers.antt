use Rattle.std.proofs.Common.{arith, rules}
use Rattle.reclaim.proofs.Reclaiming.{going_first, going_next, scan, done_early, done_late, heaped}
use Rattle.reclaim.proofs.reclaim.Goals as goal

pub loop-turn-init : goal.loop-turn-init
loop-turn-init c = record { going = λ n hs h R M. going_first hs R; same = search rules }

pub unheld-requires : goal.unheld-requires
unheld-requires c =
    let S = c.requires in
    scan (c.loop-turn.invariant.going _ _ S.heap S.rows S.marks) S.marks

pub returns-in_default-clause-reclaims : goal.returns-in_default-clause-reclaims
returns-in_default-clause-reclaims c = λ n hs h R M.
    done_early (c.loop-turn.invariant.going n hs h R M) M c.in_default.ensures _ c.loop-turn.auto._turn-end

pub free_one-low-requires-clause-heaped : goal.free_one-low-requires-clause-heaped
free_one-low-requires-clause-heaped c =
    let S = c.requires in
    let G = c.loop-turn.invariant.going _ _ S.heap S.rows S.marks in
    let d = G.count in
    heaped G.rows (omega arith)

pub loop-turn-preserved : goal.loop-turn-preserved
loop-turn-preserved c = record {
  going = λ n hs h R M.
      let G = c.loop-turn.invariant.going n hs h R M in
      going_next G M c.in-Some.ensures (c.free_one-low.ensures.freed n _ G.rows);
  same = search rules;
}

pub returns-clause-reclaims : goal.returns-clause-reclaims
returns-clause-reclaims c = λ n hs h R M.
    done_late (c.loop-turn.invariant.going n hs h R M) M _ c.loop-turn.auto._turn-end c.loop-turn-test.false
