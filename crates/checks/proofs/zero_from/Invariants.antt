-- The words up to j are gathered.
use Rattle.checks.proofs.Gathered.{GatheredUp}
use Rattle.checks.proofs.zero_from.Given as goal

abbrev pub invariant-loop-j : goal.invariant-loop-j
invariant-loop-j l = GatheredUp l.row l.from l.j l.seen
