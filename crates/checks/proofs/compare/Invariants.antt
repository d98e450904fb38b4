-- What has been compared once the address is a.
use Rattle.rules.specs.Rows.{table_rows}
use Rattle.checks.specs.Counts.{tallied}
use Rattle.checks.proofs.Steps.{Gone}
use Rattle.checks.proofs.compare.Given as goal

abbrev pub invariant-loop-a : goal.invariant-loop-a
invariant-loop-a l =
    Gone l.head l.view.kinds.now (table_rows l.view.zct.now l.view.mrt.now l.view.counts.now) (tallied l.work) l.a l.z l.q
