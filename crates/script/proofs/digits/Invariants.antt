use Rattle.std.proofs.Common.{◌≡◌, ◌≤◌, drop}
use Rattle.script.specs.Number.{digits_from}
use Rattle.script.specs.Line.{capped}
use Rattle.script.proofs.digits.Given as goal

abbrev pub invariant-loop-b : goal.invariant-loop-b
invariant-loop-b l = (l.n ≤ 2147483648) × (capped (digits_from l.n (drop l.b-index l.s)) ≡ capped (digits_from 0 l.s))
