use Rattle.std.proofs.Common.{length, ◌≤◌}
use Rattle.cases.proofs.read.Left.digits.Given as goal

abbrev pub invariant-loop-byte : goal.invariant-loop-byte
invariant-loop-byte l = length l.self.bytes.now ≤ length l.initial.self.bytes.now

abbrev pub decreases-loop-byte : goal.decreases-loop-byte
decreases-loop-byte l = length l.self.bytes.now
