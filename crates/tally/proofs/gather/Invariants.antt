use Rattle.std.proofs.Common.{◌-◌, ◌+◌, ◌≤◌, ◌≡◌}
use Rattle.tally.proofs.gather.Given as goal

abbrev pub invariant-loop-reader : goal.invariant-loop-reader
invariant-loop-reader l = record {
  text : l.reader.text ≡ l.initial.reader.text;
  most : l.reader.number ≤ 1000000;
  own : l.before + l.count ≤ l.reader.number;
  batch : l.count ≤ 256;
}

abbrev pub decreases-loop-reader : goal.decreases-loop-reader
decreases-loop-reader l = 1000000 - l.reader.number
