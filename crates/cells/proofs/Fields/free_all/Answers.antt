-- One more free cell over the rows.
use Rattle.std.proofs.Common.{arith, rules}
use Rattle.rules.specs.Field.{kind_of, value_of}
use Rattle.cells.proofs.Freshness.{freed-next}
use Rattle.cells.proofs.Fields.free_all.Goals as goal

pub loop-a-preserved : goal.loop-a-preserved
loop-a-preserved c =
    let v = c.loop-a.invariant in
    let r = c.free_cell.ensures in
    record {
      kinds_long = search rules;
      values_long = search rules;
      kinds = freed-next kind_of c.args.self.now.kinds.now _ _ _ (omega arith) v.kinds r.kinds;
      values = freed-next value_of c.args.self.now.values.now _ _ _ (omega arith) v.values r.values;
      same = search rules;
    }
