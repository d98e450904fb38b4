-- The rows of the first a free cells, and the rows as they were from there on.
use Rattle.std.proofs.Common.{◌≡◌, ◌++◌, map, ◌*◌, length, drop}
use Rattle.rules.specs.Field.{kind_of, value_of}
use Rattle.rules.specs.Step.{free_from}
use Rattle.cells.specs.Lending.{SameFields}
use Rattle.cells.proofs.Fields.free_all.Given as goal

abbrev pub invariant-loop-a : goal.invariant-loop-a
invariant-loop-a l =
    record {
      kinds_long : length l.fields.kinds.now ≡ 2 * l.n;
      values_long : length l.fields.values.now ≡ 2 * l.n;
      kinds : l.fields.kinds.now ≡ map kind_of (free_from 0 l.a) ++ drop (2 * l.a) l.fn.self.kinds.now;
      values : l.fields.values.now ≡ map value_of (free_from 0 l.a) ++ drop (2 * l.a) l.fn.self.values.now;
      same : SameFields l.initial.fields l.fields;
    }
