-- The rows are tables of which the entries that are left make what all make.
use Rattle.std.proofs.Common.{ℕ, List}
use Rattle.rules.specs.Heap.{Tables, Transaction}
use Rattle.rules.specs.Whole.{Ready, Logged}
use Rattle.tables.specs.Lending.{rows_in, SameTables}
use Rattle.settle.proofs.Replaying.{Replaying}
use Rattle.settle.proofs.replay.Given as goal

abbrev pub invariant-loop-i : goal.invariant-loop-i
invariant-loop-i l =
    record {
      rest : (n : ℕ) (xs : List Transaction) (t : Tables) → Logged n l.log l.len xs → Ready n l.cap (rows_in l.fn.tables) l.fn.used t → Replaying n l.cap (rows_in l.tables) l.used l.i xs t;
      same : SameTables l.fn.tables l.tables;
    }
