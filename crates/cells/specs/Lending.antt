-- The rows of a heap as they are lent. Assumes nothing.
use Rattle.std.specs.Prelude.{◌≡◌, ℕ, List, ℤ, length}
use Rattle.rules.specs.Rows.{HeapRows, CallRows, Lent, lent, row_lengths}
use Rattle.rules.specs.Rows as rules
use Rattle.tables.specs.declared.Tables.{Tables}
use Rattle.tables.specs.Lending.{rows_in}
use Rattle.cells.specs.declared.Fields.{Fields}
use Rattle.cells.specs.declared.View.{View}
use Rattle.cells.specs.declared.RowLengths.{RowLengths}

-- what the rows of cells and tables hold
abbrev pub heap_in : Fields → Tables → HeapRows
heap_in f t = record { kinds = f.kinds.now; values = f.values.now; tables = rows_in t }

-- what the rows hold that a call works on
abbrev pub call_in : Fields → List ℤ → List ℕ → CallRows
call_in f variables log = record { kinds = f.kinds.now; values = f.values.now; variables = variables; log = log }

-- what a view shows of them
abbrev pub seen_in : View → CallRows
seen_in v = record { kinds = v.kinds.now; values = v.values.now; variables = v.variables.now; log = v.log.now }

-- what all rows hold, with the work row beside them: lent to be written, and lent to be read
abbrev pub lent_in : Fields → List ℤ → Tables → List ℕ → List ℕ → Lent
lent_in f variables t log work = record { kinds = f.kinds.now; values = f.values.now; variables = variables; tables = rows_in t; log = log; work = work }

abbrev pub shown_in : View → List ℕ → Lent
shown_in v work = lent v.kinds.now v.values.now v.variables.now v.zct.now v.mrt.now v.counts.now v.log.now work

-- how long the rows are
abbrev pub lengths_in : RowLengths → rules.RowLengths
lengths_in l = row_lengths l.kinds l.values l.variables l.zct l.mrt l.counts l.log l.work

-- the view v shows what the rows hold
abbrev pub Views : Fields → List ℤ → Tables → List ℕ → View → Type 0
Views f variables t log v = (work : List ℕ) → shown_in v work ≡ lent_in f variables t log work

-- t lends the rows that s lends: who lent them finds there what the contracts say of t
abbrev pub SameFields : Fields → Fields → Type 0
SameFields s t = (t.kinds.ghost_name ≡ s.kinds.ghost_name) × (t.values.ghost_name ≡ s.values.ghost_name)

-- and they are as long in t as in s
pub record LengthsStay (s t : Fields) : Type 0 where
  pub kinds_long : length t.kinds.now ≡ length s.kinds.now
  pub values_long : length t.values.now ≡ length s.values.now
