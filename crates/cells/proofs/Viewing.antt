-- What a view shows a call. Assumes nothing.
use mathlib.Core.Path.{◌≡◌, ap}
use mathlib.Core.List.{List, []}
use Prim.Native.Nat.{ℕ}
use lib.IntN.{ℤ}
use Rattle.rules.specs.Rows.{Lent}
use Rattle.tables.specs.declared.Tables.{Tables}
use Rattle.cells.specs.declared.Fields.{Fields}
use Rattle.cells.specs.declared.View.{View}
use Rattle.cells.specs.Lending.{call_in, seen_in, Views}

-- a view of all rows shows them
pub views-seen : (f : Fields) (variables : List ℤ) (t : Tables) (log : List ℕ) (v : View) → Views f variables t log v → seen_in v ≡ call_in f variables log
views-seen f variables t log v V = ap (λ (r : Lent). record { kinds = r.kinds; values = r.values; variables = r.variables; log = r.log }) (V [])
