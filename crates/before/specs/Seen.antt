-- What of the rows a call sees, and rows long enough for what it names. Assumes nothing.
use Rattle.std.specs.Prelude.{ℕ, ◌+◌, ◌*◌, ◌<◌, ◌≡◌, cond, List, map, ltb, length, get_or, ℤ, pos}
use Rattle.std.proofs.Math.Option.{Option, none, some}
use Rattle.rules.specs.declared.Call.{Call}
use Rattle.rules.specs.declared.Field.{Field}
use Rattle.rules.specs.declared.Field.TheVariants.{Nothing}
use Rattle.rules.specs.Field.{variable_of, field_of}
use Rattle.rules.specs.Heap.{Shape}
use Rattle.rules.specs.Rows.{CallRows}
use Rattle.rules.specs.Whole.{Cells}
use Rattle.rules.specs.Call.{Fits}

-- the row of variables is what they hold, of addresses below n
pub record Held (n : ℕ) (vs : List ℤ) (hs : List (Option ℕ)) : Type 0 where
  pub are : vs ≡ map variable_of hs
  pub inside : (v a : ℕ) → get_or hs v none ≡ some a → a < n

-- the rows of cells and variables are the shape s
pub record Shown (n : ℕ) (r : CallRows) (s : Shape) : Type 0 where
  pub cells : Cells n r.kinds r.values s.fields
  pub held : Held n r.variables s.variables

-- field f of a held cell in the rows; nothing where nothing is held, or an address of n or more
unfoldable pub field_below : ℕ → List ℕ → List ℤ → Option ℕ → ℕ → Field
field_below n ks xs none f = Nothing
field_below n ks xs (some a) f = cond (ltb a n) (field_of (get_or ks (2 * a + f) 0) (get_or xs (2 * a + f) (pos 0))) Nothing

-- rows long enough for field f of v's cell
pub record Reach (n : ℕ) (r : CallRows) (v f : ℕ) : Type 0 where
  pub kinds_long : length r.kinds ≡ 2 * n
  pub values_long : length r.values ≡ 2 * n
  pub v_below : v < length r.variables
  pub f_below : f < 2

-- the rows are some shape, and the row of variables is long enough for all that a call names
pub record Reaches (n : ℕ) (r : CallRows) (c : Call) : Type 0 where
  pub shape : Shape
  pub shown : Shown n r shape
  pub fits : Fits (length r.variables) c
