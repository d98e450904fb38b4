-- Rows as the code sees them: a place in a row, an entry put in or cut out there, and what the code requires. Assumes nothing.
use Rattle.std.specs.Prelude.{ℕ, zero, suc, ◌≤◌, ◌≡◌, true, false, cond, Result, Ok, Err, List, [], ◌∷◌, ◌++◌, ltb, length, take, drop}
use Rattle.rules.specs.declared.Used.{Used}
use Rattle.rules.specs.Table.{has, pad, Below, Ascending}
use Rattle.rules.specs.Heap.{Tables}
use Rattle.rules.specs.Rows.{TableRows, table_rows}
use Rattle.rules.specs.Whole.{Is, Ready}

-- the place of a in z: how many entries come before the first that is not below a
abbrev pub place : ℕ → List ℕ → ℕ
place a [] = zero
place a (x ∷ z) = cond (ltb x a) (suc (place a z)) zero

-- z with x put in at place p: what stood there and after it moves up
abbrev pub put : ℕ → ℕ → List ℕ → List ℕ
put p x z = take p z ++ x ∷ drop p z

-- z without what stands at place p: what stood after it moves down
abbrev pub cut : ℕ → List ℕ → List ℕ
cut p z = take p z ++ drop (suc p) z

-- a search for a in z: its place, and whether it is an entry
abbrev pub Found : ℕ → List ℕ → Result ℕ ℕ → Type 0
Found a z (Ok p) = (p ≡ place a z) × (has a z ≡ true)
Found a z (Err p) = (p ≡ place a z) × (has a z ≡ false)

-- the used part is within the row, and zeros come after it
pub record Padded (row : List ℕ) (used : ℕ) : Type 0 where
  pub fits : used ≤ length row
  pub zeros : row ≡ pad (length row) (take used row)

-- and it is ascending, of addresses below the row's length
pub record Listed (row : List ℕ) (used : ℕ) : Type 0 where
  pub padded : Padded row used
  pub up : Ascending (take used row)
  pub below : Below (length row) (take used row)

-- the rows of both tables are some tables
pub record Tabled (cap : ℕ) (r : TableRows) (u : Used) : Type 0 where
  pub most : length r.zct ≤ 1024
  pub big : 3 ≤ cap
  pub tables : Tables
  pub ready : Ready (length r.zct) cap r u tables

-- ---- what the code promises

-- a row that is the list z is f z afterwards
abbrev pub RowBy : (List ℕ → List ℕ) → List ℕ → ℕ → List ℕ → ℕ → Type 0
RowBy f row used row' used' = (n : ℕ) (z : List ℕ) → Is n row used z → Is n row' used' (f z)

-- rows that are the tables t are f t afterwards
abbrev pub TablesBy : ℕ → (Tables → Tables) → TableRows → Used → TableRows → Used → Type 0
TablesBy cap f r u r' u' = (n : ℕ) (t : Tables) → Ready n cap r u t → Ready n cap r' u' (f t)

-- the like, of a function that changes ZCT alone, at any cap and beside any rows of MRT
abbrev pub ZctBy : (ℕ → Tables → Tables) → List ℕ → Used → List ℕ → Used → Type 0
ZctBy f zs u zs' u' = (cap : ℕ) (ms cs : List ℕ) → TablesBy cap (f cap) (table_rows zs ms cs) u (table_rows zs' ms cs) u'
