-- These rows are that heap: the relation between rows and a heap that all contracts use. Assumes nothing.
use Rattle.std.specs.Prelude.{ℕ, ◌+◌, ◌*◌, ◌≤◌, ◌<◌, ◌≡◌, List, map, length, get_or, ℤ}
use Rattle.std.proofs.Math.Option.{none, some}
use Rattle.rules.specs.declared.Head.{Head}
use Rattle.rules.specs.declared.Used.{Used}
use Rattle.rules.specs.declared.State.{State}
use Rattle.rules.specs.declared.Field.{Field}
use Rattle.rules.specs.declared.Field.TheVariants.{Nothing, Figure, Cell, Free}
use Rattle.rules.specs.declared.Sizes.{Sizes}
use Rattle.rules.specs.Head.{Limits}
use Rattle.rules.specs.Field.{kind_of, value_of, variable_of}
use Rattle.rules.specs.Table.{addresses, counts, pad, All, Below, Ascending}
use Rattle.rules.specs.Heap.{Tables, Transaction, Heap}
use Rattle.rules.specs.Rows.{TableRows, HeapRows, Lent, heap_rows, words}

-- a row of n is the list z, and its used length is z's
pub record Is (n : ℕ) (row : List ℕ) (used : ℕ) (z : List ℕ) : Type 0 where
  pub long : length row ≡ n
  pub count : used ≡ length z
  pub padded : row ≡ pad n z

-- the three rows of n are the tables t
pub record Are (n : ℕ) (r : TableRows) (u : Used) (t : Tables) : Type 0 where
  pub zct_is : Is n r.zct u.zct t.zct
  pub mrt_is : Is n r.mrt u.mrt (addresses t.mrt)
  pub counts_is : Is n r.counts u.mrt (counts t.mrt)

-- tables over addresses below n: each ascending, counts from 2 to the cap
pub record Kept (n cap : ℕ) (t : Tables) : Type 0 where
  pub zct_up : Ascending t.zct
  pub zct_below : Below n t.zct
  pub mrt_up : Ascending (addresses t.mrt)
  pub mrt_below : Below n (addresses t.mrt)
  pub mrt_counts : All (λ c. (2 ≤ c) × (c ≤ cap)) (counts t.mrt)

-- the rows are such tables
pub record Ready (n cap : ℕ) (r : TableRows) (u : Used) (t : Tables) : Type 0 where
  pub are : Are n r u t
  pub kept : Kept n cap t

-- a field of a heap of n names a cell, or a free address or n
abbrev pub Inside : ℕ → Field → Type 0
Inside n Nothing = Unit {0}
Inside n (Figure x) = Unit {0}
Inside n (Cell b) = b < n
Inside n (Free b) = b ≤ n

-- the rows of kinds and values are the fields fs of n cells
pub record Cells (n : ℕ) (ks : List ℕ) (xs : List ℤ) (fs : List Field) : Type 0 where
  pub long : length fs ≡ 2 * n
  pub kinds : ks ≡ map kind_of fs
  pub values : xs ≡ map value_of fs
  pub inside : (i : ℕ) → Inside n (get_or fs i Nothing)

-- the rows of cells and tables are the heap h, where the batch stands; n and the cap within their limits
pub record Rows (n cap : ℕ) (r : HeapRows) (at : State) (h : Heap) : Type 0 where
  pub most : n ≤ 1024
  pub big : 3 ≤ cap
  pub cells : Cells n r.kinds r.values h.shape.fields
  pub ready : Ready n cap r.tables at.used h.tables
  pub first : at.first ≡ h.first
  pub within : at.first ≤ n
  pub freed : at.freed ≡ h.freed

-- the log row has the entries xs, of addresses below n, and zeros after them
pub record Logged (n : ℕ) (log : List ℕ) (len : ℕ) (xs : List Transaction) : Type 0 where
  pub count : len ≡ length xs
  pub fits : 2 * len ≤ length log
  pub row : log ≡ pad (length log) (words xs)
  pub small : (i : ℕ) → i < len → get_or log (2 * i + 1) 0 < n

-- all rows are the heap h of these sizes, where the batch stands; the work row is scratch
pub record Whole (s : Sizes) (r : Lent) (at : State) (h : Heap) : Type 0 where
  pub limits : Limits s
  pub rows : Rows s.n s.cap (heap_rows r) at h
  pub logged : Logged s.n r.log at.len h.log
  pub log_long : length r.log ≡ 2 * s.l
  pub variables_are : r.variables ≡ map variable_of h.shape.variables
  pub held_inside : (v a : ℕ) → get_or h.shape.variables v none ≡ some a → a < s.n
  pub work_long : length r.work ≡ s.n

-- where a batch starts: the log is empty
abbrev pub start_of : Head → State
start_of h = record { len = 0; first = h.free; used = record { zct = h.zct; mrt = h.mrt }; freed = 0 }
