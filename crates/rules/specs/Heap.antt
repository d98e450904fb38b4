-- A heap: its tables and its log, the fields of its cells, what its variables hold. Assumes nothing.
use Rattle.std.specs.Prelude.{ℕ, ◌+◌, ◌*◌, List, get_or, set}
use Rattle.std.proofs.Math.Option.{Option}
use Rattle.rules.specs.declared.Field.{Field}
use Rattle.rules.specs.declared.Field.TheVariants.{Nothing}
use Rattle.rules.specs.Table.{Entry}

-- the zero count table and the multireference table
pub record Tables : Type 0 where
  pub zct : List ℕ
  pub mrt : List Entry

-- an entry of the log
pub data Transaction : Type 0 where
  allocates creates destroys : ℕ → Transaction

-- what can be seen through calls: the fields of the cells, and what the variables hold. The endless heap has nothing else
pub record Shape : Type 0 where
  pub fields : List Field
  pub variables : List (Option ℕ)

-- a heap, also in the middle of a batch; `freed` counts the cells freed so far in the batch
pub record Heap : Type 0 where
  pub shape : Shape
  pub first : ℕ
  pub tables : Tables
  pub log : List Transaction
  pub freed : ℕ

-- cell a has fields 0 and 1 at places 2a and 2a+1
unfoldable pub place : ℕ → ℕ → ℕ
place a f = 2 * a + f

unfoldable pub field : List Field → ℕ → ℕ → Field
field fs a f = get_or fs (place a f) Nothing

unfoldable pub store : List Field → ℕ → ℕ → Field → List Field
store fs a f x = set fs (place a f) x
