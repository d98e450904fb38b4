-- A settle on all rows. Assumes nothing.
use Rattle.std.specs.Prelude.{ℕ, ◌+◌, ◌≤◌, ◌≡◌, Bool, cond, List, map, length, replicate, ℤ}
use Rattle.std.proofs.Math.Option.{Option}
use Rattle.rules.specs.declared.Call.{Call}
use Rattle.rules.specs.declared.Sizes.{Sizes}
use Rattle.rules.specs.declared.State.{State}
use Rattle.rules.specs.Field.{variable_of}
use Rattle.rules.specs.Heap.{Heap}
use Rattle.rules.specs.Settle.{settled_by}
use Rattle.rules.specs.Call.{Fits}
use Rattle.rules.specs.Step.{counted, settled_if}
use Rattle.rules.specs.Rows.{Lent}
use Rattle.rules.specs.Whole.{Whole}

-- the rows with vs for the variables
abbrev pub holding : List ℤ → Lent → Lent
holding vs r = record { kinds = r.kinds; values = r.values; variables = vs; tables = r.tables; log = r.log; work = r.work }

-- all rows are some heap, with some variables of its own; the row of variables that is lent is some holds, which are counted: those or others
pub record Settleable (s : Sizes) (r : Lent) (at : State) : Type 0 where
  pub heap : Heap
  pub own : List ℤ
  pub holds : List (Option ℕ)
  pub whole : Whole s (holding own r) at heap
  pub counted : r.variables ≡ map variable_of holds
  pub few : at.freed ≤ 1000000

-- all rows are h after a settle that counts hs, which freed at most n cells, and the work row is zero
pub record Settled (s : Sizes) (hs : List (Option ℕ)) (r : Lent) (at : State) (h : Heap) (o : State) : Type 0 where
  pub whole : Whole s r o (settled_by s hs h)
  pub grows : at.freed ≤ o.freed
  pub few : o.freed ≤ at.freed + s.n
  pub work_zero : r.work ≡ replicate s.n 0

-- rows that are a heap are that heap after a settle, which counts the row of variables that is lent
abbrev pub Settles : Sizes → Lent → State → Lent → State → Type 0
Settles s r at r' o = (own : List ℤ) (hs : List (Option ℕ)) (h : Heap) → Whole s (holding own r) at h → r.variables ≡ map variable_of hs → Settled s hs (holding own r') at h o

-- ---- the settle before a call

-- all rows are some heap, and a settle can be made before this call
pub record Roomable (c : Call) (s : Sizes) (r : Lent) (at : State) : Type 0 where
  pub heap : Heap
  pub whole : Whole s r at heap
  pub fits : Fits (length r.variables) c
  pub few : at.freed ≤ 1000000

-- all rows are h, after the settle that counts the holds hs where make says so; the work row is zero where one was made, else as it was
pub record RoomMade (make : Bool) (s : Sizes) (hs : List (Option ℕ)) (r : Lent) (at : State) (h : Heap) (r' : Lent) (o : State) : Type 0 where
  pub whole : Whole s r' o (settled_if make s hs h)
  pub grows : at.freed ≤ o.freed
  pub few : o.freed ≤ at.freed + s.n
  pub work_is : r'.work ≡ cond make (replicate s.n 0) r.work

-- rows that are a heap are that heap, where make says so after a settle that counts what a settle before this call counts
abbrev pub MakesRoom : Call → Bool → Sizes → Lent → State → Lent → State → Type 0
MakesRoom c make s r at r' o = (h : Heap) → Whole s r at h → RoomMade make s (counted c h) r at h r' o
