-- Reclaiming as the code does it: a cell freed, the scan of ZCT for one with no mark, the turns. Assumes nothing.
use Rattle.std.specs.Prelude.{ℕ, ◌+◌, ◌≤◌, ◌<◌, ◌≡◌, cond, List, ◌++◌, ltb, length, take, get_or}
use Rattle.std.specs.Prelude as code
use Rattle.std.proofs.Math.Option.{Option}
use Rattle.rules.specs.declared.State.{State}
use Rattle.rules.specs.declared.Field.{Field}
use Rattle.rules.specs.declared.Field.TheVariants.{Nothing, Figure, Cell, Free}
use Rattle.rules.specs.Table.{Ascending}
use Rattle.rules.specs.Heap.{Tables, Heap, field}
use Rattle.rules.specs.Rules.{leave_zct, replay}
use Rattle.rules.specs.Call.{drops}
use Rattle.rules.specs.Settle.{free_cell, reclaim}
use Rattle.rules.specs.Rows.{HeapRows}
use Rattle.rules.specs.Whole.{Rows}
use Rattle.cells.specs.Marks.{Marks}

-- the smaller of low and the cell that a field names
abbrev pub low_to : ℕ → Field → ℕ
low_to low Nothing = low
low_to low (Figure x) = low
low_to low (Cell b) = cond (ltb b low) b low
low_to low (Free b) = low

-- the tables without a in ZCT, and with what its fields x and y name let go
abbrev pub released : ℕ → ℕ → Field → Field → Tables → Tables
released cap a x y t = replay cap (drops x ++ drops y) (leave_zct a t)

-- the rows are some heap, and not too many cells were freed to count one more
pub record Heaped (cap : ℕ) (r : HeapRows) (at : State) : Type 0 where
  pub heap : Heap
  pub rows : Rows (length r.tables.zct) cap r at heap
  pub few : at.freed ≤ 2000000

-- the rows are h with a freed, and low is a or the smaller of the cells that its fields named
pub record Freed (n cap : ℕ) (a : ℕ) (r : HeapRows) (at : State) (h : Heap) (o : State) (low : ℕ) : Type 0 where
  pub rows : Rows n cap r o (free_cell cap a h)
  pub len : o.len ≡ at.len
  pub lowest : low ≡ low_to (low_to a (field h.shape.fields a 0)) (field h.shape.fields a 1)

-- rows that are a heap are that heap with a freed
abbrev pub FreesOne : ℕ → ℕ → HeapRows → State → HeapRows → State → ℕ → Type 0
FreesOne cap a r at r' o low = (n : ℕ) (h : Heap) → Rows n cap r at h → Freed n cap a r' at h o low

-- ZCT's used part, with its addresses in the work row, and with a mark for each below low
pub record Scan (zs : List ℕ) (used : ℕ) (work : List ℕ) (low : ℕ) : Type 0 where
  pub fits : used ≤ length zs
  pub up : Ascending (take used zs)
  pub small : (i : ℕ) → i < used → get_or zs i 0 < length work
  pub below : (i : ℕ) → i < used → get_or zs i 0 < low → get_or work (get_or zs i 0) 0 ≡ 1

-- the first p entries have marks
abbrev pub Marked : List ℕ → List ℕ → ℕ → Type 0
Marked zs work p = (i : ℕ) → i < p → get_or work (get_or zs i 0) 0 ≡ 1

-- p is the first place of an entry with no mark
pub record Bare (zs : List ℕ) (used : ℕ) (work : List ℕ) (p : ℕ) : Type 0 where
  pub here : p < used
  pub marked : Marked zs work p
  pub bare : get_or work (get_or zs p 0) 0 ≡ 1 → ⊥

-- such a place, or none where each entry has a mark
abbrev pub Unheld : List ℕ → ℕ → List ℕ → code.Option ℕ → Type 0
Unheld zs used work (code.Some p) = Bare zs used work p
Unheld zs used work code.None = Marked zs work used

-- the rows are some heap, the work row marks some holds, and not too many cells were freed to count so many more
pub record Reclaimable (cap : ℕ) (r : HeapRows) (work : List ℕ) (at : State) (turns : ℕ) : Type 0 where
  pub heap : Heap
  pub holds : List (Option ℕ)
  pub rows : Rows (length r.tables.zct) cap r at heap
  pub marks : Marks (length r.tables.zct) work holds
  pub few : at.freed + turns ≤ 2000000

-- the rows are h after so many turns of reclaiming, each of which frees at most one cell
pub record AfterTurns (n cap : ℕ) (hs : List (Option ℕ)) (turns : ℕ) (r : HeapRows) (at : State) (h : Heap) (o : State) : Type 0 where
  pub rows : Rows n cap r o (reclaim cap hs turns h)
  pub len : o.len ≡ at.len
  pub grows : at.freed ≤ o.freed
  pub few : o.freed ≤ at.freed + turns

-- rows that are a heap are that heap after so many turns of reclaiming, where the work row's marks are what is held
abbrev pub Reclaims : ℕ → ℕ → List ℕ → HeapRows → State → HeapRows → State → Type 0
Reclaims cap turns work r at r' o = (n : ℕ) (hs : List (Option ℕ)) (h : Heap) → Rows n cap r at h → Marks n work hs → AfterTurns n cap hs turns r' at h o
