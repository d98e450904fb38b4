-- A call as it is worked on the rows, and a batch of them. Assumes nothing.
use Rattle.std.specs.Prelude.{ℕ, ◌+◌, ◌*◌, ◌≤◌, ◌≡◌, List, length, set, ℤ, pos, Result}
use Rattle.std.proofs.Math.Option.{some}
use Rattle.rules.specs.declared.Head.{Head}
use Rattle.rules.specs.declared.Call.{Call}
use Rattle.rules.specs.declared.Refusal.{Refusal}
use Rattle.rules.specs.declared.Sizes.{Sizes}
use Rattle.rules.specs.declared.State.{State}
use Rattle.rules.specs.Heap.{Heap}
use Rattle.rules.specs.Call.{calls_in, Answer, answer_of}
use Rattle.rules.specs.Step.{Stepped, step, calls}
use Rattle.rules.specs.Rows.{Lent, rows_of, head_of}
use Rattle.rules.specs.Whole.{Whole, start_of}
use Rattle.rules.specs.Refusals.{Numbers, outcome, answered}
use Rattle.rules.specs.Invariant.{Inv}
use Rattle.words.specs.Words.{call_at}

-- all rows are the heap h, which has the invariant
pub record Standing (s : Sizes) (r : Lent) (at : State) (h : Heap) : Type 0 where
  pub whole : Whole s r at h
  pub inv : Inv s h

-- ---- a call

-- a call can be worked here, from the start of these words
pub record Workable (s : Sizes) (ws : List ℤ) (r : Lent) (at : State) : Type 0 where
  pub long : 4 ≤ length ws
  pub heap : Heap
  pub standing : Standing s r at heap
  pub few : at.freed ≤ 1000000

-- a call was worked: the rows and the answer are those of o, and at most 1,024 cells were freed
pub record Answered (s : Sizes) (r : Lent) (at : State) (o : Stepped) (at' : State) (a : Result ℤ Refusal) : Type 0 where
  pub standing : Standing s r at' o.heap
  pub answer : answer_of a ≡ o.answer
  pub few : at'.freed ≤ at.freed + 1024

-- rows that are a heap are what the call at the start of the words makes of it, with its answer
abbrev pub Works : Sizes → List ℤ → Lent → State → Lent → State → Result ℤ Refusal → Type 0
Works s ws r at r' at' a = (c : Call) (h : Heap) → call_at s.m ws 0 ≡ some c → Standing s r at h → Answered s r' at (step s c h) at' a

-- an answers row with the answer of call i: its status and its value
abbrev pub answering : ℕ → Answer → List ℤ → List ℤ
answering i a row = set (set row (2 * i) (pos a.status)) (2 * i + 1) a.value

-- ---- a batch

-- the words are a batch that can be worked here: its answers have room
pub record Runnable (h : Head) (ws : List ℤ) (r : Lent) (row : List ℤ) : Type 0 where
  pub list : List Call
  pub are : calls_in h.sizes.m ws ≡ some list
  pub room : 2 * length list ≤ length row
  pub heap : Heap
  pub standing : Standing h.sizes r (start_of h) heap

-- what a batch returns that ended here
abbrev pub ended_at : Sizes → State → Numbers
ended_at s at = outcome 0 (record { sizes = s; free = at.first; zct = at.used.zct; mrt = at.used.mrt }) at.freed

-- a batch was worked whole: rows, head, count and answers are those of the rules
pub record ByTheRules (s : Sizes) (ds : List Call) (h : Heap) (r : Lent) (row row' : List ℤ) (o : Numbers) : Type 0 where
  pub rows : r ≡ rows_of s (calls s ds h).heap
  pub is : o ≡ outcome 0 (head_of s (calls s ds h).heap) (calls s ds h).heap.freed
  pub answers : row' ≡ answered (calls s ds h).answers row

-- rows that are a heap are what the batch in the words makes of it, with its head, its count and its answers
abbrev pub Runs : Head → List ℤ → Lent → List ℤ → Lent → List ℤ → Numbers → Type 0
Runs h ws r row r' row' o =
    (ds : List Call) (k : Heap) → calls_in h.sizes.m ws ≡ some ds → Standing h.sizes r (start_of h) k → ByTheRules h.sizes ds k r' row row' o
