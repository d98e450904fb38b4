-- What a call leaves in the rows, and what is needed for it. Assumes nothing.
use Rattle.std.specs.Prelude.{ℕ, ◌+◌, ◌*◌, ◌<◌, ◌≤◌, ◌≡◌, List, ◌++◌, length, ℤ, Result}
use Rattle.rules.specs.declared.Call.{Call}
use Rattle.rules.specs.declared.Deed.{Deed}
use Rattle.rules.specs.declared.Field.{Field}
use Rattle.rules.specs.declared.Refusal.{Refusal}
use Rattle.rules.specs.declared.Sizes.{Sizes}
use Rattle.rules.specs.declared.State.{State}
use Rattle.rules.specs.Heap.{Transaction, Shape, Heap}
use Rattle.rules.specs.Call.{drops, Fits, var, at, is_held, want, check, write, to_cell, makes, answer_of}
use Rattle.rules.specs.Step.{Stepped, needs, do_deed}
use Rattle.rules.specs.Rows.{TableRows, CallRows, Lent, beside}
use Rattle.rules.specs.Whole.{Inside, Logged, Whole}
use Rattle.before.specs.Seen.{Shown}

-- the rows are the heap of o, where the batch stands, and the answer is o's
pub record Did (s : Sizes) (r : Lent) (st : State) (o : Stepped) (result : Result ℤ Refusal) : Type 0 where
  pub whole : Whole s r st o.heap
  pub answered : answer_of result ≡ o.answer

-- rows that are a heap are what f makes of it, with f's answer; the tables' rows and the work row stay
abbrev pub Does : Sizes → (Heap → Stepped) → CallRows → State → CallRows → State → Result ℤ Refusal → Type 0
Does s f r st r' st' result = (t : TableRows) (work : List ℕ) (h : Heap) → Whole s (beside t work r) st h → Did s (beside t work r') st' (f h) result

-- rows that are a heap are what the deed makes of it
abbrev pub Changes : Sizes → Deed → CallRows → State → CallRows → State → Type 0
Changes s d r st r' st' = (t : TableRows) (work : List ℕ) (h : Heap) → Whole s (beside t work r) st h → Whole s (beside t work r') st' (do_deed d h).heap

-- the rows of cells and the log, after a field was written
pub record Wrote (n : ℕ) (r : CallRows) (len : ℕ) (s : Shape) (ts : List Transaction) : Type 0 where
  pub shown : Shown n r s
  pub logged : Logged n r.log len ts

-- rows that are a shape and a log's entries are those with field f of v's cell x, and a destroy for its old target
abbrev pub Writes : ℕ → ℕ → Field → CallRows → ℕ → CallRows → ℕ → Type 0
Writes v f x r len r' len' =
    (n : ℕ) (s : Shape) (ts : List Transaction) → Shown n r s → Logged n r.log len ts → Wrote n r' len' (write s v f x) (ts ++ drops (at s v f))

-- rows that are a shape and a log's entries are those with field f of v's cell w's cell, a destroy for its old target, and a create
abbrev pub Links : ℕ → ℕ → ℕ → CallRows → ℕ → CallRows → ℕ → Type 0
Links v f w r len r' len' =
    (n : ℕ) (s : Shape) (ts : List Transaction) → Shown n r s → Logged n r.log len ts
    → Wrote n r' len' (write s v f (to_cell (var s w))) (ts ++ (drops (at s v f) ++ makes (var s w)))

-- field f of v's cell can be written with x
pub record Writable (v f : ℕ) (x : Field) (r : CallRows) (len : ℕ) : Type 0 where
  pub n : ℕ
  pub most : n ≤ 1024
  pub shape : Shape
  pub shown : Shown n r shape
  pub v_below : v < length r.variables
  pub f_below : f < 2
  pub inside : Inside n x
  pub room : 2 * (len + length (drops (at shape v f))) ≤ length r.log

-- it can be linked to w's cell
pub record Linkable (v f w : ℕ) (r : CallRows) (len : ℕ) : Type 0 where
  pub n : ℕ
  pub most : n ≤ 1024
  pub shape : Shape
  pub shown : Shown n r shape
  pub v_below : v < length r.variables
  pub f_below : f < 2
  pub w_below : w < length r.variables
  pub held_w : want (is_held (var shape w)) 11 ≡ 0
  pub list : List Transaction
  pub logged : Logged n r.log len list
  pub room : 2 * (len + (length (drops (at shape v f)) + 1)) ≤ length r.log

-- the first free cell, if there is one, can be taken for v
pub record Takeable (n v : ℕ) (r : CallRows) (st : State) : Type 0 where
  pub most : n ≤ 1024
  pub within : st.first ≤ n
  pub kinds_long : length r.kinds ≡ 2 * n
  pub values_long : length r.values ≡ 2 * n
  pub v_below : v < length r.variables
  pub room : 2 * (st.len + 1) ≤ length r.log

-- the call can be done: with some tables' rows and a work row the rows are some heap; it is not refused there, and there is room in the log
pub record Able (s : Sizes) (c : Call) (r : CallRows) (st : State) : Type 0 where
  pub tables : TableRows
  pub work : List ℕ
  pub heap : Heap
  pub whole : Whole s (beside tables work r) st heap
  pub fits : Fits (length r.variables) c
  pub right : check c heap.shape ≡ 0
  pub room : 2 * (st.len + needs c heap.shape) ≤ length r.log
