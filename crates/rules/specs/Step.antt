-- A call: settled first where it wants that, at most once, and then done; 14; a batch and its count; a fresh heap. Assumes nothing.
use Rattle.std.specs.Prelude.{ℕ, zero, suc, ◌+◌, ◌-◌, Bool, true, false, ◌||◌, List, [], ◌∷◌, ◌++◌, eqb, ltb, ℤ, pos, length, set, replicate}
use Rattle.std.proofs.Math.Option.{Option, none, some}
use Rattle.rules.specs.declared.Field.{Field}
use Rattle.rules.specs.declared.Field.TheVariants.{Nothing, Figure, Cell, Free}
use Rattle.rules.specs.declared.Deed.{Deed}
use Rattle.rules.specs.declared.Call.{Call}
use Rattle.rules.specs.declared.Call.TheVariants.{New, Do, Settle}
use Rattle.rules.specs.declared.Sizes.{Sizes}
use Rattle.rules.specs.Heap.{allocates, Shape, Heap, field, store}
use Rattle.rules.specs.Settle.{settled_by, settled}
use Rattle.rules.specs.Call.{Answer, answer, unless, check, logs, act, value, hold}

-- a heap and the answer that a call gave
pub record Stepped : Type 0 where
  pub heap : Heap
  pub answer : Answer

abbrev pub done : Heap → ℤ → Stepped
done h x = record { heap = h; answer = answer 0 x }

-- a call refused has value nought
abbrev pub refused : Heap → ℕ → Stepped
refused h k = record { heap = h; answer = answer k (pos 0) }

-- ---- the settle before a call

-- how many entries a call needs: new an allocate, a deed what it logs
abbrev pub needs : Call → Shape → ℕ
needs (New v) s = 1
needs (Do d) s = length (logs d s)
needs Settle s = 0

-- k more entries are more than the log has left
unfoldable pub full : Sizes → ℕ → Heap → Bool
full s k h = ltb s.l (length h.log + k)

-- no cell is free
unfoldable pub no_cell_free : Sizes → Heap → Bool
no_cell_free s h = eqb h.first s.n

-- a settle is also made: before a call that passed its check and needs more entries than the log has left; before a new with no free cell.
-- (A settle call is one.)
unfoldable pub wants : Sizes → Call → Heap → Bool
wants s (New v) h = full s (needs (New v) h.shape) h || no_cell_free s h
wants s (Do d) h = full s (needs (Do d) h.shape) h
wants s Settle h = true

-- the holds that the settle before a call counts: what the variables hold, but the settle made for a new does not count v's own hold
abbrev pub counted : Call → Heap → List (Option ℕ)
counted (New v) h = set h.shape.variables v none
counted (Do d) h = h.shape.variables
counted Settle h = h.shape.variables

-- a settle that counts the holds hs, made where b says so
unfoldable pub settled_if : Bool → Sizes → List (Option ℕ) → Heap → Heap
settled_if true s hs h = settled_by s hs h
settled_if false s hs h = h

-- before one call at most one such settle is made
abbrev pub settled_for : Sizes → Call → Heap → Heap
settled_for s c h = settled_if (wants s c h) s (counted c h) h

-- ---- the call itself

-- the free address after a free cell
abbrev pub after : Field → ℕ
after Nothing = 0
after (Figure x) = 0
after (Cell a) = 0
after (Free a) = a

-- takes the first free cell, both fields nothing (field 1 of a free cell is); v holds it; an allocate is added to the log
unfoldable pub take_cell : ℕ → Heap → Heap
take_cell v h =
    record {
      shape = hold (record { fields = store h.shape.fields h.first 0 Nothing; variables = h.shape.variables }) v (some h.first);
      first = after (field h.shape.fields h.first 0);
      tables = h.tables;
      log = h.log ++ (allocates h.first ∷ []);
      freed = h.freed;
    }

-- 14, new finds no free cell after its settle: where b says that there is none
unfoldable pub do_new : Bool → ℕ → Heap → Stepped
do_new true v h = refused h 14
do_new false v h = done (take_cell v h) (pos 0)

-- a deed does what the list of calls says, and adds what it logs
unfoldable pub do_deed : Deed → Heap → Stepped
do_deed d h =
    done
    (record { shape = act d h.shape; first = h.first; tables = h.tables; log = h.log ++ logs d h.shape; freed = h.freed })
    (value d h.shape)

-- the call after its settle, which freed k cells: a settle's value is that number
unfoldable pub acted : Sizes → Call → ℕ → Heap → Stepped
acted s (New v) k h = do_new (no_cell_free s h) v h
acted s (Do d) k h = do_deed d h
acted s Settle k h = done h (pos k)

-- a call that passed its check: settled first where it wants that, then done
unfoldable pub run : Sizes → Call → Heap → Stepped
run s c h = let h' = settled_for s c h in acted s c (h'.freed - h.freed) h'

-- the order is 11, then 12, 13 and 15, then the call itself
unfoldable pub step : Sizes → Call → Heap → Stepped
step s c h = unless (check c h.shape) (refused h) (run s c h)

-- ---- a batch

-- a heap and the answers that a batch gave
pub record Result : Type 0 where
  pub heap : Heap
  pub answers : List Answer

-- the calls one after the other; a settle is made at the end, of an empty batch too
unfoldable pub calls : Sizes → List Call → Heap → Result
calls s [] h = record { heap = settled s h; answers = [] }
calls s (c ∷ cs) h =
    let o = step s c h in
    let r = calls s cs o.heap in
    record { heap = r.heap; answers = o.answer ∷ r.answers }

-- no cell freed yet
abbrev pub unfreed : Heap → Heap
unfreed h = record { shape = h.shape; first = h.first; tables = h.tables; log = h.log; freed = 0 }

-- a batch counts the cells freed by all its settles
unfoldable pub batch : Sizes → List Call → Heap → Result
batch s cs h = calls s cs (unfreed h)

-- ---- a fresh heap

-- k cells free from a on, in their order
unfoldable pub free_from : ℕ → ℕ → List Field
free_from a zero = []
free_from a (suc k) = Free (suc a) ∷ Nothing ∷ free_from (suc a) k

-- a fresh heap has all cells free in the order 0, 1, .. n-1, and no variable holds anything
unfoldable pub fresh : Sizes → Heap
fresh s =
    record {
      shape = record { fields = free_from 0 s.n; variables = replicate s.m none };
      first = 0;
      tables = record { zct = []; mrt = [] };
      log = [];
      freed = 0;
    }
