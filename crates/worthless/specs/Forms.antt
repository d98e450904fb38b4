-- How a heap that cheats is written down: ours with one thing changed. Assumes nothing.
use Rattle.std.specs.Prelude.{ℕ, ◌-◌, cond, List, [], ◌∷◌, eqb, ℤ}
use Rattle.std.proofs.Math.Option.{Option, none, some}
use Rattle.rules.specs.declared.Head.{Head}
use Rattle.rules.specs.declared.Sizes.{Sizes}
use Rattle.rules.specs.declared.Deed.{Deed}
use Rattle.rules.specs.declared.Deed.TheVariants.{Copy, Clear, Link, Put, Blank, Follow, Read, Same}
use Rattle.rules.specs.declared.Call.{Call}
use Rattle.rules.specs.declared.Call.TheVariants.{New, Do, Settle}
use Rattle.rules.specs.Heap.{Heap}
use Rattle.rules.specs.Call.{Answer, unless, check, calls_in}
use Rattle.rules.specs.Step.{Stepped, refused, wants, counted, acted, Result, batch}
use Rattle.rules.specs.Rows.{Lent, lent, rows_of, head_of, heap_of}
use Rattle.rules.specs.Refusals.{After, Batched, outcome, leaves_with, answered, fresh_of, audit_of, batch_of}
use Rattle.rules.specs.Run.{Heaps}

abbrev pub with_fresh : (Sizes → Lent → After) → Heaps
with_fresh f = record { fresh = f; audit = audit_of; batch = batch_of }

abbrev pub with_audit : (Head → Lent → After) → Heaps
with_audit a = record { fresh = fresh_of; audit = a; batch = batch_of }

abbrev pub with_batch : (Head → Lent → List ℤ → List ℤ → Batched) → Heaps
with_batch b = record { fresh = fresh_of; audit = audit_of; batch = b }

-- ---- outcomes changed

-- where ours says k, what it leaves is changed
abbrev pub where_said : ℕ → (Batched → Batched) → Heaps
where_said k f = with_batch (λ h r ws row. let o = batch_of h r ws row in cond (eqb o.outcome.status k) (f o) o)

abbrev pub with_rows : (Lent → Lent) → Batched → Batched
with_rows f o = leaves_with o.outcome (f o.rows) o.answers

abbrev pub with_status : ℕ → Batched → Batched
with_status k o = leaves_with (outcome k o.outcome.head o.outcome.count) o.rows o.answers

abbrev pub with_work : List ℕ → Lent → Lent
with_work w r = lent r.kinds r.values r.variables r.tables.zct r.tables.mrt r.tables.counts r.log w

abbrev pub with_log : List ℕ → Lent → Lent
with_log l r = lent r.kinds r.values r.variables r.tables.zct r.tables.mrt r.tables.counts l r.work

abbrev pub with_counts : List ℕ → Lent → Lent
with_counts c r = lent r.kinds r.values r.variables r.tables.zct r.tables.mrt c r.log r.work

abbrev pub with_variables : List ℤ → Lent → Lent
with_variables v r = lent r.kinds r.values v r.tables.zct r.tables.mrt r.tables.counts r.log r.work

abbrev pub with_values : List ℤ → Lent → Lent
with_values x r = lent r.kinds x r.variables r.tables.zct r.tables.mrt r.tables.counts r.log r.work

abbrev pub with_kinds : List ℕ → Lent → Lent
with_kinds k r = lent k r.values r.variables r.tables.zct r.tables.mrt r.tables.counts r.log r.work

abbrev pub with_zct : List ℕ → Lent → Lent
with_zct z r = lent r.kinds r.values r.variables z r.tables.mrt r.tables.counts r.log r.work

-- ---- answers changed

-- all answers through a function of the rows left and the calls; past the last call they stay
abbrev pub answers_left : (Lent → List Call → List Answer → List Answer) → Head → Lent → Option (List Call) → List ℤ → Batched → Batched
answers_left f h r none row o = o
answers_left f h r (some cs) row o = leaves_with o.outcome o.rows (answered (f o.rows cs (batch h.sizes cs (heap_of h r)).answers) row)

abbrev pub saying_all : (Lent → List Call → List Answer → List Answer) → Heaps
saying_all f = with_batch (λ h r ws row. let o = batch_of h r ws row in cond (eqb o.outcome.status 0) (answers_left f h r (calls_in h.sizes.m ws) row o) o)

-- each call's answer through a function
abbrev pub each : (Call → Answer → Answer) → List Call → List Answer → List Answer
each f [] as' = []
each f (c ∷ cs) [] = []
each f (c ∷ cs) (a ∷ as') = f c a ∷ each f cs as'

abbrev pub saying : (Lent → Call → Answer → Answer) → Heaps
saying f = saying_all (λ r. each (f r))

-- which call it is, by its number in the list of calls
abbrev pub deed_number : Deed → ℕ
deed_number (Copy v w) = 2
deed_number (Clear v) = 3
deed_number (Link v f w) = 4
deed_number (Put v f x) = 5
deed_number (Blank v f) = 6
deed_number (Follow v f w) = 7
deed_number (Read v f) = 8
deed_number (Same v w) = 9

abbrev pub operation : Call → ℕ
operation (New v) = 1
operation (Do d) = deed_number d
operation Settle = 10

-- ---- calls worked otherwise

-- the calls, with another step d, and another settle f at the end
abbrev pub calls_by : (Sizes → Call → Heap → Stepped) → (Sizes → Heap → Heap) → Sizes → List Call → Heap → Result
calls_by d f s [] h = record { heap = f s h; answers = [] }
calls_by d f s (c ∷ cs) h =
    let o = d s c h in
    let r = calls_by d f s cs o.heap in
    record { heap = r.heap; answers = o.answer ∷ r.answers }

-- what is left where ours accepts the calls
abbrev pub left_by : (Sizes → List Call → Heap → Result) → Head → Lent → Option (List Call) → List ℤ → Batched → Batched
left_by w h r none row o = o
left_by w h r (some cs) row o =
    let s = h.sizes in
    let b = w s cs (heap_of h r) in
    leaves_with (outcome 0 (head_of s b.heap) b.heap.freed) (rows_of s b.heap) (answered b.answers row)

abbrev pub working : (Sizes → List Call → Heap → Result) → Heaps
working w = with_batch (λ h r ws row. let o = batch_of h r ws row in cond (eqb o.outcome.status 0) (left_by w h r (calls_in h.sizes.m ws) row o) o)

-- the step, with another settle f before a call and at the call settle
abbrev pub step_by : (Sizes → List (Option ℕ) → Heap → Heap) → Sizes → Call → Heap → Stepped
step_by f s c h =
    let k = cond (wants s c h) (f s (counted c h) h) h in
    unless (check c h.shape) (refused h) (acted s c (k.freed - h.freed) k)

-- EVERY settle is another: before calls, the call settle, and at the end
abbrev pub settling : (Sizes → List (Option ℕ) → Heap → Heap) → Heaps
settling f = working (calls_by (step_by f) (λ s h. f s h.shape.variables h))
