-- Heaps that cheat at what they refuse. Assumes nothing.
use Rattle.std.specs.Prelude.{ℕ, ◌-◌, Bool, false, cond, ◌||◌, List, [], ◌∷◌, eqb, pos, length, take, replicate}
use Rattle.rules.specs.declared.Sizes.{Sizes}
use Rattle.rules.specs.declared.Deed.TheVariants.{Copy, Clear, Link, Put, Blank, Follow, Read, Same}
use Rattle.rules.specs.declared.Call.{Call}
use Rattle.rules.specs.declared.Call.TheVariants.{New, Do, Settle}
use Rattle.rules.specs.Head.{fresh_head}
use Rattle.rules.specs.Heap.{Heap}
use Rattle.rules.specs.Settle.{settled}
use Rattle.rules.specs.Call.{Answer, answer}
use Rattle.rules.specs.Step.{Stepped, refused, step, fresh}
use Rattle.rules.specs.Rows.{rows_of}
use Rattle.rules.specs.Refusals.{outcome, leaves, leaves_with, cleared, fresh_of, audit_of, batch_of}
use Rattle.rules.specs.Run.{Heaps}
use Rattle.worthless.specs.Forms.{with_fresh, with_audit, with_batch, where_said, with_rows, with_status, with_work, with_variables, operation, saying_all, saying, calls_by, working}

-- ---- a batch

-- 4 to all
abbrev pub says_four : Heaps
says_four = with_batch (λ h r ws row. leaves_with (outcome 4 h 0) (cleared h r) row)

-- the number j for k
abbrev pub says_for_number : ℕ → ℕ → Heaps
says_for_number j k = where_said k (with_status j)

-- the variables are gone after refusal k
abbrev pub clears_at : ℕ → Heaps
clears_at k = where_said k (with_rows (with_variables []))

-- the work row is not cleared at 4
abbrev pub keeps_work_at_four : Heaps
keeps_work_at_four = with_batch (λ h r ws row. let o = batch_of h r ws row in cond (eqb o.outcome.status 4) (leaves_with o.outcome r row) o)

-- a number of its own for a batch that nothing refuses
abbrev pub refuses_more : Heaps
refuses_more = says_for_number 5 0

-- the work row is not zero afterwards
abbrev pub leaves_work : Heaps
leaves_work = where_said 0 (with_rows (λ r. with_work (replicate (length r.work) 1) r))

-- answers past the last call are written too
abbrev pub writes_past : Heaps
writes_past = with_batch (λ h r ws row. let o = batch_of h r ws row in cond (eqb o.outcome.status 0) (batch_of h r ws (replicate (length row) (pos 0))) o)

-- the answers row is cut after the last call
abbrev pub cuts_answers : Heaps
cuts_answers = with_batch (λ h r ws row. let o = batch_of h r ws row in cond (eqb o.outcome.status 0) (leaves_with o.outcome o.rows (take (length row - 1) o.answers)) o)

-- everything is forgotten: a fresh heap is left, answers are ours
abbrev pub forgets : Heaps
forgets =
    with_batch (λ h r ws row.
    let o = batch_of h r ws row in
    let s = h.sizes in
    cond (eqb o.outcome.status 0) (leaves_with (outcome 0 (fresh_head s) o.outcome.count) (rows_of s (fresh s)) o.answers) o)

-- ---- a call

-- the status j for k
abbrev pub says_for : ℕ → ℕ → Heaps
says_for j k = saying (λ r c a. answer (cond (eqb a.status k) j a.status) a.value)

-- 13 for a field that holds nothing, as before request A2
abbrev pub thirteen_for_nothing : Heaps
thirteen_for_nothing = says_for 13 15

-- 15 for a field that holds a cell
abbrev pub fifteen_for_cell : Heaps
fifteen_for_cell = says_for 15 13

-- 15 before 11: for a variable that holds nothing
abbrev pub fifteen_for_eleven : Heaps
fifteen_for_eleven = says_for 15 11

-- 0 for 11
abbrev pub nought_for_eleven : Heaps
nought_for_eleven = says_for 0 11

-- a follow that answers 15
abbrev pub fifteen_for_twelve : Heaps
fifteen_for_twelve = says_for 15 12

-- a refused call has a value
abbrev pub refused_with_value : Heaps
refused_with_value = saying (λ r c a. answer a.status (cond (eqb a.status 11) (pos 1) a.value))

-- a copy has a value
abbrev pub copy_with_value : Heaps
copy_with_value = saying (λ r c a. cond (eqb (operation c) 2) (answer a.status (pos 7)) a)

-- the answers after a call refused with 11 are others, or those before it
abbrev pub changed_after : Bool → List Answer → List Answer
changed_after b [] = []
changed_after b (a ∷ as') = cond b (answer a.status (pos 7)) a ∷ changed_after (b || eqb a.status 11) as'

abbrev pub answers_after_eleven : Heaps
answers_after_eleven = saying_all (λ r cs as'. changed_after false as')

abbrev pub any_eleven : List Answer → Bool
any_eleven [] = false
any_eleven (a ∷ as') = eqb a.status 11 || any_eleven as'

abbrev pub changed_before : List Answer → List Answer
changed_before [] = []
changed_before (a ∷ as') = cond (any_eleven as') (answer a.status (pos 7)) a ∷ changed_before as'

abbrev pub answers_before_eleven : Heaps
answers_before_eleven = saying_all (λ r cs as'. changed_before as')

-- every link is refused with 11
abbrev pub refuses_links : Heaps
refuses_links = working (calls_by (λ s c h. cond (eqb (operation c) 4) (refused h 11) (step s c h)) settled)

-- the variable that a refused call names first
abbrev pub named : Call → ℕ
named (New v) = v
named (Do (Copy v w)) = v
named (Do (Clear v)) = v
named (Do (Link v f w)) = v
named (Do (Put v f x)) = v
named (Do (Blank v f)) = v
named (Do (Follow v f w)) = v
named (Do (Read v f)) = v
named (Do (Same v w)) = v
named Settle = 0

-- a call refused with k has changed the heap by f
abbrev pub step_refused : ℕ → (Sizes → Call → Heap → Heap) → Sizes → Call → Heap → Stepped
step_refused k f s c h = let o = step s c h in cond (eqb o.answer.status k) (record { heap = f s c o.heap; answer = o.answer }) o

-- a read that finds nothing lets go of its variable
abbrev pub clears_at_fifteen : Heaps
clears_at_fifteen = working (calls_by (step_refused 15 (λ s c h. (step s (Do (Clear (named c))) h).heap)) settled)

-- a call refused with 11 settles
abbrev pub settles_at_eleven : Heaps
settles_at_eleven = working (calls_by (step_refused 11 (λ s c h. settled s h)) settled)

-- ---- fresh and audit

-- a fresh heap with the work row as it was lent
abbrev pub fresh_work : Heaps
fresh_work = with_fresh (λ s r. let o = fresh_of s r in cond (eqb o.outcome.status 0) (leaves o.outcome (with_work r.work o.rows)) o)

-- a refused fresh call returns a head of its sizes
abbrev pub fresh_head_kept : Heaps
fresh_head_kept = with_fresh (λ s r. let o = fresh_of s r in cond (eqb o.outcome.status 1) (leaves (outcome 1 (fresh_head s) 0) o.rows) o)

-- an audit that says yes and leaves the work row
abbrev pub audit_work : Heaps
audit_work = with_audit (λ h r. let o = audit_of h r in cond (eqb o.outcome.status 0) (leaves o.outcome r) o)

-- one that says no and leaves it
abbrev pub audit_work_at_four : Heaps
audit_work_at_four = with_audit (λ h r. let o = audit_of h r in cond (eqb o.outcome.status 4) (leaves o.outcome r) o)

-- one that clears it at 1
abbrev pub audit_clears_at_one : Heaps
audit_clears_at_one = with_audit (λ h r. let o = audit_of h r in cond (eqb o.outcome.status 1) (leaves o.outcome (cleared h r)) o)

-- one that says no to all
abbrev pub audit_no : Heaps
audit_no = with_audit (λ h r. let o = audit_of h r in cond (eqb o.outcome.status 0) (leaves (outcome 4 h 0) o.rows) o)

-- one that says yes to all
abbrev pub audit_yes : Heaps
audit_yes = with_audit (λ h r. let o = audit_of h r in cond (eqb o.outcome.status 4) (leaves (outcome 0 h 0) o.rows) o)
