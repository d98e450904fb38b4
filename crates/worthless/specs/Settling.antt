-- Heaps that cheat at a settle, at its count, or at a new. Assumes nothing.
use Rattle.std.specs.Prelude.{ℕ, zero, suc, ◌*◌, ◌-◌, Bool, true, false, cond, not, ◌&&◌, List, [], ◌∷◌, ◌++◌, map, eqb, ltb, pos, negsuc, get_or, set, drop}
use Rattle.std.proofs.Math.Option.{Option, none, some}
use Rattle.rules.specs.declared.Field.{Field}
use Rattle.rules.specs.declared.Field.TheVariants.{Nothing, Figure, Cell, Free}
use Rattle.rules.specs.declared.Sizes.{Sizes}
use Rattle.rules.specs.declared.Deed.TheVariants.{Clear}
use Rattle.rules.specs.declared.Call.{Call}
use Rattle.rules.specs.declared.Call.TheVariants.{New, Do, Settle}
use Rattle.rules.specs.Head.{sized}
use Rattle.rules.specs.Field.{address_of}
use Rattle.rules.specs.Table.{count_in}
use Rattle.rules.specs.Heap.{Tables, Transaction, allocates, creates, destroys, Heap, field, store}
use Rattle.rules.specs.Rules.{enter_zct, leave_zct, enter_mrt, leave_mrt, apply}
use Rattle.rules.specs.Settle.{holds, pick, on_pick, free_cell, reclaim, replayed, settled_by, settled}
use Rattle.rules.specs.Call.{var, check, same_cell, unless, hold}
use Rattle.rules.specs.Step.{Stepped, done, refused, no_cell_free, wants, counted, settled_if, settled_for, after, acted, Result, step, unfreed}
use Rattle.rules.specs.Invariant.{live, lives}
use Rattle.rules.specs.Sound.{pointers_to}
use Rattle.rules.specs.Refusals.{outcome, leaves_with}
use Rattle.rules.specs.Rows.{Lent}
use Rattle.rules.specs.Run.{Heaps}
use Rattle.worthless.specs.Forms.{where_said, with_rows, with_log, with_counts, with_variables, with_values, with_kinds, calls_by, working, step_by, settling}

-- ---- what a settle frees

-- nothing: it only replays
abbrev pub replays : Sizes → List (Option ℕ) → Heap → Heap
replays s hs h = replayed s.cap h

abbrev pub frees_nothing : Heaps
frees_nothing = settling replays

-- what it is to, while b says so
abbrev pub settles_while : Bool → Sizes → List (Option ℕ) → Heap → Heap
settles_while b s hs h = cond b (settled_by s hs h) (replays s hs h)

-- at the first settle, and then it pretends
abbrev pub calls_once : Bool → Sizes → List Call → Heap → Result
calls_once b s [] h = record { heap = settles_while b s h.shape.variables h; answers = [] }
calls_once b s (c ∷ cs) h =
    let o = step_by (settles_while b) s c h in
    let r = calls_once (b && not (eqb (check c h.shape) 0 && wants s c h)) s cs o.heap in
    record { heap = r.heap; answers = o.answer ∷ r.answers }

-- the first settle is the first of a batch that finds no cell in use
abbrev pub frees_once : Heaps
frees_once = working (λ s cs h. calls_once (eqb (lives h.shape.fields) 0) s cs h)

-- it enters the cells in MRT at the cap instead
abbrev pub pin_all : ℕ → List (Option ℕ) → List ℕ → Tables → Tables
pin_all cap hs [] t = t
pin_all cap hs (a ∷ z) t = pin_all cap hs z (cond (holds a hs) t (enter_mrt a cap (leave_zct a t)))

abbrev pub pinned : Sizes → List (Option ℕ) → Heap → Heap
pinned s hs h =
    let k = replayed s.cap h in
    record { shape = k.shape; first = k.first; tables = pin_all s.cap hs k.tables.zct k.tables; log = k.log; freed = k.freed }

abbrev pub pins_at_the_cap : Heaps
pins_at_the_cap = settling pinned

-- cells with one pointer too: a count of 2 that is lowered comes to none
abbrev pub lowered : ℕ → Transaction → Tables → Tables
lowered cap (allocates a) t = apply cap (allocates a) t
lowered cap (creates a) t = apply cap (creates a) t
lowered cap (destroys a) t = cond (eqb (count_in a t.mrt) 2) (enter_zct a (leave_mrt a t)) (apply cap (destroys a) t)

abbrev pub replay_low : ℕ → List Transaction → Tables → Tables
replay_low cap [] t = t
replay_low cap (x ∷ xs) t = replay_low cap xs (lowered cap x t)

abbrev pub frees_pointed_to : Heaps
frees_pointed_to =
    settling (λ s hs h.
    reclaim s.cap hs s.n (record { shape = h.shape; first = h.first; tables = replay_low s.cap h.log h.tables; log = []; freed = h.freed }))

-- held cells too, and then no variable holds them
abbrev pub still_held : List Field → List (Option ℕ) → List (Option ℕ)
still_held fs [] = []
still_held fs (none ∷ vs) = none ∷ still_held fs vs
still_held fs (some a ∷ vs) = cond (live fs a) (some a) none ∷ still_held fs vs

abbrev pub settled_held : Sizes → List (Option ℕ) → Heap → Heap
settled_held s hs h =
    let k = settled_by s [] h in
    record { shape = record { fields = k.shape.fields; variables = still_held k.shape.fields k.shape.variables }; first = k.first; tables = k.tables; log = k.log; freed = k.freed }

abbrev pub frees_held : Heaps
frees_held = settling settled_held

-- the largest address first
abbrev pub or_last : Option ℕ → Option ℕ → Option ℕ
or_last none o = o
or_last (some b) o = some b

abbrev pub pick_last : List (Option ℕ) → List ℕ → Option ℕ
pick_last hs [] = none
pick_last hs (a ∷ z) = or_last (pick_last hs z) (cond (holds a hs) none (some a))

abbrev pub reclaim_last : ℕ → List (Option ℕ) → ℕ → Heap → Heap
reclaim_last cap hs zero h = h
reclaim_last cap hs (suc k) h = on_pick (pick_last hs h.tables.zct) h (λ a. reclaim_last cap hs k (free_cell cap a h))

abbrev pub frees_largest_first : Heaps
frees_largest_first = settling (λ s hs h. reclaim_last s.cap hs s.n (replayed s.cap h))

-- cell 0 too, where it points to itself and none of the holds names it
abbrev pub is_self : Field → Bool
is_self Nothing = false
is_self (Figure x) = false
is_self (Cell a) = eqb a 0
is_self (Free a) = false

abbrev pub unringed : List (Option ℕ) → Heap → Heap
unringed hs h =
    cond (is_self (field h.shape.fields 0 0) && not (holds 0 hs))
    (record { shape = record { fields = store h.shape.fields 0 0 Nothing; variables = h.shape.variables }; first = h.first; tables = h.tables; log = destroys 0 ∷ []; freed = h.freed })
    h

abbrev pub frees_rings : Heaps
frees_rings = settling (λ s hs h. settled_by s hs (unringed hs (settled_by s hs h)))

-- ---- what it leaves

-- an entry in the log
abbrev pub leaves_log : Heaps
leaves_log = where_said 0 (with_rows (λ r. with_log (1 ∷ drop 1 r.log) r))

-- counts below the cap one too high
abbrev pub counts_one_more : Heaps
counts_one_more = where_said 0 (λ o. with_rows (λ r. with_counts (map (λ c. cond (ltb 0 c && ltb c o.outcome.head.sizes.cap) (suc c) c) r.tables.counts) r) o)

-- a count at the cap, counted anew
abbrev pub recount : ℕ → (ℕ → ℕ) → List ℕ → List ℕ → List ℕ
recount cap count [] cs = []
recount cap count (a ∷ as') [] = []
recount cap count (a ∷ as') (c ∷ cs) = cond (eqb c cap && ltb 1 (count a) && ltb (count a) cap) (count a) c ∷ recount cap count as' cs

abbrev pub counts_anew : Heaps
counts_anew =
    where_said 0 (λ o.
    let s = o.outcome.head.sizes in
    with_rows (λ r. with_counts (recount s.cap (pointers_to s.n r.kinds r.values) r.tables.mrt r.tables.counts) r) o)

-- every count is at the cap
abbrev pub caps_early : Heaps
caps_early = where_said 0 (λ o. with_rows (λ r. with_counts (map (λ c. cond (ltb 0 c) o.outcome.head.sizes.cap c) r.tables.counts) r) o)

-- another cap in the head
abbrev pub changes_cap : Heaps
changes_cap =
    where_said 0 (λ o.
    let h = o.outcome.head in
    let s = h.sizes in
    leaves_with (outcome 0 (record { sizes = sized s.n s.m s.l 255; free = h.free; zct = h.zct; mrt = h.mrt }) o.outcome.count) o.rows o.answers)

-- the first two cells of the free list change places
abbrev pub turned : ℕ → ℕ → Lent → Lent
turned a b r = with_values (set (set r.values (2 * a) (get_or r.values (2 * b) (pos 0))) (2 * b) (pos a)) r

abbrev pub turns_free_list : Heaps
turns_free_list =
    where_said 0 (λ o.
    let h = o.outcome.head in
    let s = h.sizes in
    let b = address_of s.n (get_or o.rows.values (2 * h.free) (pos 0)) in
    cond (ltb h.free s.n && ltb b s.n)
    (leaves_with (outcome 0 (record { sizes = s; free = b; zct = h.zct; mrt = h.mrt }) o.outcome.count) (turned h.free b o.rows) o.answers)
    o)

-- a figure in field 1 of cell 1 is lost
abbrev pub loses_figure : Heaps
loses_figure = where_said 0 (with_rows (λ r. cond (eqb (get_or r.kinds 3 0) 1) (with_kinds (set r.kinds 3 0) (with_values (set r.values 3 (pos 0)) r)) r))

-- variable 1 lets go
abbrev pub lets_go : Heaps
lets_go = where_said 0 (with_rows (λ r. with_variables (set r.variables 1 (negsuc 0)) r))

-- a value beside nothing, in field 1 of cell 0
abbrev pub value_beside_nothing : Heaps
value_beside_nothing = where_said 0 (with_rows (λ r. cond (eqb (get_or r.kinds 1 0) 0) (with_values (set r.values 1 (pos 7)) r) r))

-- the count of the last settle alone
abbrev pub counts_last : Heaps
counts_last = working (calls_by step (λ s h. settled s (unfreed h)))

-- ---- when it is made

-- the call settle says what it would free, and does nothing
abbrev pub step_lazy : Sizes → Call → Heap → Stepped
step_lazy s (New v) h = step s (New v) h
step_lazy s (Do d) h = step s (Do d) h
step_lazy s Settle h = record { heap = h; answer = (step s Settle h).answer }

abbrev pub settles_late : Heaps
settles_late = working (calls_by step_lazy settled)

-- no settle for room in the log
abbrev pub wants_cell : Sizes → Call → Heap → Bool
wants_cell s (New v) h = no_cell_free s h
wants_cell s (Do d) h = false
wants_cell s Settle h = true

abbrev pub step_roomy : Sizes → Call → Heap → Stepped
step_roomy s c h =
    let k = settled_if (wants_cell s c h) s (counted c h) h in
    unless (check c h.shape) (refused h) (acted s c (k.freed - h.freed) k)

abbrev pub settles_not_for_room : Heaps
settles_not_for_room = working (calls_by step_roomy settled)

-- 14 without a settle
abbrev pub step_hasty : Sizes → Call → Heap → Stepped
step_hasty s (New v) h = cond (no_cell_free s h) (refused h 14) (step s (New v) h)
step_hasty s (Do d) h = step s (Do d) h
step_hasty s Settle h = step s Settle h

abbrev pub fourteen_unsettled : Heaps
fourteen_unsettled = working (calls_by step_hasty settled)

-- ---- the settle for a new

-- the step, whose settle counts other holds
abbrev pub step_counting : (Sizes → Call → Heap → List (Option ℕ)) → Sizes → Call → Heap → Stepped
step_counting f s c h =
    let k = settled_if (wants s c h) s (f s c h) h in
    unless (check c h.shape) (refused h) (acted s c (k.freed - h.freed) k)

-- v's own hold is counted, as before request A1
abbrev pub counts_own_hold : Heaps
counts_own_hold = working (calls_by (step_counting (λ s c h. h.shape.variables)) settled)

-- it is counted where the settle is for room in the log
abbrev pub counts_for_room : Heaps
counts_for_room = working (calls_by (step_counting (λ s c h. cond (no_cell_free s h) (counted c h) h.shape.variables)) settled)

-- a new counts no variable's hold
abbrev pub none_for_new : Sizes → Call → Heap → List (Option ℕ)
none_for_new s (New v) h = []
none_for_new s (Do d) h = counted (Do d) h
none_for_new s Settle h = counted Settle h

abbrev pub counts_no_hold : Heaps
counts_no_hold = working (calls_by (step_counting none_for_new) settled)

-- at 14 the heap is changed by f, from what it was before
abbrev pub step_fourteen : (Sizes → Call → Heap → Heap → Heap) → Sizes → Call → Heap → Stepped
step_fourteen f s c h = let o = step s c h in cond (eqb o.answer.status 14) (refused (f s c h o.heap) 14) o

-- v is cleared
abbrev pub clear_new : Sizes → Call → Heap → Heap → Heap
clear_new s (New v) h k = (step s (Do (Clear v)) k).heap
clear_new s (Do d) h k = k
clear_new s Settle h k = k

abbrev pub clears_at_fourteen : Heaps
clears_at_fourteen = working (calls_by (step_fourteen clear_new) settled)

-- the log is emptied unread
abbrev pub loses_the_log : Heaps
loses_the_log = working (calls_by (step_fourteen (λ s c h k. record { shape = h.shape; first = h.first; tables = h.tables; log = []; freed = h.freed })) settled)

-- a cell that comes back to v is not counted as freed
abbrev pub step_reusing : Sizes → Call → Heap → Stepped
step_reusing s (New v) h =
    let o = step s (New v) h in
    let k = o.heap in
    cond (eqb o.answer.status 0 && same_cell (var h.shape v) (var k.shape v))
    (record { heap = record { shape = k.shape; first = k.first; tables = k.tables; log = k.log; freed = k.freed - 1 }; answer = o.answer })
    o
step_reusing s (Do d) h = step s (Do d) h
step_reusing s Settle h = step s Settle h

abbrev pub reuses_uncounted : Heaps
reuses_uncounted = working (calls_by step_reusing settled)

-- ---- the cell that a new takes

-- the second free cell, where there are two
abbrev pub take_second : ℕ → ℕ → Heap → Heap
take_second v a h =
    record {
      shape = hold (record { fields = store (store h.shape.fields a 0 Nothing) h.first 0 (Free (after (field h.shape.fields a 0))); variables = h.shape.variables }) v (some a);
      first = h.first;
      tables = h.tables;
      log = h.log ++ (allocates a ∷ []);
      freed = h.freed;
    }

abbrev pub step_second : Sizes → Call → Heap → Stepped
step_second s (New v) h =
    let k = settled_for s (New v) h in
    let a = after (field k.shape.fields k.first 0) in
    cond (no_cell_free s k) (refused k 14) (cond (eqb a s.n) (step s (New v) h) (done (take_second v a k) (pos 0)))
step_second s (Do d) h = step s (Do d) h
step_second s Settle h = step s Settle h

abbrev pub hands_out_second : Heaps
hands_out_second = working (calls_by step_second settled)

-- with its old figure: a freed cell keeps it in field 1 till the batch ends
abbrev pub figure_kept : Field → Field
figure_kept Nothing = Nothing
figure_kept (Figure x) = Figure x
figure_kept (Cell a) = Nothing
figure_kept (Free a) = Nothing

abbrev pub free_keeping : ℕ → ℕ → Heap → Heap
free_keeping cap a h =
    let k = free_cell cap a h in
    record {
      shape = record { fields = store k.shape.fields a 1 (figure_kept (field h.shape.fields a 1)); variables = k.shape.variables };
      first = k.first;
      tables = k.tables;
      log = k.log;
      freed = k.freed;
    }

abbrev pub reclaim_keeping : ℕ → List (Option ℕ) → ℕ → Heap → Heap
reclaim_keeping cap hs zero h = h
reclaim_keeping cap hs (suc k) h = on_pick (pick hs h.tables.zct) h (λ a. reclaim_keeping cap hs k (free_keeping cap a h))

abbrev pub settled_keeping : Sizes → List (Option ℕ) → Heap → Heap
settled_keeping s hs h = reclaim_keeping s.cap hs s.n (replayed s.cap h)

-- what free cells kept is wiped
abbrev pub wiped : List Field → List Field
wiped [] = []
wiped (f ∷ []) = f ∷ []
wiped (f ∷ g ∷ fs) = f ∷ cond (eqb (lives (f ∷ g ∷ [])) 0) Nothing g ∷ wiped fs

abbrev pub settled_wiped : Sizes → Heap → Heap
settled_wiped s h =
    let k = settled_keeping s h.shape.variables h in
    record { shape = record { fields = wiped k.shape.fields; variables = k.shape.variables }; first = k.first; tables = k.tables; log = k.log; freed = k.freed }

abbrev pub hands_out_old_figures : Heaps
hands_out_old_figures = working (calls_by (step_by settled_keeping) settled_wiped)
