-- In a run every moment's head and rows are those of a heap at a batch's end; a batch there is refused with 2 or 3, or worked. Assumes nothing.
use Prim.Native.Nat.{◌*◌}
use mathlib.Core.Path.{◌≡◌, refl}
use mathlib.Core.Bool.{Bool, true, false, cond}
use mathlib.Core.Option.{Option, none, some}
use mathlib.Core.List.{List, ◌∷◌}
use native.Mathlib.Omega.{arith}
use lib.Dec.{leb}
use lib.IntN.{ℤ}
use lib.ListN.{length}
use Rattle.rules.specs.declared.Call.{Call}
use Rattle.rules.specs.declared.Sizes.{Sizes}
use Rattle.rules.specs.Head.{fresh_head, zero_head, Limits}
use Rattle.rules.specs.Heap.{Heap}
use Rattle.rules.specs.Call.{calls_in}
use Rattle.rules.specs.Step.{batch, fresh}
use Rattle.rules.specs.Rows.{Lent, rows_of, head_of}
use Rattle.rules.specs.Refusals.{After, Batched, outcome, leaves, leaves_with, is_sized, answered, accepted, check_sound, check_answers, check_calls, fresh_of, batch_of}
use Rattle.rules.specs.Run.{ours, Batch, run_from}
use Rattle.rules.specs.Invariant.{Ended}
use Rattle.rules.proofs.Tests.{true-sized, true-sound}
use Rattle.rules.proofs.Calls.{calls_in_fit}
use Rattle.rules.proofs.Step.{batch_ended}
use Rattle.rules.proofs.Roundtrip.{sized-of_ended, batch-of_ended}
use Rattle.rules.proofs.Bridge.{ended_sound}
use Rattle.rules.proofs.Demand1.{fresh-sized}

-- what a batch of these calls leaves: refused with 2 or 3, or worked
unfoldable pub batch_from : Sizes → Heap → Option (List Call) → List ℤ → Batched
batch_from s h none row = leaves_with (outcome 2 (head_of s h) 0) (rows_of s h) row
batch_from s h (some cs) row =
    let b = batch s cs h in
    cond (leb (2 * length cs) (length row))
    (leaves_with (outcome 0 (head_of s b.heap) b.heap.freed) (rows_of s b.heap) (answered b.answers row))
    (leaves_with (outcome 3 (head_of s h) 0) (rows_of s h) row)

pub in_run : (s : Sizes) → Limits s → (h : Heap) → Ended s h → (ws row : List ℤ) → batch_of (head_of s h) (rows_of s h) ws row ≡ batch_from s h (calls_in s.m ws) row
unfolding batch_of check_calls check_answers check_sound accepted batch_from head_of
in_run s F h E ws row = rw (true-sized (head_of s h) (rows_of s h) (sized-of_ended F E)) (go (calls_in s.m ws))
  where
    go : (o : Option (List Call)) → check_calls (head_of s h) (rows_of s h) o row ≡ batch_from s h o row
    go none = refl
    go (some cs) = rw (true-sound (head_of s h) (rows_of s h) (ended_sound s F h E), batch-of_ended cs E)

pub in_run_ended : (s : Sizes) → Limits s → (h : Heap) → Ended s h → (ws : List ℤ) (cs : List Call) → calls_in s.m ws ≡ some cs → Ended s (batch s cs h).heap
in_run_ended s F h E ws cs e = batch_ended s F cs h E.inv (calls_in_fit s.m ws cs e)

-- the sizes of an accepted fresh call are fine
pub limits-fresh : (s : Sizes) (r : Lent) → (fresh_of s r).outcome.status ≡ 0 → Limits s
limits-fresh s r e = (fresh-sized s r e).within.limits

-- ---- what a batch leaves

-- by the answers row's length: a batch worked, or refused with 3
abbrev pub by_room : Sizes → Heap → List Call → List ℤ → Bool → Batched
by_room s h cs row q =
    let b = batch s cs h in
    cond q
    (leaves_with (outcome 0 (head_of s b.heap) b.heap.freed) (rows_of s b.heap) (answered b.answers row))
    (leaves_with (outcome 3 (head_of s h) 0) (rows_of s h) row)

-- the heap that it leaves
abbrev pub left_by : Sizes → Heap → List Call → Bool → Heap
left_by s h cs q = cond q (batch s cs h).heap h

abbrev pub left : Sizes → Heap → Option (List Call) → List ℤ → Heap
left s h none row = h
left s h (some cs) row = left_by s h cs (leb (2 * length cs) (length row))

-- head and rows are those of a heap
record LeftAs (s : Sizes) (h : Heap) (o : Batched) : Type 0 where
  pub head : o.outcome.head ≡ head_of s h
  pub rows : o.rows ≡ rows_of s h

left_as : (s : Sizes) (h : Heap) (o : Option (List Call)) (row : List ℤ) → LeftAs s (left s h o row) (batch_from s h o row)
unfolding batch_from
left_as s h none row = record { head = refl; rows = refl }
left_as s h (some cs) row = go (leb (2 * length cs) (length row))
  where
    go : (q : Bool) → LeftAs s (left_by s h cs q) (by_room s h cs row q)
    go true = record { head = refl; rows = refl }
    go false = record { head = refl; rows = refl }

pub left_ended : (s : Sizes) → Limits s → (h : Heap) → Ended s h → (ws row : List ℤ) (o : Option (List Call)) → calls_in s.m ws ≡ o → Ended s (left s h o row)
left_ended s f h e ws row none i = e
left_ended s f h e ws row (some cs) i = go (leb (2 * length cs) (length row))
  where
    go : (q : Bool) → Ended s (left_by s h cs q)
    go true = in_run_ended s f h e ws cs i
    go false = e

pub one_batch : (s : Sizes) → Limits s → (h : Heap) → Ended s h → (b : Batch) (bs : List Batch)
    → let o = calls_in s.m b.calls in
    run_from ours (head_of s h) (rows_of s h) (b ∷ bs)
    ≡ batch_from s h o b.answers ∷ run_from ours (head_of s (left s h o b.answers)) (rows_of s (left s h o b.answers)) bs
unfolding run_from
one_batch s f h e b bs =
    let o = calls_in s.m b.calls in
    let a = left_as s h o b.answers in
    rw (in_run s f h e b.calls b.answers, a.head, a.rows)

-- an accepted fresh heap
pub fresh-is : (s : Sizes) (r : Lent) → (fresh_of s r).outcome.status ≡ 0
    → fresh_of s r ≡ leaves (outcome 0 (head_of s (fresh s)) 0) (rows_of s (fresh s))
unfolding fresh_of head_of fresh
fresh-is s r e = go (is_sized (fresh_head s) r) e
  where
    by_test : Bool → After
    by_test q = cond q (leaves (outcome 0 (fresh_head s) 0) (rows_of s (fresh s))) (leaves (outcome 1 zero_head 0) r)

    go : (q : Bool) → (by_test q).outcome.status ≡ 0 → by_test q ≡ leaves (outcome 0 (head_of s (fresh s)) 0) (rows_of s (fresh s))
    go true e = refl
    go false e = absurd (omega arith)
