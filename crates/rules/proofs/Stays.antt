-- What stays: a count at the cap, through every batch, and a structure that points to itself, through every settle. Assumes nothing.
use Prim.Native.Nat.{ℕ, zero, suc, ◌<◌, ◌≤◌}
use mathlib.Core.Path.{◌≡◌, refl, sym, ap, ◌∙◌}
use mathlib.Core.Bool.{Bool, true, false}
use mathlib.Core.Option.{Option}
use mathlib.Core.List.{List, [], ◌∷◌}
use native.Mathlib.Omega.{arith}
use lib.Dec.{eqb}
use lib.ListN.{length, length-map}
use borrow.Author.Tests.{eqb-true}
use Rattle.rules.specs.declared.Head.{Head}
use Rattle.rules.specs.declared.Call.{Call}
use Rattle.rules.specs.declared.Call.TheVariants.{New, Do, Settle}
use Rattle.rules.specs.declared.Sizes.{Sizes}
use Rattle.rules.specs.Head.{Limits}
use Rattle.rules.specs.Table.{has, count_in, addresses, counts}
use Rattle.rules.specs.Heap.{Tables, Heap, field}
use Rattle.rules.specs.Settle.{holds, free_cell, replayed, settled_by, settled}
use Rattle.rules.specs.Call.{unless, check}
use Rattle.rules.specs.Step.{refused, settled_if, settled_for, no_cell_free, wants, counted, take_cell, do_new, do_deed, acted, run, step, calls, unfreed, batch}
use Rattle.rules.specs.Rows.{Lent, rows_of, head_of, heap_of}
use Rattle.rules.specs.Whole.{Kept}
use Rattle.rules.specs.Sound.{Sound, Sized}
use Rattle.rules.specs.Invariant.{refs, view, Good, Inv}
use Rattle.rules.specs.Moment.{PointsToItself}
use Rattle.rules.specs.Demands.{AtCap}
use Rattle.rules.proofs.Turn.{turn-none, turn-live, turn-field}
use Rattle.rules.proofs.Reclaim.{reclaim_keeps}
use Rattle.rules.proofs.Capped.{Capped, settled_by-capped}
use Rattle.rules.proofs.Positions.{count_at, at_count, pad-at, some-refs}
use Rattle.rules.proofs.Roundtrip.{head-of-heap, rows-of-heap}
use Rattle.rules.proofs.Entry.{entry_ended}

-- ---- a count at the cap

module _ (s : Sizes) (ok : Limits s) (a : ℕ) where
  settled_for-capped : (c : Call) (h : Heap) → Capped s a h.tables → Capped s a (settled_for s c h).tables
  unfolding settled_if
  settled_for-capped c h e = go (wants s c h)
    where
      go : (b : Bool) → Capped s a (settled_if b s (counted c h) h).tables
      go true = settled_by-capped s ok a (counted c h) h e
      go false = e

  -- the call itself leaves the tables
  acted-tables : (c : Call) (k : ℕ) (h : Heap) → (acted s c k h).heap.tables ≡ h.tables
  unfolding acted do_new do_deed take_cell
  acted-tables (New v) k h = go (no_cell_free s h)
    where
      go : (q : Bool) → (do_new q v h).heap.tables ≡ h.tables
      go true = refl
      go false = refl
  acted-tables (Do d) k h = refl
  acted-tables Settle k h = refl

  step-capped : (c : Call) (h : Heap) → Capped s a h.tables → Capped s a (step s c h).heap.tables
  unfolding step run
  step-capped c h e = go (check c h.shape)
    where
      go : (k : ℕ) → Capped s a (unless k (refused h) (run s c h)).heap.tables
      go zero = ap (λ (t : Tables). (view t a).1) (acted-tables c _ (settled_for s c h)) ∙ settled_for-capped c h e
      go (suc k) = e

  pub calls-capped : (cs : List Call) (h : Heap) → Capped s a h.tables → Capped s a (calls s cs h).heap.tables
  unfolding calls settled
  calls-capped [] h e = settled_by-capped s ok a h.shape.variables h e
  calls-capped (c ∷ cs) h e = calls-capped cs (step s c h).heap (step-capped c h e)

  -- ---- in the rows

  module _ (h : Heap) (K : Kept s.n s.cap h.tables) where
    pub rows-capped : AtCap (head_of s h) (rows_of s h).tables a → Capped s a h.tables
    unfolding rows_of head_of view
    rows-capped A =
        let m = h.tables.mrt in
        let j = A.index in
        let la : j < length (addresses m) = let w = A.within in omega (arith, length-map m (λ e. e.address)) in
        let lc : j < length (counts m) = let w = A.within in omega (arith, length-map m (λ e. e.count)) in
        let e = sym (pad-at s.n (addresses m) j la) ∙ A.here in
        let f = sym (pad-at s.n (counts m) j lc) ∙ A.full in
        ap (λ (b : ℕ). count_in b m) (sym e) ∙ count_at m K.mrt_up j A.within ∙ f

    pub capped-rows : Capped s a h.tables → AtCap (head_of s h) (rows_of s h).tables a
    unfolding rows_of head_of view
    capped-rows e = go s.cap refl e
      where
        go : (c : ℕ) → s.cap ≡ c → count_in a h.tables.mrt ≡ c → AtCap (head_of s h) (rows_of s h).tables a
        go zero d e = absurd (let l = ok.cap_least in omega arith)
        go (suc c) d e =
            let m = h.tables.mrt in
            let B = at_count a c m e in
            let j = B.index in
            record {
              index = j;
              within = B.within;
              here = pad-at s.n (addresses m) j (let w = B.within in omega (arith, length-map m (λ e. e.address))) ∙ B.same;
              full = pad-at s.n (counts m) j (let w = B.within in omega (arith, length-map m (λ e. e.count))) ∙ B.beside ∙ sym d;
            }

-- an MRT entry at the cap before a batch is one after it
pub cap_stays : {h : Head} {r : Lent} → (Z : Sized h r) → Sound h r → (cs : List Call) (a : ℕ) → Inv h.sizes (batch h.sizes cs (heap_of h r)).heap
    → AtCap h r.tables a → AtCap (head_of h.sizes (batch h.sizes cs (heap_of h r)).heap) (rows_of h.sizes (batch h.sizes cs (heap_of h r)).heap).tables a
unfolding batch
cap_stays {h} {r} Z S cs a I A =
    let s = h.sizes in
    let ok = Z.within.limits in
    let before : AtCap (head_of s (heap_of h r)) (rows_of s (heap_of h r)).tables a = rw (head-of-heap Z, rows-of-heap Z S) A in
    capped-rows s ok a (calls s cs (unfreed (heap_of h r))).heap I.kept (calls-capped s ok a cs (unfreed (heap_of h r)) (rows-capped s ok a (heap_of h r) (entry_ended Z S).inv.kept before))

-- ---- a structure that points to itself

module _ (n cap : ℕ) (cap3 : 3 ≤ cap) (hs : List (Option ℕ)) (P : ℕ → Bool) where
  -- no cell of it is taken: one of them points to it
  ring-turn : (h : Heap) → Good n cap h.shape.fields hs h.tables → (a : ℕ) → has a h.tables.zct ≡ true → holds a hs ≡ false
      → PointsToItself h.shape.fields P → PointsToItself (free_cell cap a h).shape.fields P
  ring-turn h g a i u R =
      record {
        in_use = λ b p. turn-live n cap cap3 hs h g a i u b ∙ rw (other b p) (R.in_use b p);
        pointed = λ b p.
            let q = R.pointed b p in
            record {
              cell = q.cell;
              part = q.part;
              small = q.small;
              among = q.among;
              points = turn-field n cap cap3 hs h g a i u q.cell q.part (other q.cell q.among) q.small ∙ q.points;
            };
      }
    where
      some_pointer : P a ≡ true → 1 ≤ refs h.shape.fields a
      some_pointer p = unfold field in let q = R.pointed a p in some-refs h.shape.fields _ a q.points

      other : (b : ℕ) → P b ≡ true → eqb b a ≡ false
      other b p = go (eqb b a) refl
        where
          go : (q : Bool) → eqb b a ≡ q → eqb b a ≡ false
          go true e = absurd (let k = some_pointer (ap P (sym (eqb-true b a e)) ∙ p) in let z = turn-none n cap cap3 hs h g a i u in omega arith)
          go false e = e

pub ring-settled : (s : Sizes) → Limits s → (h : Heap) → Inv s h → (P : ℕ → Bool) → PointsToItself h.shape.fields P → PointsToItself (settled s h).shape.fields P
unfolding settled settled_by replayed
ring-settled s ok h g P R =
    let hs = h.shape.variables in
    reclaim_keeps s.n s.cap ok.cap_least hs (λ x. PointsToItself x.shape.fields P)
    (ring-turn s.n s.cap ok.cap_least hs P)
    s.n (replayed s.cap h) g.good R
