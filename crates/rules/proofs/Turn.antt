-- A turn of reclaiming: what freeing leaves, for any ZCT cell that none of the holds names. Assumes nothing.
use Prim.Native.Nat.{ℕ, zero, suc, ◌+◌, ◌<◌, ◌≤◌}
use mathlib.Core.Path.{◌≡◌, refl, sym, ap, ◌∙◌}
use mathlib.Core.Logic.{◌⊎◌, inl, inr}
use mathlib.Core.Bool.{Bool, true, false, cond, true≢false, false≢true}
use mathlib.Core.Option.{Option}
use mathlib.Core.List.{List, ◌++◌}
use native.Mathlib.Omega.{arith}
use lib.Dec.{eqb}
use lib.ListN.{length}
use borrow.Author.Tests.{eqb-true}
use Rattle.rules.specs.declared.Field.{Field}
use Rattle.rules.specs.declared.Field.TheVariants.{Nothing, Free}
use Rattle.rules.specs.Table.{has, count_in}
use Rattle.rules.specs.Heap.{Tables, Heap, place, field, store}
use Rattle.rules.specs.Rules.{leave_zct}
use Rattle.rules.specs.Call.{drops}
use Rattle.rules.specs.Settle.{holds, free_cell}
use Rattle.rules.specs.Whole.{Kept}
use Rattle.rules.specs.Invariant.{count, hit, refs, live, view, ok_of, Counted, Good, Small, lives}
use Rattle.rules.proofs.Tables.{remove-own, remove_other}
use Rattle.rules.proofs.Sorted.{leave_zct-kept, replay-kept, small-append, replay-append}
use Rattle.rules.proofs.Exact.{drop-counted}
use Rattle.rules.proofs.Cells.{live_in, place_in_1, live-store_0, live-store_1, refs-store, length-store, field_other, field-same, field_across, drops-small, Plain1, Figures, plain-store_0, plain-store, figures-store, lives-freed}

module _ (n cap : ℕ) (cap3 : 3 ≤ cap) (hs : List (Option ℕ)) (h : Heap) (g : Good n cap h.shape.fields hs h.tables)
    (a : ℕ) (inz : has a h.tables.zct ≡ true) (unheld : holds a hs ≡ false) where
  abbrev fs : List Field
  fs = h.shape.fields

  abbrev t : Tables
  t = h.tables

  abbrev then : Heap
  then = free_cell cap a h

  -- with the mark of a free cell in field 0
  abbrev marked : List Field
  marked = store fs a 0 (Free h.first)

  -- ---- the cell that is freed: it was in use, and nothing pointed to it

  pub turn-was : live fs a ≡ true
  unfolding view
  turn-was = go (live fs a) refl
    where
      go : (q : Bool) → live fs a ≡ q → live fs a ≡ true
      go true e = e
      go false e = absurd (true≢false (sym inz ∙ ap (λ v. v.0) ((g.counted a).gone e).0))

  pub turn-none : refs fs a ≡ 0
  unfolding view
  turn-none = go ((g.counted a).exact turn-was)
    where
      zero-count : count t a ≡ 0
      zero-count = rw inz

      go : (count t a ≡ cap) ⊎ (count t a ≡ refs fs a) → refs fs a ≡ 0
      go (inl e) = omega (arith, zero-count)
      go (inr e) = omega (arith, zero-count)

  there : place a 0 < length fs
  there = live_in fs a turn-was

  there_1 : place a 1 < length marked
  there_1 = rw length-store (place_in_1 n a fs g.len turn-was)

  -- it is the first free cell now
  pub turn-mark : field then.shape.fields a 0 ≡ Free h.first
  unfolding free_cell
  turn-mark = field_across marked a 1 0 Nothing (omega arith) (omega arith) (omega arith) ∙ field-same fs a 0 (Free h.first) there

  -- ---- every other cell is as it was

  pub turn-live : (b : ℕ) → live then.shape.fields b ≡ cond (eqb b a) false (live fs b)
  unfolding free_cell
  turn-live b = live-store_1 marked a b Nothing ∙ live-store_0 fs a b (Free h.first) there

  pub turn-field : (b f : ℕ) → eqb b a ≡ false → f < 2 → field then.shape.fields b f ≡ field fs b f
  unfolding free_cell
  turn-field b f d k = field_other marked a b 1 f Nothing d (omega arith) k ∙ field_other fs a b 0 f (Free h.first) d (omega arith) k

  -- in use after the turn: another cell, and in use before
  pub turn-stays : (b : ℕ) → live then.shape.fields b ≡ true → (eqb b a ≡ false) × (live fs b ≡ true)
  turn-stays b l = go (eqb b a) refl (sym (turn-live b) ∙ l)
    where
      go : (q : Bool) → eqb b a ≡ q → cond q false (live fs b) ≡ true → (q ≡ false) × (live fs b ≡ true)
      go true e l = absurd (false≢true l)
      go false e l = (refl, l)

  -- one cell fewer is in use
  pub turn-less : suc (lives then.shape.fields) ≡ lives fs
  unfolding free_cell
  turn-less = lives-freed fs a h.first turn-was (place_in_1 n a fs g.len turn-was)

  -- ---- the counts stay exact

  no-count : count_in a t.mrt ≡ 0
  unfolding view
  no-count = go (count_in a t.mrt) (rw inz at (g.counted a).ok)
    where
      go : (j : ℕ) → ok_of cap true j → j ≡ 0
      go zero o = refl
      go (suc j) o = absurd o

  turn-refs : (b : ℕ) → refs fs b ≡ (refs then.shape.fields b + hit (field fs a 1) b) + hit (field fs a 0) b
  unfolding free_cell
  turn-refs b =
      let e0 = refs-store fs a 0 b (Free h.first) there in
      let e1 = rw (field_across fs a 0 1 (Free h.first) (omega arith) (omega arith) (omega arith)) at (refs-store marked a 1 b Nothing there_1) in
      omega arith

  -- out of the zero count table, and with the cell marked as free
  left : (b : ℕ) → Counted cap (leave_zct a t) (refs fs b) (live then.shape.fields b) b
  unfolding view leave_zct
  left b = rw (turn-live b) (go (eqb b a) refl)
    where
      at_a : Counted cap (leave_zct a t) (refs fs a) false a
      at_a =
          record {
            ok = rw (remove-own a t.zct, no-count) tt;
            exact = λ e. absurd (false≢true e);
            gone = λ e. (rw (remove-own a t.zct, no-count), turn-none);
          }

      go : (q : Bool) → eqb b a ≡ q → Counted cap (leave_zct a t) (refs fs b) (cond q false (live fs b)) b
      go true e = rw (eqb-true b a e) at_a
      go false e =
          let d = remove_other b a t.zct e in
          record { ok = rw d (g.counted b).ok; exact = rw d (g.counted b).exact; gone = rw d (g.counted b).gone }

  pub turn-good : Good n cap then.shape.fields hs then.tables
  unfolding free_cell
  turn-good =
      record {
        len = rw (length-store, length-store) g.len;
        counted = λ b. rw replay-append (drop-counted cap cap3 (field fs a 1) refl (drop-counted cap cap3 (field fs a 0) (turn-refs b) (left b)));
        held = λ b i. rw (turn-live b) (go b i (eqb b a) refl);
      }
    where
      go : (b : ℕ) → holds b hs ≡ true → (q : Bool) → eqb b a ≡ q → cond q false (live fs b) ≡ true
      go b i true e = absurd (true≢false (sym i ∙ rw (eqb-true b a e) unheld))
      go b i false e = g.held b i

  -- ---- and what else a turn keeps

  pub turn-kept : Kept n cap t → Kept n cap then.tables
  unfolding free_cell
  turn-kept k =
      let at : (f : ℕ) → f < 2 → Small n (drops (field fs a f)) = λ f i. drops-small n cap fs hs t g a f i turn-was in
      replay-kept n cap cap3 (drops (field fs a 0) ++ drops (field fs a 1)) (leave_zct a t) (leave_zct-kept n cap cap3 t k a)
      (small-append n (drops (field fs a 0)) (drops (field fs a 1)) (at 0 (omega arith)) (at 1 (omega arith)))

  pub turn-plain : Plain1 fs → Plain1 then.shape.fields
  unfolding free_cell
  turn-plain p = plain-store marked a 1 Nothing refl (plain-store_0 fs a (Free h.first) p)

  pub turn-figures : Figures fs → Figures then.shape.fields
  unfolding free_cell
  turn-figures p = figures-store marked a 1 Nothing tt (figures-store fs a 0 (Free h.first) tt p)
