-- Counts at the cap: replay and reclaiming keep them, and reclaiming brings none there. Assumes nothing.
use Prim.Native.Nat.{ℕ, zero, suc, ◌≤◌}
use mathlib.Core.Path.{◌≡◌, refl, sym, ap, ◌∙◌}
use mathlib.Core.Logic.{◌↔◌}
use mathlib.Core.Bool.{Bool, true, false, cond}
use mathlib.Core.Option.{Option, none, some}
use mathlib.Core.List.{List, [], ◌∷◌}
use native.Mathlib.Omega.{arith}
use lib.Dec.{eqb}
use borrow.Author.Tests.{eqb-true, eq-eqb}
use Rattle.rules.specs.declared.Field.{Field}
use Rattle.rules.specs.declared.Field.TheVariants.{Nothing, Figure, Cell, Free}
use Rattle.rules.specs.declared.Sizes.{Sizes}
use Rattle.rules.specs.Head.{Limits}
use Rattle.rules.specs.Heap.{Tables, Transaction, allocates, creates, destroys, Heap, field}
use Rattle.rules.specs.Rules.{leave_zct, apply, replay}
use Rattle.rules.specs.Settle.{pick, on_pick, free_cell, reclaim, replayed, settled_by}
use Rattle.rules.specs.Call.{drops}
use Rattle.rules.specs.Invariant.{View, view, named, ok_of, Good}
use Rattle.rules.proofs.Tables.{change, view-own, view_other}
use Rattle.rules.proofs.Sorted.{replay-append}
use Rattle.rules.proofs.Reclaim.{reclaim_keeps}

-- a's entry is at the cap
abbrev pub Capped : Sizes → ℕ → Tables → Type 0
Capped s a t = (view t a).1 ≡ s.cap

-- a count k that became j: at most the cap, and at the cap only if it was
record Falls (cap k j : ℕ) : Type 0 where
  pub bounded : j ≤ cap
  pub was : j ≡ cap → k ≡ cap

module _ (s : Sizes) (ok : Limits s) (a : ℕ) where
  change-capped : (x : Transaction) (p : Bool) (k : ℕ) → k ≡ s.cap → (change s.cap x (p, k)).1 ≡ s.cap
  unfolding change
  change-capped (allocates b) p k e = e
  change-capped (creates b) true k e = e
  change-capped (creates b) false zero e = absurd (let l = ok.cap_least in omega arith)
  change-capped (creates b) false (suc k) e = rw (eq-eqb (suc k) s.cap e) e
  change-capped (destroys b) p zero e = absurd (let l = ok.cap_least in omega arith)
  change-capped (destroys b) p (suc k) e = rw (eq-eqb (suc k) s.cap e) e

  apply-capped : (x : Transaction) (t : Tables) → Capped s a t → Capped s a (apply s.cap x t)
  apply-capped x t e = go (eqb a (named x)) refl
    where
      own : a ≡ named x → (view (apply s.cap x t) (named x)).1 ≡ s.cap
      own q = ap (λ (v : View). v.1) (view-own s.cap x t) ∙ change-capped x (view t (named x)).0 (view t (named x)).1 (ap (λ (b : ℕ). (view t b).1) (sym q) ∙ e)

      go : (q : Bool) → eqb a (named x) ≡ q → Capped s a (apply s.cap x t)
      go true d = let q = eqb-true a (named x) d in ap (λ (b : ℕ). (view (apply s.cap x t) b).1) q ∙ own q
      go false d = ap (λ (v : View). v.1) (view_other s.cap x t a d) ∙ e

  replay-capped : (xs : List Transaction) (t : Tables) → Capped s a t → Capped s a (replay s.cap xs t)
  unfolding replay
  replay-capped [] t e = e
  replay-capped (x ∷ xs) t e = replay-capped xs (apply s.cap x t) (apply-capped x t e)

  reclaim-capped : (hs : List (Option ℕ)) (k : ℕ) (h : Heap) → Capped s a h.tables → Capped s a (reclaim s.cap hs k h).tables
  unfolding reclaim
  reclaim-capped hs zero h e = e
  reclaim-capped hs (suc k) h e = go (pick hs h.tables.zct) (λ b. reclaim-capped hs k (free_cell s.cap b h) (freed b))
    where
      freed : (b : ℕ) → Capped s a (free_cell s.cap b h).tables
      freed b = unfold free_cell in replay-capped _ (leave_zct b h.tables) (unfold leave_zct view in e)

      go : (o : Option ℕ) → ((b : ℕ) → Capped s a (reclaim s.cap hs k (free_cell s.cap b h)).tables) → Capped s a (on_pick o h (λ b. reclaim s.cap hs k (free_cell s.cap b h))).tables
      go none ih = e
      go (some b) ih = ih b

  pub settled_by-capped : (hs : List (Option ℕ)) (h : Heap) → Capped s a h.tables → Capped s a (settled_by s hs h).tables
  unfolding settled_by replayed
  settled_by-capped hs h e = reclaim-capped hs s.n (replayed s.cap h) (replay-capped h.log h.tables e)

  -- ---- reclaiming brings none there

  -- a's count is at most the cap
  abbrev Bounded : Tables → Type 0
  Bounded t = (view t a).1 ≤ s.cap

  -- a destroy keeps that
  change_falls : (b : ℕ) (p : Bool) (k : ℕ) → k ≤ s.cap → Falls s.cap k (change s.cap (destroys b) (p, k)).1
  unfolding change
  change_falls b p zero l = record { bounded = omega arith; was = λ e. absurd (let c = ok.cap_least in omega arith) }
  change_falls b p (suc k) l = go (eqb (suc k) s.cap) refl (eqb k 1)
    where
      go : (q : Bool) → eqb (suc k) s.cap ≡ q → (r : Bool) → Falls s.cap (suc k) (cond {A = View} q (p, suc k) (cond r (p, 0) (p, k))).1
      go true d r = record { bounded = l; was = λ e. e }
      go false d true = record { bounded = omega arith; was = λ e. absurd (let c = ok.cap_least in omega arith) }
      go false d false = record { bounded = omega arith; was = λ e. absurd (omega arith) }

  destroy_falls : (b : ℕ) (t : Tables) → Bounded t → Falls s.cap (view t a).1 (view (apply s.cap (destroys b) t) a).1
  destroy_falls b t l = go (eqb a b) refl
    where
      own : a ≡ b → Falls s.cap (view t b).1 (view (apply s.cap (destroys b) t) b).1
      own q = rw (view-own s.cap (destroys b) t) (change_falls b (view t b).0 (view t b).1 (rw q at l))

      go : (q : Bool) → eqb a b ≡ q → Falls s.cap (view t a).1 (view (apply s.cap (destroys b) t) a).1
      go true d = let q = eqb-true a b d in rw q (own q)
      go false d = rw (view_other s.cap (destroys b) t a d) (record { bounded = l; was = λ e. e })

  drop_falls : (x : Field) (t : Tables) → Bounded t → Falls s.cap (view t a).1 (view (replay s.cap (drops x) t) a).1
  unfolding replay
  drop_falls Nothing t l = record { bounded = l; was = λ e. e }
  drop_falls (Figure x) t l = record { bounded = l; was = λ e. e }
  drop_falls (Cell b) t l = destroy_falls b t l
  drop_falls (Free b) t l = record { bounded = l; was = λ e. e }

  free_falls : (b : ℕ) (h : Heap) → Bounded h.tables → Falls s.cap (view h.tables a).1 (view (free_cell s.cap b h).tables a).1
  unfolding free_cell leave_zct view
  free_falls b h l =
      let t = leave_zct b h.tables in
      let x = field h.shape.fields b 0 in
      let y = field h.shape.fields b 1 in
      let f = drop_falls x t l in
      let g = drop_falls y (replay s.cap (drops x) t) f.bounded in
      rw (replay-append s.cap (drops x) (drops y) t) (record { bounded = g.bounded; was = λ e. f.was (g.was e) })

  module _ (hs : List (Option ℕ)) (h : Heap) (g : Good s.n s.cap h.shape.fields hs (replay s.cap h.log h.tables)) where
    start_bounded : Bounded (replay s.cap h.log h.tables)
    start_bounded = go (view (replay s.cap h.log h.tables) a).0 (view (replay s.cap h.log h.tables) a).1 (g.counted a).ok
      where
        go : (p : Bool) (k : ℕ) → ok_of s.cap p k → k ≤ s.cap
        go p zero o = omega arith
        go true (suc k) o = absurd o
        go false (suc k) o = o.1

    -- after a settle the counts at the cap are those that the replayed log brings there
    pub settled-at_cap : Capped s a (settled_by s hs h).tables ↔ Capped s a (replayed s.cap h).tables
    unfolding settled_by replayed
    settled-at_cap =
        let at = replayed s.cap h in
        let f = reclaim_keeps s.n s.cap ok.cap_least hs (λ x. Falls s.cap (view at.tables a).1 (view x.tables a).1)
        (λ x e b i u p. let q = free_falls b x p.bounded in record { bounded = q.bounded; was = λ z. p.was (q.was z) })
        s.n at g (record { bounded = start_bounded; was = λ e. e }) in
        (f.was, reclaim-capped hs s.n at)
