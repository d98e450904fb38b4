-- The settles of a batch: the call settle is a batch's end, and the settle before a call is the call settle; how many cells they free. Assumes nothing.
use Prim.Native.Nat.{ℕ, zero, suc, ◌+◌, ◌-◌, ◌≤◌}
use mathlib.Core.Path.{◌≡◌, refl, sym, ap, ◌∙◌}
use mathlib.Core.Bool.{Bool, true, false, cond}
use mathlib.Core.Option.{Option, none, some}
use mathlib.Core.List.{List, [], ◌∷◌}
use native.Mathlib.Omega.{arith}
use lib.IntN.{pos}
use lib.ListN.{length}
use borrow.Author.Tests.{le-ltb}
use Rattle.rules.specs.declared.Call.{Call}
use Rattle.rules.specs.declared.Call.TheVariants.{New, Do, Settle}
use Rattle.rules.specs.declared.Sizes.{Sizes}
use Rattle.rules.specs.Head.{Limits}
use Rattle.rules.specs.Heap.{Heap}
use Rattle.rules.specs.Settle.{pick, on_pick, free_cell, reclaim, replayed, settled_by, settled}
use Rattle.rules.specs.Call.{AllFit, unless, check}
use Rattle.rules.specs.Step.{Stepped, done, refused, needs, full, no_cell_free, wants, counted, settled_if, settled_for, take_cell, do_new, do_deed, acted, run, step, calls, unfreed}
use Rattle.rules.specs.Run.{NotSettle}
use Rattle.rules.specs.Invariant.{Good, Inv}
use Rattle.rules.specs.Moment.{freed_by, freed_for, freed_in}
use Rattle.rules.specs.Rules.{replay}
use Rattle.rules.proofs.Reclaim.{reclaim_keeps}
use Rattle.rules.proofs.Step.{needs_two, settled_by-log, settled_by-sum, counted-good, for_right, step-inv}

-- ---- cells freed before are not looked at

-- h, with k cells more freed before
abbrev more : ℕ → Heap → Heap
more k h = record { shape = h.shape; first = h.first; tables = h.tables; log = h.log; freed = h.freed + k }

abbrev more_step : ℕ → Stepped → Stepped
more_step k o = record { heap = more k o.heap; answer = o.answer }

reclaim-more : (cap : ℕ) (hs : List (Option ℕ)) (j k : ℕ) (h : Heap) → reclaim cap hs j (more k h) ≡ more k (reclaim cap hs j h)
unfolding reclaim
reclaim-more cap hs zero k h = refl
reclaim-more cap hs (suc j) k h = go (pick hs h.tables.zct) (λ a. ap (reclaim cap hs j) (freed a) ∙ reclaim-more cap hs j k (free_cell cap a h))
  where
    freed : (a : ℕ) → free_cell cap a (more k h) ≡ more k (free_cell cap a h)
    freed a = unfold free_cell in let e : suc (h.freed + k) ≡ suc h.freed + k = omega arith in rw e

    go : (o : Option ℕ) → ((a : ℕ) → reclaim cap hs j (free_cell cap a (more k h)) ≡ more k (reclaim cap hs j (free_cell cap a h)))
        → on_pick o (more k h) (λ a. reclaim cap hs j (free_cell cap a (more k h))) ≡ more k (on_pick o h (λ a. reclaim cap hs j (free_cell cap a h)))
    go none ih = refl
    go (some a) ih = ih a

settled_by-more : (s : Sizes) (hs : List (Option ℕ)) (k : ℕ) (h : Heap) → settled_by s hs (more k h) ≡ more k (settled_by s hs h)
unfolding settled_by replayed
settled_by-more s hs k h = reclaim-more s.cap hs s.n k (replayed s.cap h)

module _ (s : Sizes) (k : ℕ) where
  for_more : (c : Call) (h : Heap) → settled_for s c (more k h) ≡ more k (settled_for s c h)
  unfolding settled_if
  for_more c h = rw (same-counted c, same-wants c) (go (wants s c h))
    where
      same-counted : (c : Call) → counted c (more k h) ≡ counted c h
      same-counted (New v) = refl
      same-counted (Do d) = refl
      same-counted Settle = refl

      same-wants : (c : Call) → wants s c (more k h) ≡ wants s c h
      same-wants (New v) = unfold wants full no_cell_free in refl
      same-wants (Do d) = unfold wants full in refl
      same-wants Settle = unfold wants in refl

      go : (b : Bool) → settled_if b s (counted c h) (more k h) ≡ more k (settled_if b s (counted c h) h)
      go true = settled_by-more s (counted c h) k h
      go false = refl

  acted-more : (c : Call) (j : ℕ) (h : Heap) → acted s c j (more k h) ≡ more_step k (acted s c j h)
  unfolding acted do_new do_deed take_cell no_cell_free
  acted-more (New v) j h = go (no_cell_free s h)
    where
      go : (q : Bool) → do_new q v (more k h) ≡ more_step k (do_new q v h)
      go true = refl
      go false = refl
  acted-more (Do d) j h = refl
  acted-more Settle j h = refl

  step-more : (c : Call) (h : Heap) → step s c (more k h) ≡ more_step k (step s c h)
  unfolding step run
  step-more c h = go (check c h.shape)
    where
      same-less : (m n : ℕ) → (m + k) - (n + k) ≡ m - n
      same-less m n = omega arith

      ran : run s c (more k h) ≡ more_step k (run s c h)
      ran = rw (for_more c h, same-less (settled_for s c h).freed h.freed) (acted-more c ((settled_for s c h).freed - h.freed) (settled_for s c h))

      go : (q : ℕ) → unless q (refused (more k h)) (run s c (more k h)) ≡ more_step k (unless q (refused h) (run s c h))
      go zero = ran
      go (suc q) = refl

  pub calls-more : (cs : List Call) (h : Heap) → calls s cs (more k h) ≡ record { heap = more k (calls s cs h).heap; answers = (calls s cs h).answers }
  unfolding calls settled
  calls-more [] h = rw (settled_by-more s h.shape.variables k h)
  calls-more (c ∷ cs) h = rw (step-more c h, calls-more cs (step s c h).heap)

-- calls go on from a heap as from one that has freed none yet
pub calls-on : (s : Sizes) (cs : List Call) (h : Heap) → calls s cs h ≡ record { heap = more h.freed (calls s cs (unfreed h)).heap; answers = (calls s cs (unfreed h)).answers }
calls-on s cs h = let z : 0 + h.freed ≡ h.freed = omega arith in ap (λ (k : ℕ). calls s cs (record { shape = h.shape; first = h.first; tables = h.tables; log = h.log; freed = k })) (sym z) ∙ calls-more s h.freed cs (unfreed h)

-- ---- the call settle

pub settle_step : (s : Sizes) (h : Heap) → step s Settle h ≡ done (settled s h) (pos ((settled s h).freed - h.freed))
unfolding step run acted wants settled_if settled
settle_step s h = refl

-- ---- the settle before a call

module _ (s : Sizes) (ok : Limits s) where
  -- the log is empty: there is room
  room : (c : Call) (h : Heap) → h.log ≡ [] → full s (needs c h.shape) h ≡ false
  unfolding full
  room c h e = let l = ok.l_least in let k = needs_two c h.shape in let z = ap length e in le-ltb s.l (length h.log + needs c h.shape) (omega arith)

  -- so no second settle is wanted by a call that is answered 0
  unwanted : (c : Call) (h : Heap) → h.log ≡ [] → NotSettle c → (acted s c 0 h).answer.status ≡ 0 → wants s c h ≡ false
  unfolding wants acted do_new
  unwanted (New v) h e n o = rw (room (New v) h e) (go (no_cell_free s h) o)
    where
      go : (q : Bool) → (do_new q v h).answer.status ≡ 0 → q ≡ false
      go true o = absurd (omega arith)
      go false o = refl
  unwanted (Do d) h e n o = room (Do d) h e
  unwanted Settle h e n o = absurd n

  -- how many were freed is nothing to a call but settle
  acted-same : (c : Call) (j k : ℕ) (h : Heap) → NotSettle c → acted s c j h ≡ acted s c k h
  unfolding acted
  acted-same (New v) j k h n = refl
  acted-same (Do d) j k h n = refl
  acted-same Settle j k h n = absurd n

  module _ (c : Call) (h : Heap) (g : Inv s h) (n : NotSettle c) (w : wants s c h ≡ true) (own : counted c h ≡ h.shape.variables) where
    for_settled : settled_for s c h ≡ settled s h
    unfolding settled_if settled
    for_settled = rw (w, own)

    passed : (k : ℕ) → check c h.shape ≡ k → (step s c h).answer.status ≡ 0 → check c h.shape ≡ 0
    unfolding step
    passed zero d o = d
    passed (suc k) d o = absurd (let z = ap (λ (q : ℕ). (unless q (refused h) (run s c h)).answer.status) (sym d) ∙ o in omega arith)

    pub as_settled-before : (step s c h).answer.status ≡ 0 → step s c h ≡ step s c (settled s h)
    unfolding step run settled_if
    as_settled-before o =
        let e = settled s h in
        let p = passed (check c h.shape) refl o in
        let first : step s c h ≡ acted s c 0 e = rw (p, for_settled) (acted-same c (e.freed - h.freed) 0 e n) in
        let r : check c e.shape ≡ 0 = rw for_settled at (for_right s ok c h g p) in
        let u = unwanted c e settled-log n (ap (λ (x : Stepped). x.answer.status) (sym first) ∙ o) in
        first ∙ sym (rw (r, u) (acted-same c (e.freed - e.freed) 0 e n))
      where
        settled-log : (settled s h).log ≡ []
        settled-log = unfold settled in settled_by-log s h.shape.variables h

  -- ---- how many cells they free

  module _ (hs : List (Option ℕ)) (h : Heap) (g : Good s.n s.cap h.shape.fields hs (replay s.cap h.log h.tables)) where
    no_fewer : h.freed ≤ (settled_by s hs h).freed
    unfolding settled_by replayed
    no_fewer = reclaim_keeps s.n s.cap ok.cap_least hs (λ x. h.freed ≤ x.freed) (λ x e a i u p. unfold free_cell in omega arith) s.n (replayed s.cap h) g (omega arith)

    pub freed-by : (settled_by s hs h).freed ≡ freed_by s hs h + h.freed
    freed-by = let e = settled_by-sum s ok hs h g in let l = no_fewer in omega arith

  acted-freed : (c : Call) (k : ℕ) (h : Heap) → (acted s c k h).heap.freed ≡ h.freed
  unfolding acted do_new do_deed take_cell
  acted-freed (New v) k h = go (no_cell_free s h)
    where
      go : (q : Bool) → (do_new q v h).heap.freed ≡ h.freed
      go true = refl
      go false = refl
  acted-freed (Do d) k h = refl
  acted-freed Settle k h = refl

  for_freed : (c : Call) (h : Heap) → Inv s h → (settled_for s c h).freed ≡ cond (wants s c h) (freed_by s (counted c h) h) 0 + h.freed
  unfolding settled_if
  for_freed c h g = go (wants s c h)
    where
      go : (b : Bool) → (settled_if b s (counted c h) h).freed ≡ cond b (freed_by s (counted c h) h) 0 + h.freed
      go true = freed-by (counted c h) h (counted-good s ok c h g)
      go false = omega arith

  step-freed : (c : Call) (h : Heap) → Inv s h → (step s c h).heap.freed ≡ freed_for s c h + h.freed
  unfolding step run
  step-freed c h g = go (check c h.shape)
    where
      go : (k : ℕ) → (unless k (refused h) (run s c h)).heap.freed ≡ unless k (λ j. 0) (cond (wants s c h) (freed_by s (counted c h) h) 0) + h.freed
      go zero = acted-freed c _ (settled_for s c h) ∙ for_freed c h g
      go (suc k) = omega arith

  -- a batch's count is the sum over its settles
  pub calls-freed : (cs : List Call) (h : Heap) → Inv s h → AllFit s.m cs → (calls s cs h).heap.freed ≡ freed_in s cs h + h.freed
  unfolding calls settled
  calls-freed [] h g f = freed-by h.shape.variables h g.good
  calls-freed (c ∷ cs) h g f =
      let a = step-freed c h g in
      let b = calls-freed cs (step s c h).heap (step-inv s ok c h g f.0) f.1 in
      omega arith
