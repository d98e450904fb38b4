-- A new that lets go of v: 14 exactly if no cell is free then, and then as a settle that frees none; else as with v cleared first. Assumes nothing.
use Prim.Native.Nat.{ℕ, ◌-◌}
use mathlib.Core.Path.{◌≡◌, refl, sym, ap, ◌∙◌}
use mathlib.Core.Logic.{inl, inr, ◌↔◌}
use mathlib.Core.Bool.{true}
use mathlib.Core.Option.{none}
use mathlib.Core.List.{append-nil}
use native.Mathlib.Omega.{arith}
use lib.IntN.{pos}
use lib.Seq.{set-set}
use borrow.Author.Tests.{eqb-true, eq-eqb}
use Rattle.rules.specs.declared.Deed.TheVariants.{Clear}
use Rattle.rules.specs.declared.Call.TheVariants.{New, Do, Settle}
use Rattle.rules.specs.declared.Sizes.{Sizes}
use Rattle.rules.specs.Head.{Limits}
use Rattle.rules.specs.Heap.{Heap}
use Rattle.rules.specs.Rules.{replay}
use Rattle.rules.specs.Settle.{replayed, settled_by, settled}
use Rattle.rules.specs.Call.{refuses, logs, act, hold}
use Rattle.rules.specs.Step.{Stepped, done, refused, full, no_cell_free, wants, counted, settled_if, settled_for, do_deed, acted, run, step}
use Rattle.rules.specs.Invariant.{Inv, Done}
use Rattle.rules.proofs.Reclaim.{pick_more, reclaim_idle}
use Rattle.rules.proofs.Calls.{holds_let_go}
use Rattle.rules.proofs.Step.{settled_if-having, settled_by-done, counting, counted-good, counted-full, readied, unsettled, Ran, run_as}
use Rattle.rules.proofs.Facts.{call_refused, fourteen_full, fourteen_keeps}

module _ (s : Sizes) (ok : Limits s) (v : ℕ) (h : Heap) (g : Inv s h) where
  -- ---- clear v first

  -- clear v lets go of v, and does no more
  cleared : (step s (Do (Clear v)) h).heap ≡ counting (New v) h
  unfolding step run acted do_deed refuses logs act hold
  cleared = rw (unsettled s ok (Clear v) h g refl, append-nil h.log)

  -- with v let go a new is readied as it is without
  first_let_go : settled_for s (New v) (counting (New v) h) ≡ readied s (New v) h
  unfolding wants full no_cell_free
  first_let_go = rw (set-set h.shape.variables v none none)

  pub after_clear : (step s (New v) h).answer.status ≡ 0 → step s (New v) (step s (Do (Clear v)) h).heap ≡ step s (New v) h
  unfolding step run acted
  after_clear e = ap (step s (New v)) cleared ∙ go (run_as s ok (New v) h g)
    where
      go : Ran s (New v) h → run s (New v) (counting (New v) h) ≡ run s (New v) h
      go (inl d) = rw (first_let_go, d)
      go (inr d) = absurd (let f = ap (λ (o : Stepped). o.answer.status) (sym d) ∙ e in omega arith)

  -- ---- 14

  -- the settle for a new finds free what a settle after clear v finds free
  same_first : (settled s (step s (Do (Clear v)) h).heap).first ≡ (settled_by s (counted (New v) h) h).first
  unfolding settled settled_if
  same_first = ap (λ (x : Heap). (settled s x).first) cleared ∙ ap (λ (x : Heap). x.first) (settled_if-having true s (counted (New v) h) (counted (New v) h) h)

  pub fourteen_cleared : ((step s (New v) h).answer.status ≡ 14) ↔ ((settled s (step s (Do (Clear v)) h).heap).first ≡ s.n)
  unfolding no_cell_free
  fourteen_cleared =
      let f = fourteen_full s ok v h g in
      (λ e. same_first ∙ eqb-true _ _ (f.0 e), λ e. f.1 (eq-eqb _ _ (sym same_first ∙ e)))

  module _ (e : (step s (New v) h).answer.status ≡ 14) where
    -- a settle after it is the settle without that new
    pub kept-settled : settled s (step s (New v) h).heap ≡ settled s h
    unfolding settled settled_by replayed replay
    kept-settled = ap (settled s) (fourteen_keeps s ok v h g e)

    none_left : Done (counted (New v) h) (replayed s.cap h)
    none_left = rw (counted-full s ok (New v) h g ((fourteen_full s ok v h g).0 e)) at (settled_by-done s ok (counted (New v) h) h (counted-good s ok (New v) h g))

    -- the call settle frees none either
    full-settled : settled s h ≡ replayed s.cap h
    unfolding settled settled_by
    full-settled =
        let vs = h.shape.variables in
        reclaim_idle s.cap vs s.n (replayed s.cap h) (pick_more (counted (New v) h) vs (replayed s.cap h).tables.zct (holds_let_go vs v) none_left)

    settle_done : step s Settle h ≡ done (replayed s.cap h) (pos 0)
    unfolding step run acted wants settled_if settled replayed
    settle_done = let z : h.freed - h.freed ≡ 0 = omega arith in rw (full-settled, z)

    pub as_settle : step s (New v) h ≡ refused (step s Settle h).heap 14
    as_settle =
        let a = fourteen_keeps s ok v h g e ∙ ap (λ (o : Stepped). o.heap) (sym settle_done) in
        let b = (call_refused s (New v) h 13 e).0 in
        λ i. record { heap = a i; answer = record { status = e i; value = b i } }

    pub settle_value : (step s Settle h).answer.value ≡ pos 0
    settle_value = ap (λ (o : Stepped). o.answer.value) settle_done
