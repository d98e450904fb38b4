-- The heaps that break a fact of demand 3, refuted. Assumes nothing.
use Prim.Native.Nat.{ℕ}
use mathlib.Core.Path.{◌≡◌, refl, ap}
use mathlib.Core.Logic.{inl, inr}
use mathlib.Core.List.{[], ◌∷◌}
use native.Mathlib.Omega.{arith}
use lib.IntN.{ℤ, pos, negsuc}
use lib.ListN.{get_or}
use Rattle.rules.specs.declared.Deed.TheVariants.{Link, Put, Follow, Read, Same}
use Rattle.rules.specs.declared.Call.TheVariants.{New, Do, Settle}
use Rattle.rules.specs.Sound.{Word}
use Rattle.rules.specs.Decide.{sound?, sized?, dec_word}
use Rattle.rules.specs.Run.{Batch, AlikeBatches}
use Rattle.rules.specs.Rows as R
use Rattle.rules.specs.Rules as U
use Rattle.rules.specs.Settle as S
use Rattle.rules.specs.Heap as H
use Rattle.rules.specs.Call as C
use Rattle.rules.specs.Step as T
use Rattle.rules.specs.Refusals as F
use Rattle.rules.specs.Run as N
use Rattle.rules.specs.Endless as E
use Rattle.worthless.specs.Refuted.{Refuted3}
use Rattle.worthless.proofs.Scenes.{of, sizes, fresh_rows, r₀, pos-same}

-- a figure put, and a settle
abbrev puts : ℤ → Batch
puts x = of (New 0 ∷ Do (Put 0 0 x) ∷ Settle ∷ [])

-- 7 in one run, 8 in the other
alike : AlikeBatches (puts (pos 7) ∷ []) (puts (pos 8) ∷ [])
alike = ((refl, refl, refl, inl refl, (refl, refl, refl, inr (refl, omega arith, omega arith), (refl, refl, refl, inl refl, refl))), refl, tt)

-- 10 is not 8: a settle is no read
no_read : {A : Type 0} → (pos 10 ≡ pos 8) × A → ⊥
no_read p = let e = pos-same 10 8 p.0 in omega arith

-- rows lent to a fresh call, with an old figure in them
abbrev old : ℤ → R.Lent
old x = R.lent (1 ∷ 0 ∷ []) (x ∷ pos 0 ∷ []) (negsuc 0 ∷ []) (0 ∷ []) (0 ∷ []) (0 ∷ []) (0 ∷ 0 ∷ 0 ∷ 0 ∷ []) (0 ∷ [])

-- words that are no call
abbrev wrong : Batch
wrong = record { calls = pos 1 ∷ []; answers = [] }

abbrev seven : Batch
seven = of (New 0 ∷ Do (Put 0 0 (pos 7)) ∷ Do (Read 0 0) ∷ [])

abbrev followed : Batch
followed = of (New 0 ∷ Do (Link 0 0 0) ∷ Do (Follow 0 0 0) ∷ [])

abbrev compared : Batch
compared = of (New 0 ∷ New 1 ∷ Do (Same 0 1) ∷ [])

pub refuted_3 : Refuted3
unfolding F.is_sized F.is_sound sound? sized? dec_word Word F.fresh_of F.batch_of F.check_calls F.check_answers F.check_sound F.accepted F.answered R.rows_of R.head_of R.heap_of C.call_of C.calls_of C.calls_in U.enter_zct U.leave_zct U.enter_mrt U.leave_mrt U.on_create U.on_destroy U.apply U.replay H.place H.field H.store S.free_cell S.reclaim S.replayed S.settled_by S.settled C.var C.at C.refuses C.logs C.write C.hold C.act C.value T.full T.no_cell_free T.wants T.settled_if T.take_cell T.do_new T.do_deed T.acted T.run T.step T.calls T.batch T.free_from T.fresh N.run_from N.run_of N.said_in E.endless E.endless_run E.endless_step
refuted_3 =
    record {
      figure-in-value = λ d. let e = pos-same 7 8 ((d.figures_hidden (sizes 1 1) r₀ r₀ (puts (pos 7) ∷ []) (puts (pos 8) ∷ []) refl refl alike).2.0.answers.2.2.1 no_read) in omega arith;
      figure-in-status = λ d. let e = pos-same 7 8 (d.figures_hidden (sizes 1 1) r₀ r₀ (puts (pos 7) ∷ []) (puts (pos 8) ∷ []) refl refl alike).2.0.answers.2.2.0 in omega arith;
      figure-in-work = λ d.
          let e : ◌≡◌ {A = ℕ} 7 8 = ap (λ w. get_or w 0 0) (d.figures_hidden (sizes 1 1) r₀ r₀ (puts (pos 7) ∷ []) (puts (pos 8) ∷ []) refl refl alike).2.0.rows.work in
          omega arith;
      figure-in-log = λ d.
          let e : ◌≡◌ {A = ℕ} 7 8 = ap (λ w. get_or w 0 0) (d.figures_hidden (sizes 1 1) r₀ r₀ (puts (pos 7) ∷ []) (puts (pos 8) ∷ []) refl refl alike).2.0.rows.log in
          omega arith;
      figure-in-zct = λ d.
          let e : ◌≡◌ {A = ℕ} 7 8 = ap (λ t. get_or t.zct 0 0) (d.figures_hidden (sizes 1 1) r₀ r₀ (puts (pos 7) ∷ []) (puts (pos 8) ∷ []) refl refl alike).2.0.rows.tables in
          omega arith;
      figure-in-variable = λ d.
          let e = pos-same 7 8 (ap (λ w. get_or w 0 (pos 0)) (d.figures_hidden (sizes 1 1) r₀ r₀ (puts (pos 7) ∷ []) (puts (pos 8) ∷ []) refl refl alike).2.0.rows.variables) in
          omega arith;
      figure-in-kind = λ d.
          let e : ◌≡◌ {A = ℕ} 7 8 = ap (λ w. get_or w 1 0) (d.figures_hidden (sizes 1 1) r₀ r₀ (puts (pos 7) ∷ []) (puts (pos 8) ∷ []) refl refl alike).2.0.rows.kinds in
          omega arith;
      figure-in-field = λ d.
          let e = pos-same 7 8 ((d.figures_hidden (sizes 1 1) r₀ r₀ (puts (pos 7) ∷ []) (puts (pos 8) ∷ []) refl refl alike).2.0.rows.values 1 (λ k. omega arith)) in
          omega arith;
      figure-in-count = λ d.
          let e : ◌≡◌ {A = ℕ} 7 8 = ap (λ o. o.count) (d.figures_hidden (sizes 1 1) r₀ r₀ (puts (pos 7) ∷ []) (puts (pos 8) ∷ []) refl refl alike).2.0.outcome in
          omega arith;
      figure-in-fresh = λ d. let e : ◌≡◌ {A = ℕ} 7 8 = ap (λ o. o.count) (d.figures_hidden (sizes 1 1) (old (pos 7)) (old (pos 8)) [] [] refl refl tt).0 in omega arith;
      figure-in-fresh-row = λ d. let e = pos-same 7 8 ((d.figures_hidden (sizes 1 1) (old (pos 7)) (old (pos 8)) [] [] refl refl tt).1.values 0 (λ k. omega arith)) in omega arith;
      figure-in-refusal = λ d.
          let e = pos-same 7 8 (ap (λ w. get_or w 0 (pos 0)) ((d.figures_hidden (sizes 1 1) r₀ r₀ (puts (pos 7) ∷ wrong ∷ []) (puts (pos 8) ∷ wrong ∷ []) refl refl (alike.0, alike.1, (refl, refl, tt))).2.1.0.refused (λ k. omega arith))) in
          omega arith;
      answers_0 = λ d. let e = pos-same 0 7 ((d.as_endless (sizes 1 1) r₀ (seven ∷ []) refl).2.2.1 tt) in omega arith;
      same-always = λ d. let e = pos-same 1 0 ((d.as_endless (sizes 2 2) (fresh_rows 2 2) (compared ∷ []) refl).2.2.1 tt) in omega arith;
      twelve-for-cell = λ d. let e = pos-same 12 0 (d.as_endless (sizes 1 1) r₀ (followed ∷ []) refl).2.2.0 in omega arith;
      fourteen-for-read = λ d. let e = pos-same 14 0 (d.as_endless (sizes 1 1) r₀ (seven ∷ []) refl).2.2.0 in omega arith;
    }
