-- The heaps that break a fact of demand 1, refuted. Assumes nothing.
use Prim.Native.Nat.{ℕ}
use mathlib.Core.Path.{◌≡◌, refl, sym, ap}
use mathlib.Core.Bool.{false≢true}
use mathlib.Core.Option.{none, some}
use mathlib.Core.List.{List, [], ◌∷◌}
use native.Mathlib.Omega.{arith}
use lib.IntN.{ℤ, pos, negsuc}
use lib.ListN.{length, get_or}
use Rattle.rules.specs.declared.Deed.TheVariants.{Copy, Clear, Link, Put, Follow, Read, Same}
use Rattle.rules.specs.declared.Call.TheVariants.{New, Do, Settle}
use Rattle.rules.specs.Head.{fresh_head}
use Rattle.rules.specs.Sound.{Sound, Sized, Word}
use Rattle.rules.specs.Decide.{sound?, sized?, dec_word}
use Rattle.rules.specs.Run.{Batch, Said}
use Rattle.rules.specs.Demands.{TooShort}
use Rattle.rules.proofs.Tests.{sized-true, sized-false, sound-true, sound-false}
use Rattle.rules.specs.Rows as R
use Rattle.rules.specs.Rules as U
use Rattle.rules.specs.Settle as S
use Rattle.rules.specs.Heap as H
use Rattle.rules.specs.Call as C
use Rattle.rules.specs.Step as T
use Rattle.rules.specs.Refusals as F
use Rattle.worthless.specs.Refuted.{Refuted1}
use Rattle.worthless.proofs.Scenes.{of, sizes, fresh_rows, h₀, r₀, h₁, r₁, h₂, r₂, scratched, unsized, unsound, pos-same, not_neg}

sized₀ : Sized h₀ r₀
unfolding F.is_sized sized?
sized₀ = sized-true h₀ r₀ refl

sound₀ : Sound h₀ r₀
unfolding F.is_sound sound? dec_word Word
sound₀ = sound-true h₀ r₀ refl

scratched-sized : Sized h₀ scratched
unfolding F.is_sized sized?
scratched-sized = sized-true h₀ scratched refl

scratched-sound : Sound h₀ scratched
unfolding F.is_sound sound? dec_word Word
scratched-sound = sound-true h₀ scratched refl

not-sized : Sized h₀ unsized → ⊥
unfolding F.is_sized sized?
not-sized = sized-false h₀ unsized refl

unsound-sized : Sized h₀ unsound
unfolding F.is_sized sized?
unsound-sized = sized-true h₀ unsound refl

not_sound : Sound h₀ unsound → ⊥
unfolding F.is_sound sound? dec_word Word
not_sound = sound-false h₀ unsound refl

-- words that are no call, and a call with no room for its answer
abbrev wrong : Batch
wrong = record { calls = pos 1 ∷ []; answers = [] }

abbrev short : Batch
short = record { calls = C.words_of (Settle ∷ []); answers = [] }

abbrev roomy : Batch
roomy = record { calls = []; answers = negsuc 6 ∷ negsuc 6 ∷ [] }

-- the value that the first call was answered with
abbrev first : List Said → ℤ
first [] = pos 0
first (a ∷ as') = a.value

-- an empty batch has calls, and room for them
none-short : TooShort h₀ (of []) → ⊥
unfolding C.calls_in C.calls_of
none-short t =
    let e : some [] ≡ some t.calls = t.decoded in
    let q : [] ≡ t.calls = cc in
    let z = ap length q in
    let l = t.short in
    omega arith

pub refuted_1 : Refuted1
unfolding F.is_sized F.is_sound sound? sized? dec_word Word F.fresh_of F.audit_of F.batch_of F.check_calls F.check_answers F.check_sound F.accepted F.answered R.rows_of R.head_of R.heap_of C.call_of C.calls_of C.calls_in U.enter_zct U.leave_zct U.enter_mrt U.leave_mrt U.on_create U.on_destroy U.apply U.replay H.place H.field H.store S.free_cell S.reclaim S.replayed S.settled_by S.settled C.var C.at C.refuses C.logs C.write C.hold C.act C.value T.full T.no_cell_free T.wants T.settled_if T.take_cell T.do_new T.do_deed T.acted T.run T.step T.calls T.batch T.free_from T.fresh
refuted_1 =
    record {
      two_for_1 = λ d. let e : ◌≡◌ {A = ℕ} 2 1 = (d.batch_refuses h₀ unsized (of [])).refused_1.when not-sized in omega arith;
      three_for_2 = λ d. let e : ◌≡◌ {A = ℕ} 3 2 = (d.batch_refuses h₀ r₀ wrong).refused_2.when (sized₀, refl) in omega arith;
      four_for_3 = λ d.
          let e : ◌≡◌ {A = ℕ} 4 3 = (d.batch_refuses h₀ r₀ short).refused_3.when (sized₀, record { calls = Settle ∷ []; decoded = refl; short = omega arith }) in
          omega arith;
      one_for_4 = λ d.
          let e : ◌≡◌ {A = ℕ} 1 4 = (d.batch_refuses h₀ unsound (of [])).refused_4.when (unsound-sized, record { calls = []; decoded = refl; room = omega arith }, not_sound) in
          omega arith;
      one_for_2 = λ d. (d.batch_refuses h₀ r₀ wrong).refused_1.only refl sized₀;
      two_for_3 = λ d. let e : some (Settle ∷ []) ≡ none = ((d.batch_refuses h₀ r₀ short).refused_2.only refl).1 in let z : ◌≡◌ {A = ℕ} 0 1 = cc in omega arith;
      three_for_4 = λ d. none-short ((d.batch_refuses h₀ unsound (of [])).refused_3.only refl).1;
      says_4 = λ d. ((d.batch_refuses h₀ r₀ (of [])).refused_4.only refl).2 sound₀;
      clears_at_1 = λ d. let e : ◌≡◌ {A = ℕ} 0 1 = ap (λ o. length o.rows.variables) ((d.batch_refuses h₀ unsized (of [])).refused_1.left refl) in omega arith;
      clears_at_2 = λ d. let e : ◌≡◌ {A = ℕ} 0 1 = ap (λ o. length o.rows.variables) ((d.batch_refuses h₀ r₀ wrong).refused_2.left refl) in omega arith;
      clears_at_3 = λ d. let e : ◌≡◌ {A = ℕ} 0 1 = ap (λ o. length o.rows.variables) ((d.batch_refuses h₀ r₀ short).refused_3.left refl) in omega arith;
      clears_at_4 = λ d. let e : ◌≡◌ {A = ℕ} 0 1 = ap (λ o. length o.rows.variables) ((d.batch_refuses h₀ unsound (of [])).refused_4.left refl) in omega arith;
      keeps_work_at_4 = λ d. let e : ◌≡◌ {A = ℕ} 1 0 = ap (λ o. get_or o.rows.work 0 0) ((d.batch_refuses h₀ unsound (of [])).refused_4.left refl) in omega arith;
      refuses-more = λ d. let e : ◌≡◌ {A = ℕ} 5 0 = (d.batch_refuses h₀ r₀ (of [])).accepted_else sized₀ (record { calls = []; decoded = refl; room = omega arith }) sound₀ in omega arith;
      leaves-work = λ d. let e : ◌≡◌ {A = ℕ} 1 0 = ap (λ w. get_or w 0 0) ((d.batch_refuses h₀ r₀ (of [])).work_zero refl) in omega arith;
      writes-past = λ d. not_neg 0 6 (ap (λ w. get_or w 0 (pos 0)) ((d.batch_refuses h₀ r₀ roomy).answers_past [] refl refl).1);
      cuts-answers = λ d. let e : ◌≡◌ {A = ℕ} 1 2 = ((d.batch_refuses h₀ r₀ roomy).answers_past [] refl refl).0 in omega arith;
      fifteen_for_12 = λ d. false≢true ((d.batch_refuses h₁ r₁ (of (Do (Follow 0 0 0) ∷ []))).refused_11_to_15 (Do (Follow 0 0 0) ∷ []) refl refl).0.0;
      refused-with-value = λ d.
          let e = pos-same 1 0 ((d.batch_refuses h₀ r₀ (of (Do (Read 0 0) ∷ []))).refused_11_to_15 (Do (Read 0 0) ∷ []) refl refl).0.1 in
          omega arith;
      copy-with-value = λ d.
          let e = pos-same 7 0 (((d.batch_refuses h₀ r₀ (of (Do (Copy 0 0) ∷ []))).refused_11_to_15 (Do (Copy 0 0) ∷ []) refl refl).0 refl) in
          omega arith;
      forgets = λ d. let e : ◌≡◌ {A = ℕ} 0 1 = ap (λ o. o.outcome.head.free) ((d.batch_refuses h₁ r₁ (of [])).no_call_no_change refl refl) in omega arith;
      clears_at_15 = λ d.
          let s = (d.call_refused h₁ r₁ (of (Do (Read 0 0) ∷ [])) (of [])).refused_as_left_out [] [] (Do (Read 0 0)) 14 refl refl refl refl refl (λ e. omega arith) in
          not_neg 0 0 (sym (ap (λ r. get_or r.variables 0 (pos 0)) s.same_rows));
      settles_at_11 = λ d.
          let before = New 0 ∷ Do (Clear 0) ∷ [] in
          let s =
          (d.call_refused (fresh_head (sizes 2 2)) (fresh_rows 2 2) (of (New 0 ∷ Do (Clear 0) ∷ Do (Read 1 0) ∷ New 0 ∷ [])) (of (New 0 ∷ Do (Clear 0) ∷ New 0 ∷ []))
          ).refused_as_left_out before (New 0 ∷ []) (Do (Read 1 0)) 10 refl refl refl refl refl (λ e. omega arith) in
          let e = pos-same 0 1 (ap (λ r. get_or r.variables 0 (pos 0)) s.same_rows) in
          omega arith;
      answers_after_11 = λ d.
          let s = (d.call_refused h₀ r₀ (of (Do (Read 0 0) ∷ New 0 ∷ [])) (of (New 0 ∷ []))).refused_as_left_out [] (New 0 ∷ []) (Do (Read 0 0)) 10 refl refl refl refl refl (λ e. omega arith) in
          let e = pos-same 7 0 (ap first s.after) in
          omega arith;
      answers_before_11 = λ d.
          let s = (d.call_refused h₀ r₀ (of (Settle ∷ Do (Read 0 0) ∷ [])) (of (Settle ∷ []))).refused_as_left_out (Settle ∷ []) [] (Do (Read 0 0)) 10 refl refl refl refl refl (λ e. omega arith) in
          let e = pos-same 7 0 (ap first s.before) in
          omega arith;
      clears_in_the_middle = λ d.
          let s = ((d.call_refused h₂ r₂ (of (New 0 ∷ Do (Same 0 1) ∷ [])) (of (Settle ∷ Do (Same 0 1) ∷ []))).fourteen_settles [] (Do (Same 0 1) ∷ []) 0 refl refl refl refl refl).0 in
          not_neg 0 0 (sym (ap (λ r. get_or r.variables 0 (pos 0)) s.same_rows));
      loses_what_settle_reads = λ d.
          let s = ((d.call_refused h₁ r₁ (of (Do (Link 0 0 0) ∷ New 0 ∷ [])) (of (Do (Link 0 0 0) ∷ Settle ∷ []))).fourteen_settles (Do (Link 0 0 0) ∷ []) [] 0 refl refl refl refl refl).0 in
          let e : ◌≡◌ {A = ℕ} 1 0 = ap (λ o. o.head.zct) s.outcomes in
          omega arith;
      settle_one_more_at_14 = λ d.
          let e = pos-same 1 0 ((d.call_refused h₂ r₂ (of (New 0 ∷ [])) (of (Settle ∷ []))).fourteen_settles [] [] 0 refl refl refl refl refl).1 in
          omega arith;
      refuses-links = λ d. let e = pos-same 11 0 ((d.call_refused h₁ r₁ (of (Do (Link 0 0 0) ∷ [])) (of [])).deed_answered [] [] (Link 0 0 0) refl refl refl refl).refused_for in omega arith;
      read-one-more = λ d.
          let puts = Do (Put 0 0 (pos 7)) ∷ [] in
          let e = pos-same 8 7 (((d.call_refused h₁ r₁ (of (Do (Put 0 0 (pos 7)) ∷ Do (Read 0 0) ∷ [])) (of puts)).deed_answered puts [] (Read 0 0) refl refl refl refl).value-is refl) in
          omega arith;
      thirteen-for-nothing = λ d.
          let s = (d.call_refused h₁ r₁ (of (Do (Read 0 0) ∷ [])) (of [])).fifteen_exactly [] [] 0 0 refl refl refl refl in
          let e = pos-same 13 15 (s.fifteen.1 (record { cell = 0; held = refl; there = refl })) in
          omega arith;
      fifteen-for-cell = λ d.
          let s = (d.call_refused h₁ r₁ (of (Do (Link 0 0 0) ∷ Do (Read 0 0) ∷ [])) (of (Do (Link 0 0 0) ∷ []))).fifteen_exactly (Do (Link 0 0 0) ∷ []) [] 0 0 refl refl refl refl in
          let e = pos-same 15 13 (s.thirteen.1 (record { cell = 0; held = refl; there = refl })) in
          omega arith;
      fifteen_for_11 = λ d.
          let s = (d.call_refused h₀ r₀ (of (Do (Read 0 0) ∷ [])) (of [])).fifteen_exactly [] [] 0 0 refl refl refl refl in
          let e = pos-same 15 11 (s.eleven.1 refl) in
          omega arith;
      nought_for_11 = λ d.
          let s = (d.call_refused h₀ r₀ (of (Do (Read 0 0) ∷ [])) (of [])).fifteen_exactly [] [] 0 0 refl refl refl refl in
          not_neg (s.nought.0 refl).cell 0 (sym (s.nought.0 refl).held);
      fresh-work = λ d. let e : ◌≡◌ {A = ℕ} 1 0 = ap (λ o. get_or o.rows.work 0 0) ((d.fresh_refuses_only_1 (sizes 1 1) scratched).1 scratched-sized) in omega arith;
      fresh-head-kept = λ d. let e : ◌≡◌ {A = ℕ} 1 0 = ap (λ o. o.outcome.head.sizes.n) ((d.fresh_refuses_only_1 (sizes 1 1) unsized).0 not-sized) in omega arith;
      audit-work = λ d. let e : ◌≡◌ {A = ℕ} 1 0 = ap (λ o. get_or o.rows.work 0 0) ((d.audit_refuses_only_1_and_4 h₀ scratched).2 scratched-sized scratched-sound) in omega arith;
      audit_work_at_4 = λ d. let e : ◌≡◌ {A = ℕ} 1 0 = ap (λ o. get_or o.rows.work 0 0) ((d.audit_refuses_only_1_and_4 h₀ unsound).1 unsound-sized not_sound) in omega arith;
      audit_clears_at_1 = λ d. let e : ◌≡◌ {A = ℕ} 1 0 = ap (λ o. length o.rows.work) ((d.audit_refuses_only_1_and_4 h₀ unsized).0 not-sized) in omega arith;
    }
