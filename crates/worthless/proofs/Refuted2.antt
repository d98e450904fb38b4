-- The heaps that break a fact of demand 2, refuted. Assumes nothing.
use Prim.Native.Nat.{ℕ, zero, suc, ◌<◌}
use mathlib.Core.Path.{◌≡◌, refl, sym, ap}
use mathlib.Core.Bool.{Bool, true, true≢false, false≢true}
use mathlib.Core.Option.{none}
use mathlib.Core.List.{List, [], ◌∷◌}
use native.Mathlib.Omega.{arith}
use lib.Dec.{eqb}
use lib.IntN.{pos}
use lib.ListN.{get_or}
use borrow.Author.Tests.{eqb-true}
use Rattle.rules.specs.declared.Head.{Head}
use Rattle.rules.specs.declared.Field.TheVariants.{Nothing, Figure, Free}
use Rattle.rules.specs.declared.Deed.TheVariants.{Clear, Link, Put, Blank}
use Rattle.rules.specs.declared.Call.{Call}
use Rattle.rules.specs.declared.Call.TheVariants.{New, Do, Settle}
use Rattle.rules.specs.Head.{fresh_head, sized}
use Rattle.rules.specs.Sound.{Sound, Sized, Word}
use Rattle.rules.specs.Decide.{sound?, sized?, dec_word}
use Rattle.rules.specs.Table.{has}
use Rattle.rules.specs.Invariant as I
use Rattle.rules.specs.Moment as M
use Rattle.rules.proofs.Tests.{sized-true, sound-true, sound-false}
use Rattle.rules.proofs.Demands.{demand_2}
use Rattle.rules.specs.Rows as R
use Rattle.rules.specs.Rules as U
use Rattle.rules.specs.Settle as S
use Rattle.rules.specs.Heap as H
use Rattle.rules.specs.Call as C
use Rattle.rules.specs.Step as T
use Rattle.rules.specs.Refusals as F
use Rattle.worthless.specs.Refuted.{Refuted2}
use Rattle.worthless.proofs.Scenes.{of, sizes, fresh_rows, h₀, r₀, h₁, r₁, h₂, r₂, h₃, r₃, unsound, pos-same, not_neg}

sized₀ : Sized h₀ r₀
unfolding F.is_sized sized?
sized₀ = sized-true h₀ r₀ refl

sound₀ : Sound h₀ r₀
unfolding F.is_sound sound? dec_word Word
sound₀ = sound-true h₀ r₀ refl

unsound-sized : Sized h₀ unsound
unfolding F.is_sized sized?
unsound-sized = sized-true h₀ unsound refl

not_sound : Sound h₀ unsound → ⊥
unfolding F.is_sound sound? dec_word Word
not_sound = sound-false h₀ unsound refl

-- a cell let go; two of them
abbrev let_go : List Call
let_go = New 0 ∷ Do (Clear 0) ∷ []

abbrev two_let_go : List Call
two_let_go = New 0 ∷ New 1 ∷ Do (Clear 0) ∷ Do (Clear 1) ∷ []

-- a cell that points to itself, let go
abbrev ring : List Call
ring = New 0 ∷ Do (Link 0 0 0) ∷ Do (Clear 0) ∷ []

-- the cells of it
abbrev its : ℕ → Bool
its a = eqb a 0

-- a cell with a figure, let go and taken again
abbrev with_figure : List Call
with_figure = New 0 ∷ Do (Put 0 1 (pos 7)) ∷ Do (Clear 0) ∷ []

-- two pointers to a cell, below the cap
abbrev shared : List Call
shared = New 0 ∷ New 1 ∷ Do (Link 0 0 1) ∷ Do (Link 0 1 1) ∷ []

-- with cap 5
abbrev two_head : Head
two_head = fresh_head (sized 2 2 4 5)

abbrev two_rows : R.Lent
two_rows = R.rows_of (sized 2 2 4 5) (T.fresh (sized 2 2 4 5))

-- one of the two is left, and no variable
abbrev one_left : List Call
one_left = New 0 ∷ New 1 ∷ Do (Link 0 0 1) ∷ Do (Link 0 1 1) ∷ Settle ∷ Do (Blank 0 0) ∷ Do (Clear 1) ∷ []

-- a cell with a figure that only a cell points to
abbrev pointed : List Call
pointed = New 0 ∷ New 1 ∷ Do (Link 0 0 1) ∷ Do (Put 1 1 (pos 7)) ∷ Do (Clear 1) ∷ []

-- a log that is full
abbrev news : List Call
news = New 0 ∷ New 0 ∷ []

-- a count of 2 at the only place is not 3
not-at_cap : (i : ℕ) → i < 1 → ◌≡◌ {A = ℕ} (get_or (2 ∷ 0 ∷ []) i 0) 3 → ⊥
not-at_cap i l e = let z : i ≡ 0 = omega arith in let f : ◌≡◌ {A = ℕ} 2 3 = rw z at e in omega arith

-- in a fresh heap no turn takes a cell
none-taken : M.Taken (sizes 2 1) (M.moment (fresh_head (sizes 2 1)) (fresh_rows 2 1) []).shape.variables (M.moment (fresh_head (sizes 2 1)) (fresh_rows 2 1) []) 0 → ⊥
unfolding R.rows_of R.heap_of U.replay S.reclaim S.replayed T.free_from T.fresh M.heap_after M.turns
none-taken t = go t.turn t.within t.taking.in_zct
  where
    go : (k : ℕ) → k < 2 → has 0 (M.turns (sizes 2 1) (none ∷ []) (M.moment (fresh_head (sizes 2 1)) (fresh_rows 2 1) []) k).tables.zct ≡ true → ⊥
    go zero l e = false≢true e
    go (suc zero) l e = false≢true e
    go (suc (suc k)) l e = omega arith

pub refuted_2 : Refuted2
unfolding F.is_sized F.is_sound sound? sized? dec_word Word F.fresh_of F.audit_of F.batch_of F.check_calls F.check_answers F.check_sound F.accepted F.answered R.rows_of R.head_of R.heap_of C.call_of C.calls_of C.calls_in U.enter_zct U.leave_zct U.enter_mrt U.leave_mrt U.on_create U.on_destroy U.apply U.replay H.place H.field H.store S.free_cell S.reclaim S.replayed S.settled_by S.settled C.var C.at C.refuses C.logs C.write C.hold C.act C.value T.full T.no_cell_free T.wants T.settled_if T.take_cell T.do_new T.do_deed T.acted T.run T.step T.calls T.batch T.free_from T.fresh I.live M.heap_after M.turns
refuted_2 =
    record {
      changes-cap = λ d. let e : ◌≡◌ {A = ℕ} 255 3 = ap (λ s. s.cap) ((d.batch_settles h₀ r₀ (of [])).sizes_stay refl) in omega arith;
      leaves-log = λ d. let e : ◌≡◌ {A = ℕ} 1 0 = ((d.batch_settles h₀ r₀ (of [])).batch_sound refl).1.log_zero 0 (omega arith) (omega arith) in omega arith;
      counts-one-more = λ d.
          let e : ◌≡◌ {A = ℕ} 2 3 = ((d.batch_settles two_head two_rows (of shared)).exact_below_cap refl).exact 0 (omega arith) (omega arith) in
          omega arith;
      frees-nothing = λ d. false≢true ((d.batch_settles h₀ r₀ (of let_go)).frees_all refl 0 (omega arith));
      frees-once = λ d. false≢true ((d.batch_settles h₀ r₀ (of (New 0 ∷ Do (Clear 0) ∷ Settle ∷ New 0 ∷ Do (Clear 0) ∷ []))).frees_all refl 0 (omega arith));
      pins-at-the-cap = λ d.
          let t = (((demand_2.batch_settles h₀ r₀ (of let_go)).frees_exactly let_go refl refl).freed 0 refl).0 refl in
          let e : ◌≡◌ {A = ℕ} 0 3 = (((d.batch_settles h₀ r₀ (of let_go)).frees_exactly let_go refl refl).freed 0 refl).1 t in
          omega arith;
      frees-pointed-to = λ d.
          let t = (((d.batch_settles two_head two_rows (of one_left)).frees_exactly one_left refl refl).freed 1 refl).0 refl in
          let e : ◌≡◌ {A = ℕ} 0 3 = (((demand_2.batch_settles two_head two_rows (of one_left)).frees_exactly one_left refl refl).freed 1 refl).1 t in
          omega arith;
      frees-held = λ d. true≢false ((((d.batch_settles h₀ r₀ (of (New 0 ∷ []))).frees_exactly (New 0 ∷ []) refl refl).freed 0 refl).0 refl).taking.unheld;
      frees-largest-first = λ d.
          let e : ◌≡◌ {A = ℕ} 1 2 =
          ((d.batch_settles (fresh_head (sizes 2 2)) (fresh_rows 2 2) (of two_let_go)).frees_exactly two_let_go refl refl).in_order 0 0 (omega arith)
          (record { in_zct = refl; unheld = refl; smallest = λ b i u. omega arith; no_pointer = refl }) in
          omega arith;
      turns-free-list = λ d.
          let e : Free 2 ≡ Free 1 = ((d.batch_settles (fresh_head (sizes 2 1)) (fresh_rows 2 1) (of [])).frees_exactly [] refl refl).others_kept 0 0 (omega arith) none-taken in
          let z : ◌≡◌ {A = ℕ} 2 1 = cc in
          omega arith;
      loses-figure = λ d.
          let e : Nothing ≡ Figure (pos 7) = ((d.batch_settles two_head two_rows (of pointed)).frees_exactly pointed refl refl).others_kept 1 1 (omega arith) (λ t. let z : ◌≡◌ {A = ℕ} 0 3 = (((demand_2.batch_settles two_head two_rows (of pointed)).frees_exactly pointed refl refl).freed 1 refl).1 t in omega arith) in
          let z : ◌≡◌ {A = ℕ} 0 1 = cc in
          omega arith;
      lets-go = λ d. not_neg 0 0 (sym (ap (λ v. get_or v 1 (pos 0)) ((d.batch_settles h₂ r₂ (of [])).frees_exactly [] refl refl).variables_kept));
      caps-early = λ d.
          let e : ◌≡◌ {A = ℕ} 2 5 = ((d.batch_settles two_head two_rows (of shared)).at_the_cap shared refl refl 1).0 (record { index = 0; within = omega arith; here = refl; full = refl }) in
          omega arith;
      counts-anew = λ d.
          let a = (d.batch_settles h₃ r₃ (of [])).cap_stays refl 1 (record { index = 0; within = omega arith; here = refl; full = refl }) in
          not-at_cap a.index a.within a.full;
      frees-rings = λ d.
          ((d.batch_settles h₀ r₀ (of ring)).ring_stays ring its refl refl
          (record {
            in_use = λ a p. rw (eqb-true a 0 p) refl;
            pointed = λ a p. rw (eqb-true a 0 p) (record { cell = 0; part = 0; small = omega arith; among = refl; points = refl });
          })
          0 refl).used refl;
      made-up-count = λ d. let e : ◌≡◌ {A = ℕ} 2 1 = (d.batch_settles h₀ r₀ (of [])).count_is_freed [] refl refl in omega arith;
      counts-last = λ d. let e : ◌≡◌ {A = ℕ} 0 1 = (d.batch_settles h₀ r₀ (of (New 0 ∷ Do (Clear 0) ∷ Settle ∷ []))).count_is_sum (New 0 ∷ Do (Clear 0) ∷ Settle ∷ []) refl refl in omega arith;
      hands-out-second = λ d.
          let e = pos-same 1 0 ((d.batch_settles (fresh_head (sizes 2 1)) (fresh_rows 2 1) (of (New 0 ∷ []))).handed_out_again [] 0 refl refl refl).held in
          omega arith;
      hands-out-old-figures = λ d.
          let e : ◌≡◌ {A = ℕ} 1 0 = ((d.batch_settles h₀ r₀ (of (New 0 ∷ Do (Put 0 1 (pos 7)) ∷ Do (Clear 0) ∷ New 0 ∷ []))).handed_out_again with_figure 0 refl refl refl).kinds.1 in
          omega arith;
      value-beside-nothing = λ d. let e = pos-same 7 0 ((d.batch_settles h₀ r₀ (of (New 0 ∷ []))).handed_out_again [] 0 refl refl refl).values.1 in omega arith;
      settle-one-more = λ d. let e = pos-same 1 0 ((d.batches_settle h₀ r₀ (of (Settle ∷ [])) (of [])).settle_value [] [] refl refl refl refl) in omega arith;
      settles-not-for-room = λ d.
          let s =
          (d.batches_settle (fresh_head (sizes 3 2)) (fresh_rows 3 2) (of (New 0 ∷ New 0 ∷ New 1 ∷ [])) (of (New 0 ∷ New 0 ∷ Settle ∷ New 1 ∷ []))
          ).settled_before news [] (New 1) refl refl refl refl refl tt refl refl in
          let e = pos-same 2 0 (ap (λ r. get_or r.variables 1 (pos 0)) s.same_rows) in
          omega arith;
      settles-late = λ d.
          let s = d.settle_ends (fresh_head (sizes 2 1)) (fresh_rows 2 1) (of (New 0 ∷ Do (Clear 0) ∷ Settle ∷ New 0 ∷ [])) (of let_go) (of (New 0 ∷ [])) let_go (New 0 ∷ []) refl refl refl refl refl refl in
          let e = pos-same 1 0 (ap (λ r. get_or r.variables 0 (pos 0)) s.same_rows) in
          omega arith;
      counts_after_settle = λ d.
          let e : ◌≡◌ {A = ℕ} 0 1 = (d.settle_ends h₀ r₀ (of (New 0 ∷ Do (Clear 0) ∷ Settle ∷ [])) (of let_go) (of []) let_go [] refl refl refl refl refl refl).counts in
          omega arith;
      counts-for-room = λ d.
          let s =
          (d.batches_settle (fresh_head (sizes 3 1)) (fresh_rows 3 1) (of (New 0 ∷ New 0 ∷ New 0 ∷ [])) (of (New 0 ∷ New 0 ∷ Do (Clear 0) ∷ New 0 ∷ []))
          ).new_lets_go news [] 0 refl refl refl refl refl in
          let e = pos-same 0 1 (ap (λ r. get_or r.variables 0 (pos 0)) s.same_rows) in
          omega arith;
      reuses-uncounted = λ d.
          let s = (d.batches_settle h₁ r₁ (of (New 0 ∷ [])) (of (Do (Clear 0) ∷ New 0 ∷ []))).new_lets_go [] [] 0 refl refl refl refl refl in
          let e : ◌≡◌ {A = ℕ} 0 1 = ap (λ o. o.count) s.outcomes in
          omega arith;
      says_14 = λ d. let e : ◌≡◌ {A = ℕ} 0 1 = ((d.batches_settle h₀ r₀ (of (New 0 ∷ [])) (of (Do (Clear 0) ∷ []))).fourteen_exactly [] [] 0 refl refl refl refl).0 refl in omega arith;
      fourteen-unsettled = λ d.
          let e : ◌≡◌ {A = ℕ} 0 1 = ((d.batches_settle h₀ r₀ (of (New 0 ∷ Do (Clear 0) ∷ New 0 ∷ [])) (of (New 0 ∷ Do (Clear 0) ∷ Do (Clear 0) ∷ []))).fourteen_exactly let_go [] 0 refl refl refl refl).0 refl in
          omega arith;
      counts-own-hold = λ d. let e : ◌≡◌ {A = ℕ} 0 1 = ((d.batches_settle h₁ r₁ (of (New 0 ∷ [])) (of (Do (Clear 0) ∷ []))).fourteen_exactly [] [] 0 refl refl refl refl).0 refl in omega arith;
      counts-no-hold = λ d.
          let e = pos-same 0 14 (((d.batches_settle h₂ r₂ (of (New 0 ∷ [])) (of (Do (Clear 0) ∷ []))).fourteen_exactly [] [] 0 refl refl refl refl).1 refl) in
          omega arith;
      clears_at_14 = λ d.
          let s = (d.batches_settle h₂ r₂ (of (New 0 ∷ [])) (of [])).fourteen_keeps [] 0 refl refl refl refl refl in
          not_neg 0 0 (sym (ap (λ r. get_or r.variables 0 (pos 0)) s.same_rows));
      loses-the-log = λ d.
          let s = (d.batches_settle h₁ r₁ (of (Do (Link 0 0 0) ∷ New 0 ∷ [])) (of (Do (Link 0 0 0) ∷ []))).fourteen_keeps (Do (Link 0 0 0) ∷ []) 0 refl refl refl refl refl in
          let e : ◌≡◌ {A = ℕ} 1 0 = ap (λ o. o.head.zct) s.outcomes in
          omega arith;
      audit-no = λ d. let e : ◌≡◌ {A = ℕ} 4 0 = (d.audit_exactly h₀ r₀ sized₀).1 sound₀ in omega arith;
      audit-yes = λ d. not_sound ((d.audit_exactly h₀ unsound unsound-sized).0 refl);
    }
