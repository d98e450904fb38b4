-- Demand 2 of our heap: tables as the rules give them, exact counts, all and only what may go is freed, 14 exactly when full. Assumes nothing.
use Prim.Native.Nat.{ℕ, zero, suc, ◌+◌, ◌*◌, ◌-◌, ◌<◌}
use mathlib.Core.Path.{◌≡◌, refl, sym, ap, ap₂, ◌∙◌, subst}
use mathlib.Core.Logic.{◌↔◌}
use mathlib.Core.Bool.{Bool, true, false}
use mathlib.Core.Option.{some}
use mathlib.Core.List.{List, [], ◌∷◌, ◌++◌, map, append-nil}
use native.Mathlib.Omega.{arith}
use lib.ListN.{length, get_or, drop}
use lib.IntN.{ℤ, pos}
use Rattle.rules.specs.declared.Head.{Head}
use Rattle.rules.specs.declared.Field.{Field}
use Rattle.rules.specs.declared.Field.TheVariants.{Nothing, Figure, Cell, Free}
use Rattle.rules.specs.declared.Call.{Call}
use Rattle.rules.specs.declared.Deed.TheVariants.{Clear}
use Rattle.rules.specs.declared.Call.TheVariants.{New, Do, Settle}
use Rattle.rules.specs.declared.Sizes.{Sizes}
use Rattle.rules.specs.Head.{Limits}
use Rattle.rules.specs.Field.{kind_of, value_of, field_of, variable_of}
use Rattle.rules.specs.Table.{count_in}
use Rattle.rules.specs.Heap.{Heap, place, field}
use Rattle.rules.specs.Settle.{replayed, settled}
use Rattle.rules.specs.Call.{Answer, AllFit, var}
use Rattle.rules.specs.Step.{Stepped, Result, wants, counted, settled_for, step, calls, unfreed, batch}
use Rattle.rules.specs.Rows.{Lent, rows_of, head_of, heap_of}
use Rattle.rules.specs.Sound.{Sound, Sized, mark, Live, held_among, times}
use Rattle.rules.specs.Refusals.{Batched, answer_words, answered, accepted, audit_of, is_sound}
use Rattle.rules.specs.Run.{ours, Batch, hand_in, said, NotSettle}
use Rattle.rules.specs.Invariant.{live, view, lives, Inv, Ended}
use Rattle.rules.specs.Moment.{moment, SettlesRight, lives_in, freed_in, PointsToItself}
use Rattle.rules.specs.Demands.{Asks, status_at, value_at, SameBut, FreesExactly, AtCap, handed_out, free_cells, HoldsBlank, BatchSettles, BatchesSettle, SettleEnds, EndsThere, Demand2}
use Rattle.rules.proofs.Tests.{sound-true, sound-false}
use Rattle.rules.proofs.Cells.{live_below}
use Rattle.rules.proofs.Calls.{holds-var, fit_parts}
use Rattle.rules.proofs.Step.{settled_by-variables, settled-inv, settle_sound, step-inv, counted_from_0}
use Rattle.rules.proofs.Positions.{live_at, dead_at, free_at, kind_at, word_at}
use Rattle.rules.proofs.Roundtrip.{field_back, fields_back, rows-of-heap, batch-of_ended}
use Rattle.rules.proofs.Whole.{twice}
use Rattle.rules.proofs.Entry.{entry_ended, exit_ended, exit_sized, exit_sound}
use Rattle.rules.proofs.Demand1.{took, took_some, answers-long, audit_0, audit_4}
use Rattle.rules.proofs.Facts as facts
use Rattle.rules.proofs.Inside.{held-fields, var-settled, row-variable, said-alone, pos-same}
use Rattle.rules.proofs.Beside.{moment-inv, heap-there, end-there, status-there, value_there, same_as, same_but, then-call, then-none, said-own, said-before, said-after}
use Rattle.rules.proofs.LetGo.{after_clear, fourteen_cleared, kept-settled}
use Rattle.rules.proofs.Settles.{calls-on, settle_step, as_settled-before, calls-freed}
use Rattle.rules.proofs.Stays.{rows-capped, capped-rows, cap_stays, ring-settled}

-- ---- free cells and cells in use

-- each cell is free or in use
free_lives : (fs : List Field) (n : ℕ) → length fs ≡ 2 * n → ((a b : ℕ) → get_or fs (2 * a + 1) Nothing ≡ Free b → ⊥) → times 3 (map kind_of fs) + lives fs ≡ n
free_lives [] n e p = omega arith
free_lives (f ∷ []) n e p = absurd (omega arith)
free_lives (f ∷ g ∷ fs) zero e p = absurd (omega arith)
free_lives (f ∷ g ∷ fs) (suc n) e p = go f g (p 0) (free_lives fs n (omega arith) (λ a b q. p (suc a) b (ap (λ (i : ℕ). get_or (f ∷ g ∷ fs) i Nothing) (twice a) ∙ q)))
  where
    in_field_1 : (f g : Field) → ((b : ℕ) → g ≡ Free b → ⊥) → times 3 (map kind_of fs) + lives fs ≡ n
        → times 3 (map kind_of (f ∷ fs)) + lives (f ∷ g ∷ fs) ≡ suc n → times 3 (map kind_of (f ∷ g ∷ fs)) + lives (f ∷ g ∷ fs) ≡ suc n
    in_field_1 f Nothing d i e = omega arith
    in_field_1 f (Figure x) d i e = omega arith
    in_field_1 f (Cell a) d i e = omega arith
    in_field_1 f (Free a) d i e = absurd (d a refl)

    go : (f g : Field) → ((b : ℕ) → g ≡ Free b → ⊥) → times 3 (map kind_of fs) + lives fs ≡ n → times 3 (map kind_of (f ∷ g ∷ fs)) + lives (f ∷ g ∷ fs) ≡ suc n
    go Nothing g d i = in_field_1 Nothing g d i (omega arith)
    go (Figure x) g d i = in_field_1 (Figure x) g d i (omega arith)
    go (Cell a) g d i = in_field_1 (Cell a) g d i (omega arith)
    go (Free a) g d i = in_field_1 (Free a) g d i (omega arith)

free_in : {s : Sizes} {h : Heap} → Inv s h → times 3 (map kind_of h.shape.fields) + lives h.shape.fields ≡ s.n
unfolding field place
free_in {s} {h} I = free_lives h.shape.fields s.n I.good.len I.plain_1

-- ---- cells handed out, by the answers row

handed_in : (cs : List Call) (as' : List Answer) (rest : List ℤ) → length as' ≡ length cs → handed_out (said cs (answer_words as' ++ rest)) ≡ facts.made_in cs as'
handed_in [] as' rest e = refl
handed_in (c ∷ cs) [] rest e = absurd (omega arith)
handed_in (c ∷ cs) (a ∷ as') rest e = let i = handed_in cs as' rest (omega arith) in omega arith

-- ---- an accepted batch

module _ {h : Head} {r : Lent} (Z : Sized h r) (S : Sound h r) (cs : List Call) (F : AllFit h.sizes.m cs) where
  kinds-are : map kind_of (heap_of h r).shape.fields ≡ r.kinds
  unfolding rows_of
  kinds-are = ap (λ (q : Lent). q.kinds) (rows-of-heap Z S)

  count-freed : (row : List ℤ) → free_cells r + (accepted h r cs row).outcome.count ≡ free_cells (accepted h r cs row).rows + handed_out (said cs (accepted h r cs row).answers)
  unfolding accepted rows_of answered batch
  count-freed row =
      let a = rw kinds-are at (free_in (entry_ended Z S).inv) in
      let b = free_in (exit_ended Z S cs F).inv in
      let c = facts.count_is_freed h.sizes Z.within.limits cs (heap_of h r) (entry_ended Z S).inv F in
      let k = unfreed (heap_of h r) in
      let as' = (calls h.sizes cs k).answers in
      let d = handed_in cs as' (drop (2 * length as') row) (answers-long h.sizes cs k) in
      omega arith

  -- some variable holds each ZCT cell afterwards
  all_held : (row : List ℤ) (j : ℕ) → j < (accepted h r cs row).outcome.head.zct
      → held_among h.sizes.n (accepted h r cs row).rows.variables (get_or (accepted h r cs row).rows.tables.zct j 0) h.sizes.m ≡ true
  all_held row j k =
      let e = (exit_sized Z S cs F row).lengths.for_variables in
      subst (λ (v : ℕ). held_among h.sizes.n (accepted h r cs row).rows.variables (get_or (accepted h r cs row).rows.tables.zct j 0) v ≡ true) (e ∙ same-m row)
      (subst (λ (n : ℕ). held_among n (accepted h r cs row).rows.variables (get_or (accepted h r cs row).rows.tables.zct j 0) (length (accepted h r cs row).rows.variables) ≡ true) (same_n row) ((exit_sound Z S cs F row).held j k))
    where
      same_n : (row : List ℤ) → (accepted h r cs row).outcome.head.sizes.n ≡ h.sizes.n
      same_n row = unfold accepted head_of in refl

      same-m : (row : List ℤ) → (accepted h r cs row).outcome.head.sizes.m ≡ h.sizes.m
      same-m row = unfold accepted head_of in refl

-- a cell with the mark is not in use
marked_dead : (n : ℕ) (fs : List Field) → length fs ≡ 2 * n → (a : ℕ) → mark (map kind_of fs) a ≡ 3 → live fs a ≡ false
marked_dead n fs len a e = go (live fs a) refl
  where
    go : (q : Bool) → live fs a ≡ q → live fs a ≡ false
    go true l = absurd ((live_at n fs len a l).used e)
    go false l = l

-- ---- at a moment of a batch

module _ {h : Head} {r : Lent} (Z : Sized h r) (S : Sound h r) (cs : List Call) (F : AllFit h.sizes.m cs) where
  -- every settle of a batch on sound rows is right: the one before any call, the call settle's, and the one at the end, which counts the same holds
  pub every_settle : (c : Call) → SettlesRight h.sizes (counted c (moment h r cs)) (moment h r cs)
  every_settle c = facts.settles-right h.sizes Z.within.limits c (moment h r cs) (moment-inv Z S cs F)

  ended_there : Ended h.sizes (settled h.sizes (moment h r cs))
  ended_there = settle_sound h.sizes Z.within.limits (moment h r cs) (moment-inv Z S cs F)

  -- the rows that the batch of these calls leaves
  rows-there : (row : List ℤ) → (accepted h r cs row).rows ≡ rows_of h.sizes (settled h.sizes (moment h r cs))
  unfolding accepted
  rows-there row = ap (rows_of h.sizes) (end-there h r cs)

  frees-there : (row : List ℤ) → FreesExactly h.sizes (moment h r cs) (accepted h r cs row).rows
  unfolding rows_of settled field place
  frees-there row =
      let s = h.sizes in
      let R = every_settle Settle in
      let fs = (settled s (moment h r cs)).shape.fields in
      let len = ended_there.inv.good.len in
      rw (rows-there row)
      (record {
        freed = λ a l. (
          λ e. (R.frees_only a l).0 (marked_dead s.n fs len a e),
          λ t. dead_at s.n fs len a (live_below s.n (moment h r cs).shape.fields (moment-inv Z S cs F).good.len a l) ((R.frees_only a l).1 t),
        );
        in_order = λ k a l t. (free_at s.n fs len a _ (R.in_order k a l t)).follows;
        others_kept = λ a f l n. ap₂ field_of (kind_at fs (2 * a + f)) (word_at fs (2 * a + f)) ∙ field_back (field fs a f) ∙ R.others_kept a f l n;
        variables_kept = ap (map variable_of) (settled_by-variables s (moment h r cs).shape.variables (moment h r cs));
      })

  ring-there : (P : ℕ → Bool) (row : List ℤ) → PointsToItself (moment h r cs).shape.fields P → (a : ℕ) → P a ≡ true → Live h.sizes.n (accepted h r cs row).rows.kinds a
  unfolding rows_of
  ring-there P row R a p =
      let s = h.sizes in
      let Q = ring-settled s Z.within.limits (moment h r cs) (moment-inv Z S cs F) P R in
      rw (rows-there row) (live_at s.n (settled s (moment h r cs)).shape.fields ended_there.inv.good.len a (Q.in_use a p))

  at_cap_there : (row : List ℤ) (a : ℕ) → AtCap (accepted h r cs row).outcome.head (accepted h r cs row).rows.tables a ↔ (count_in a (replayed h.sizes.cap (moment h r cs)).tables.mrt ≡ h.sizes.cap)
  unfolding accepted settled view
  at_cap_there row a =
      let s = h.sizes in
      let ok = Z.within.limits in
      let x = settled s (moment h r cs) in
      let K = ended_there.inv.kept in
      let R = (every_settle Settle).at_the_cap a in
      rw (end-there h r cs) (λ A. R.0 (rows-capped s ok a x K A), λ e. capped-rows s ok a x K (R.1 e))

  capped-there : (row : List ℤ) (a : ℕ) → AtCap h r.tables a → AtCap (accepted h r cs row).outcome.head (accepted h r cs row).rows.tables a
  unfolding accepted
  capped-there row a A = cap_stays Z S cs a (exit_ended Z S cs F).inv A

  sum-there : (row : List ℤ) → (accepted h r cs row).outcome.count ≡ freed_in h.sizes cs (unfreed (heap_of h r))
  unfolding accepted batch
  sum-there row =
      let ok = Z.within.limits in
      let k = unfreed (heap_of h r) in
      let e = calls-freed h.sizes ok cs k (counted_from_0 h.sizes ok (heap_of h r) (entry_ended Z S).inv) F in
      omega arith

-- a step that is the same goes on the same
goes_on : (s : Sizes) (c : Call) (ds : List Call) (x y : Heap) → step s c x ≡ step s c y → calls s (c ∷ ds) x ≡ calls s (c ∷ ds) y
unfolding calls
goes_on s c ds x y e = ap (λ (o : Stepped). record { heap = (calls s ds o.heap).heap; answers = o.answer ∷ (calls s ds o.heap).answers }) e

-- ---- a call inside a batch, after the calls cs

module _ {h : Head} {r : Lent} (Z : Sized h r) (S : Sound h r) (cs : List Call) (F : AllFit h.sizes.m cs) where
  abbrev s : Sizes
  s = h.sizes

  abbrev now : Heap
  now = moment h r cs

  module _ (v : ℕ) (row row' : List ℤ) where
    fourteen : (ds : List Call) → (status_at (accepted h r (cs ++ New v ∷ ds) row) cs ≡ pos 14) ↔ ((accepted h r (cs ++ Do (Clear v) ∷ []) row').outcome.head.free ≡ s.n)
    unfolding accepted head_of calls
    fourteen ds =
        let f = fourteen_cleared s Z.within.limits v now (moment-inv Z S cs F) in
        rw (status-there h r cs ds (New v) row, heap-there h r cs (Do (Clear v) ∷ [])) (λ e. f.0 (pos-same _ _ e), λ e. ap pos (f.1 e))

    module _ (ds : List Call) (k : ℕ) (e : status_at (accepted h r (cs ++ New v ∷ ds) row) cs ≡ pos k) where
      status-now : (step s (New v) now).answer.status ≡ k
      status-now = pos-same _ _ (sym (status-there h r cs ds (New v) row) ∙ e)

    keeps : status_at (accepted h r (cs ++ New v ∷ []) row) cs ≡ pos 14 → SameBut cs (New v ∷ []) [] [] (accepted h r (cs ++ New v ∷ []) row) (accepted h r (cs ++ []) row')
    unfolding calls
    keeps e =
        let a = kept-settled s Z.within.limits v now (moment-inv Z S cs F) (status-now [] 14 e) in
        same_but h r cs [] (New v ∷ []) [] row row' (λ i. record { heap = (ap (settled s) (then-call h r cs (New v)) ∙ a ∙ ap (settled s) (sym (then-none h r cs))) i; answers = [] })

    lets-go : (ds : List Call) → status_at (accepted h r (cs ++ New v ∷ ds) row) cs ≡ pos 0
        → SameBut cs [] (Do (Clear v) ∷ []) (New v ∷ ds) (accepted h r (cs ++ New v ∷ ds) row) (accepted h r (cs ++ Do (Clear v) ∷ New v ∷ ds) row')
    unfolding calls
    lets-go ds e =
        let c = after_clear s Z.within.limits v now (moment-inv Z S cs F) (status-now ds 0 e) in
        same_but h r cs (New v ∷ ds) [] (Do (Clear v) ∷ []) row row' (goes_on s (New v) ds _ _ (ap (step s (New v)) (then-none h r cs) ∙ sym c ∙ ap (step s (New v)) (sym (then-call h r cs (Do (Clear v))))))

  -- the settle before a call
  settles-before : (row row' : List ℤ) (ds : List Call) (x : Call) → status_at (accepted h r (cs ++ x ∷ ds) row) cs ≡ pos 0 → NotSettle x → wants s x now ≡ true → counted x now ≡ now.shape.variables
      → SameBut cs [] (Settle ∷ []) (x ∷ ds) (accepted h r (cs ++ x ∷ ds) row) (accepted h r (cs ++ Settle ∷ x ∷ ds) row')
  settles-before row row' ds x e n w own =
      let c = as_settled-before s Z.within.limits x now (moment-inv Z S cs F) n w own (pos-same _ _ (sym (status-there h r cs ds x row) ∙ e)) in
      same_but h r cs (x ∷ ds) [] (Settle ∷ []) row row' (goes_on s x ds _ _ (ap (step s x) (then-none h r cs) ∙ c ∙ ap (step s x) (sym (then_settle))))
    where
      then_settle : moment h r (cs ++ Settle ∷ []) ≡ settled s now
      then_settle = then-call h r cs Settle ∙ ap (λ (o : Stepped). o.heap) (settle_step s now)

-- ---- the call settle

module _ {h : Head} {r : Lent} (Z : Sized h r) (S : Sound h r) (cs : List Call) (F : AllFit h.sizes.m cs) where
  abbrev end : Heap
  end = settled h.sizes (moment h r cs)

  lives-there : (row : List ℤ) → lives_in (accepted h r cs row).rows ≡ lives end.shape.fields
  unfolding rows_of
  lives-there row = rw (rows-there Z S cs F row) (ap lives (fields_back end.shape.fields))

  value-is : (ds : List Call) (row row' : List ℤ) → value_at (accepted h r (cs ++ Settle ∷ ds) row) cs ≡ pos (lives (moment h r cs).shape.fields - lives_in (accepted h r cs row').rows)
  value-is ds row row' =
      let m = moment h r cs in
      let e = facts.settled-sum h.sizes Z.within.limits m (moment-inv Z S cs F) in
      let z : end.freed - m.freed ≡ lives m.shape.fields - lives end.shape.fields = omega arith in
      rw (lives-there row') (value_there h r cs ds Settle row ∙ ap (λ (o : Stepped). o.answer.value) (settle_step h.sizes m) ∙ ap pos z)

  settle_there : (step h.sizes Settle (moment h r cs)).heap ≡ end
  settle_there = ap (λ (o : Stepped). o.heap) (settle_step h.sizes (moment h r cs))

  -- the batch with calls after it, and the batch of these calls on the rows left: they end alike, but for the cells that were freed before
  module _ (ds : List Call) where
    abbrev on : Result
    on = calls h.sizes ds (unfreed end)

    first_heap : (batch h.sizes (cs ++ Settle ∷ ds) (heap_of h r)).heap ≡ record { shape = on.heap.shape; first = on.heap.first; tables = on.heap.tables; log = on.heap.log; freed = on.heap.freed + end.freed }
    unfolding calls
    first_heap = heap-there h r cs (Settle ∷ ds) ∙ ap (λ (x : Heap). (calls h.sizes ds x).heap) settle_there ∙ ap (λ (o : Result). o.heap) (calls-on h.sizes ds end)

    second_heap : batch h.sizes ds (heap_of (head_of h.sizes end) (rows_of h.sizes end)) ≡ on
    unfolding batch
    second_heap = batch-of_ended ds (ended_there Z S cs F)

    ends_there : (row row' row'' : List ℤ) → EndsThere cs ds (accepted h r (cs ++ Settle ∷ ds) row) (accepted h r cs row') (accepted (head_of h.sizes end) (rows_of h.sizes end) ds row'')
    unfolding accepted head_of rows_of answered
    ends_there row row' row'' =
        let k = unfreed (heap_of h r) in
        record {
          same_head = rw (first_heap, second_heap);
          same_rows = rw (first_heap, second_heap);
          counts = rw (first_heap, second_heap, end-there h r cs) (omega arith);
          before = said-before h r cs ds (Settle ∷ []) row ∙ sym (said-own h r cs row');
          after =
              said-after h r cs ds (Settle ∷ []) row
              ∙ ap (λ (x : Heap). said ds (answer_words (calls h.sizes ds x).answers ++ [])) (then-call h r cs Settle ∙ settle_there)
              ∙ ap (λ (o : Result). said ds (answer_words o.answers ++ [])) (calls-on h.sizes ds end)
              ∙ sym (said-on row'');
        }
      where
        said-on : (row'' : List ℤ) → said ds (answered (batch h.sizes ds (heap_of (head_of h.sizes end) (rows_of h.sizes end))).answers row'') ≡ said ds (answer_words on.answers ++ [])
        said-on row'' = unfold answered in rw second_heap (said-alone h.sizes ds (unfreed end) (drop (2 * length on.answers) row''))

-- ---- a cell handed out

-- v holds a cell with both fields nothing: after a settle it does in the rows
blank-rows : (s : Sizes) → Limits s → (h : Heap) → Inv s h → (v a : ℕ) → var h.shape v ≡ some a → field h.shape.fields a 0 ≡ Nothing → field h.shape.fields a 1 ≡ Nothing
    → HoldsBlank (rows_of s (settled s h)) v a
unfolding rows_of field place var
blank-rows s ok h I v a e f0 f1 =
    let fs = (settled s h).shape.fields in
    let still : (f : ℕ) → f < 2 → field h.shape.fields a f ≡ Nothing → field fs a f ≡ Nothing = λ f l e0. held-fields s ok h I a f (holds-var h.shape.variables v a e) l ∙ e0 in
    let n0 = still 0 (omega arith) f0 in
    let n1 = still 1 (omega arith) f1 in
    record {
      held = row-variable s ok (settled s h) (settled-inv s ok h I) v 0 (omega arith) ∙ ap variable_of (var-settled s ok h I v ∙ e);
      kinds = (kind_at fs (2 * a + 0) ∙ ap kind_of n0, kind_at fs (2 * a + 1) ∙ ap kind_of n1);
      values = (word_at fs (2 * a + 0) ∙ ap value_of n0, word_at fs (2 * a + 1) ∙ ap value_of n1);
    }

module _ {h : Head} {r : Lent} (Z : Sized h r) (S : Sound h r) (cs : List Call) (v : ℕ) (F : AllFit h.sizes.m (cs ++ New v ∷ [])) (row : List ℤ) where
  blank-there : status_at (accepted h r (cs ++ New v ∷ []) row) cs ≡ pos 0 → HoldsBlank (accepted h r (cs ++ New v ∷ []) row).rows v (settled_for h.sizes (New v) (moment h r cs)).first
  blank-there e =
      let s = h.sizes in
      let ok = Z.within.limits in
      let p = fit_parts s.m cs (New v ∷ []) F in
      let m = moment h r cs in
      let I = moment-inv Z S cs p.0 in
      let H = facts.handed_out_again s ok v p.1.0 m I (pos-same _ _ (sym (status-there h r cs [] (New v) row) ∙ e)) in
      let t = then-call h r cs (New v) in
      rw (rows-there Z S (cs ++ New v ∷ []) F row, t)
      (blank-rows s ok (step s (New v) m).heap (step-inv s ok (New v) m I p.1.0) v (settled_for s (New v) m).first H.held H.field_0 H.field_1)

sizes-left : (h : Head) (r : Lent) (cs : List Call) (row : List ℤ) → (accepted h r cs row).outcome.head.sizes ≡ h.sizes
unfolding accepted head_of
sizes-left h r cs row = refl

-- a batch on what another left
on-left : (h : Head) (r : Lent) (c d : Batch) (e : Heap) → (hand_in ours h r c).outcome.head ≡ head_of h.sizes e → (hand_in ours h r c).rows ≡ rows_of h.sizes e
    → hand_in ours (hand_in ours h r c).outcome.head (hand_in ours h r c).rows d ≡ hand_in ours (head_of h.sizes e) (rows_of h.sizes e) d
on-left h r c d e x y = ap₂ (λ (k : Head) (q : Lent). hand_in ours k q d) x y

head-there : (h : Head) (r : Lent) (cs : List Call) (row : List ℤ) → (accepted h r cs row).outcome.head ≡ head_of h.sizes (settled h.sizes (moment h r cs))
unfolding accepted
head-there h r cs row = ap (head_of h.sizes) (end-there h r cs)

ends_as : {cs ds : List Call} {o p q x y z : Batched} → o ≡ x → p ≡ y → q ≡ z → EndsThere cs ds x y z → EndsThere cs ds o p q
ends_as {cs} {ds} {o} {p} {q} {x} {y} {z} e d f E =
    subst (λ (w : Batched). EndsThere cs ds w p q) (sym e) (subst (λ (w : Batched). EndsThere cs ds x w q) (sym d) (subst (λ (w : Batched). EndsThere cs ds x y w) (sym f) E))

-- ---- the demand

module _ (h : Head) (r : Lent) (b : Batch) where
  pub batch_settles : BatchSettles h r b (hand_in ours h r b)
  batch_settles =
      record {
        by_the_rules = λ cs d a. (took h r b cs d a).left;
        sizes_stay = λ a. let t = took_some h r b a in rw t.had.left (sizes-left h r t.calls b.answers);
        batch_sound = λ a.
            let t = (took_some h r b a).had in
            rw t.left (exit_sized t.sized t.sound _ t.fit b.answers, exit_sound t.sized t.sound _ t.fit b.answers);
        exact_below_cap = λ a. let t = (took_some h r b a).had in rw t.left (exit_sound t.sized t.sound _ t.fit b.answers).agree;
        frees_all = λ a. let t = (took_some h r b a).had in rw t.left (all_held t.sized t.sound _ t.fit b.answers);
        frees_exactly = λ cs d a. let t = took h r b cs d a in rw t.left (frees-there t.sized t.sound cs t.fit b.answers);
        at_the_cap = λ cs d a x. let t = took h r b cs d a in rw t.left (at_cap_there t.sized t.sound cs t.fit b.answers x);
        cap_stays = λ a x C. let t = (took_some h r b a).had in rw t.left (capped-there t.sized t.sound _ t.fit b.answers x C);
        ring_stays = λ cs P d a R. let t = took h r b cs d a in rw t.left (ring-there t.sized t.sound cs t.fit P b.answers R);
        count_is_freed = λ cs d a. let t = took h r b cs d a in rw t.left (count-freed t.sized t.sound cs t.fit b.answers);
        count_is_sum = λ cs d a. let t = took h r b cs d a in rw t.left (sum-there t.sized t.sound cs t.fit b.answers);
        handed_out_again = λ cs v d a o. let t = took h r b (cs ++ New v ∷ []) d a in rw t.left (blank-there t.sized t.sound cs v t.fit b.answers (rw t.left at o));
      }

  module _ (c : Batch) where
    pub batches_settle : BatchesSettle h r b c (hand_in ours h r b) (hand_in ours h r c)
    batches_settle =
        record {
          settle_value = λ cs ds d e a a'.
              let t = took h r b (cs ++ Settle ∷ ds) d a in
              let u = took h r c cs e a' in
              rw (t.left, u.left) (value-is u.sized u.sound cs u.fit ds b.answers c.answers);
          settled_before = λ cs ds x d e a a' o n w own.
              let t = took h r b (cs ++ x ∷ ds) d a in
              let u = took h r c (cs ++ Settle ∷ x ∷ ds) e a' in
              same_as t.left u.left (settles-before t.sized t.sound cs (fit_parts h.sizes.m cs (x ∷ ds) t.fit).0 b.answers c.answers ds x (rw t.left at o) n w own);
          new_lets_go = λ cs ds v d e a a' o.
              let t = took h r b (cs ++ New v ∷ ds) d a in
              let u = took h r c (cs ++ Do (Clear v) ∷ New v ∷ ds) e a' in
              same_as t.left u.left (lets-go t.sized t.sound cs (fit_parts h.sizes.m cs (New v ∷ ds) t.fit).0 v b.answers c.answers ds (rw t.left at o));
          fourteen_exactly = λ cs ds v d e a a'.
              let t = took h r b (cs ++ New v ∷ ds) d a in
              let u = took h r c (cs ++ Do (Clear v) ∷ []) e a' in
              rw (t.left, u.left) (fourteen t.sized t.sound cs (fit_parts h.sizes.m cs (New v ∷ ds) t.fit).0 v b.answers c.answers ds);
          fourteen_keeps = λ cs v d e a a' o.
              let t = took h r b (cs ++ New v ∷ []) d a in
              let u = took h r c cs e a' in
              same_as t.left (u.left ∙ ap (λ (es : List Call). accepted h r es c.answers) (sym (append-nil cs)))
              (keeps t.sized t.sound cs u.fit v b.answers c.answers (rw t.left at o));
        }

    module _ (d : Batch) where
      pub settle_ends : SettleEnds h b c d (hand_in ours h r b) (hand_in ours h r c) (hand_in ours (hand_in ours h r c).outcome.head (hand_in ours h r c).rows d)
      unfolding head_of
      settle_ends cs ds x y z a a' a'' =
          let t = took h r b (cs ++ Settle ∷ ds) x a in
          let u = took h r c cs y a' in
          let e = settled h.sizes (moment h r cs) in
          let top = ap (λ (o : Batched). o.outcome.head) u.left ∙ head-there h r cs c.answers in
          let on = on-left h r c d e top (ap (λ (o : Batched). o.rows) u.left ∙ rows-there u.sized u.sound cs u.fit c.answers) in
          let w = took (head_of h.sizes e) (rows_of h.sizes e) d ds (subst (λ (k : Head). Asks k d ds) top z) (ap (λ (o : Batched). o.outcome.status) (sym on) ∙ a'') in
          ends_as t.left u.left (on ∙ w.left) (ends_there u.sized u.sound cs u.fit ds b.answers c.answers d.answers)

pub demand_2 : Demand2 ours
demand_2 =
    record {
      batch_settles = batch_settles;
      batches_settle = batches_settle;
      settle_ends = settle_ends;
      audit_exactly = λ h r Z. (audit-yes h r Z, λ S. ap (λ o. o.outcome.status) (audit_0 h r Z S));
    }
  where
    audit-yes : (h : Head) (r : Lent) → Sized h r → (audit_of h r).outcome.status ≡ 0 → Sound h r
    audit-yes h r Z e = go (is_sound h r) refl
      where
        go : (q : Bool) → is_sound h r ≡ q → Sound h r
        go true d = sound-true h r d
        go false d = absurd (let f = ap (λ o. o.outcome.status) (audit_4 h r Z (sound-false h r d)) in omega arith)
