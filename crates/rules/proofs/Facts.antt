-- What is said of a settle, a call and a batch, over any heap with the invariant. Assumes nothing.
use Prim.Native.Nat.{ℕ, zero, suc, ◌+◌, ◌-◌, ◌<◌, ◌≤◌}
use mathlib.Core.Path.{◌≡◌, refl, sym, ap, ◌∙◌}
use mathlib.Core.Logic.{◌⊎◌, inl, inr, ◌↔◌}
use mathlib.Core.Bool.{Bool, true, false, ◌&&◌, ◌||◌, cond, false≢true, true≢false}
use mathlib.Core.Option.{Option, none, some}
use mathlib.Core.List.{List, [], ◌∷◌}
use native.Mathlib.Omega.{arith}
use lib.Dec.{eqb}
use lib.IntN.{pos}
use lib.ListN.{length}
use lib.Seq.{get_or-set_same}
use borrow.Author.Tests.{ne_eqb}
use Rattle.rules.specs.declared.Field.{Field}
use Rattle.rules.specs.declared.Field.TheVariants.{Nothing, Figure, Cell, Free}
use Rattle.rules.specs.declared.Deed.{Deed}
use Rattle.rules.specs.declared.Deed.TheVariants.{Copy, Clear, Link, Put, Blank, Follow, Read, Same}
use Rattle.rules.specs.declared.Call.{Call}
use Rattle.rules.specs.declared.Call.TheVariants.{New, Do, Settle}
use Rattle.rules.specs.declared.Sizes.{Sizes}
use Rattle.rules.specs.Table.{has}
use Rattle.rules.specs.Rules.{replay}
use Rattle.rules.specs.Heap.{Shape, Heap, place, field}
use Rattle.rules.specs.Settle.{pick, replayed, settled_by, settled}
use Rattle.rules.specs.Call.{Answer, answer, InRange, Fits, AllFit, unless, var, at, is_held, is_cell, no_figure, want, refuses, check, hold, value}
use Rattle.rules.specs.Demands.{reasons, has_value, Listed}
use Rattle.rules.specs.Step.{Stepped, refused, settled_if, full, no_cell_free, take_cell, do_new, run, step, calls, batch, wants, counted, settled_for, do_deed, acted, unfreed}
use Rattle.rules.specs.Head.{Limits}
use Rattle.rules.specs.Run.{is_new}
use Rattle.rules.specs.Moment.{turns, Taking, SettlesRight}
use Rattle.rules.specs.Invariant.{live, view, Inv, lives}
use Rattle.rules.proofs.Tables.{eqb_self}
use Rattle.rules.proofs.Sorted.{replay-kept}
use Rattle.rules.proofs.Cells.{free_dead, lives-taken, live-store_0, field-same, field_across}
use Rattle.rules.proofs.Turn.{turn-none}
use Rattle.rules.proofs.Reclaim.{pick_least, pick_some, pick-none, having, least_pick, reclaim-good, reclaim-kept, untaken_field, taken-when, taken-marked}
use Rattle.rules.proofs.Capped.{settled-at_cap}
use Rattle.rules.proofs.Calls.{act-lives}
use Rattle.rules.proofs.Step.{settled_by-good, settled_by-done, settled_by-sum, none_free_settled, counting, counted-good, counted-full, readied, readied-inv, readied-right, for_readied, Ran, run_as, taken, step-inv, counted_from_0}

-- ---- cells made

-- 1 for a new that was answered 0
abbrev pub made : Call → Answer → ℕ
made c r = cond (is_new c) (cond (eqb r.status 0) 1 0) 0

abbrev pub made_in : List Call → List Answer → ℕ
made_in [] rs = 0
made_in (c ∷ cs) [] = 0
made_in (c ∷ cs) (r ∷ rs) = made c r + made_in cs rs

-- ---- refusals that need no invariant

-- a number that a check gives: 0, or one of these reasons; none is above 15
abbrev pub Reason : List ℕ → ℕ → Type 0
Reason l zero = Unit {0}
Reason l (suc k) = (has (suc k) l ≡ true) × (suc k ≤ 15)

want_reason : (l : List ℕ) (b : Bool) (k : ℕ) → Reason l k → Reason l (want b k)
want_reason l true k r = tt
want_reason l false k r = r

-- 11 first
then_reason : (l : List ℕ) (b : Bool) (k : ℕ) → Reason l 11 → Reason l k → Reason l (cond b k 11)
then_reason l true k e r = r
then_reason l false k e r = e

figure_reason : (x : Field) → Reason (11 ∷ 13 ∷ 15 ∷ []) (no_figure x)
figure_reason Nothing = (refl, omega arith)
figure_reason (Figure x) = tt
figure_reason (Cell a) = (refl, omega arith)
figure_reason (Free a) = (refl, omega arith)

-- the check gives 0 or a reason that is listed for the call
pub check_reason : (c : Call) (sh : Shape) → Reason (reasons c) (check c sh)
unfolding refuses
check_reason (New v) sh = tt
check_reason (Do (Copy v w)) sh = tt
check_reason (Do (Clear v)) sh = tt
check_reason (Do (Link v f w)) sh = want_reason (reasons (Do (Link v f w))) (is_held (var sh v) && is_held (var sh w)) _ (refl, omega arith)
check_reason (Do (Put v f x)) sh = want_reason (reasons (Do (Put v f x))) (is_held (var sh v)) _ (refl, omega arith)
check_reason (Do (Blank v f)) sh = want_reason (reasons (Do (Blank v f))) (is_held (var sh v)) _ (refl, omega arith)
check_reason (Do (Follow v f w)) sh = then_reason (reasons (Do (Follow v f w))) (is_held (var sh v)) _ (refl, omega arith) (want_reason (reasons (Do (Follow v f w))) (is_cell (at sh v f)) _ (refl, omega arith))
check_reason (Do (Read v f)) sh = then_reason (11 ∷ 13 ∷ 15 ∷ []) (is_held (var sh v)) _ (refl, omega arith) (figure_reason (at sh v f))
check_reason (Do (Same v w)) sh = want_reason (reasons (Do (Same v w))) (is_held (var sh v) && is_held (var sh w)) _ (refl, omega arith)
check_reason Settle sh = tt

module _ (s : Sizes) where
  -- new says 14 exactly where no cell is free after the settle, if one was made
  pub fourteen_exactly : (v : ℕ) (h : Heap) → ((step s (New v) h).answer.status ≡ 14) ↔ (no_cell_free s (settled_for s (New v) h) ≡ true)
  unfolding step run acted do_new
  fourteen_exactly v h = go (no_cell_free s (settled_for s (New v) h)) (settled_for s (New v) h)
    where
      go : (q : Bool) (k : Heap) → ((do_new q v k).answer.status ≡ 14) ↔ (q ≡ true)
      go true k = (λ e. refl, λ e. refl)
      go false k = (λ e. absurd (omega arith), λ e. absurd (false≢true e))

  pub fourteen_settled : (v : ℕ) (h : Heap) → (step s (New v) h).answer.status ≡ 14 → no_cell_free s (settled_by s (counted (New v) h) h) ≡ true
  fourteen_settled v h e = let f = (fourteen_exactly v h).0 e in rw (none_free_settled s v h f) at f

  -- 14 comes after the settle that c wants, which leaves no cell free
  pub record Fourteen (c : Call) (h : Heap) (k : ℕ) (o : Stepped) : Type 0 where
    pub said : k ≡ 14
    pub left : o.heap ≡ settled_by s (counted c h) h
    pub none_free : no_cell_free s (settled_by s (counted c h) h) ≡ true

  -- a call that passed its check is refused by 14 alone, after one settle
  run-refused : (c : Call) (h : Heap) (k : ℕ) → (run s c h).answer.status ≡ suc k → ((run s c h).answer.value ≡ pos 0) × Fourteen c h (suc k) (run s c h)
  unfolding run acted do_new do_deed
  run-refused (New v) h k e = go (no_cell_free s (settled_for s (New v) h)) refl e
    where
      go : (q : Bool) → no_cell_free s (settled_for s (New v) h) ≡ q → (do_new q v (settled_for s (New v) h)).answer.status ≡ suc k
          → ((do_new q v (settled_for s (New v) h)).answer.value ≡ pos 0) × Fourteen (New v) h (suc k) (do_new q v (settled_for s (New v) h))
      go true d e = let m = none_free_settled s v h d in (refl, record { said = sym e; left = m; none_free = rw m at d })
      go false d e = absurd (omega arith)
  run-refused (Do d) h k e = absurd (omega arith)
  run-refused Settle h k e = absurd (omega arith)

  -- a call refused has value nought; by its check it leaves the heap as it was, by 14 after one settle
  abbrev pub Refused : Call → Heap → ℕ → Stepped → Type 0
  Refused c h k o = (o.answer.value ≡ pos 0) × (((check c h.shape ≡ suc k) × (o.heap ≡ h)) ⊎ Fourteen c h (suc k) o)

  pub call_refused : (c : Call) (h : Heap) (k : ℕ) → (step s c h).answer.status ≡ suc k → Refused c h k (step s c h)
  unfolding step
  call_refused c h k e = go (check c h.shape) refl e
    where
      go : (q : ℕ) → check c h.shape ≡ q → (unless q (refused h) (run s c h)).answer.status ≡ suc k → Refused c h k (unless q (refused h) (run s c h))
      go zero d e = let r = run-refused c h k e in (r.0, inr r.1)
      go (suc j) d e = (refl, inl (d ∙ e, refl))

-- 14 is a reason for new alone
pub new_alone : (c : Call) → has 14 (reasons c) ≡ true → is_new c ≡ true
new_alone (New v) e = refl
new_alone (Do (Copy v w)) e = absurd (false≢true e)
new_alone (Do (Clear v)) e = absurd (false≢true e)
new_alone (Do (Link v f w)) e = absurd (false≢true e)
new_alone (Do (Put v f x)) e = absurd (false≢true e)
new_alone (Do (Blank v f)) e = absurd (false≢true e)
new_alone (Do (Follow v f w)) e = absurd (false≢true e)
new_alone (Do (Read v f)) e = absurd (false≢true e)
new_alone (Do (Same v w)) e = absurd (false≢true e)
new_alone Settle e = absurd (false≢true e)

-- only read and same have a value
value-nought : (d : Deed) (sh : Shape) → has_value (Do d) ≡ false → value d sh ≡ pos 0
unfolding value
value-nought (Copy v w) sh e = refl
value-nought (Clear v) sh e = refl
value-nought (Link v f w) sh e = refl
value-nought (Put v f x) sh e = refl
value-nought (Blank v f) sh e = refl
value-nought (Follow v f w) sh e = refl
value-nought (Read v f) sh e = absurd (true≢false e)
value-nought (Same v w) sh e = absurd (true≢false e)

-- a call is answered 0, or with one of its reasons and the value nought
pub step-listed : (s : Sizes) (c : Call) (h : Heap) → Listed c (pos (step s c h).answer.status) (step s c h).answer.value
unfolding step run acted do_new do_deed
step-listed s c h = go (check c h.shape) refl
  where
    new_listed : (q : Bool) (v : ℕ) (k : Heap) → Listed (New v) (pos (do_new q v k).answer.status) (do_new q v k).answer.value
    new_listed true v k = (refl, refl)
    new_listed false v k = λ e. refl

    ran : (c : Call) → Listed c (pos (run s c h).answer.status) (run s c h).answer.value
    ran (New v) = new_listed (no_cell_free s (settled_for s (New v) h)) v (settled_for s (New v) h)
    ran (Do d) = value-nought d (settled_for s (Do d) h).shape
    ran Settle = λ e. absurd (true≢false e)

    go : (k : ℕ) → check c h.shape ≡ k → Listed c (pos (unless k (refused h) (run s c h)).answer.status) (unless k (refused h) (run s c h)).answer.value
    go zero d = ran c
    go (suc k) d = ((rw d at (check_reason c h.shape)).0, refl)

take-freed : (v : ℕ) (h : Heap) → (take_cell v h).freed ≡ h.freed
unfolding take_cell
take-freed v h = refl

-- ---- over a heap with the invariant

module _ (s : Sizes) (ok : Limits s) where
  -- what a turn takes
  takes : (c : Call) (h : Heap) → Inv s h → (k a : ℕ) → pick (counted c h) (turns s (counted c h) h k).tables.zct ≡ some a → Taking s (counted c h) h k a
  unfolding turns replayed
  takes c h g k a e =
      let hs = counted c h in
      let t = turns s hs h k in
      let p = pick_some hs t.tables.zct a e in
      let good = counted-good s ok c h g in
      let m = reclaim-kept s.n s.cap ok.cap_least hs k (replayed s.cap h) good (replay-kept s.n s.cap ok.cap_least h.log h.tables g.kept g.log_small) in
      record {
        in_zct = p.0;
        unheld = p.1;
        smallest = λ b. pick_least hs t.tables.zct a b m.zct_up e;
        no_pointer = turn-none s.n s.cap ok.cap_least hs t (reclaim-good s.n s.cap ok.cap_least hs k (replayed s.cap h) good) a p.0 p.1;
      }

  -- and it takes no other
  taken-by : (c : Call) (h : Heap) → Inv s h → (k a : ℕ) → Taking s (counted c h) h k a → pick (counted c h) (turns s (counted c h) h k).tables.zct ≡ some a
  unfolding turns replayed
  taken-by c h g k a t =
      let hs = counted c h in
      let m = reclaim-kept s.n s.cap ok.cap_least hs k (replayed s.cap h) (counted-good s ok c h g) (replay-kept s.n s.cap ok.cap_least h.log h.tables g.kept g.log_small) in
      least_pick hs (turns s hs h k).tables.zct a m.zct_up t.in_zct t.unheld t.smallest

  -- which is then followed by the cell that was the first free one
  taken-mark : (c : Call) (h : Heap) → Inv s h → (k a : ℕ) → k < s.n → Taking s (counted c h) h k a → field (settled_by s (counted c h) h).shape.fields a 0 ≡ Free (turns s (counted c h) h k).first
  unfolding settled_by turns replayed
  taken-mark c h g k a l t = taken-marked s.n s.cap ok.cap_least (counted c h) (replayed s.cap h) (counted-good s ok c h g) a k s.n l (taken-by c h g k a t)

  -- the settle before a call, and so every settle: the one that the call `settle` makes counts what the variables hold, as the one at a batch's end
  -- does, and the one made for a new counts no hold of v
  pub settles-right : (c : Call) (h : Heap) → Inv s h → SettlesRight s (counted c h) h
  unfolding settled_by turns replayed view
  settles-right c h g =
      let hs = counted c h in
      let good = counted-good s ok c h g in
      let at = replayed s.cap h in
      record {
        frees_only = λ a l. (
          λ d. let r = taken-when s.n s.cap ok.cap_least hs at good a l s.n d in record { turn = r.0; within = r.1.0; taking = takes c h g r.0 a r.1.1 },
          λ t. free_dead (settled_by s hs h).shape.fields a _ (taken-mark c h g t.turn a t.within t.taking),
        );
        in_order = taken-mark c h g;
        others_kept = λ a f l n.
            untaken_field s.n s.cap ok.cap_least hs at good a f l s.n
            (λ j i e. n (record { turn = j; within = i; taking = takes c h g j a e }));
        frees_all = pick-none hs (settled_by s hs h).tables.zct (settled_by-done s ok hs h good);
        exact_below_cap = λ b. ((settled_by-good s ok hs h good).counted b).exact;
        at_the_cap = λ a. settled-at_cap s ok a hs h good;
      }

  -- ---- cells in use and cells freed

  abbrev Sum : Heap → ℕ
  Sum h = lives h.shape.fields + h.freed

  -- a settle's freed cells are those that are no longer in use
  pub settled-sum : (h : Heap) → Inv s h → lives (settled s h).shape.fields + (settled s h).freed ≡ lives h.shape.fields + h.freed
  unfolding settled
  settled-sum h g = settled_by-sum s ok h.shape.variables h g.good

  readied-sum : (c : Call) (h : Heap) → Inv s h → Sum (readied s c h) ≡ Sum h
  unfolding settled_if
  readied-sum c h g = go (wants s c h)
    where
      go : (b : Bool) → Sum (settled_if b s (counted c h) (counting c h)) ≡ Sum h
      go true = settled_by-sum s ok (counted c h) (counting c h) (counted-good s ok c h g)
      go false = refl

  -- new takes one cell into use
  pub take-lives : (v : ℕ) (h : Heap) → Inv s h → no_cell_free s h ≡ false → lives (take_cell v h).shape.fields ≡ suc (lives h.shape.fields)
  unfolding take_cell hold
  take-lives v h g d = let T = taken s ok h g d in lives-taken h.shape.fields h.first T.was_free T.there

  do_new-sum : (v : ℕ) (h : Heap) → Inv s h → Sum (do_new (no_cell_free s h) v h).heap ≡ Sum h + made (New v) (do_new (no_cell_free s h) v h).answer
  unfolding do_new
  do_new-sum v h g = go (no_cell_free s h) refl
    where
      same-freed : (take_cell v h).freed ≡ h.freed
      same-freed = take-freed v h

      go : (q : Bool) → no_cell_free s h ≡ q → Sum (do_new q v h).heap ≡ Sum h + made (New v) (do_new q v h).answer
      go true d = omega arith
      go false d = let l = take-lives v h g d in let e = same-freed in omega arith

  -- the deeds none
  do_deed-sum : (d : Deed) (h : Heap) → Inv s h → InRange s.m d → refuses d h.shape ≡ 0 → Sum (do_deed d h).heap ≡ Sum h
  unfolding do_deed
  do_deed-sum d h g f e = let l = act-lives s ok h.shape (replay s.cap h.log h.tables) g.good d f e in omega arith

  plus_0 : (m n : ℕ) → m ≡ n → m ≡ n + 0
  plus_0 m n e = omega arith

  acted-sum : (c : Call) (k : ℕ) (h : Heap) → Inv s h → Fits s.m c → check c h.shape ≡ 0 → Sum (acted s c k h).heap ≡ Sum h + made c (acted s c k h).answer
  unfolding acted
  acted-sum (New v) k h g f e = do_new-sum v h g
  acted-sum (Do d) k h g f e = plus_0 _ _ (do_deed-sum d h g f e)
  acted-sum Settle k h g f e = plus_0 _ _ refl

  -- a call refused makes none
  none_made : (c : Call) (h : Heap) (j : ℕ) → Sum h ≡ Sum h + made c (answer (suc j) (pos 0))
  none_made c h j = rw (ne_eqb (suc j) 0 (omega arith)) (go (is_new c))
    where
      go : (q : Bool) → Sum h ≡ Sum h + cond q 0 0
      go true = plus_0 (Sum h) (Sum h) refl
      go false = plus_0 (Sum h) (Sum h) refl

  run-sum : (c : Call) (h : Heap) → Inv s h → Fits s.m c → check c h.shape ≡ 0 → Sum (run s c h).heap ≡ Sum h + made c (run s c h).answer
  unfolding replayed
  run-sum c h g f e = go (run_as s ok c h g)
    where
      go : Ran s c h → Sum (run s c h).heap ≡ Sum h + made c (run s c h).answer
      go (inl d) =
          let k = readied s c h in
          rw (d, ← readied-sum c h g) (acted-sum c (k.freed - h.freed) k (readied-inv s ok c h g) f (readied-right s ok c h g e))
      go (inr d) = rw d (none_made c h 13)

  pub step_sum : (c : Call) (h : Heap) → Inv s h → Fits s.m c → Sum (step s c h).heap ≡ Sum h + made c (step s c h).answer
  unfolding step
  step_sum c h g f = go (check c h.shape) refl
    where
      go : (k : ℕ) → check c h.shape ≡ k → Sum (unless k (refused h) (run s c h)).heap ≡ Sum h + made c (unless k (refused h) (run s c h)).answer
      go zero e = run-sum c h g f e
      go (suc j) e = none_made c h j

  pub calls-sum : (cs : List Call) (h : Heap) → Inv s h → AllFit s.m cs → Sum (calls s cs h).heap ≡ Sum h + made_in cs (calls s cs h).answers
  unfolding calls
  calls-sum [] h g f = plus_0 _ _ (settled-sum h g)
  calls-sum (c ∷ cs) h g f =
      let a = step_sum c h g f.0 in
      let b = calls-sum cs (step s c h).heap (step-inv s ok c h g f.0) f.1 in
      omega arith

  -- a batch's count is the number of cells that it freed: with those in use at its end, all that were in use or made
  pub count_is_freed : (cs : List Call) (h : Heap) → Inv s h → AllFit s.m cs
      → lives (batch s cs h).heap.shape.fields + (batch s cs h).heap.freed ≡ lives h.shape.fields + made_in cs (batch s cs h).answers
  unfolding batch
  count_is_freed cs h g f =
      let e = calls-sum cs (unfreed h) (counted_from_0 s ok h g) f in
      omega arith

  -- ---- new

  -- new says 14 exactly where a settle that counts every variable but v leaves no cell free
  pub fourteen_full : (v : ℕ) (h : Heap) → Inv s h → ((step s (New v) h).answer.status ≡ 14) ↔ (no_cell_free s (settled_by s (counted (New v) h) h) ≡ true)
  unfolding wants settled_if
  fourteen_full v h g = (fourteen_settled s v h, λ e. (fourteen_exactly s v h).1 (go (full s 1 h) e))
    where
      hs : List (Option ℕ)
      hs = counted (New v) h

      -- that settle frees none, so none was free before it
      full-before : no_cell_free s (settled_by s hs h) ≡ true → no_cell_free s h ≡ true
      full-before e = unfold no_cell_free replayed in sym (ap (no_cell_free s) (counted-full s ok (New v) h g e)) ∙ e

      go : (p : Bool) → no_cell_free s (settled_by s hs h) ≡ true → no_cell_free s (settled_if (p || no_cell_free s h) s hs h) ≡ true
      go true e = e
      go false e = rw (full-before e) e

  -- 14 has freed nothing: the log is replayed, and that is all
  pub fourteen_left : (c : Call) (h : Heap) → Inv s h → {k : ℕ} {o : Stepped} → Fourteen s c h k o → o.heap ≡ replayed s.cap h
  fourteen_left c h g f = f.left ∙ counted-full s ok c h g f.none_free

  -- so v keeps its cell, with both fields
  pub fourteen_keeps : (v : ℕ) (h : Heap) → Inv s h → (step s (New v) h).answer.status ≡ 14 → (step s (New v) h).heap ≡ replayed s.cap h
  fourteen_keeps v h g e = go (call_refused s (New v) h 13 e).1
    where
      go : {A : Type 0} → ((check (New v) h.shape ≡ 14) × A) ⊎ Fourteen s (New v) h 14 (step s (New v) h) → (step s (New v) h).heap ≡ replayed s.cap h
      go (inl p) = absurd (let z = p.0 in omega arith)
      go (inr f) = fourteen_left (New v) h g f

  -- k is a heap after a new took its cell for v from the heap h
  pub record Handed (v : ℕ) (h k : Heap) : Type 0 where
    pub below : h.first < s.n
    pub was_free : live h.shape.fields h.first ≡ false
    pub now-used : live k.shape.fields h.first ≡ true
    pub held : var k.shape v ≡ some h.first
    pub field_0 : field k.shape.fields h.first 0 ≡ Nothing
    pub field_1 : field k.shape.fields h.first 1 ≡ Nothing

  handed : (v : ℕ) → v < s.m → (h : Heap) → Inv s h → no_cell_free s h ≡ false → Handed v h (take_cell v h)
  unfolding take_cell hold var place
  handed v i h g d =
      let T = taken s ok h g d in
      let there : place h.first 0 < length h.shape.fields = let k = T.there in omega arith in
      record {
        below = let k = T.there in let l = g.good.len in omega arith;
        was_free = T.was_free;
        now-used = live-store_0 h.shape.fields h.first h.first Nothing there ∙ rw (eqb_self h.first);
        held = get_or-set_same h.shape.variables v (some h.first) none (let l = g.variables_long in omega arith);
        field_0 = field-same h.shape.fields h.first 0 Nothing there;
        field_1 = field_across h.shape.fields h.first 0 1 Nothing (omega arith) (omega arith) (omega arith) ∙ T.blank_1;
      }

  -- a new answered 0 takes the first free cell as it is after its settle: a cell freed before is handed out again
  pub handed_out_again : (v : ℕ) → v < s.m → (h : Heap) → Inv s h → (step s (New v) h).answer.status ≡ 0 → Handed v (settled_for s (New v) h) (step s (New v) h).heap
  unfolding step acted do_new
  handed_out_again v i h g e = go (run_as s ok (New v) h g)
    where
      k : Heap
      k = readied s (New v) h

      same_handed : {vs : List (Option ℕ)} {x : Heap} → Handed v k x → Handed v (having vs k) x
      same_handed H = record { below = H.below; was_free = H.was_free; now-used = H.now-used; held = H.held; field_0 = H.field_0; field_1 = H.field_1 }

      by : (q : Bool) → no_cell_free s k ≡ q → (do_new q v k).answer.status ≡ 0 → Handed v k (do_new q v k).heap
      by true d e = absurd (omega arith)
      by false d e = handed v i k (readied-inv s ok (New v) h g) d

      go : Ran s (New v) h → Handed v (settled_for s (New v) h) (run s (New v) h).heap
      go (inl d) = rw (for_readied s (New v) h, d) (same_handed (by (no_cell_free s k) refl (ap (λ (o : Stepped). o.answer.status) (sym d) ∙ e)))
      go (inr d) = absurd (let f = ap (λ (o : Stepped). o.answer.status) (sym d) ∙ e in omega arith)
