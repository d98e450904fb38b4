-- A call as the code works it is the call of the rules. Assumes nothing.
use Prim.Native.Nat.{ℕ, zero, suc, ◌+◌, ◌-◌, ◌*◌, ◌≤◌, ◌<◌}
use mathlib.Core.Path.{◌≡◌, refl, sym, ap, ◌∙◌, subst}
use mathlib.Core.Logic.{◌⊎◌, inl, inr}
use mathlib.Core.Bool.{Bool, true, false, ◌||◌}
use mathlib.Core.Option.{Option, some}
use mathlib.Core.List.{List}
use native.Mathlib.Omega.{arith}
use lib.Dec.{ltb, eqb}
use lib.IntN.{ℤ, pos}
use lib.ListN.{length, length-map, get_or, take, drop, length-take, length-drop}
use lib.Seq.{get_or-take, get_or-drop}
use Rattle.rules.specs.declared.Call.{Call}
use Rattle.rules.specs.declared.Call.TheVariants.{New, Do, Settle}
use Rattle.rules.specs.declared.Sizes.{Sizes}
use Rattle.rules.specs.declared.State.{State}
use Rattle.rules.specs.Heap.{Shape, Heap}
use Rattle.rules.specs.declared.Refusal.TheVariants.{NothingHeld, NoCell, CellThere, NoneFree, NothingThere}
use Rattle.rules.specs.Call.{Fits, check, no_of}
use Rattle.rules.specs.Step.{Stepped, refused, needs, full, no_cell_free, wants, counted, settled_if, take_cell, do_new, do_deed, acted, run, step}
use Rattle.rules.specs.Rows.{TableRows, CallRows, Lent, beside}
use Rattle.rules.specs.Whole.{Whole}
use Rattle.rules.specs.Invariant.{Inv}
use Rattle.rules.proofs.Calls.{call_fits}
use Rattle.rules.proofs.Step.{settled_if-variables, step-inv, for_room, for_right}
use Rattle.rules.proofs.Facts.{check_reason, Fourteen, call_refused}
use Rattle.words.specs.Words.{call_at}
use Rattle.before.specs.Seen.{Shown, Reaches}
use Rattle.calls.specs.Doing.{Able, Does}
use Rattle.calls.proofs.Arms.{shown_of, able}
use Rattle.settle.specs.Settling.{Roomable, RoomMade, MakesRoom}
use Rattle.working.specs.Working.{Standing, Answered}
use Rattle.std.specs.Prelude.{Result, Ok, Err}
use Rattle.std.specs.Prelude as code
use Rattle.rules.specs.declared.Refusal.{Refusal}
use Rattle.rules.specs.Field.{option_of}

-- ---- the rules' call from its parts

-- doing a call frees no cell
acted-freed : (s : Sizes) (c : Call) (k : ℕ) (h : Heap) → (acted s c k h).heap.freed ≡ h.freed
unfolding acted do_deed do_new take_cell
acted-freed s (New v) k h = go (no_cell_free s h)
  where
    go : (q : Bool) → (do_new q v h).heap.freed ≡ h.freed
    go true = refl
    go false = refl
acted-freed s (Do d) k h = refl
acted-freed s Settle k h = refl

module _ (s : Sizes) (h : Heap) (c : Call) where
  -- a call that passed its check, from the test for its settle and the cells that this freed
  step-worked : {make : Bool} {k : ℕ} → check c h.shape ≡ 0 → make ≡ wants s c h → (settled_if make s (counted c h) h).freed - h.freed ≡ k
      → step s c h ≡ acted s c k (settled_if make s (counted c h) h)
  unfolding step run
  step-worked e w n = rw (e, ← w, n)

  step-refused : (k : ℕ) → check c h.shape ≡ k → (k ≡ 0 → ⊥) → step s c h ≡ refused h k
  unfolding step
  step-refused zero e n = absurd (n refl)
  step-refused (suc k) e n = rw e

-- a refusal's number is not 0
says_no : (e : Refusal) → no_of e ≡ 0 → ⊥
says_no NothingHeld e = let z : ◌≡◌ {A = ℕ} 11 0 = e in absurd (omega arith)
says_no NoCell e = let z : ◌≡◌ {A = ℕ} 12 0 = e in absurd (omega arith)
says_no CellThere e = let z : ◌≡◌ {A = ℕ} 13 0 = e in absurd (omega arith)
says_no NoneFree e = let z : ◌≡◌ {A = ℕ} 14 0 = e in absurd (omega arith)
says_no NothingThere e = let z : ◌≡◌ {A = ℕ} 15 0 = e in absurd (omega arith)

-- what the code answers for a call d, from its two tests: room is short, no cell is free
abbrev pub answers : Call → Bool → Bool → Bool
answers (New v) p q = p || q
answers (Do d) p q = p
answers Settle p q = true

wants_as : (s : Sizes) (h : Heap) (d : Call) → wants s d h ≡ answers d (full s (needs d h.shape) h) (no_cell_free s h)
unfolding wants
wants_as s h (New v) = refl
wants_as s h (Do d) = refl
wants_as s h Settle = refl

pub settles_as : (s : Sizes) (h : Heap) (c d : Call) (len first k : ℕ) (x : Bool) → c ≡ d → len ≡ length h.log → first ≡ h.first → k ≡ needs c h.shape
    → x ≡ answers d (ltb s.l (len + k)) (eqb first s.n) → x ≡ wants s c h
unfolding no_cell_free full
settles_as s h c d len first k x e f g j y = let j' : k ≡ needs d h.shape = rw e at j in rw e (y ∙ sym (wants_as s h d ∙ rw (← f, ← j', ← g)))

-- ---- on rows

-- those that a call works on
abbrev pub called : Lent → CallRows
called r = record { kinds = r.kinds; values = r.values; variables = r.variables; log = r.log }

-- the row of variables has m words
as_many : {s : Sizes} {r : Lent} {at : State} {h : Heap} → Whole s r at h → length h.shape.variables ≡ s.m → length r.variables ≡ s.m
as_many W e = rw W.variables_are (simp length-map e)

module _ {s : Sizes} {r : Lent} {at : State} {h : Heap} (S : Standing s r at h) where
  pub reaches : (c : Call) → Fits s.m c → Reaches s.n (called r) c
  reaches c f =
      let m = as_many S.whole S.inv.variables_long in
      record { shape = h.shape; shown = shown_of S.whole; fits = rw m f }

  pub few : (at.len ≤ 1024) × (at.len ≡ length h.log)
  few =
      let a = S.whole.logged.count in
      let b = S.inv.log_room in
      let d = S.whole.limits.l_most in
      (omega arith, a)

  -- a call that its check refuses
  pub refused_as : (c : Call) (e : Refusal) → no_of e ≡ check c h.shape → Answered s r at (step s c h) at (Err e)
  refused_as c e k = rw (step-refused s h c (no_of e) (sym k) (says_no e)) (record { standing = S; answer = refl; few = omega arith })

-- the settle before a call can be made
pub roomable : {s : Sizes} {r : Lent} {at : State} {h : Heap} → Standing s r at h → (c : Call) → Fits s.m c → at.freed ≤ 1000000 → Roomable c s r at
roomable {h = h} S c f few = record { heap = h; whole = S.whole; fits = rw (as_many S.whole S.inv.variables_long) f; few = few }

-- it takes no freed cell back
pub grown : (c : Call) {make : Bool} {s : Sizes} {r r' : Lent} {at o : State} {h : Heap} → Standing s r at h → MakesRoom c make s r at r' o → at.freed ≤ o.freed
grown c {h = h} S made = (made h S.whole).grows

-- a call that passed its check, from what each part of the code says of the rows: the check, the need, the test for a settle, the settle
module _ {s : Sizes} {r : Lent} {at : State} (c : Call) {k : ℕ} (right : (sh : Shape) → Shown s.n (called r) sh → 0 ≡ check c sh)
    (needed : (sh : Shape) → Shown s.n (called r) sh → k ≡ needs c sh)
    {make : Bool} (asked : (h : Heap) → at.len ≡ length h.log → at.first ≡ h.first → k ≡ needs c h.shape → make ≡ wants s c h)
    {r' : Lent} {o : State} (made : MakesRoom c make s r at r' o) (fit : Fits s.m c) {h : Heap} (S : Standing s r at h) where
  settled_heap : Heap
  settled_heap = settled_if make s (counted c h) h

  passed : check c h.shape ≡ 0
  passed = sym (right h.shape (shown_of S.whole))

  wanted : make ≡ wants s c h
  wanted = asked h (few S).1 S.whole.rows.first (needed h.shape (shown_of S.whole))

  room : RoomMade make s (counted c h) r at h r' o
  room = made h S.whole

  pub able_now : Able s c (called r') o × (o.freed - at.freed ≤ 1024)
  unfolding settled_heap
  able_now =
      let W = room.whole in
      let F = W.limits in
      let m = as_many W (ap length (settled_if-variables make s (counted c h) h) ∙ S.inv.variables_long) in
      let j : length settled_heap.log + needs c settled_heap.shape ≤ s.l = rw wanted (for_room s F c h S.inv) in
      let e = W.logged.count in
      let l = W.log_long in
      let f = room.few in
      let n = F.n_most in
      (able W c (rw m fit) (rw wanted (for_right s F c h S.inv passed)) (omega arith), omega arith)

  -- the call is done
  pub worked_as : {q : CallRows} {st : State} {a : Result ℤ Refusal} → Does s (acted s c (o.freed - at.freed)) (called r') o q st a
      → Answered s (beside r'.tables r'.work q) at (step s c h) st a
  unfolding settled_heap
  worked_as did =
      let W = room.whole in
      let F = W.limits in
      let D = did r'.tables r'.work settled_heap W in
      let a = S.whole.rows.freed in
      let b = W.rows.freed in
      let e = step-worked s h c {k = o.freed - at.freed} passed wanted (omega arith) in
      let f = acted-freed s c (o.freed - at.freed) settled_heap in
      let g = D.whole.rows.freed in
      let k = room.few in
      let n = F.n_most in
      rw e
      (record {
        standing = record { whole = D.whole; inv = subst (λ (x : Stepped). Inv s x.heap) e (step-inv s F c h S.inv fit) };
        answer = D.answered;
        few = omega arith;
      })

-- the tables' rows and the work row stay while it is done
pub worked_in : {s : Sizes} {at st : State} {o : Stepped} {a : Result ℤ Refusal} {q : CallRows} {t t' : TableRows} {work : List ℕ} → t ≡ t'
    → Answered s (beside t' work q) at o st a → Answered s (beside t work q) at o st a
worked_in e A = rw e A

-- a status is at most 15
pub status-small : (s : Sizes) (c : Call) (h : Heap) → (step s c h).answer.status ≤ 15
status-small s c h = go (step s c h).answer.status refl
  where
    go : (k : ℕ) → (step s c h).answer.status ≡ k → k ≤ 15
    go zero e = omega arith
    go (suc k) e = by (call_refused s c h k e).1
      where
        by : {A : Type 0} → ((check c h.shape ≡ suc k) × A) ⊎ Fourteen s c h (suc k) (step s c h) → suc k ≤ 15
        by (inl p) = (rw p.0 at (check_reason c h.shape)).1
        by (inr f) = let e = f.said in omega arith

-- ---- the call that was found

pub same-call : {d : code.Option Call} {x : Call} {o : Option Call} {c : Call} → d ≡ code.Some x → option_of d ≡ o → o ≡ some c → c ≡ x
same-call e f g = cc

pub no_call : {A : Type 0} {d : code.Option Call} {o : Option Call} {c : Call} → d ≡ code.None → option_of d ≡ o → o ≡ some c → A
no_call e f g = let z : ◌≡◌ {A = ℕ} 0 1 = cc in absurd (omega arith)

pub found_fits : (m : ℕ) (ws : List ℤ) {d : code.Option Call} {x : Call} → d ≡ code.Some x → option_of d ≡ call_at m ws 0 → Fits m x
found_fits m ws {x = x} e f = let g : call_at m ws 0 ≡ some x = cc in call_fits m _ _ _ _ x g

pub answered-call : {s : Sizes} {r : Lent} {at st : State} {a : Result ℤ Refusal} {c x : Call} (h : Heap) → c ≡ x → Answered s r at (step s x h) st a → Answered s r at (step s c h) st a
answered-call {s} {r} {at} {st} {a} h e A = subst (λ (d : Call). Answered s r at (step s d h) st a) (sym e) A

-- ---- a part of the calls row, from where a call starts

module _ (m : ℕ) (ws : List ℤ) (p k : ℕ) (four : 4 ≤ k) where
  part-word : (j : ℕ) → j < 4 → get_or (take k (drop p ws)) j (pos 0) ≡ get_or ws (p + j) (pos 0)
  part-word j l = get_or-take k (drop p ws) j (pos 0) (omega arith) ∙ get_or-drop p ws j (pos 0)

  pub part-call : call_at m (take k (drop p ws)) 0 ≡ call_at m ws p
  part-call =
      let z : p + 0 ≡ p = omega arith in
      rw (part-word 0 (omega arith), part-word 1 (omega arith), part-word 2 (omega arith), part-word 3 (omega arith), z)

  pub part-long : p + k ≤ length ws → 4 ≤ length (take k (drop p ws))
  part-long h = simp (length-take, length-drop) (omega arith)

-- the words from call i on
module _ (ws : List ℤ) (i : ℕ) (long : 4 * i + 4 ≤ length ws) where
  pub turn-call : (m : ℕ) {c : Call} → call_at m ws (4 * i) ≡ some c → call_at m (take (length ws - 4 * i) (drop (4 * i) ws)) 0 ≡ some c
  turn-call m e = part-call m ws (4 * i) (length ws - 4 * i) (omega arith) ∙ e

  pub turn-long : 4 ≤ length (take (length ws - 4 * i) (drop (4 * i) ws))
  turn-long = part-long 0 ws (4 * i) (length ws - 4 * i) (omega arith) (omega arith)
