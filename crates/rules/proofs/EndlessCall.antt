-- A call against the endless heap: the same answer, through a renaming of the cells in use. Assumes nothing.
use Prim.Native.Nat.{ℕ, zero, suc, ◌-◌, ◌*◌, ◌<◌}
use mathlib.Core.Path.{◌≡◌, refl, sym, ap, ◌∙◌}
use mathlib.Core.Logic.{◌⊎◌, inl, inr}
use mathlib.Core.Bool.{Bool, true, false, cond, true≢false}
use mathlib.Core.Option.{Option, none, some}
use mathlib.Core.List.{List, [], ◌∷◌, ◌++◌}
use native.Mathlib.Omega.{arith}
use lib.Dec.{eqb}
use lib.IntN.{pos}
use lib.ListN.{length, get_or, get_or-append, length-append}
use lib.Seq.{get_or-append-add, set-set}
use borrow.Author.Tests.{eqb-true, ne_eqb}
use Rattle.rules.specs.declared.Field.{Field}
use Rattle.rules.specs.declared.Field.TheVariants.{Nothing}
use Rattle.rules.specs.declared.Deed.{Deed}
use Rattle.rules.specs.declared.Deed.TheVariants.{Copy, Clear, Link, Put, Blank, Follow, Read, Same}
use Rattle.rules.specs.declared.Call.{Call}
use Rattle.rules.specs.declared.Call.TheVariants.{New, Do, Settle}
use Rattle.rules.specs.declared.Sizes.{Sizes}
use Rattle.rules.specs.Head.{Limits}
use Rattle.rules.specs.Heap.{Tables, Shape, Heap, place, field, store}
use Rattle.rules.specs.Rules.{replay}
use Rattle.rules.specs.Settle.{free_cell, replayed, settled_by, settled}
use Rattle.rules.specs.Call.{InRange, Fits, unless, var, refuses, check, hold, act}
use Rattle.rules.specs.Step.{Stepped, refused, no_cell_free, wants, counted, settled_if, take_cell, do_new, do_deed, acted, run, step, fresh}
use Rattle.rules.specs.Endless.{Endless, endless, EndlessStep, endless_run, endless_step, says}
use Rattle.rules.specs.Run.{NotSettle}
use Rattle.rules.specs.Invariant.{live, Good, Inv}
use Rattle.rules.proofs.Tables.{eqb_self}
use Rattle.rules.proofs.Cells.{place_in_1, cell-live, live-store_0, field_other, field-same, field_across}
use Rattle.rules.proofs.Turn.{turn-field, turn-stays}
use Rattle.rules.proofs.Reclaim.{reclaim_keeps}
use Rattle.rules.proofs.FreeList.{Taken}
use Rattle.rules.proofs.Calls.{act-fields, var-live, store-live, act_keeps}
use Rattle.rules.proofs.Step.{taken, counting, counting-inv, readied, readied-inv, readied-right, Ran, run_as}
use Rattle.rules.proofs.Facts.{Fourteen, call_refused, fourteen_left}
use Rattle.rules.proofs.Fresh.{dead}
use Rattle.rules.proofs.Sim.{ren, ren_f, Part, Sim, Own, sim_rename, sim-less, sim-hold, refuses-same, value_same, sim-act}

-- all variables
abbrev pub every : ℕ → Bool
every v = true

every-own : (d : Deed) → Own every d
every-own (Copy v w) = (refl, refl)
every-own (Clear v) = refl
every-own (Link v f w) = (refl, refl)
every-own (Put v f x) = refl
every-own (Blank v f) = refl
every-own (Follow v f w) = (refl, refl)
every-own (Read v f) = refl
every-own (Same v w) = (refl, refl)

-- the endless heap has the variables and the cells in use, at addresses below its next one
pub record AtEndless (ρ : ℕ → ℕ) (h : Shape) (e : Endless) : Type 0 where
  pub sim : Sim every (live h.fields) ρ h e.shape
  pub below : (a : ℕ) → live h.fields a ≡ true → ρ a < e.next
  pub len : length e.shape.fields ≡ 2 * e.next

module _ (s : Sizes) (ok : Limits s) (h : Shape) (t : Tables) (g : Good s.n s.cap h.fields h.variables t) where
  -- the variables and the cells in use are a part
  whole : Part every (live h.fields) h
  whole =
      record {
        there = λ a l. place_in_1 s.n a h.fields g.len l;
        points = λ a f b l k d. cell-live s.n s.cap h.fields h.variables t g a f b k l d;
        inside = λ v a o d. var-live s ok h t g v a d;
      }

  module _ (ρ : ℕ → ℕ) (e : Endless) (R : AtEndless ρ h e) where
    check_as : (c : Call) → Fits s.m c → check c e.shape ≡ check c h
    check_as (New v) f = refl
    check_as (Do d) f = refuses-same s.m every (live h.fields) ρ h e.shape whole R.sim d f (every-own d)
    check_as Settle f = refl

    act-at : (d : Deed) → InRange s.m d → refuses d h ≡ 0 → AtEndless ρ (act d h) (record { shape = act d e.shape; next = e.next })
    act-at d f c =
        record {
          sim = sim-less refl (λ a l. sym (stays a) ∙ l) (λ a j l k. refl) (sim-act s.m every (live h.fields) ρ h e.shape whole R.sim d f (every-own d) c);
          below = λ a l. R.below a (sym (stays a) ∙ l);
          len = act-fields d e.shape ∙ R.len;
        }
      where
        stays : (b : ℕ) → live (act d h).fields b ≡ live h.fields b
        stays = act_keeps s ok h t g (λ fs. (b : ℕ) → live fs b ≡ live h.fields b) (λ b. refl) (λ a f x k l u i b. store-live s ok h t g a f x k l u b) d f c

-- ---- a settle

-- fewer cells in use, with the fields that they had
at_less : (ρ : ℕ → ℕ) (h h' : Shape) (e : Endless) → h'.variables ≡ h.variables → ((b : ℕ) → live h'.fields b ≡ true → live h.fields b ≡ true)
    → ((b f : ℕ) → live h'.fields b ≡ true → f < 2 → field h'.fields b f ≡ field h.fields b f) → AtEndless ρ h e → AtEndless ρ h' e
at_less ρ h h' e v l f R = record { sim = sim-less v l f R.sim; below = λ a i. R.below a (l a i); len = R.len }

pub at-settled : (s : Sizes) → Limits s → (h : Heap) → Inv s h → (ρ : ℕ → ℕ) (e : Endless) → AtEndless ρ h.shape e → AtEndless ρ (settled s h).shape e
unfolding settled settled_by replayed free_cell
at-settled s ok h g ρ e =
    let cap3 = ok.cap_least in
    let hs = h.shape.variables in
    reclaim_keeps s.n s.cap cap3 hs (λ k. AtEndless ρ k.shape e)
    (λ k g a i u. at_less ρ k.shape (free_cell s.cap a k).shape e refl
    (λ b l. (turn-stays s.n s.cap cap3 hs k g a i u b l).1)
    (λ b f l j. turn-field s.n s.cap cap3 hs k g a i u b f (turn-stays s.n s.cap cap3 hs k g a i u b l).0 j))
    s.n (replayed s.cap h) g.good

-- ---- a new

field-append : (l r : List Field) (a f : ℕ) → place a f < length l → field (l ++ r) a f ≡ field l a f
unfolding field
field-append l r a f h = get_or-append l r Nothing (place a f) h

new_field : (l : List Field) (k f : ℕ) → length l ≡ 2 * k → f < 2 → field (l ++ (Nothing ∷ Nothing ∷ [])) k f ≡ Nothing
unfolding field place
new_field l k f e h = rw (← e, get_or-append-add) (go f h)
  where
    go : (f : ℕ) → f < 2 → get_or (Nothing ∷ Nothing ∷ []) f Nothing ≡ Nothing
    go zero h = refl
    go (suc zero) h = refl
    go (suc (suc f)) h = absurd (omega arith)

module _ (s : Sizes) (ok : Limits s) (h : Heap) (g : Inv s h) (d : no_cell_free s h ≡ false) (ρ : ℕ → ℕ) (e : Endless) (R : AtEndless ρ h.shape e) where
  abbrev fs : List Field
  fs = h.shape.fields

  abbrev blank : List Field
  blank = Nothing ∷ Nothing ∷ []

  -- with the first free cell in use
  abbrev taking : List Field
  taking = store fs h.first 0 Nothing

  -- the new cell goes to the address never used before
  abbrev extend : ℕ → ℕ
  extend b = cond (eqb b h.first) e.next (ρ b)

  Tk : Taken s.n fs h.first g.good.len g.frees
  Tk = taken s ok h g d

  not_first : (b : ℕ) → live fs b ≡ true → eqb b h.first ≡ false
  not_first b l = ne_eqb b h.first (λ i. true≢false (sym l ∙ ap (live fs) i ∙ Tk.was_free))

  extend-live : (b : ℕ) → live fs b ≡ true → extend b ≡ ρ b
  extend-live b l = rw (not_first b l)

  extend-first : extend h.first ≡ e.next
  extend-first = rw (eqb_self h.first)

  old : Sim every (live fs) extend h.shape e.shape
  old = sim_rename ρ extend (whole s ok h.shape (replay s.cap h.log h.tables) g.good) extend-live R.sim

  -- in use now: the new cell, or one that was
  now : (b : ℕ) → live taking b ≡ true → (b ≡ h.first) ⊎ (live fs b ≡ true)
  unfolding place
  now b l = go (eqb b h.first) refl (sym (live-store_0 fs h.first b Nothing (let k = Tk.there in omega arith)) ∙ l)
    where
      go : (q : Bool) → eqb b h.first ≡ q → cond q true (live fs b) ≡ true → (b ≡ h.first) ⊎ (live fs b ≡ true)
      go true i m = inl (eqb-true b h.first i)
      go false i m = inr m

  at_first : (f : ℕ) → f < 2 → field taking h.first f ≡ Nothing
  unfolding place
  at_first zero k = field-same fs h.first 0 Nothing (let k = Tk.there in omega arith)
  at_first (suc zero) k = field_across fs h.first 0 1 Nothing (omega arith) k (omega arith) ∙ Tk.blank_1
  at_first (suc (suc f)) k = absurd (omega arith)

  low : (a : ℕ) → (a ≡ h.first) ⊎ (live fs a ≡ true) → extend a < suc e.next
  low a (inl i) = let x : extend a ≡ e.next = ap extend i ∙ extend-first in omega arith
  low a (inr l) = let y = extend-live a l in let z = R.below a l in omega arith

  fields : (a f : ℕ) → (a ≡ h.first) ⊎ (live fs a ≡ true) → f < 2 → field (e.shape.fields ++ blank) (extend a) f ≡ ren_f extend (field taking a f)
  unfolding place
  fields a f (inl i) k = rw (i, extend-first, at_first f k) (new_field e.shape.fields e.next f R.len k)
  fields a f (inr l) k =
      field-append e.shape.fields blank (extend a) f (let q = old.goes a l in omega arith)
      ∙ old.cells a f l k
      ∙ ap (ren_f extend) (sym (field_other fs h.first a 0 f Nothing (not_first a l) (omega arith) k))

  one : {a b : ℕ} → (a ≡ h.first) ⊎ (live fs a ≡ true) → (b ≡ h.first) ⊎ (live fs b ≡ true) → extend a ≡ extend b → a ≡ b
  one {a} {b} (inl i) (inl j) m = i ∙ sym j
  one {a} {b} (inl i) (inr l) m = absurd (let x : extend a ≡ e.next = ap extend i ∙ extend-first in let y = extend-live b l in let z = R.below b l in omega arith)
  one {a} {b} (inr l) (inl i) m = absurd (let x : extend b ≡ e.next = ap extend i ∙ extend-first in let y = extend-live a l in let z = R.below a l in omega arith)
  one {a} {b} (inr l) (inr l') m = old.inj a b l l' m

  long : length (e.shape.fields ++ blank) ≡ 2 * suc e.next
  long = rw (length-append, R.len) (omega arith)

  at_take : (v : ℕ) → AtEndless extend (take_cell v h).shape (endless_run (New v) e).heap
  unfolding take_cell hold endless_run var place
  at_take v =
      record {
        sim = sim-hold grown v (some h.first) (some e.next) (ap some (sym extend-first));
        below = λ a l. low a (now a l);
        len = long;
      }
    where
      grown : Sim every (live taking) extend (record { fields = taking; variables = h.shape.variables }) (record { fields = e.shape.fields ++ blank; variables = e.shape.variables })
      grown =
          record {
            many = old.many;
            vars = old.vars;
            cells = λ a f l k. fields a f (now a l) k;
            inj = λ a b l m. one (now a l) (now b m);
            goes = λ a l. let q = low a (now a l) in let k = long in omega arith;
          }

-- ---- a call

-- what becomes of a call: the same answer, but for a settle's value, and heaps that still agree
pub record AnsweredAs (c : Call) (o : Stepped) (p : EndlessStep) : Type 0 where
  pub status_same : o.answer.status ≡ p.answer.status
  pub value_same' : NotSettle c → o.answer.value ≡ p.answer.value
  pub renamed : (ρ : ℕ → ℕ) × AtEndless ρ o.heap.shape p.heap

-- an endless heap with v let go before a new: it takes its cell for v all the same
abbrev letting_go : Call → Endless → Endless
letting_go (New v) e = record { shape = hold e.shape v none; next = e.next }
letting_go (Do d) e = e
letting_go Settle e = e

ran_letting_go : (c : Call) (e : Endless) → endless_run c (letting_go c e) ≡ endless_run c e
unfolding endless_run hold
ran_letting_go (New v) e = rw (set-set e.shape.variables v none (some e.next))
ran_letting_go (Do d) e = refl
ran_letting_go Settle e = refl

module _ (s : Sizes) (ok : Limits s) where
  at-counting : (c : Call) (h : Heap) (ρ : ℕ → ℕ) (e : Endless) → AtEndless ρ h.shape e → AtEndless ρ (counting c h).shape (letting_go c e)
  unfolding hold
  at-counting (New v) h ρ e R = record { sim = sim-hold R.sim v none none refl; below = R.below; len = R.len }
  at-counting (Do d) h ρ e R = R
  at-counting Settle h ρ e R = R

  at-readied : (c : Call) (h : Heap) → Inv s h → (ρ : ℕ → ℕ) (e : Endless) → AtEndless ρ h.shape e → AtEndless ρ (readied s c h).shape (letting_go c e)
  unfolding settled_if settled
  at-readied c h g ρ e R = go (wants s c h)
    where
      go : (b : Bool) → AtEndless ρ (settled_if b s (counted c h) (counting c h)).shape (letting_go c e)
      go true = at-settled s ok (counting c h) (counting-inv s ok c h g) ρ (letting_go c e) (at-counting c h ρ e R)
      go false = at-counting c h ρ e R

  -- a call after its settle
  did : (c : Call) (k : ℕ) (h : Heap) → Inv s h → Fits s.m c → check c h.shape ≡ 0 → (ρ : ℕ → ℕ) (e : Endless) → AtEndless ρ h.shape e
      → ¬ ((acted s c k h).answer.status ≡ 14) → AnsweredAs c (acted s c k h) (endless_run c e)
  unfolding acted do_new do_deed endless_run
  did (New v) k h g f d ρ e R n = go (no_cell_free s h) refl n
    where
      go : (q : Bool) → no_cell_free s h ≡ q → ¬ ((do_new q v h).answer.status ≡ 14) → AnsweredAs (New v) (do_new q v h) (endless_run (New v) e)
      go true i n = absurd (n refl)
      go false i n = record { status_same = refl; value_same' = λ k. refl; renamed = (extend s ok h g i ρ e R, at_take s ok h g i ρ e R v) }
  did (Do a) k h g f d ρ e R n =
      let t = replay s.cap h.log h.tables in
      record {
        status_same = refl;
        value_same' = λ k. sym (value_same s.m every (live h.shape.fields) ρ h.shape e.shape (whole s ok h.shape t g.good) R.sim a f (every-own a));
        renamed = (ρ, act-at s ok h.shape t g.good ρ e R a f d);
      }
  did Settle k h g f d ρ e R n = record { status_same = refl; value_same' = λ k. absurd k; renamed = (ρ, R) }

  ran : (c : Call) (h : Heap) → Inv s h → Fits s.m c → check c h.shape ≡ 0 → (ρ : ℕ → ℕ) (e : Endless) → AtEndless ρ h.shape e
      → ¬ ((run s c h).answer.status ≡ 14) → AnsweredAs c (run s c h) (endless_run c e)
  ran c h g f d ρ e R n = go (run_as s ok c h g)
    where
      go : Ran s c h → AnsweredAs c (run s c h) (endless_run c e)
      go (inl i) =
          let k = readied s c h in
          rw (i, ← ran_letting_go c e)
          (did c (k.freed - h.freed) k (readied-inv s ok c h g) f (readied-right s ok c h g d) ρ (letting_go c e) (at-readied c h g ρ e R) (λ j. n (ap (λ (o : Stepped). o.answer.status) i ∙ j)))
      go (inr i) = absurd (n (ap (λ (o : Stepped). o.answer.status) i))

  pub step_agrees : (c : Call) (h : Heap) → Inv s h → Fits s.m c → (ρ : ℕ → ℕ) (e : Endless) → AtEndless ρ h.shape e
      → ¬ ((step s c h).answer.status ≡ 14) → AnsweredAs c (step s c h) (endless_step c e)
  unfolding step endless_step
  step_agrees c h g f ρ e R n = rw (check_as s ok h.shape (replay s.cap h.log h.tables) g.good ρ e R c f) (go (check c h.shape) refl n)
    where
      go : (k : ℕ) → check c h.shape ≡ k → ¬ ((unless k (refused h) (run s c h)).answer.status ≡ 14)
          → AnsweredAs c (unless k (refused h) (run s c h)) (unless k (λ j. says e j (pos 0)) (endless_run c e))
      go zero d n = ran c h g f d ρ e R n
      go (suc j) d n = record { status_same = refl; value_same' = λ k. refl; renamed = (ρ, R) }

  -- a new answered 14 leaves the endless heap as it was: nothing was freed
  pub step_14 : (c : Call) (h : Heap) → Inv s h → (ρ : ℕ → ℕ) (e : Endless) → AtEndless ρ h.shape e → (step s c h).answer.status ≡ 14 → AtEndless ρ (step s c h).heap.shape e
  unfolding replayed
  step_14 c h g ρ e R i = go (call_refused s c h 13 i).1
    where
      go : {A : Type 0} → (A × ((step s c h).heap ≡ h)) ⊎ Fourteen s c h 14 (step s c h) → AtEndless ρ (step s c h).heap.shape e
      go (inl p) = rw p.1 R
      go (inr f) = rw (fourteen_left s ok c h g f) R

-- a fresh heap against an endless heap with nothing in it
pub fresh_at : (s : Sizes) → AtEndless (λ a. a) (fresh s).shape (endless s.m)
unfolding fresh endless var
fresh_at s =
    record {
      sim =
          record {
            many = refl;
            vars = λ v o. same (var (fresh s).shape v);
            cells = λ a f l k. absurd (unused a l);
            inj = λ a b l m e. e;
            goes = λ a l. absurd (unused a l);
          };
      below = λ a l. absurd (unused a l);
      len = refl;
    }
  where
    unused : (a : ℕ) → live (fresh s).shape.fields a ≡ true → ⊥
    unused a l = true≢false (sym l ∙ dead s a)

    same : (o : Option ℕ) → o ≡ ren (λ a. a) o
    same none = refl
    same (some a) = refl
