-- Each deed keeps the counts exact: of the tables as they will be once the log is replayed; and what it writes keeps the rest. Assumes nothing.
use Prim.Native.Nat.{ℕ, zero, suc, ◌<◌, ◌≤◌}
use mathlib.Core.Path.{◌≡◌, refl, sym, ap, ◌∙◌, subst}
use mathlib.Core.Logic.{◌⊎◌, inl, inr}
use mathlib.Core.Bool.{Bool, true, false, ◌&&◌, ◌||◌, cond, false≢true, or-true}
use mathlib.Core.Option.{Option, none, some}
use mathlib.Core.List.{List, [], ◌∷◌, ◌++◌, append-nil}
use native.Mathlib.Omega.{arith}
use lib.Dec.{eqb, leb}
use lib.IntN.{ℤ, pos, negsuc}
use lib.Signed.{mag}
use lib.ListN.{length, get_or, set, length-set, length-append}
use borrow.Author.Tests.{eqb-true, eq-eqb, ltb-true}
use Rattle.rules.specs.declared.Field.{Field}
use Rattle.rules.specs.declared.Field.TheVariants.{Nothing, Figure, Cell, Free}
use Rattle.rules.specs.declared.Deed.{Deed}
use Rattle.rules.specs.declared.Deed.TheVariants.{Copy, Clear, Link, Put, Blank, Follow, Read, Same}
use Rattle.rules.specs.declared.Call.{Call}
use Rattle.rules.specs.declared.Call.TheVariants.{New, Do, Settle}
use Rattle.rules.specs.declared.Sizes.{Sizes}
use Rattle.rules.specs.Heap.{Tables, Transaction, Shape, field, store}
use Rattle.rules.specs.Rules.{replay}
use Rattle.rules.specs.Call.{drops, var, at, is_held, want, makes, logs, write, hold, to_cell, target, act, is_below, is_nought, is_signed32, given, number, call_of, and_then, calls_of, calls_in, InRange, Fits, AllFit, refuses}
use Rattle.rules.specs.Settle.{holds}
use Rattle.rules.specs.Head.{Limits}
use Rattle.rules.specs.Invariant.{hit, refs, used, live, Counted, Good, Fitting, Small, lives}
use Rattle.rules.proofs.Exact.{gains, drop-counted, gain_counted}
use Rattle.rules.proofs.Sorted.{small-append, replay-append}
use Rattle.rules.proofs.Cells.{live_in, live_below, place_in, place_in_1, live-store_0, live-store_1, refs-store, length-store, cell-live, drops-small, lives-store}

-- ---- variables

pub holds-set : (vs : List (Option ℕ)) (v : ℕ) (o : Option ℕ) (b : ℕ) → holds b (set vs v o) ≡ true → (o ≡ some b) ⊎ (holds b vs ≡ true)
holds-set [] v o b h = inr h
holds-set (x ∷ vs) zero none b h = inr (skip x)
  where
    skip : (x : Option ℕ) → holds b (x ∷ vs) ≡ true
    skip none = h
    skip (some c) = rw h (or-true (eqb b c))
holds-set (x ∷ vs) zero (some a) b h = go (eqb b a) refl h x
  where
    go : (q : Bool) → eqb b a ≡ q → (q || holds b vs) ≡ true → (x : Option ℕ) → (some a ≡ some b) ⊎ (holds b (x ∷ vs) ≡ true)
    go true e h x = inl (ap some (sym (eqb-true b a e)))
    go false e h none = inr h
    go false e h (some c) = inr (rw h (or-true (eqb b c)))
holds-set (none ∷ vs) (suc v) o b h = holds-set vs v o b h
holds-set (some c ∷ vs) (suc v) o b h = go (eqb b c) refl h (holds-set vs v o b)
  where
    go : (q : Bool) → eqb b c ≡ q → (q || holds b (set vs v o)) ≡ true → (holds b (set vs v o) ≡ true → (o ≡ some b) ⊎ (holds b vs ≡ true)) → (o ≡ some b) ⊎ ((eqb b c || holds b vs) ≡ true)
    go true e h ih = inr (rw e)
    go false e h ih = rw e (ih h)

-- what is held with v let go is held
pub holds_let_go : (vs : List (Option ℕ)) (v b : ℕ) → holds b (set vs v none) ≡ true → holds b vs ≡ true
holds_let_go vs v b i = go (holds-set vs v none b i)
  where
    go : (none ≡ some b) ⊎ (holds b vs ≡ true) → holds b vs ≡ true
    go (inl e) = absurd (let z : ◌≡◌ {A = ℕ} 0 1 = cc in omega arith)
    go (inr i) = i

pub holds-var : (vs : List (Option ℕ)) (v a : ℕ) → get_or vs v none ≡ some a → holds a vs ≡ true
holds-var [] v a e = absurd (let w : ◌≡◌ {A = ℕ} 0 1 = cc in omega arith)
holds-var (none ∷ vs) zero a e = absurd (let w : ◌≡◌ {A = ℕ} 0 1 = cc in omega arith)
holds-var (some b ∷ vs) zero a e = let f : b ≡ a = cc in rw (eq-eqb a b (sym f))
holds-var (none ∷ vs) (suc v) a e = holds-var vs v a e
holds-var (some b ∷ vs) (suc v) a e = rw (holds-var vs v a e) (or-true (eqb a b))

-- ---- what a check that finds nothing wrong says

pub held_11 : (o : Option ℕ) → want (is_held o) 11 ≡ 0 → (a : ℕ) × (o ≡ some a)
held_11 none e = absurd (omega arith)
held_11 (some a) e = (a, refl)

pub two_11 : (p q : Bool) → want (p && q) 11 ≡ 0 → (want p 11 ≡ 0) × (want q 11 ≡ 0)
two_11 true q e = (refl, e)
two_11 false q e = absurd (omega arith)

pub then_11 : (q : Bool) (k : ℕ) → cond q k 11 ≡ 0 → want q 11 ≡ 0
then_11 true k e = refl
then_11 false k e = e

pub to_cell-used : (o : Option ℕ) → used (to_cell o) ≡ true
to_cell-used none = refl
to_cell-used (some a) = refl

to_cell_fitting : (o : Option ℕ) → Fitting (to_cell o)
to_cell_fitting none = tt
to_cell_fitting (some a) = tt

-- ---- how many entries a deed logs

drops-long : (x : Field) → length (drops x) ≤ 1
drops-long Nothing = omega arith
drops-long (Figure x) = omega arith
drops-long (Cell a) = omega arith
drops-long (Free a) = omega arith

makes-long : (o : Option ℕ) → length (makes o) ≤ 1
makes-long none = omega arith
makes-long (some a) = omega arith

pub logs-long : (d : Deed) (sh : Shape) → length (logs d sh) ≤ 2
unfolding logs
logs-long (Copy v w) sh = omega arith
logs-long (Clear v) sh = omega arith
logs-long (Link v f w) sh = rw length-append (omega (arith, drops-long (at sh v f), makes-long (var sh w)))
logs-long (Put v f x) sh = omega (arith, drops-long (at sh v f))
logs-long (Blank v f) sh = omega (arith, drops-long (at sh v f))
logs-long (Follow v f w) sh = omega arith
logs-long (Read v f) sh = omega arith
logs-long (Same v w) sh = omega arith

pub act-variables : (d : Deed) (sh : Shape) → length (act d sh).variables ≡ length sh.variables
unfolding act hold write
act-variables (Copy v w) sh = length-set sh.variables v (var sh w)
act-variables (Clear v) sh = length-set sh.variables v none
act-variables (Link v f w) sh = refl
act-variables (Put v f x) sh = refl
act-variables (Blank v f) sh = refl
act-variables (Follow v f w) sh = length-set sh.variables w (target (at sh v f))
act-variables (Read v f) sh = refl
act-variables (Same v w) sh = refl

write-fields : (sh : Shape) (v f : ℕ) (x : Field) → length (write sh v f x).fields ≡ length sh.fields
unfolding write
write-fields sh v f x = go (var sh v) refl
  where
    go : (o : Option ℕ) → var sh v ≡ o → length (write sh v f x).fields ≡ length sh.fields
    go none e = rw (e, write)
    go (some a) e = rw (e, write) (length-store sh.fields a f x)

pub act-fields : (d : Deed) (sh : Shape) → length (act d sh).fields ≡ length sh.fields
unfolding act hold
act-fields (Copy v w) sh = refl
act-fields (Clear v) sh = refl
act-fields (Link v f w) sh = write-fields sh v f (to_cell (var sh w))
act-fields (Put v f x) sh = write-fields sh v f (Figure x)
act-fields (Blank v f) sh = write-fields sh v f Nothing
act-fields (Follow v f w) sh = refl
act-fields (Read v f) sh = refl
act-fields (Same v w) sh = refl

-- ---- a shape that agrees with tables

module _ (s : Sizes) (ok : Limits s) (sh : Shape) (t : Tables) (g : Good s.n s.cap sh.fields sh.variables t) where
  abbrev Stays : Shape → List Transaction → Type 0
  Stays sh' l = Good s.n s.cap sh'.fields sh'.variables (replay s.cap l t)

  pub var-live : (v a : ℕ) → var sh v ≡ some a → live sh.fields a ≡ true
  unfolding var
  var-live v a e = g.held a (holds-var sh.variables v a e)

  pub hold-good : (v : ℕ) (o : Option ℕ) → ((a : ℕ) → o ≡ some a → live sh.fields a ≡ true) → Stays (hold sh v o) []
  unfolding hold replay
  hold-good v o h = record { len = g.len; counted = g.counted; held = λ b i. go b (holds-set sh.variables v o b i) }
    where
      go : (b : ℕ) → (o ≡ some b) ⊎ (holds b sh.variables ≡ true) → live sh.fields b ≡ true
      go b (inl e) = h b e
      go b (inr e) = g.held b e

  -- a field of a cell in use is written: the old target's destroy and then the new target's create
  pub store-live : (a f : ℕ) (x : Field) → f < 2 → live sh.fields a ≡ true → used x ≡ true → (b : ℕ) → live (store sh.fields a f x) b ≡ live sh.fields b
  store-live a zero x h l u b = live-store_0 sh.fields a b x (live_in sh.fields a l) ∙ go (eqb b a) refl
    where
      go : (q : Bool) → eqb b a ≡ q → cond q (used x) (live sh.fields b) ≡ live sh.fields b
      go true e = rw (eqb-true b a e, l) u
      go false e = refl
  store-live a (suc zero) x h l u b = live-store_1 sh.fields a b x
  store-live a (suc (suc f)) x h l u b = absurd (omega arith)

  pub store-good : (a f : ℕ) (x : Field) → f < 2 → live sh.fields a ≡ true → used x ≡ true → ((b : ℕ) → hit x b ≡ 1 → live sh.fields b ≡ true)
      → Stays (record { fields = store sh.fields a f x; variables = sh.variables }) (drops (field sh.fields a f) ++ gains x)
  store-good a f x h l u p =
      record {
        len = rw length-store g.len;
        counted = λ b. rw (replay-append, store-live a f x h l u b) (at b);
        held = λ b i. rw (store-live a f x h l u b) (g.held b i);
      }
    where
      at : (b : ℕ) → Counted s.cap (replay s.cap (gains x) (replay s.cap (drops (field sh.fields a f)) t)) (refs (store sh.fields a f x) b) (live sh.fields b) b
      at b =
          let e0 = refs-store sh.fields a f b Nothing (place_in s.n sh.fields g.len a f h l) in
          let e1 = refs-store sh.fields a f b x (place_in s.n sh.fields g.len a f h l) in
          gain_counted s.cap ok.cap_least x {r = refs (store sh.fields a f Nothing) b} (omega arith) (p b)
          (drop-counted s.cap ok.cap_least (field sh.fields a f) (omega arith) (g.counted b))

  -- ---- the deeds

  write-good : (v f : ℕ) (x : Field) → f < 2 → want (is_held (var sh v)) 11 ≡ 0 → used x ≡ true → ((b : ℕ) → hit x b ≡ 1 → live sh.fields b ≡ true)
      → Stays (write sh v f x) (drops (at sh v f) ++ gains x)
  unfolding write at
  write-good v f x h c u p = let w = held_11 (var sh v) c in rw (w.1, at, write) (store-good w.0 f x h (var-live v w.0 w.1) u p)

  link_good : (v f : ℕ) (o : Option ℕ) → f < 2 → want (is_held (var sh v)) 11 ≡ 0 → want (is_held o) 11 ≡ 0 → ((a : ℕ) → o ≡ some a → live sh.fields a ≡ true)
      → Stays (write sh v f (to_cell o)) (drops (at sh v f) ++ makes o)
  link_good v f none h c d p = absurd (omega arith)
  link_good v f (some b) h c d p = write-good v f (Cell b) h c refl (λ x e. go x (eqb x b) refl e)
    where
      go : (x : ℕ) (q : Bool) → eqb x b ≡ q → ◌≡◌ {A = ℕ} (cond q 1 0) 1 → live sh.fields x ≡ true
      go x true d e = rw (eqb-true x b d) (p b refl)
      go x false d e = absurd (omega arith)

  plain-good : (v f : ℕ) (x : Field) → f < 2 → want (is_held (var sh v)) 11 ≡ 0 → used x ≡ true → gains x ≡ [] → ((b : ℕ) → hit x b ≡ 0) → Stays (write sh v f x) (drops (at sh v f))
  plain-good v f x h c u e z =
      subst (λ l. Stays (write sh v f x) l) (ap (λ l. drops (at sh v f) ++ l) e ∙ append-nil (drops (at sh v f)))
      (write-good v f x h c u (λ b d. absurd (let k = z b in omega arith)))

  target-live : (v f : ℕ) → f < 2 → want (is_held (var sh v)) 11 ≡ 0 → (a : ℕ) → target (at sh v f) ≡ some a → live sh.fields a ≡ true
  unfolding at
  target-live v f h c a e =
      let w = held_11 (var sh v) c in
      cell-live s.n s.cap sh.fields sh.variables t g w.0 f a h (var-live v w.0 w.1) (go (field sh.fields w.0 f) (rw (w.1, at) at e))
    where
      go : (x : Field) → target x ≡ some a → x ≡ Cell a
      go Nothing e = absurd (let z : ◌≡◌ {A = ℕ} 0 1 = cc in omega arith)
      go (Figure y) e = absurd (let z : ◌≡◌ {A = ℕ} 0 1 = cc in omega arith)
      go (Cell b) e = cc
      go (Free b) e = absurd (let z : ◌≡◌ {A = ℕ} 0 1 = cc in omega arith)

  pub deed_good : (d : Deed) → InRange s.m d → refuses d sh ≡ 0 → Stays (act d sh) (logs d sh)
  unfolding act logs refuses replay
  deed_good (Copy v w) f e = hold-good v (var sh w) (λ a d. var-live w a d)
  deed_good (Clear v) f e = hold-good v none (λ a d. absurd (let z : ◌≡◌ {A = ℕ} 0 1 = cc in omega arith))
  deed_good (Link v f w) h e =
      let k = two_11 (is_held (var sh v)) (is_held (var sh w)) e in
      link_good v f (var sh w) h.1 k.0 k.1 (λ a d. var-live w a d)
  deed_good (Put v f x) h e = plain-good v f (Figure x) h.1 e refl refl (λ b. refl)
  deed_good (Blank v f) h e = plain-good v f Nothing h.1 e refl refl (λ b. refl)
  deed_good (Follow v f w) h e = hold-good w (target (at sh v f)) (target-live v f h.1 (then_11 (is_held (var sh v)) _ e))
  deed_good (Read v f) h e = g
  deed_good (Same v w) f e = g

  -- what a write to a cell in use keeps, a deed keeps
  module _ (P : List Field → Type 0) (p : P sh.fields)
      (by-store : (a f : ℕ) (x : Field) → f < 2 → live sh.fields a ≡ true → used x ≡ true → Fitting x → P (store sh.fields a f x)) where
    write_keeps : (v f : ℕ) (x : Field) → f < 2 → want (is_held (var sh v)) 11 ≡ 0 → used x ≡ true → Fitting x → P (write sh v f x).fields
    unfolding write
    write_keeps v f x h c u i = let w = held_11 (var sh v) c in rw (w.1, write) (by-store w.0 f x h (var-live v w.0 w.1) u i)

    pub act_keeps : (d : Deed) → InRange s.m d → refuses d sh ≡ 0 → P (act d sh).fields
    unfolding act refuses hold
    act_keeps (Copy v w) f e = p
    act_keeps (Clear v) f e = p
    act_keeps (Link v f w) h e = write_keeps v f (to_cell (var sh w)) h.1 (two_11 (is_held (var sh v)) (is_held (var sh w)) e).0 (to_cell-used (var sh w)) (to_cell_fitting (var sh w))
    act_keeps (Put v f x) h e = write_keeps v f (Figure x) h.1 e refl h.2
    act_keeps (Blank v f) h e = write_keeps v f Nothing h.1 e refl tt
    act_keeps (Follow v f w) h e = p
    act_keeps (Read v f) h e = p
    act_keeps (Same v w) f e = p

  pub act-lives : (d : Deed) → InRange s.m d → refuses d sh ≡ 0 → lives (act d sh).fields ≡ lives sh.fields
  act-lives =
      act_keeps (λ fs. lives fs ≡ lives sh.fields) refl
      (λ a f x h l u i. lives-store sh.fields a f x h u l (place_in_1 s.n a sh.fields g.len l))

  -- what a deed logs names cells below n
  at_small : (v f : ℕ) → f < 2 → Small s.n (drops (at sh v f))
  unfolding at
  at_small v f h = go (var sh v) refl
    where
      go : (o : Option ℕ) → var sh v ≡ o → Small s.n (drops (at sh v f))
      go none e = rw (e, at) tt
      go (some a) e = rw (e, at) (drops-small s.n s.cap sh.fields sh.variables t g a f h (var-live v a e))

  makes-small : (w : ℕ) → Small s.n (makes (var sh w))
  makes-small w = go (var sh w) refl
    where
      go : (o : Option ℕ) → var sh w ≡ o → Small s.n (makes o)
      go none e = tt
      go (some a) e = (live_below s.n sh.fields g.len a (var-live w a e), tt)

  pub logs-small : (d : Deed) → InRange s.m d → Small s.n (logs d sh)
  unfolding logs
  logs-small (Copy v w) h = tt
  logs-small (Clear v) h = tt
  logs-small (Link v f w) h = small-append s.n (drops (at sh v f)) (makes (var sh w)) (at_small v f h.1) (makes-small w)
  logs-small (Put v f x) h = at_small v f h.1
  logs-small (Blank v f) h = at_small v f h.1
  logs-small (Follow v f w) h = tt
  logs-small (Read v f) h = tt
  logs-small (Same v w) h = tt

-- ---- calls that words give

-- P of what there is, if there is anything
abbrev Only : {A : Type 0} → (A → Type 0) → Option A → Type 0
Only {A} P o = (x : A) → o ≡ some x → P x

only-cond : {A : Type 0} (P : A → Type 0) (q : Bool) (l r : Option A) → Only P l → Only P r → Only P (cond q l r)
only-cond P true l r f g = f
only-cond P false l r f g = g

only_none : {A : Type 0} (P : A → Type 0) → Only P none
only_none P x e = absurd (let z : ◌≡◌ {A = ℕ} 0 1 = cc in omega arith)

only-given : (P : Call → Type 0) (q : Bool) (c : Call) → (q ≡ true → P c) → Only P (given q c)
only-given P true c f x e = let d : c ≡ x = cc in subst P d (f refl)
only-given P false c f x e = absurd (let z : ◌≡◌ {A = ℕ} 0 1 = cc in omega arith)

all_three : (p q r : Bool) → (p && q && r) ≡ true → (p ≡ true) × ((q ≡ true) × (r ≡ true))
all_three true true r e = (refl, (refl, e))
all_three true false r e = absurd (false≢true e)
all_three false q r e = absurd (false≢true e)

number-below : (m : ℕ) (x : ℤ) → is_below m x ≡ true → number x < m
number-below m (pos a) e = ltb-true a m e
number-below m (negsuc a) e = absurd (false≢true e)

pub call_fits : (m : ℕ) (op a b c : ℤ) (x : Call) → call_of m op a b c ≡ some x → Fits m x
unfolding call_of
call_fits m op a b c =
    also 1 (is_below m a) (is_nought b) (is_nought c) (New (number a)) (λ p q r. var a p)
    (also 2 (is_below m a) (is_below m b) (is_nought c) (Do (Copy (number a) (number b))) (λ p q r. (var a p, var b q))
    (also 3 (is_below m a) (is_nought b) (is_nought c) (Do (Clear (number a))) (λ p q r. var a p)
    (also 4 (is_below m a) (is_below 2 b) (is_below m c) (Do (Link (number a) (number b) (number c))) (λ p q r. (var a p, number-below 2 b q, var c r))
    (also 5 (is_below m a) (is_below 2 b) (is_signed32 c) (Do (Put (number a) (number b) c)) (λ p q r. (var a p, number-below 2 b q, ltb-true (mag c) 2147483648 r))
    (also 6 (is_below m a) (is_below 2 b) (is_nought c) (Do (Blank (number a) (number b))) (λ p q r. (var a p, number-below 2 b q))
    (also 7 (is_below m a) (is_below 2 b) (is_below m c) (Do (Follow (number a) (number b) (number c))) (λ p q r. (var a p, number-below 2 b q, var c r))
    (also 8 (is_below m a) (is_below 2 b) (is_nought c) (Do (Read (number a) (number b))) (λ p q r. (var a p, number-below 2 b q))
    (also 9 (is_below m a) (is_below m b) (is_nought c) (Do (Same (number a) (number b))) (λ p q r. (var a p, var b q))
    (also 10 (is_nought a) (is_nought b) (is_nought c) Settle (λ p q r. tt) (only_none (Fits m)))))))))))
  where
    var : (x : ℤ) → is_below m x ≡ true → number x < m
    var x e = number-below m x e

    also : (k : ℕ) (p q r : Bool) (x : Call) {o : Option Call} → (p ≡ true → q ≡ true → r ≡ true → Fits m x) → Only (Fits m) o
        → Only (Fits m) (cond (eqb (number op) k) (given (p && q && r) x) o)
    also k p q r x {o} f g = only-cond (Fits m) (eqb (number op) k) (given (p && q && r) x) o (only-given (Fits m) (p && q && r) x (λ e. let t = all_three p q r e in f t.0 t.1.0 t.1.1)) g

then_fit : (m : ℕ) (o : Option Call) (r : Option (List Call)) → Only (Fits m) o → Only (AllFit m) r → Only (AllFit m) (and_then o r)
then_fit m none r f g = only_none (AllFit m)
then_fit m (some c) none f g = only_none (AllFit m)
then_fit m (some c) (some cs) f g = λ x e. let d : c ∷ cs ≡ x = cc in subst (AllFit m) d (f c refl, g cs refl)

pub calls-fit : (m : ℕ) (ws : List ℤ) (cs : List Call) → calls_of m ws ≡ some cs → AllFit m cs
unfolding calls_of
calls-fit m [] = λ x e. let d : [] ≡ x = cc in subst (AllFit m) d tt
calls-fit m (op ∷ []) = only_none (AllFit m)
calls-fit m (op ∷ a ∷ []) = only_none (AllFit m)
calls-fit m (op ∷ a ∷ b ∷ []) = only_none (AllFit m)
calls-fit m (op ∷ a ∷ b ∷ c ∷ ws) = then_fit m (call_of m op a b c) (calls_of m ws) (call_fits m op a b c) (calls-fit m ws)

pub calls_in_fit : (m : ℕ) (ws : List ℤ) (cs : List Call) → calls_in m ws ≡ some cs → AllFit m cs
unfolding calls_in
calls_in_fit m ws = only-cond (AllFit m) (leb (length ws) 1024) (calls_of m ws) none (calls-fit m ws) (only_none (AllFit m))

pub fit_parts : (m : ℕ) (cs ds : List Call) → AllFit m (cs ++ ds) → AllFit m cs × AllFit m ds
fit_parts m [] ds f = (tt, f)
fit_parts m (c ∷ cs) ds f = let p = fit_parts m cs ds f.1 in ((f.0, p.0), p.1)
