-- Cells in use, and what a write to a field leaves. Assumes nothing.
use Prim.Native.Nat.{ℕ, zero, suc, ◌+◌, ◌*◌, ◌<◌, ◌≤◌}
use mathlib.Core.Path.{◌≡◌, refl, sym, ap, ◌∙◌}
use mathlib.Core.Logic.{◌≢◌}
use mathlib.Core.Bool.{Bool, true, false, cond, true≢false, false≢true}
use mathlib.Core.Option.{Option}
use mathlib.Core.List.{List, [], ◌∷◌}
use native.Mathlib.Omega.{arith}
use lib.Dec.{eqb, ltb}
use lib.ListN.{length, get_or, set, length-set, get_or-eq_default}
use lib.Seq.{get_or-set_same, get_or-set_other}
use borrow.Author.Tests.{eqb-true, eqb-false, ltb-true, ltb-false}
use Rattle.rules.specs.declared.Field.{Field}
use Rattle.rules.specs.declared.Field.TheVariants.{Nothing, Figure, Cell, Free}
use Rattle.rules.specs.Heap.{Tables, place, field, store}
use Rattle.rules.specs.Call.{drops}
use Rattle.rules.specs.Invariant.{hit, refs, used, live, Good, Fitting, Small, lives}
use Rattle.rules.proofs.Tables.{eqb_self}
use Rattle.rules.proofs.Exact.{refs-set}
use Rattle.rules.proofs.Lists.{set-each}

-- ---- liveness and writes

pub live_in : (fs : List Field) (a : ℕ) → live fs a ≡ true → place a 0 < length fs
unfolding live
live_in fs a l = go (ltb (place a 0) (length fs)) refl
  where
    go : (q : Bool) → ltb (place a 0) (length fs) ≡ q → place a 0 < length fs
    go true e = ltb-true _ _ e
    go false e = absurd (false≢true (ap used (sym (get_or-eq_default fs (Free 0) (ltb-false _ _ e))) ∙ l))

mark_dead : (fs : List Field) (i b : ℕ) → get_or fs i Nothing ≡ Free b → used (get_or fs i (Free 0)) ≡ false
mark_dead [] i b e = refl
mark_dead (x ∷ fs) zero b e = ap used e
mark_dead (x ∷ fs) (suc i) b e = mark_dead fs i b e

-- a cell with the free mark is not in use
pub free_dead : (fs : List Field) (a b : ℕ) → field fs a 0 ≡ Free b → live fs a ≡ false
unfolding live field
free_dead fs a b e = mark_dead fs (place a 0) b e

pub places : (a b f g : ℕ) → place a f ≡ place b g → f < 2 → g < 2 → (a ≡ b) × (f ≡ g)
unfolding place
places a b f g e h k = omega arith

pub place_in_1 : (n a : ℕ) (fs : List Field) → length fs ≡ 2 * n → live fs a ≡ true → place a 1 < length fs
unfolding place
place_in_1 n a fs e l = let h = live_in fs a l in omega arith

pub live-store_1 : (fs : List Field) (a b : ℕ) (x : Field) → live (store fs a 1 x) b ≡ live fs b
unfolding live store
live-store_1 fs a b x = ap used (get_or-set_other fs (place a 1) (place b 0) x (Free 0) (λ e. let h = places b a 0 1 e (omega arith) (omega arith) in omega arith))

pub live-store_0 : (fs : List Field) (a b : ℕ) (x : Field) → place a 0 < length fs → live (store fs a 0 x) b ≡ cond (eqb b a) (used x) (live fs b)
unfolding live store
live-store_0 fs a b x h = go (eqb b a) refl
  where
    go : (q : Bool) → eqb b a ≡ q → used (get_or (set fs (place a 0) x) (place b 0) (Free 0)) ≡ cond q (used x) (used (get_or fs (place b 0) (Free 0)))
    go true e = rw (eqb-true b a e, get_or-set_same fs (place a 0) x (Free 0) h)
    go false e = ap used (get_or-set_other fs (place a 0) (place b 0) x (Free 0) (λ d. eqb-false b a e (places b a 0 0 d (omega arith) (omega arith)).0))

pub refs-store : (fs : List Field) (a f b : ℕ) (x : Field) → place a f < length fs → refs (store fs a f x) b + hit (field fs a f) b ≡ refs fs b + hit x b
unfolding store field
refs-store fs a f b x h = refs-set fs (place a f) x b h

pub length-store : (fs : List Field) (a f : ℕ) (x : Field) → length (store fs a f x) ≡ length fs
unfolding store
length-store fs a f x = length-set fs (place a f) x

pub field_other : (fs : List Field) (a b f g : ℕ) (x : Field) → eqb b a ≡ false → f < 2 → g < 2 → field (store fs a f x) b g ≡ field fs b g
unfolding field store
field_other fs a b f g x d h k = get_or-set_other fs (place a f) (place b g) x Nothing (λ e. eqb-false b a d (places b a g f e k h).0)

pub field-same : (fs : List Field) (a f : ℕ) (x : Field) → place a f < length fs → field (store fs a f x) a f ≡ x
unfolding field store
field-same fs a f x h = get_or-set_same fs (place a f) x Nothing h

pub field_across : (fs : List Field) (a f g : ℕ) (x : Field) → f < 2 → g < 2 → g ≢ f → field (store fs a f x) a g ≡ field fs a g
unfolding field store
field_across fs a f g x h k d = get_or-set_other fs (place a f) (place a g) x Nothing (λ e. d (places a a g f e k h).1)

-- a cell in use is below n
pub live_below : (n : ℕ) (fs : List Field) → length fs ≡ 2 * n → (a : ℕ) → live fs a ≡ true → a < n
unfolding place
live_below n fs e a l = let h = live_in fs a l in omega arith

pub place_in : (n : ℕ) (fs : List Field) → length fs ≡ 2 * n → (a f : ℕ) → f < 2 → live fs a ≡ true → place a f < length fs
unfolding place
place_in n fs e a f h l = let k = place_in_1 n a fs e l in omega arith

-- what a pointer of a cell in use names is in use
pub cell-live : (n cap : ℕ) (fs : List Field) (hs : List (Option ℕ)) (t : Tables) → Good n cap fs hs t → (a f b : ℕ) → f < 2 → live fs a ≡ true → field fs a f ≡ Cell b → live fs b ≡ true
cell-live n cap fs hs t g a f b h l e = go (live fs b) refl
  where
    go : (q : Bool) → live fs b ≡ q → live fs b ≡ true
    go true d = d
    go false d =
        let r = refs-store fs a f b Nothing (place_in n fs g.len a f h l) in
        let r1 : refs (store fs a f Nothing) b + cond (eqb b b) 1 0 ≡ refs fs b + 0 = rw e at r in
        let r2 = rw (eqb_self b) at r1 in
        let z = ((g.counted b).gone d).1 in
        absurd (omega arith)

-- the destroy that goes with a field names a cell below n
pub drops-small : (n cap : ℕ) (fs : List Field) (hs : List (Option ℕ)) (t : Tables) → Good n cap fs hs t → (a f : ℕ) → f < 2 → live fs a ≡ true → Small n (drops (field fs a f))
unfolding drops
drops-small n cap fs hs t g a f h l = go (field fs a f) refl
  where
    go : (x : Field) → field fs a f ≡ x → Small n (drops x)
    go Nothing e = tt
    go (Figure y) e = tt
    go (Cell b) e = (live_below n fs g.len b (cell-live n cap fs hs t g a f b h l e), tt)
    go (Free b) e = tt

-- ---- no free mark in field 1, and figures fit

abbrev pub Plain1 : List Field → Type 0
Plain1 fs = (a b : ℕ) → field fs a 1 ≡ Free b → ⊥

abbrev pub Figures : List Field → Type 0
Figures fs = (i : ℕ) → Fitting (get_or fs i Nothing)

pub plain-store_0 : (fs : List Field) (a : ℕ) (x : Field) → Plain1 fs → Plain1 (store fs a 0 x)
unfolding field store
plain-store_0 fs a x p c b e = p c b (sym (get_or-set_other fs (place a 0) (place c 1) x Nothing (λ d. let h = places c a 1 0 d (omega arith) (omega arith) in omega arith)) ∙ e)

pub plain-store : (fs : List Field) (a f : ℕ) (x : Field) → used x ≡ true → Plain1 fs → Plain1 (store fs a f x)
unfolding field store
plain-store fs a f x u p c b = set-each (λ y. y ≡ Free b → ⊥) fs (place a f) (place c 1) x Nothing (λ e. true≢false (sym u ∙ ap used e)) (p c b)

pub figures-store : (fs : List Field) (a f : ℕ) (x : Field) → Fitting x → Figures fs → Figures (store fs a f x)
unfolding store
figures-store fs a f x u p i = set-each Fitting fs (place a f) i x Nothing u (p i)

-- ---- how many cells are in use

lives-set : (fs : List Field) (a i : ℕ) (x : Field) → i ≡ 2 * a → suc i < length fs → lives (set fs i x) + cond (used (get_or fs i (Free 0))) 1 0 ≡ lives fs + cond (used x) 1 0
lives-set [] a i x e h = absurd (omega arith)
lives-set (f ∷ []) a i x e h = absurd (omega arith)
lives-set (f ∷ g ∷ fs) a zero x e h = omega arith
lives-set (f ∷ g ∷ fs) a (suc zero) x e h = absurd (omega arith)
lives-set (f ∷ g ∷ fs) zero (suc (suc i)) x e h = absurd (omega arith)
lives-set (f ∷ g ∷ fs) (suc a) (suc (suc i)) x e h = omega (arith, lives-set fs a i x (omega arith) (omega arith))

pub lives-le : (fs : List Field) → lives fs + lives fs ≤ length fs
lives-le [] = omega arith
lives-le (f ∷ []) = omega arith
lives-le (f ∷ g ∷ fs) = go (used f) (lives-le fs)
  where
    go : (q : Bool) → lives fs + lives fs ≤ length fs → (cond q 1 0 + lives fs) + (cond q 1 0 + lives fs) ≤ suc (suc (length fs))
    go true h = omega arith
    go false h = omega arith

lives_odd : (fs : List Field) (a i : ℕ) (x : Field) → i ≡ 2 * a + 1 → lives (set fs i x) ≡ lives fs
lives_odd [] a i x e = refl
lives_odd (f ∷ []) a zero x e = absurd (omega arith)
lives_odd (f ∷ []) a (suc i) x e = refl
lives_odd (f ∷ g ∷ fs) a zero x e = absurd (omega arith)
lives_odd (f ∷ g ∷ fs) a (suc zero) x e = refl
lives_odd (f ∷ g ∷ fs) zero (suc (suc i)) x e = absurd (omega arith)
lives_odd (f ∷ g ∷ fs) (suc a) (suc (suc i)) x e = rw (lives_odd fs a i x (omega arith))

-- a free cell's mark in the place of a cell in use
pub lives-freed : (fs : List Field) (a k : ℕ) → live fs a ≡ true → place a 1 < length fs → suc (lives (store (store fs a 0 (Free k)) a 1 Nothing)) ≡ lives fs
unfolding store live place
lives-freed fs a k l h =
    let e1 = lives_odd (set fs (2 * a + 0) (Free k)) a (2 * a + 1) Nothing refl in
    let e0 = rw l at (lives-set fs a (2 * a + 0) (Free k) (omega arith) (omega arith)) in
    omega arith

-- any other write to a cell in use
pub lives-store : (fs : List Field) (a f : ℕ) (x : Field) → f < 2 → used x ≡ true → live fs a ≡ true → place a 1 < length fs → lives (store fs a f x) ≡ lives fs
unfolding store live place
lives-store fs a zero x i u l h = let e = rw (l, u) at (lives-set fs a (2 * a + 0) x (omega arith) (omega arith)) in omega arith
lives-store fs a (suc zero) x i u l h = lives_odd fs a (2 * a + 1) x refl
lives-store fs a (suc (suc f)) x i u l h = absurd (omega arith)

-- a free cell that is taken
pub lives-taken : (fs : List Field) (a : ℕ) → live fs a ≡ false → place a 1 < length fs → lives (store fs a 0 Nothing) ≡ suc (lives fs)
unfolding store live place
lives-taken fs a l h = let e = rw l at (lives-set fs a (2 * a + 0) Nothing (omega arith) (omega arith)) in omega arith
