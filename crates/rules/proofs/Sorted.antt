-- Both tables stay ascending, below n and with counts in range, so the cell that reclaiming takes is the smallest. Assumes nothing.
use Prim.Native.Nat.{ℕ, zero, suc, ◌<◌, ◌≤◌}
use mathlib.Core.Path.{◌≡◌, refl, sym, subst}
use mathlib.Core.Bool.{Bool, true, false, ◌||◌, cond, false≢true}
use mathlib.Core.List.{List, [], ◌∷◌, ◌++◌}
use native.Mathlib.Omega.{arith}
use lib.Dec.{eqb, ltb}
use borrow.Author.Tests.{eqb-true, eqb-false, ltb-true, ltb-false}
use Rattle.rules.specs.Table.{Entry, entry, has, insert, remove, count_in, enter, delete, addresses, counts, All, Ascending}
use Rattle.rules.specs.Heap.{Tables, Transaction, allocates, creates, destroys}
use Rattle.rules.specs.Rules.{enter_zct, leave_zct, enter_mrt, leave_mrt, on_create, on_destroy, apply, replay}
use Rattle.rules.specs.Whole.{Kept}
use Rattle.rules.specs.Invariant.{named, Small}

-- ---- every entry has P

pub all_more : (P Q : ℕ → Type 0) → ((y : ℕ) → P y → Q y) → (z : List ℕ) → All P z → All Q z
all_more P Q f [] a = tt
all_more P Q f (x ∷ z) a = (f x a.0, all_more P Q f z a.1)

pub all_insert : (P : ℕ → Type 0) (a : ℕ) (z : List ℕ) → P a → All P z → All P (insert a z)
all_insert P a [] p s = (p, tt)
all_insert P a (x ∷ z) p s = go (eqb a x) (ltb a x) (all_insert P a z p s.1)
  where
    go : (b c : Bool) → All P (insert a z) → All P (cond b (x ∷ z) (cond c (a ∷ x ∷ z) (x ∷ insert a z)))
    go true c ih = s
    go false true ih = (p, s)
    go false false ih = (s.0, ih)

pub all_remove : (P : ℕ → Type 0) (a : ℕ) (z : List ℕ) → All P z → All P (remove a z)
all_remove P a [] s = tt
all_remove P a (x ∷ z) s = go (eqb a x) (all_remove P a z s.1)
  where
    go : (b : Bool) → All P (remove a z) → All P (cond b (remove a z) (x ∷ remove a z))
    go true ih = ih
    go false ih = (s.0, ih)

pub all_has : (P : ℕ → Type 0) (b : ℕ) (z : List ℕ) → All P z → has b z ≡ true → P b
all_has P b [] s i = absurd (false≢true i)
all_has P b (x ∷ z) s i = go (eqb b x) refl i (all_has P b z s.1)
  where
    go : (q : Bool) → eqb b x ≡ q → (q || has b z) ≡ true → (has b z ≡ true → P b) → P b
    go true e i ih = subst P (sym (eqb-true b x e)) s.0
    go false e i ih = ih i

-- ---- ascending

pub insert-up : (a : ℕ) (z : List ℕ) → Ascending z → Ascending (insert a z)
insert-up a [] s = (tt, tt)
insert-up a (x ∷ z) s = go (eqb a x) (ltb a x) refl refl (insert-up a z s.1)
  where
    go : (b c : Bool) → eqb a x ≡ b → ltb a x ≡ c → Ascending (insert a z) → Ascending (cond b (x ∷ z) (cond c (a ∷ x ∷ z) (x ∷ insert a z)))
    go true c e f ih = s
    go false true e f ih = let l = ltb-true a x f in ((l, all_more (λ y. x < y) (λ y. a < y) (λ y k. omega arith) z s.0), s)
    go false false e f ih = (all_insert (λ y. x < y) a z (let d = eqb-false a x e in let k = ltb-false a x f in omega arith) s.0, ih)

pub remove-up : (a : ℕ) (z : List ℕ) → Ascending z → Ascending (remove a z)
remove-up a [] s = tt
remove-up a (x ∷ z) s = go (eqb a x) (remove-up a z s.1)
  where
    go : (b : Bool) → Ascending (remove a z) → Ascending (cond b (remove a z) (x ∷ remove a z))
    go true ih = ih
    go false ih = (all_remove (λ y. x < y) a z s.0, ih)

-- ---- MRT's addresses change as ZCT does, and its counts stay in range

pub enter-addresses : (a k : ℕ) (m : List Entry) → addresses (enter a k m) ≡ insert a (addresses m)
enter-addresses a k [] = refl
enter-addresses a k (e ∷ m) = go (eqb a e.address) (ltb a e.address) refl (enter-addresses a k m)
  where
    go : (b c : Bool) → eqb a e.address ≡ b → addresses (enter a k m) ≡ insert a (addresses m)
        → addresses (cond b (entry a k ∷ m) (cond c (entry a k ∷ e ∷ m) (e ∷ enter a k m))) ≡ cond b (e.address ∷ addresses m) (cond c (a ∷ e.address ∷ addresses m) (e.address ∷ insert a (addresses m)))
    go true c d ih = rw (eqb-true a e.address d)
    go false true d ih = refl
    go false false d ih = rw ih

pub delete-addresses : (a : ℕ) (m : List Entry) → addresses (delete a m) ≡ remove a (addresses m)
delete-addresses a [] = refl
delete-addresses a (e ∷ m) = go (eqb a e.address) (delete-addresses a m)
  where
    go : (b : Bool) → addresses (delete a m) ≡ remove a (addresses m)
        → addresses (cond b (delete a m) (e ∷ delete a m)) ≡ cond b (remove a (addresses m)) (e.address ∷ remove a (addresses m))
    go true ih = ih
    go false ih = rw ih

pub enter-counts : (P : ℕ → Type 0) (a k : ℕ) (m : List Entry) → P k → All P (counts m) → All P (counts (enter a k m))
enter-counts P a k [] p s = (p, tt)
enter-counts P a k (e ∷ m) p s = go (eqb a e.address) (ltb a e.address) (enter-counts P a k m p s.1)
  where
    go : (b c : Bool) → All P (counts (enter a k m)) → All P (counts (cond b (entry a k ∷ m) (cond c (entry a k ∷ e ∷ m) (e ∷ enter a k m))))
    go true c ih = (p, s.1)
    go false true ih = (p, s)
    go false false ih = (s.0, ih)

pub delete-counts : (P : ℕ → Type 0) (a : ℕ) (m : List Entry) → All P (counts m) → All P (counts (delete a m))
delete-counts P a [] s = tt
delete-counts P a (e ∷ m) s = go (eqb a e.address) (delete-counts P a m s.1)
  where
    go : (b : Bool) → All P (counts (delete a m)) → All P (counts (cond b (delete a m) (e ∷ delete a m)))
    go true ih = ih
    go false ih = (s.0, ih)

-- a count that is not 0 is one of the counts
pub count-in : (P : ℕ → Type 0) (a k : ℕ) (m : List Entry) → All P (counts m) → count_in a m ≡ suc k → P (suc k)
count-in P a k [] s e = absurd (omega arith)
count-in P a k (x ∷ m) s e = go (eqb a x.address) e (count-in P a k m s.1)
  where
    go : (b : Bool) → cond b x.count (count_in a m) ≡ suc k → (count_in a m ≡ suc k → P (suc k)) → P (suc k)
    go true d ih = subst P d s.0
    go false d ih = ih d

-- ---- the tables

abbrev pub CountRanged : ℕ → ℕ → Type 0
CountRanged cap c = (2 ≤ c) × (c ≤ cap)

module _ (n cap : ℕ) (cap3 : 3 ≤ cap) (t : Tables) (s : Kept n cap t) where
  pub enter_zct-kept : (a : ℕ) → a < n → Kept n cap (enter_zct a t)
  unfolding enter_zct
  enter_zct-kept a h =
      record {
        zct_up = insert-up a t.zct s.zct_up;
        zct_below = all_insert (λ y. y < n) a t.zct h s.zct_below;
        mrt_up = s.mrt_up;
        mrt_below = s.mrt_below;
        mrt_counts = s.mrt_counts;
      }

  pub leave_zct-kept : (a : ℕ) → Kept n cap (leave_zct a t)
  unfolding leave_zct
  leave_zct-kept a =
      record {
        zct_up = remove-up a t.zct s.zct_up;
        zct_below = all_remove (λ y. y < n) a t.zct s.zct_below;
        mrt_up = s.mrt_up;
        mrt_below = s.mrt_below;
        mrt_counts = s.mrt_counts;
      }

  pub enter_mrt-kept : (a k : ℕ) → a < n → CountRanged cap k → Kept n cap (enter_mrt a k t)
  unfolding enter_mrt
  enter_mrt-kept a k h r =
      record {
        zct_up = s.zct_up;
        zct_below = s.zct_below;
        mrt_up = rw enter-addresses (insert-up a (addresses t.mrt) s.mrt_up);
        mrt_below = rw enter-addresses (all_insert (λ y. y < n) a (addresses t.mrt) h s.mrt_below);
        mrt_counts = enter-counts (CountRanged cap) a k t.mrt r s.mrt_counts;
      }

  pub leave_mrt-kept : (a : ℕ) → Kept n cap (leave_mrt a t)
  unfolding leave_mrt
  leave_mrt-kept a =
      record {
        zct_up = s.zct_up;
        zct_below = s.zct_below;
        mrt_up = rw delete-addresses (remove-up a (addresses t.mrt) s.mrt_up);
        mrt_below = rw delete-addresses (all_remove (λ y. y < n) a (addresses t.mrt) s.mrt_below);
        mrt_counts = delete-counts (CountRanged cap) a t.mrt s.mrt_counts;
      }

  in_range : (a k : ℕ) → count_in a t.mrt ≡ suc k → CountRanged cap (suc k)
  in_range a k e = count-in (CountRanged cap) a k t.mrt s.mrt_counts e

  pub apply-kept : (x : Transaction) → named x < n → Kept n cap (apply cap x t)
  unfolding apply on_create on_destroy
  apply-kept (allocates a) h = enter_zct-kept a h
  apply-kept (creates a) h = go (has a t.zct) (count_in a t.mrt) refl
    where
      go : (p : Bool) (k : ℕ) → count_in a t.mrt ≡ k → Kept n cap (on_create cap a t p k)
      go true k e = leave_zct-kept a
      go false zero e = enter_mrt-kept a 2 h (omega arith)
      go false (suc k) e = at (eqb (suc k) cap) refl
        where
          at : (q : Bool) → eqb (suc k) cap ≡ q → Kept n cap (cond q t (enter_mrt a (suc (suc k)) t))
          at true d = s
          at false d = enter_mrt-kept a (suc (suc k)) h (let r = in_range a k e in let x = eqb-false (suc k) cap d in omega arith)
  apply-kept (destroys a) h = go (count_in a t.mrt) refl
    where
      go : (k : ℕ) → count_in a t.mrt ≡ k → Kept n cap (on_destroy cap a t k)
      go zero e = enter_zct-kept a h
      go (suc k) e = at (eqb (suc k) cap) (eqb k 1) refl
        where
          at : (q r : Bool) → eqb k 1 ≡ r → Kept n cap (cond q t (cond r (leave_mrt a t) (enter_mrt a k t)))
          at true r d = s
          at false true d = leave_mrt-kept a
          at false false d = enter_mrt-kept a k h (let r = in_range a k e in let x = eqb-false k 1 d in omega arith)

pub replay-kept : (n cap : ℕ) → 3 ≤ cap → (l : List Transaction) (t : Tables) → Kept n cap t → Small n l → Kept n cap (replay cap l t)
unfolding replay
replay-kept n cap cap3 [] t s h = s
replay-kept n cap cap3 (x ∷ l) t s h = replay-kept n cap cap3 l (apply cap x t) (apply-kept n cap cap3 t s x h.0) h.1

pub small-append : (n : ℕ) (l₁ l₂ : List Transaction) → Small n l₁ → Small n l₂ → Small n (l₁ ++ l₂)
small-append n [] l₂ a b = b
small-append n (x ∷ l₁) l₂ a b = (a.0, small-append n l₁ l₂ a.1 b)

pub replay-append : (cap : ℕ) (l₁ l₂ : List Transaction) (t : Tables) → replay cap (l₁ ++ l₂) t ≡ replay cap l₂ (replay cap l₁ t)
unfolding replay
replay-append cap [] l₂ t = refl
replay-append cap (x ∷ l₁) l₂ t = replay-append cap l₁ l₂ (apply cap x t)
