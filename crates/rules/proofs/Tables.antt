-- The two tables seen at one address, and the count that they stand for. Assumes nothing.
use Prim.Native.Nat.{ℕ, zero, suc, ◌<◌, ◌≤◌, pred}
use mathlib.Core.Path.{◌≡◌, refl, sym}
use mathlib.Core.Bool.{Bool, true, false, cond}
use mathlib.Core.List.{List, [], ◌∷◌}
use native.Mathlib.Omega.{arith}
use lib.Dec.{eqb, ltb}
use borrow.Author.Tests.{eqb-true, eqb-false, eq-eqb, ne_eqb}
use Rattle.rules.specs.Table.{Entry, entry, has, insert, remove, count_in, enter, delete}
use Rattle.rules.specs.Heap.{Tables, Transaction, allocates, creates, destroys}
use Rattle.rules.specs.Rules.{enter_zct, leave_zct, enter_mrt, leave_mrt, on_create, on_destroy, apply}
use Rattle.rules.specs.Invariant.{View, view, count_of, count_v, count, ok_of, ok_v, named}

pub eqb_self : (a : ℕ) → eqb a a ≡ true
eqb_self a = eq-eqb a a refl

-- ---- each table at the address of the change, and at any other

pub insert-own : (a : ℕ) (z : List ℕ) → has a (insert a z) ≡ true
insert-own a [] = rw (eqb_self a)
insert-own a (x ∷ xs) = go (eqb a x) (ltb a x) refl (insert-own a xs)
  where
    go : (p q : Bool) → eqb a x ≡ p → has a (insert a xs) ≡ true → has a (cond p (x ∷ xs) (cond q (a ∷ x ∷ xs) (x ∷ insert a xs))) ≡ true
    go true q e h = rw e
    go false true e h = rw (eqb_self a)
    go false false e h = rw (e, h)

pub insert_other : (b a : ℕ) (z : List ℕ) → eqb b a ≡ false → has b (insert a z) ≡ has b z
insert_other b a [] d = rw d
insert_other b a (x ∷ xs) d = go (eqb a x) (ltb a x) (insert_other b a xs d)
  where
    go : (p q : Bool) → has b (insert a xs) ≡ has b xs → has b (cond p (x ∷ xs) (cond q (a ∷ x ∷ xs) (x ∷ insert a xs))) ≡ has b (x ∷ xs)
    go true q h = refl
    go false true h = rw d
    go false false h = rw h

pub remove-own : (a : ℕ) (z : List ℕ) → has a (remove a z) ≡ false
remove-own a [] = refl
remove-own a (x ∷ xs) = go (eqb a x) refl (remove-own a xs)
  where
    go : (p : Bool) → eqb a x ≡ p → has a (remove a xs) ≡ false → has a (cond p (remove a xs) (x ∷ remove a xs)) ≡ false
    go true e h = h
    go false e h = rw (e, h)

pub remove_other : (b a : ℕ) (z : List ℕ) → eqb b a ≡ false → has b (remove a z) ≡ has b z
remove_other b a [] d = refl
remove_other b a (x ∷ xs) d = go (eqb a x) refl (remove_other b a xs d)
  where
    go : (p : Bool) → eqb a x ≡ p → has b (remove a xs) ≡ has b xs → has b (cond p (remove a xs) (x ∷ remove a xs)) ≡ has b (x ∷ xs)
    go true e h = rw (← eqb-true a x e, d, h)
    go false e h = rw h

pub enter-own : (a k : ℕ) (m : List Entry) → count_in a (enter a k m) ≡ k
enter-own a k [] = rw (eqb_self a)
enter-own a k (x ∷ xs) = go (eqb a x.address) (ltb a x.address) refl (enter-own a k xs)
  where
    go : (p q : Bool) → eqb a x.address ≡ p → count_in a (enter a k xs) ≡ k →
        count_in a (cond p (entry a k ∷ xs) (cond q (entry a k ∷ x ∷ xs) (x ∷ enter a k xs))) ≡ k
    go true q e h = rw (eqb_self a)
    go false true e h = rw (eqb_self a)
    go false false e h = rw (e, h)

pub enter_other : (b a k : ℕ) (m : List Entry) → eqb b a ≡ false → count_in b (enter a k m) ≡ count_in b m
enter_other b a k [] d = rw d
enter_other b a k (x ∷ xs) d = go (eqb a x.address) (ltb a x.address) refl (enter_other b a k xs d)
  where
    go : (p q : Bool) → eqb a x.address ≡ p → count_in b (enter a k xs) ≡ count_in b xs →
        count_in b (cond p (entry a k ∷ xs) (cond q (entry a k ∷ x ∷ xs) (x ∷ enter a k xs))) ≡ count_in b (x ∷ xs)
    go true q e h = rw (← eqb-true a x.address e, d)
    go false true e h = rw d
    go false false e h = rw h

pub delete-own : (a : ℕ) (m : List Entry) → count_in a (delete a m) ≡ 0
delete-own a [] = refl
delete-own a (x ∷ xs) = go (eqb a x.address) refl (delete-own a xs)
  where
    go : (p : Bool) → eqb a x.address ≡ p → count_in a (delete a xs) ≡ 0 → count_in a (cond p (delete a xs) (x ∷ delete a xs)) ≡ 0
    go true e h = h
    go false e h = rw (e, h)

pub delete_other : (b a : ℕ) (m : List Entry) → eqb b a ≡ false → count_in b (delete a m) ≡ count_in b m
delete_other b a [] d = refl
delete_other b a (x ∷ xs) d = go (eqb a x.address) refl (delete_other b a xs d)
  where
    go : (p : Bool) → eqb a x.address ≡ p → count_in b (delete a xs) ≡ count_in b xs → count_in b (cond p (delete a xs) (x ∷ delete a xs)) ≡ count_in b (x ∷ xs)
    go true e h = rw (← eqb-true a x.address e, d, h)
    go false e h = rw h

-- ---- what a change makes of the view

-- a change at one address: what it makes of the view there
unfoldable pub change : ℕ → Transaction → View → View
change cap (allocates a) v = (true, v.1)
change cap (creates a) v = elim v.0 [ true ↦ (false, v.1) | false ↦ elim v.1 [ zero ↦ (false, 2) | suc k ↦ cond (eqb (suc k) cap) v (false, suc (suc k)) ] ]
change cap (destroys a) v = elim v.1 [ zero ↦ (true, 0) | suc k ↦ cond (eqb (suc k) cap) v (cond (eqb k 1) (v.0, 0) (v.0, k)) ]

pub view-own : (cap : ℕ) (x : Transaction) (t : Tables) → view (apply cap x t) (named x) ≡ change cap x (view t (named x))
unfolding view change apply on_create on_destroy enter_zct leave_zct enter_mrt leave_mrt
view-own cap (allocates a) t = rw (insert-own a t.zct)
view-own cap (creates a) t = go (has a t.zct) (count_in a t.mrt) refl refl
  where
    go : (p : Bool) (k : ℕ) → has a t.zct ≡ p → count_in a t.mrt ≡ k → view (on_create cap a t p k) a ≡ change cap (creates a) (p, k)
    go true k e f = rw (remove-own a t.zct, f)
    go false zero e f = rw (enter-own a 2 t.mrt, e)
    go false (suc k) e f = at (eqb (suc k) cap)
      where
        at : (q : Bool) → view (cond q t (enter_mrt a (suc (suc k)) t)) a ≡ cond q (false, suc k) (false, suc (suc k))
        at true = rw (e, f)
        at false = rw (enter-own a (suc (suc k)) t.mrt, e)
view-own cap (destroys a) t = go (count_in a t.mrt) refl
  where
    go : (k : ℕ) → count_in a t.mrt ≡ k → view (on_destroy cap a t k) a ≡ change cap (destroys a) (has a t.zct, k)
    go zero f = rw (insert-own a t.zct, f)
    go (suc k) f = at (eqb (suc k) cap) (eqb k 1)
      where
        at : (q r : Bool) → view (cond q t (cond r (leave_mrt a t) (enter_mrt a k t))) a ≡ cond q (has a t.zct, suc k) (cond r (has a t.zct, 0) (has a t.zct, k))
        at true r = rw f
        at false true = rw (delete-own a t.mrt)
        at false false = rw (enter-own a k t.mrt)

pub view_other : (cap : ℕ) (x : Transaction) (t : Tables) (b : ℕ) → eqb b (named x) ≡ false → view (apply cap x t) b ≡ view t b
unfolding view apply on_create on_destroy enter_zct leave_zct enter_mrt leave_mrt
view_other cap (allocates a) t b d = rw (insert_other b a t.zct d)
view_other cap (creates a) t b d = go (has a t.zct) (count_in a t.mrt)
  where
    go : (p : Bool) (k : ℕ) → view (on_create cap a t p k) b ≡ view t b
    go true k = rw (remove_other b a t.zct d)
    go false zero = rw (enter_other b a 2 t.mrt d)
    go false (suc k) = at (eqb (suc k) cap)
      where
        at : (q : Bool) → view (cond q t (enter_mrt a (suc (suc k)) t)) b ≡ view t b
        at true = refl
        at false = rw (enter_other b a (suc (suc k)) t.mrt d)
view_other cap (destroys a) t b d = go (count_in a t.mrt)
  where
    go : (k : ℕ) → view (on_destroy cap a t k) b ≡ view t b
    go zero = rw (insert_other b a t.zct d)
    go (suc k) = at (eqb (suc k) cap) (eqb k 1)
      where
        at : (q r : Bool) → view (cond q t (cond r (leave_mrt a t) (enter_mrt a k t))) b ≡ view t b
        at true r = refl
        at false true = rw (delete_other b a t.mrt d)
        at false false = rw (enter_other b a k t.mrt d)

-- ---- the count

unfoldable pub up : ℕ → ℕ → ℕ
up cap c = cond (eqb c cap) c (suc c)

unfoldable pub down : ℕ → ℕ → ℕ
down cap c = cond (eqb c cap) c (pred c)

module _ (cap : ℕ) (cap3 : 3 ≤ cap) where
  small : (k : ℕ) → k < 3 → eqb k cap ≡ false
  small k h = ne_eqb k cap (omega arith)

  up_of : (a : ℕ) (p : Bool) (k : ℕ) → ok_of cap p k → count_v (change cap (creates a) (p, k)) ≡ up cap (count_of p k)
  unfolding change up
  up_of a true zero o = rw (small 0 (omega arith))
  up_of a true (suc k) o = absurd o
  up_of a false zero o = rw (small 1 (omega arith))
  up_of a false (suc k) o = go (eqb (suc k) cap)
    where
      go : (q : Bool) → count_v (cond q (false, suc k) (false, suc (suc k))) ≡ cond q (suc k) (suc (suc k))
      go true = refl
      go false = refl

  down-of : (a : ℕ) (p : Bool) (k : ℕ) → ok_of cap p k → count_v (change cap (destroys a) (p, k)) ≡ down cap (count_of p k)
  unfolding change down
  down-of a true zero o = rw (small 0 (omega arith))
  down-of a true (suc k) o = absurd o
  down-of a false zero o = rw (small 1 (omega arith))
  down-of a false (suc k) o = go (eqb (suc k) cap) (eqb k 1) refl k refl o
    where
      go : (q r : Bool) → eqb k 1 ≡ r → (j : ℕ) → k ≡ j → (1 ≤ k) × (suc k ≤ cap) → count_v (cond q (false, suc k) (cond r (false, 0) (false, k))) ≡ cond q (suc k) k
      go true r e j f w = refl
      go false true e j f w = sym (eqb-true k 1 e)
      go false false e zero f w = absurd (omega arith)
      go false false e (suc j) f w = rw f

  ok_create : (a : ℕ) (p : Bool) (k : ℕ) → ok_of cap p k → ok_v cap (change cap (creates a) (p, k))
  unfolding change
  ok_create a true zero o = tt
  ok_create a true (suc k) o = absurd o
  ok_create a false zero o = omega arith
  ok_create a false (suc k) o = go (eqb (suc k) cap) refl
    where
      go : (q : Bool) → eqb (suc k) cap ≡ q → ok_v cap (cond q (false, suc k) (false, suc (suc k)))
      go true e = o
      go false e = let d = eqb-false (suc k) cap e in omega arith

  ok_destroy : (a : ℕ) (p : Bool) (k : ℕ) → ok_of cap p k → ok_v cap (change cap (destroys a) (p, k))
  unfolding change
  ok_destroy a p zero o = tt
  ok_destroy a true (suc k) o = absurd o
  ok_destroy a false (suc k) o = go (eqb (suc k) cap) (eqb k 1) refl k refl
    where
      go : (q r : Bool) → eqb k 1 ≡ r → (j : ℕ) → k ≡ j → ok_v cap (cond q (false, suc k) (cond r (false, 0) (false, k)))
      go true r e j f = o
      go false true e j f = tt
      go false false e zero f = absurd (omega arith)
      go false false e (suc j) f = let d = eqb-false k 1 e in rw f (omega arith)

  -- the laws of the count, at the address of the change
  pub count_create : (a : ℕ) (t : Tables) → ok_v cap (view t a) → count (apply cap (creates a) t) a ≡ up cap (count t a)
  count_create a t o = rw (view-own cap (creates a) t) (up_of a (view t a).0 (view t a).1 o)

  pub count_destroy : (a : ℕ) (t : Tables) → ok_v cap (view t a) → count (apply cap (destroys a) t) a ≡ down cap (count t a)
  count_destroy a t o = rw (view-own cap (destroys a) t) (down-of a (view t a).0 (view t a).1 o)

  pub ok-at_create : (a : ℕ) (t : Tables) → ok_v cap (view t a) → ok_v cap (view (apply cap (creates a) t) a)
  ok-at_create a t o = rw (view-own cap (creates a) t) (ok_create a (view t a).0 (view t a).1 o)

  pub ok-at_destroy : (a : ℕ) (t : Tables) → ok_v cap (view t a) → ok_v cap (view (apply cap (destroys a) t) a)
  ok-at_destroy a t o = rw (view-own cap (destroys a) t) (ok_destroy a (view t a).0 (view t a).1 o)
