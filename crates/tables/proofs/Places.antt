-- Entries of ascending lists at their places: the lists of `rules` in terms of put, cut and set. Assumes nothing.
use mathlib.Core.Path.{◌≡◌, refl, sym, ap, ◌∙◌}
use mathlib.Core.Bool.{Bool, true, false, cond, false≢true, true≢false}
use Rattle.std.specs.Prelude.{Result, Ok, Err, MatchResult}
use Rattle.std.specs.Ordering.{nat_cmp}
use Rattle.std.specs.List.Sorted.{IsBinarySearchResult}
use Rattle.std.proofs.lemmas.List.Sorted.{searched}
use mathlib.Core.List.{List, [], ◌∷◌}
use Prim.Native.Nat.{ℕ, zero, suc, ◌+◌, ◌≤◌, ◌<◌, zero-le, suc-le-suc}
use native.Mathlib.Nat.{le_of_suc-le-suc, not-suc-le-zero, le_of_lt}
use native.Mathlib.Omega.{arith}
use lib.ListN.{length, take, get_or, set, length-map}
use lib.Seq.{length-take-le, get_or-take}
use lib.Dec.{ltb, eqb}
use borrow.Author.Tests.{lt-ltb, le-ltb, ltb-true, ltb-false, eqb-true, eqb-false, ne_eqb}
use Rattle.rules.specs.Table.{Entry, has, insert, remove, enter, delete, count_in, addresses, counts, Above, Below, Ascending}
use Rattle.rules.proofs.Sorted.{enter-addresses, delete-addresses}
use Rattle.rules.proofs.Positions.{count_at}
use Rattle.rules.proofs.Roundtrip.{beside}
use Rattle.tables.specs.Row.{place, put, cut, Found}
use Rattle.tables.proofs.Laws.{above_at, place-le, place-above}

-- the three ways in which an entry x can stand to a, with what the tests then say
pub data Versus (a x : ℕ) : Type 0 where
  less : x < a → ltb x a ≡ true → eqb a x ≡ false → ltb a x ≡ false → Versus a x
  same : x ≡ a → ltb x a ≡ false → eqb a x ≡ true → Versus a x
  more : a < x → ltb x a ≡ false → eqb a x ≡ false → ltb a x ≡ true → Versus a x

pub versus : (a x : ℕ) → Versus a x
versus a x = by-lt (ltb x a) refl
  where
    by-eq : a ≤ x → (b : Bool) → eqb a x ≡ b → Versus a x
    by-eq h true e = same (sym (eqb-true a x e)) (le-ltb x a h) e
    by-eq h false e =
        let n : a ≡ x → ⊥ = eqb-false a x e in
        more (omega arith) (le-ltb x a h) e (lt-ltb a x (omega arith))

    by-lt : (b : Bool) → ltb x a ≡ b → Versus a x
    by-lt true e =
        let h : x < a = ltb-true x a e in
        less h e (ne_eqb a x (λ q. omega arith)) (le-ltb a x (omega arith))
    by-lt false e = by-eq (ltb-false x a e) (eqb a x) refl

-- what is not above x is no entry of a list that is
pub missing : (x a : ℕ) (z : List ℕ) → Above x z → a ≤ x → has a z ≡ false
missing x a [] s h = refl
missing x a (y ∷ z) s h = rw (ne_eqb a y (λ q. let l : x < y = s.0 in omega arith)) (missing x a z s.1 h)

-- an entry of an ascending list stands in its place, and what stands in its own place is an entry
pub has-place : (a : ℕ) (z : List ℕ) → Ascending z → has a z ≡ true → (place a z < length z) × (get_or z (place a z) 0 ≡ a)
has-place a [] s h = absurd (false≢true h)
has-place a (x ∷ z) s h = go (versus a x) (has-place a z s.1)
  where
    go : Versus a x → (has a z ≡ true → (place a z < length z) × (get_or z (place a z) 0 ≡ a)) → (place a (x ∷ z) < suc (length z)) × (get_or (x ∷ z) (place a (x ∷ z)) 0 ≡ a)
    go (less l t e g) ih = let r = ih (rw e at h) in rw t (suc-le-suc r.0, r.1)
    go (same q t e) ih = rw t (suc-le-suc zero-le, q)
    go (more l t e g) ih = absurd (false≢true (sym (missing x a z s.0 (le_of_lt l)) ∙ (rw e at h)))

pub place-has : (a : ℕ) (z : List ℕ) → place a z < length z → get_or z (place a z) 0 ≡ a → has a z ≡ true
place-has a [] l h = absurd (not-suc-le-zero l)
place-has a (x ∷ z) l h = go (versus a x) (place-has a z)
  where
    go : Versus a x → (place a z < length z → get_or z (place a z) 0 ≡ a → has a z ≡ true) → has a (x ∷ z) ≡ true
    go (less k t e g) ih = rw e (ih (le_of_suc-le-suc (rw t at l)) (rw t at h))
    go (same q t e) ih = rw e
    go (more k t e g) ih = let q : x ≡ a = rw t at h in absurd (omega arith)

-- the entry at p has the place p
pub place_at : (p : ℕ) (z : List ℕ) → Ascending z → p < length z → place (get_or z p 0) z ≡ p
place_at p [] s h = absurd (not-suc-le-zero h)
place_at zero (x ∷ z) s h = rw (le-ltb x x (omega arith))
place_at (suc p) (x ∷ z) s h =
    rw (lt-ltb x (get_or z p 0) (above_at x z p s.0 (le_of_suc-le-suc h))) (ap suc (place_at p z s.1 (le_of_suc-le-suc h)))

module _ (row : List ℕ) (used : ℕ) (fits : used ≤ length row) (a : ℕ) where
  pub has-used : Ascending (take used row) → has a (take used row) ≡ true → (place a (take used row) < used) × (get_or row (place a (take used row)) 0 ≡ a)
  has-used s h =
      let r = has-place a (take used row) s h in
      let l : place a (take used row) < used = omega (arith, r.0, length-take-le used row fits) in
      (l, sym (get_or-take used row (place a (take used row)) 0 l) ∙ r.1)

-- what stands before a's place is below a
pub place-low : (a : ℕ) (z : List ℕ) (i : ℕ) → i < place a z → get_or z i 0 < a
place-low a [] i h = absurd (not-suc-le-zero h)
place-low a (x ∷ z) i h = go (ltb x a) refl i (place-low a z) h
  where
    go : (b : Bool) → ltb x a ≡ b → (i : ℕ) → ((i : ℕ) → i < place a z → get_or z i 0 < a) → i < cond (ltb x a) (suc (place a z)) zero → get_or (x ∷ z) i 0 < a
    go true e zero ih h = ltb-true x a e
    go true e (suc i) ih h = ih i (le_of_suc-le-suc (rw e at h))
    go false e i ih h = absurd (not-suc-le-zero (rw e at h))

-- an ascending list does not fall
rises : (z : List ℕ) → Ascending z → (i j : ℕ) → i ≤ j → j < length z → get_or z i 0 ≤ get_or z j 0
rises [] s i j h l = absurd (not-suc-le-zero l)
rises (x ∷ z) s zero zero h l = omega arith
rises (x ∷ z) s zero (suc j) h l = omega (arith, above_at x z j s.0 (le_of_suc-le-suc l))
rises (x ∷ z) s (suc i) zero h l = absurd (not-suc-le-zero h)
rises (x ∷ z) s (suc i) (suc j) h l = rises z s.1 i j (le_of_suc-le-suc h) (le_of_suc-le-suc l)

-- what a binary search of an ascending list finds
pub found : (a : ℕ) (z : List ℕ) (r : Result ℕ ℕ) → Ascending z → IsBinarySearchResult (λ y. nat_cmp y a) z r → Found a z r
found a z r up h = go r (searched z a r h (rises z up))
  where
    go : (r : Result ℕ ℕ) → MatchResult r (λ i. (i < length z) × (get_or z i 0 ≡ a)) (λ i. (i ≤ length z) × ((k : ℕ) → k < i → get_or z k 0 < a) × ((k : ℕ) → i ≤ k → k < length z → a < get_or z k 0)) → Found a z r
    go (Ok i) f =
        let e : place a z ≡ i = rw f.1 at (place_at i z up f.0) in
        (sym e, place-has a z (omega arith) (rw (← e) at f.1))
    go (Err i) f =
        let w : place a z ≤ i = not_before (λ l. let q : i < length z = omega (arith, place-le a z) in omega (arith, place-low a z i l, f.2 i (omega arith) q)) in
        let b = reached i f in
        let e : place a z ≡ i = omega arith in
        (sym e, lacks e f (has a z) refl)
      where
        not_before : {m n : ℕ} → (n < m → ⊥) → m ≤ n
        not_before h = omega arith

        reached : (i : ℕ) → (i ≤ length z) × ((k : ℕ) → k < i → get_or z k 0 < a) × ((k : ℕ) → i ≤ k → k < length z → a < get_or z k 0) → i ≤ place a z
        reached zero f = zero-le
        reached (suc k) f = place-above a z k up f.0 (f.1 k (omega arith))

        lacks : {i : ℕ} → place a z ≡ i → (i ≤ length z) × ((k : ℕ) → k < i → get_or z k 0 < a) × ((k : ℕ) → i ≤ k → k < length z → a < get_or z k 0) → (d : Bool) → has a z ≡ d → d ≡ false
        lacks e f true h =
            let r = has-place a z up h in
            absurd (omega (arith, r.1, rw e at (f.2 (place a z) (omega arith) r.0)))
        lacks e f false h = refl

-- ---- ZCT

pub insert-there : (a : ℕ) (z : List ℕ) → Ascending z → has a z ≡ true → insert a z ≡ z
insert-there a [] s h = absurd (false≢true h)
insert-there a (x ∷ z) s h = go (versus a x) (insert-there a z s.1)
  where
    go : Versus a x → (has a z ≡ true → insert a z ≡ z) → insert a (x ∷ z) ≡ x ∷ z
    go (less l t e g) ih = rw (e, g) (ap (λ (y : List ℕ). x ∷ y) (ih (rw e at h)))
    go (same q t e) ih = rw e
    go (more l t e g) ih = absurd (false≢true (sym (missing x a z s.0 (le_of_lt l)) ∙ (rw e at h)))

pub insert-put : (a : ℕ) (z : List ℕ) → has a z ≡ false → insert a z ≡ put (place a z) a z
insert-put a [] h = refl
insert-put a (x ∷ z) h = go (versus a x) (insert-put a z)
  where
    go : Versus a x → (has a z ≡ false → insert a z ≡ put (place a z) a z) → insert a (x ∷ z) ≡ put (place a (x ∷ z)) a (x ∷ z)
    go (less l t e g) ih = rw (e, g, t) (ap (λ (y : List ℕ). x ∷ y) (ih (rw e at h)))
    go (same q t e) ih = absurd (true≢false (rw e at h))
    go (more l t e g) ih = rw (e, g, t)

remove-none : (a : ℕ) (z : List ℕ) → has a z ≡ false → remove a z ≡ z
remove-none a [] h = refl
remove-none a (x ∷ z) h = go (eqb a x) refl (remove-none a z)
  where
    go : (d : Bool) → eqb a x ≡ d → (has a z ≡ false → remove a z ≡ z) → remove a (x ∷ z) ≡ x ∷ z
    go true e ih = absurd (true≢false (rw e at h))
    go false e ih = rw e (ap (λ (y : List ℕ). x ∷ y) (ih (rw e at h)))

pub remove-cut : (a : ℕ) (z : List ℕ) → Ascending z → has a z ≡ true → remove a z ≡ cut (place a z) z
remove-cut a [] s h = refl
remove-cut a (x ∷ z) s h = go (versus a x) (remove-cut a z s.1)
  where
    go : Versus a x → (has a z ≡ true → remove a z ≡ cut (place a z) z) → remove a (x ∷ z) ≡ cut (place a (x ∷ z)) (x ∷ z)
    go (less l t e g) ih = rw (e, t) (ap (λ (y : List ℕ). x ∷ y) (ih (rw e at h)))
    go (same q t e) ih = rw (e, t) (remove-none a z (missing x a z s.0 (omega arith)))
    go (more l t e g) ih = absurd (false≢true (sym (missing x a z s.0 (le_of_lt l)) ∙ (rw e at h)))

-- ---- MRT

pub count_none : (a : ℕ) (m : List Entry) → has a (addresses m) ≡ false → count_in a m ≡ 0
count_none a [] h = refl
count_none a (x ∷ m) h = go (eqb a x.address) refl (count_none a m)
  where
    go : (d : Bool) → eqb a x.address ≡ d → (has a (addresses m) ≡ false → count_in a m ≡ 0) → count_in a (x ∷ m) ≡ 0
    go true e ih = absurd (true≢false (rw e at h))
    go false e ih = rw e (ih (rw e at h))

delete-none : (a : ℕ) (m : List Entry) → has a (addresses m) ≡ false → delete a m ≡ m
delete-none a [] h = refl
delete-none a (x ∷ m) h = go (eqb a x.address) refl (delete-none a m)
  where
    go : (d : Bool) → eqb a x.address ≡ d → (has a (addresses m) ≡ false → delete a m ≡ m) → delete a (x ∷ m) ≡ x ∷ m
    go true e ih = absurd (true≢false (rw e at h))
    go false e ih = rw e (ap (λ (y : List Entry). x ∷ y) (ih (rw e at h)))

-- an address that is an entry's: its count changes, or it is deleted
pub count-there : (a : ℕ) (m : List Entry) → Ascending (addresses m) → has a (addresses m) ≡ true → count_in a m ≡ get_or (counts m) (place a (addresses m)) 0
count-there a m s h =
    let r = has-place a (addresses m) s h in
    ap (λ (b : ℕ). count_in b m) (sym r.1) ∙ count_at m s (place a (addresses m)) (rw length-map at r.0)

pub there-addresses : (a k : ℕ) (m : List Entry) → Ascending (addresses m) → has a (addresses m) ≡ true → addresses (enter a k m) ≡ addresses m
there-addresses a k m s h = enter-addresses a k m ∙ insert-there a (addresses m) s h

pub there-counts : (a k : ℕ) (m : List Entry) → Ascending (addresses m) → has a (addresses m) ≡ true → counts (enter a k m) ≡ set (counts m) (place a (addresses m)) k
there-counts a k [] s h = absurd (false≢true h)
there-counts a k (x ∷ m) s h = go (versus a x.address) (there-counts a k m s.1)
  where
    go : Versus a x.address → (has a (addresses m) ≡ true → counts (enter a k m) ≡ set (counts m) (place a (addresses m)) k) → counts (enter a k (x ∷ m)) ≡ set (counts (x ∷ m)) (place a (addresses (x ∷ m))) k
    go (less l t e g) ih = rw (e, g, t) (ap (λ (y : List ℕ). x.count ∷ y) (ih (rw e at h)))
    go (same q t e) ih = rw (e, t)
    go (more l t e g) ih = absurd (false≢true (sym (missing x.address a (addresses m) s.0 (le_of_lt l)) ∙ (rw e at h)))

pub cut-addresses : (a : ℕ) (m : List Entry) → Ascending (addresses m) → has a (addresses m) ≡ true → addresses (delete a m) ≡ cut (place a (addresses m)) (addresses m)
cut-addresses a m s h = delete-addresses a m ∙ remove-cut a (addresses m) s h

pub cut-counts : (a : ℕ) (m : List Entry) → Ascending (addresses m) → has a (addresses m) ≡ true → counts (delete a m) ≡ cut (place a (addresses m)) (counts m)
cut-counts a [] s h = refl
cut-counts a (x ∷ m) s h = go (versus a x.address) (cut-counts a m s.1)
  where
    go : Versus a x.address → (has a (addresses m) ≡ true → counts (delete a m) ≡ cut (place a (addresses m)) (counts m)) → counts (delete a (x ∷ m)) ≡ cut (place a (addresses (x ∷ m))) (counts (x ∷ m))
    go (less l t e g) ih = rw (e, t) (ap (λ (y : List ℕ). x.count ∷ y) (ih (rw e at h)))
    go (same q t e) ih = rw (e, t, delete-none a m (missing x.address a (addresses m) s.0 (omega arith)))
    go (more l t e g) ih = absurd (false≢true (sym (missing x.address a (addresses m) s.0 (le_of_lt l)) ∙ (rw e at h)))

-- an address that is no entry's: it is put in with its count
pub put-addresses : (a k : ℕ) (m : List Entry) → has a (addresses m) ≡ false → addresses (enter a k m) ≡ put (place a (addresses m)) a (addresses m)
put-addresses a k m h = enter-addresses a k m ∙ insert-put a (addresses m) h

pub put-counts : (a k : ℕ) (m : List Entry) → has a (addresses m) ≡ false → counts (enter a k m) ≡ put (place a (addresses m)) k (counts m)
put-counts a k [] h = refl
put-counts a k (x ∷ m) h = go (versus a x.address) (put-counts a k m)
  where
    go : Versus a x.address → (has a (addresses m) ≡ false → counts (enter a k m) ≡ put (place a (addresses m)) k (counts m)) → counts (enter a k (x ∷ m)) ≡ put (place a (addresses (x ∷ m))) k (counts (x ∷ m))
    go (less l t e g) ih = rw (e, g, t) (ap (λ (y : List ℕ). x.count ∷ y) (ih (rw e at h)))
    go (same q t e) ih = absurd (true≢false (rw e at h))
    go (more l t e g) ih = rw (e, g, t)

-- ---- room: an ascending list of addresses below n that lacks one of them is shorter than n

-- of a list above x, that lacks an a above x
beside-room : (n x a : ℕ) (z : List ℕ) → x < a → a < n → Above x z → Ascending z → Below n z → has a z ≡ false → suc x + length z < n
beside-room n x a [] k l s t b h = omega arith
beside-room n x a (y ∷ z) k l s t b h = go (versus a y) (λ i g. beside-room n y a z i l t.0 t.1 b.1 g)
  where
    go : Versus a y → (y < a → has a z ≡ false → suc y + length z < n) → suc x + suc (length z) < n
    go (less i q e g) ih = let w = s.0 in omega (arith, ih i (rw e at h))
    go (same i q e) ih = absurd (true≢false (rw e at h))
    go (more i q e g) ih = omega (arith, beside n y z b.0 t.0 t.1 b.1)

pub room : (n a : ℕ) (z : List ℕ) → Ascending z → Below n z → a < n → has a z ≡ false → length z < n
room n a [] s b l h = omega arith
room n a (x ∷ z) s b l h = go (versus a x)
  where
    go : Versus a x → suc (length z) < n
    go (less i q e g) = omega (arith, beside-room n x a z i l s.0 s.1 b.1 (rw e at h))
    go (same i q e) = absurd (true≢false (rw e at h))
    go (more i q e g) = omega (arith, beside n x z b.0 s.0 s.1 b.1)
