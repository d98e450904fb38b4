-- Laws of rows. Assumes nothing.
use mathlib.Core.Path.{◌≡◌, refl, ap, ◌∙◌}
use mathlib.Core.Bool.{Bool, true, false, cond}
use mathlib.Core.List.{List, [], ◌∷◌, ◌++◌, append_assoc}
use Prim.Native.Nat.{ℕ, zero, suc, ◌+◌, ◌-◌, ◌≤◌, ◌<◌, zero-le, suc-le-suc}
use native.Mathlib.Nat.{le_of_suc-le-suc, not-suc-le-zero, lt_trans}
use native.Mathlib.Omega.{arith}
use lib.ListN.{length, take, drop, get_or, set, replicate}
use lib.Seq.{set_at, length-take-le, drop_at, take-take, drop-cons}
use lib.Dec.{ltb}
use borrow.Author.Tests.{lt-ltb, le-ltb}
use Rattle.rules.specs.Table.{pad, Above, Ascending}
use Rattle.tables.specs.Row.{place, put, cut, Padded}

-- where a stands in an ascending list

pub place-le : (a : ℕ) (z : List ℕ) → place a z ≤ length z
place-le a [] = zero-le
place-le a (x ∷ z) = go (place-le a z) (ltb x a)
  where
    go : place a z ≤ length z → (b : Bool) → cond b (suc (place a z)) zero ≤ suc (length z)
    go h true = suc-le-suc h
    go h false = zero-le

pub above_at : (x : ℕ) (z : List ℕ) (m : ℕ) → Above x z → m < length z → x < get_or z m 0
above_at x [] m s h = absurd (not-suc-le-zero h)
above_at x (y ∷ z) zero s h = s.0
above_at x (y ∷ z) (suc m) s h = above_at x z m s.1 (le_of_suc-le-suc h)

pub place-above : (a : ℕ) (z : List ℕ) (m : ℕ) → Ascending z → m < length z → get_or z m 0 < a → m < place a z
place-above a [] m s h l = absurd (not-suc-le-zero h)
place-above a (x ∷ z) zero s h l = rw (lt-ltb x a l) (suc-le-suc zero-le)
place-above a (x ∷ z) (suc m) s h l =
    rw (lt-ltb x a (lt_trans (above_at x z m s.0 (le_of_suc-le-suc h)) l))
    (suc-le-suc (place-above a z m s.1 (le_of_suc-le-suc h) l))

pub place_upto : (a : ℕ) (z : List ℕ) (m : ℕ) → m < length z → a ≤ get_or z m 0 → place a z ≤ m
place_upto a [] m h l = absurd (not-suc-le-zero h)
place_upto a (x ∷ z) zero h l = rw (le-ltb x a l) zero-le
place_upto a (x ∷ z) (suc m) h l = go (place_upto a z m (le_of_suc-le-suc h) l) (ltb x a)
  where
    go : place a z ≤ m → (b : Bool) → cond b (suc (place a z)) zero ≤ suc m
    go k true = suc-le-suc k
    go k false = zero-le

-- the same of the used part of a row
pub place-used : (row : List ℕ) (used : ℕ) → used ≤ length row → (a : ℕ) → place a (take used row) ≤ used
place-used row used fits a = omega (arith, place-le a (take used row), length-take-le used row fits)

-- a list without its first element, and 0 after it
abbrev pub down : List ℕ → List ℕ
down l = drop 1 l ++ (0 ∷ [])

-- its first element put last, and 0 there instead
pub turned_down : (t l : List ℕ) → 0 < length t → l ≡ drop 1 t ++ take 1 t → set l (length t - 1) 0 ≡ down t
turned_down [] l h e = absurd (not-suc-le-zero h)
turned_down (x ∷ t) l h e = rw e (set_at t x [] 0 (length (x ∷ t) - 1) (omega arith))

-- lengths of put and cut
pub length-put : (p x : ℕ) (z : List ℕ) → length (put p x z) ≡ suc (length z)
length-put zero x z = refl
length-put (suc p) x [] = refl
length-put (suc p) x (y ∷ z) = ap suc (length-put p x z)

pub length_cut : (p : ℕ) (z : List ℕ) → p < length z → suc (length (cut p z)) ≡ length z
length_cut p [] h = absurd (not-suc-le-zero h)
length_cut zero (y ∷ z) h = refl
length_cut (suc p) (y ∷ z) h = ap suc (length_cut p z (le_of_suc-le-suc h))

-- a part of k + 1 elements from p on, moved up behind x; a part of k elements, moved down
pub slid_up : (p used k x : ℕ) (row : List ℕ) → k + p ≡ used → used < length row
    → take p row ++ (take (length (take (suc k) (drop p row))) (x ∷ take (suc k) (drop p row)) ++ drop (suc k) (drop p row)) ≡ put p x (take used row) ++ drop (suc used) row
slid_up zero used k x row q h =
    let e : k ≡ used = omega arith in
    rw (e, length-take-le (suc used) row h, take-take used (suc used) row (omega arith)) refl
slid_up (suc p) zero k x row q h = absurd (omega arith)
slid_up (suc p) (suc used) k x [] q h = absurd (not-suc-le-zero h)
slid_up (suc p) (suc used) k x (y ∷ row) q h = ap (λ (l : List ℕ). y ∷ l) (slid_up p used k x row (omega arith) (le_of_suc-le-suc h))

pub slid_down : (p used k : ℕ) (row : List ℕ) → k + p ≡ used → used ≤ length row
    → take p row ++ (down (take k (drop p row)) ++ drop k (drop p row)) ≡ cut p (take used row) ++ (0 ∷ drop used row)
slid_down zero used k row q h =
    let e : k ≡ used = omega arith in
    rw (e, append_assoc) refl
slid_down (suc p) zero k row q h = absurd (omega arith)
slid_down (suc p) (suc used) k [] q h = absurd (not-suc-le-zero h)
slid_down (suc p) (suc used) k (y ∷ row) q h = ap (λ (l : List ℕ). y ∷ l) (slid_down p used k row (omega arith) (le_of_suc-le-suc h))

-- what stands after the used part of a padded row
module _ (row : List ℕ) (used : ℕ) (P : Padded row used) where
  pub zeros_from : drop used row ≡ replicate (length row - used) 0
  zeros_from =
      let n : length (take used row) ≡ used = length-take-le used row P.fits in
      ap (drop used) P.zeros ∙ rw n (drop_at (take used row) (replicate (length row - used) 0) used n)

  pub zeros-after : used < length row → drop (suc used) row ≡ replicate (length row - suc used) 0
  zeros-after h =
      let e : length row - used ≡ suc (length row - suc used) = omega arith in
      let f : drop used row ≡ 0 ∷ replicate (length row - suc used) 0 = zeros_from ∙ ap (λ (n : ℕ). replicate n 0) e in
      cc (drop-cons row used 0 h)

  pub put-padded : (p x : ℕ) → used < length row → put p x (take used row) ++ drop (suc used) row ≡ pad (length row) (put p x (take used row))
  put-padded p x h = rw (length-put p x (take used row), length-take-le used row P.fits, zeros-after h)

  pub cut-padded : (p : ℕ) → p < used → cut p (take used row) ++ (0 ∷ drop used row) ≡ pad (length row) (cut p (take used row))
  cut-padded p h =
      let n : length (take used row) ≡ used = length-take-le used row P.fits in
      let f = P.fits in
      let e : length row - length (cut p (take used row)) ≡ suc (length row - used) = omega (arith, length_cut p (take used row) (omega arith)) in
      rw (e, zeros_from)

  pub put-part : (p k x : ℕ) (ys : List ℕ) → k + p ≡ used + 1 → p ≤ used → used < length row
      → ys ≡ take (length (take k (drop p row))) (x ∷ take k (drop p row))
      → take p row ++ (ys ++ drop k (drop p row)) ≡ pad (length row) (put p x (take used row))
  put-part p k x ys q g h e =
      let j : k ≡ suc (used - p) = omega arith in
      rw (e, j) (slid_up p used (used - p) x row (omega arith) h ∙ put-padded p x h)

  pub cut-part : (p k : ℕ) (ys : List ℕ) → k + p ≡ used → p < used
      → ys ≡ down (take k (drop p row))
      → take p row ++ (ys ++ drop k (drop p row)) ≡ pad (length row) (cut p (take used row))
  cut-part p k ys q h e = rw e (slid_down p used k row q P.fits ∙ cut-padded p h)
