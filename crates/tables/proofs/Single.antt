-- One row that is a list: what the code reads of it, and the list after an entry or a deletion. Assumes nothing.
use mathlib.Core.Path.{◌≡◌, refl, sym, ap, ◌∙◌}
use mathlib.Core.Bool.{true, false}
use mathlib.Core.List.{List}
use Prim.Native.Nat.{ℕ, ◌+◌, ◌-◌, ◌≤◌, ◌<◌}
use native.Mathlib.Omega.{arith}
use lib.ListN.{length, take, get_or, set, replicate, length-append, length-set}
use lib.Seq.{length-take-le, set-append_left}
use Rattle.rules.specs.Table.{has, insert, remove, pad, Below, Ascending}
use Rattle.rules.specs.Whole.{Is}
use Rattle.rules.proofs.Roundtrip.{length-pad}
use Rattle.rules.proofs.Unique.{is-take}
use Rattle.tables.specs.Row.{place, put, cut, Padded, Listed}
use Rattle.tables.proofs.Laws.{length-put, length_cut, place-used}
use Rattle.tables.proofs.Places.{has-used, insert-there, insert-put, remove-cut, room}

pub is-pad : (n used : ℕ) (row z : List ℕ) → length z ≤ n → used ≡ length z → row ≡ pad n z → Is n row used z
is-pad n used row z h l e = record { long = ap length e ∙ length-pad n z h; count = l; padded = e }

-- a row that is padded is the list of its used part
pub padded-is : {used : ℕ} {row : List ℕ} → Padded row used → Is (length row) row used (take used row)
padded-is {used} {row} P = record { long = refl; count = sym (length-take-le used row P.fits); padded = P.zeros }

-- a row that is the list z
module _ {n used : ℕ} {row z : List ℕ} (I : Is n row used z) where
  pub is-padded : Padded row used
  is-padded = record {
    fits = omega (arith, ap length I.padded ∙ length-append z (replicate (n - length z) 0), I.count);
    zeros = rw (is-take I) (rw I.long I.padded);
  }

  pub is-listed : Ascending z → Below n z → Listed row used
  is-listed up below = record { padded = is-padded; up = rw (is-take I) up; below = rw (is-take I, I.long) below }

-- a store to the used part
pub padded-set : (row : List ℕ) (used p v : ℕ) → Padded row used → p < used → set row p v ≡ pad (length row) (set (take used row) p v)
padded-set row used p v P h =
    let l : p < length (take used row) = omega (arith, length-take-le used row P.fits) in
    ap (λ (r : List ℕ). set r p v) P.zeros
    ∙ set-append_left (take used row) (replicate (length row - length (take used row)) 0) p v l
    ∙ rw (length-set (take used row) p v)

-- an entry put in, or cut out
module _ {used : ℕ} {row : List ℕ} (P : Padded row used) {n : ℕ} {z : List ℕ} (I : Is n row used z) (p : ℕ) where
  pub put_is : (x : ℕ) {xs : List ℕ} {r : ℕ} → used < length row → r ≡ used + 1 → xs ≡ pad (length row) (put p x (take used row)) → Is n xs r (put p x z)
  put_is x {xs} {r} h l e =
      let q = is-take I in
      let i = I.long in
      let k = I.count in
      let g = length-put p x z in
      is-pad n r xs (put p x z) (omega arith) (omega arith) (rw (q, i) at e)

  pub cut-is : {xs : List ℕ} {r : ℕ} → p < used → r ≡ used - 1 → xs ≡ pad (length row) (cut p (take used row)) → Is n xs r (cut p z)
  cut-is {xs} {r} h l e =
      let q = is-take I in
      let i = I.long in
      let k = I.count in
      let f = P.fits in
      let g = length_cut p z (omega arith) in
      is-pad n r xs (cut p z) (omega arith) (omega arith) (rw (q, i) at e)

  pub set_is : (v : ℕ) → p < used → Is n (set row p v) used (set z p v)
  set_is v h =
      let q = is-take I in
      let i = I.long in
      let k = I.count in
      let f = P.fits in
      let g = length-set z p v in
      is-pad n used (set row p v) (set z p v) (omega arith) (omega arith) (rw (q, i) at (padded-set row used p v P h))

-- a in a listed row, at its place p
module _ {used : ℕ} {row : List ℕ} (L : Listed row used) (a p : ℕ) (e : p ≡ place a (take used row)) where
  pub place-fits : p ≤ used
  place-fits = omega (arith, place-used row used L.padded.fits a)

  -- it is an entry
  module _ (h : has a (take used row) ≡ true) where
    pub entry-used : p < used
    entry-used = omega (arith, (has-used row used L.padded.fits a L.up h).0)

    pub entry-is : get_or row p 0 ≡ a
    entry-is = rw e (has-used row used L.padded.fits a L.up h).1

    pub enter-there : (n : ℕ) (z : List ℕ) → Is n row used z → Is n row used (insert a z)
    enter-there n z I = let q = is-take I in rw (insert-there a z (rw q at L.up) (rw q at h)) I

    pub leave_cut : {xs : List ℕ} {r : ℕ} → r ≡ used - 1 → xs ≡ pad (length row) (cut p (take used row)) → (n : ℕ) (z : List ℕ) → Is n row used z → Is n xs r (remove a z)
    leave_cut l x n z I =
        let q = is-take I in
        let w : p ≡ place a z = rw q at e in
        rw (remove-cut a z (rw q at L.up) (rw q at h), ← w) (cut-is L.padded I p entry-used l x)

  -- it is none
  module _ (small : a < length row) (h : has a (take used row) ≡ false) where
    pub enter-room : used < length row
    enter-room = omega (arith, room (length row) a (take used row) L.up L.below small h, length-take-le used row L.padded.fits)

    pub enter-put : {xs : List ℕ} {r : ℕ} → r ≡ used + 1 → xs ≡ pad (length row) (put p a (take used row)) → (n : ℕ) (z : List ℕ) → Is n row used z → Is n xs r (insert a z)
    enter-put l x n z I =
        let q = is-take I in
        let w : p ≡ place a z = rw q at e in
        rw (insert-put a z (rw q at h), ← w) (put_is L.padded I p a enter-room l x)
