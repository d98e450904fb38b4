-- The rows of MRT that are entries, and the entries after a create or a destroy. Assumes nothing.
use mathlib.Core.Path.{◌≡◌, sym, ap, ◌∙◌}
use mathlib.Core.Bool.{true, false}
use mathlib.Core.List.{List}
use Prim.Native.Nat.{ℕ, zero, suc, ◌+◌, ◌-◌, ◌≤◌, ◌<◌}
use native.Mathlib.Numerals.{add-one}
use native.Mathlib.Omega.{arith}
use lib.ListN.{length, take, get_or, set}
use lib.Seq.{length-take-le, get_or-take, set-get_or}
use borrow.Author.Tests.{ne_eqb, eq-eqb}
use Rattle.rules.specs.Table.{Entry, has, enter, delete, count_in, addresses, counts, pad, All, Ascending}
use Rattle.rules.specs.Heap.{Tables}
use Rattle.rules.specs.Rules.{enter_mrt, leave_mrt, on_create, on_destroy}
use Rattle.rules.specs.Whole.{Is}
use Rattle.tables.specs.Row.{place, put, cut, Padded, Listed}
use Rattle.rules.proofs.Unique.{is-take}
use Rattle.rules.proofs.Positions.{all_at, has-at}
use Rattle.tables.proofs.Places.{place_at, count_none, count-there, there-addresses, there-counts, cut-addresses, cut-counts, put-addresses, put-counts}
use Rattle.tables.proofs.Single.{put_is, cut-is, set_is, entry-used, enter-room}

-- the rows of MRT, of one length: addresses so, and beside each a count from 2 to the cap
pub record MrtRows (cap : ℕ) (ms cs : List ℕ) (used : ℕ) : Type 0 where
  pub listed : Listed ms used
  pub beside : Padded cs used
  pub long : length cs ≡ length ms
  pub within : All (λ c. (2 ≤ c) × (c ≤ cap)) (take used cs)
  pub big : 3 ≤ cap

-- two rows of n are the addresses and the counts of the entries m
pub record Pair (n : ℕ) (ms cs : List ℕ) (used : ℕ) (m : List Entry) : Type 0 where
  pub mrt_is : Is n ms used (addresses m)
  pub counts_is : Is n cs used (counts m)

-- rows that are t's MRT are f t's afterwards
abbrev pub MrtBy : (Tables → Tables) → List ℕ → List ℕ → ℕ → List ℕ → List ℕ → ℕ → Type 0
MrtBy f ms cs used ms' cs' used' = (n : ℕ) (t : Tables) → Pair n ms cs used t.mrt → Pair n ms' cs' used' (f t).mrt

-- what a transaction makes of MRT, by the count beside a
module _ (cap a : ℕ) (t : Tables) where
  pub create_none : (c : ℕ) → c ≡ 0 → (on_create cap a t false c).mrt ≡ enter a 2 t.mrt
  unfolding on_create enter_mrt
  create_none c e = rw e

  pub create_cap : (c : ℕ) → 1 ≤ c → c ≡ cap → (on_create cap a t false c).mrt ≡ t.mrt
  unfolding on_create
  create_cap zero h e = absurd (omega arith)
  create_cap (suc k) h e = rw (eq-eqb (suc k) cap e)

  pub create_more : (c : ℕ) → 1 ≤ c → (c ≡ cap → ⊥) → (on_create cap a t false c).mrt ≡ enter a (c + 1) t.mrt
  unfolding on_create enter_mrt
  create_more zero h n = absurd (omega arith)
  create_more (suc k) h n = rw (ne_eqb (suc k) cap n, add-one)

  pub destroy_two : (c : ℕ) → 3 ≤ cap → c ≡ 2 → (on_destroy cap a t c).mrt ≡ delete a t.mrt
  unfolding on_destroy leave_mrt
  destroy_two c big e = rw (e, ne_eqb 2 cap (λ q. omega arith))

  pub destroy_cap : (c : ℕ) → 1 ≤ c → c ≡ cap → (on_destroy cap a t c).mrt ≡ t.mrt
  unfolding on_destroy
  destroy_cap zero h e = absurd (omega arith)
  destroy_cap (suc k) h e = rw (eq-eqb (suc k) cap e)

  pub destroy_less : (c : ℕ) → 2 ≤ c → (c ≡ cap → ⊥) → (c ≡ 2 → ⊥) → (on_destroy cap a t c).mrt ≡ enter a (c - 1) t.mrt
  unfolding on_destroy enter_mrt
  destroy_less zero h n w = absurd (omega arith)
  destroy_less (suc k) h n w =
      let e : suc k - 1 ≡ k = omega arith in
      rw (ne_eqb (suc k) cap n, ne_eqb k 1 (λ q. w (ap suc q)), e)

-- the entry at place p
pub entry-there : {ms : List ℕ} {used : ℕ} → Listed ms used → (p : ℕ) → p < used → (p ≡ place (get_or ms p 0) (take used ms)) × (has (get_or ms p 0) (take used ms) ≡ true)
entry-there {ms} {used} L p l =
    let w : p < length (take used ms) = omega (arith, length-take-le used ms L.padded.fits) in
    let g : get_or (take used ms) p 0 ≡ get_or ms p 0 = get_or-take used ms p 0 l in
    rw (← g) (sym (place_at p (take used ms) L.up w), has-at (take used ms) p w)

module _ {cap used : ℕ} {ms cs : List ℕ} (C : MrtRows cap ms cs used) (a p : ℕ) (e : p ≡ place a (take used ms)) where
  abbrev L : Listed ms used
  L = C.listed

  -- a is an entry
  module _ (h : has a (take used ms) ≡ true) where
    pub pair_used : p < used
    pair_used = entry-used L a p e h

    pub pair_row : p < length cs
    pair_row = let k = C.beside.fits in omega (arith, pair_used)

    pub pair_count : (2 ≤ get_or cs p 0) × (get_or cs p 0 ≤ cap)
    pair_count =
        rw (get_or-take used cs p 0 pair_used) at (all_at (λ c. (2 ≤ c) × (c ≤ cap)) (take used cs) C.within p (omega (arith, pair_used, length-take-le used cs C.beside.fits)))

    module _ {n : ℕ} {m : List Entry} (P : Pair n ms cs used m) where
      up : Ascending (addresses m)
      up = rw (is-take P.mrt_is) at L.up

      there : has a (addresses m) ≡ true
      there = rw (is-take P.mrt_is) at h

      at : p ≡ place a (addresses m)
      at = rw (is-take P.mrt_is) at e

      pub count-is : count_in a m ≡ get_or cs p 0
      count-is = count-there a m up there ∙ rw (← at, ← is-take P.counts_is) (get_or-take used cs p 0 pair_used)

      set_pair : (v : ℕ) → Pair n ms (set cs p v) used (enter a v m)
      set_pair v = record {
        mrt_is = rw (there-addresses a v m up there) P.mrt_is;
        counts_is = rw (there-counts a v m up there, ← at) (set_is C.beside P.counts_is p v pair_used);
      }

      cut_pair : {xs ys : List ℕ} {r : ℕ} → r ≡ used - 1 → xs ≡ pad (length ms) (cut p (take used ms)) → ys ≡ pad (length cs) (cut p (take used cs)) → Pair n xs ys r (delete a m)
      cut_pair l x y = record {
        mrt_is = rw (cut-addresses a m up there, ← at) (cut-is L.padded P.mrt_is p pair_used l x);
        counts_is = rw (cut-counts a m up there, ← at) (cut-is C.beside P.counts_is p pair_used l y);
      }

    -- a create: one more, but at the cap
    pub counted-up : get_or cs p 0 < cap → MrtBy (λ t. on_create cap a t false (count_in a t.mrt)) ms cs used ms (set cs p (get_or cs p 0 + 1)) used
    counted-up l n t P =
        let g = pair_count in
        rw (count-is P, create_more cap a t (get_or cs p 0) (omega arith) (λ q. omega arith)) (set_pair P (get_or cs p 0 + 1))

    pub stays-up : cap ≤ get_or cs p 0 → MrtBy (λ t. on_create cap a t false (count_in a t.mrt)) ms cs used ms (set cs p (get_or cs p 0)) used
    stays-up l n t P =
        let g = pair_count in
        rw (count-is P, create_cap cap a t (get_or cs p 0) (omega arith) (omega arith), set-get_or cs p 0) P

    -- a destroy: one less, but at the cap
    pub counted-down : (get_or cs p 0 ≡ 2 → ⊥) → get_or cs p 0 < cap → MrtBy (λ t. on_destroy cap a t (count_in a t.mrt)) ms cs used ms (set cs p (get_or cs p 0 - 1)) used
    counted-down o l n t P =
        let g = pair_count in
        rw (count-is P, destroy_less cap a t (get_or cs p 0) g.0 (λ q. omega arith) o) (set_pair P (get_or cs p 0 - 1))

    pub stays-down : cap ≤ get_or cs p 0 → MrtBy (λ t. on_destroy cap a t (count_in a t.mrt)) ms cs used ms cs used
    stays-down l n t P =
        let g = pair_count in
        rw (count-is P, destroy_cap cap a t (get_or cs p 0) (omega arith) (omega arith)) P

    pub counted_out : {xs ys : List ℕ} {r : ℕ} → get_or cs p 0 ≡ 2 → r ≡ used - 1 → xs ≡ pad (length ms) (cut p (take used ms)) → ys ≡ pad (length cs) (cut p (take used cs))
        → MrtBy (λ t. on_destroy cap a t (count_in a t.mrt)) ms cs used xs ys r
    counted_out w l x y n t P = rw (destroy_two cap a t (count_in a t.mrt) C.big (count-is P ∙ w)) (cut_pair P l x y)

  -- a is no entry
  module _ (small : a < length ms) (h : has a (take used ms) ≡ false) where
    pub pair_room : (used < length ms) × (used < length cs)
    pair_room =
        let k = C.long in
        omega (arith, enter-room L a p e small h)

    pub counted_in : {xs ys : List ℕ} {r : ℕ} → r ≡ used + 1 → xs ≡ pad (length ms) (put p a (take used ms)) → ys ≡ pad (length cs) (put p 2 (take used cs))
        → MrtBy (λ t. on_create cap a t false (count_in a t.mrt)) ms cs used xs ys r
    counted_in l x y n t P =
        let q = is-take P.mrt_is in
        let o : has a (addresses t.mrt) ≡ false = rw q at h in
        let w : p ≡ place a (addresses t.mrt) = rw q at e in
        rw (create_none cap a t (count_in a t.mrt) (count_none a t.mrt o))
        (record {
          mrt_is = rw (put-addresses a 2 t.mrt o, ← w) (put_is L.padded P.mrt_is p a pair_room.0 l x);
          counts_is = rw (put-counts a 2 t.mrt o, ← w) (put_is C.beside P.counts_is p 2 pair_room.1 l y);
        })
