-- Laws of reclaiming: its turns, the cell that is picked, and the address below which ZCT has only cells that are held. Assumes nothing.
use mathlib.Core.Path.{◌≡◌, refl, sym, ap, ◌∙◌}
use mathlib.Core.Bool.{Bool, true, false, cond}
use mathlib.Core.Option.{Option, none, some}
use mathlib.Core.List.{List, [], ◌∷◌, ◌++◌}
use Prim.Native.Nat.{ℕ, zero, suc, ◌+◌, ◌-◌, ◌≤◌, ◌<◌, zero-le, suc-le-suc}
use native.Mathlib.Nat.{le_of_suc-le-suc, not-suc-le-zero}
use native.Mathlib.Numerals.{add-one}
use native.Mathlib.Omega.{arith}
use lib.ListN.{length, take, get_or}
use lib.Seq.{get_or-take}
use lib.Dec.{ltb}
use borrow.Author.Tests.{ltb-true, ltb-false, ne_eqb}
use Rattle.rules.specs.declared.State.{State}
use Rattle.rules.specs.declared.Field.{Field}
use Rattle.rules.specs.declared.Field.TheVariants.{Nothing, Figure, Cell, Free}
use Rattle.rules.specs.Table.{has, Ascending}
use Rattle.rules.specs.Heap.{Tables, destroys, Heap, field}
use Rattle.rules.specs.Rules.{leave_zct, apply, replay}
use Rattle.rules.specs.Settle.{holds, pick, free_cell, reclaim}
use Rattle.rules.specs.Call.{drops}
use Rattle.rules.specs.Rows.{HeapRows}
use Rattle.rules.specs.Whole.{Rows}
use Rattle.rules.specs.Invariant.{View, view}
use Rattle.rules.proofs.Tables.{view_other, remove_other}
use Rattle.rules.proofs.Sorted.{replay-append}
use Rattle.rules.proofs.Reclaim.{reclaim-last}
use Rattle.rules.proofs.Unique.{is-take}
use Rattle.tables.specs.Row.{place}
use Rattle.tables.proofs.Laws.{place_upto, place-used}
use Rattle.rules.proofs.Positions.{has-at, all_at}
use Rattle.tables.proofs.Places.{has-place, place-low}
use Rattle.tables.proofs.Single.{is-padded}
use Rattle.cells.specs.Marks.{Marks}
use Rattle.reclaim.specs.Reclaiming.{low_to, Heaped, Freed, Scan, Marked, Bare, AfterTurns}

-- ---- turns

module _ (cap : ℕ) (hs : List (Option ℕ)) (h : Heap) (k : ℕ) where
  -- a cell is picked
  reclaim-next : (a : ℕ) → pick hs (reclaim cap hs k h).tables.zct ≡ some a → reclaim cap hs (k + 1) h ≡ free_cell cap a (reclaim cap hs k h)
  reclaim-next a e = rw add-one (reclaim-last cap hs k h ∙ rw e)

  -- none is: the turns that are left change nothing
  reclaim_still : pick hs (reclaim cap hs k h).tables.zct ≡ none → (j : ℕ) → reclaim cap hs (j + k) h ≡ reclaim cap hs k h
  reclaim_still e zero = ap (λ (i : ℕ). reclaim cap hs i h) (let z : 0 + k ≡ k = omega arith in z)
  reclaim_still e (suc j) =
      let z : suc j + k ≡ suc (j + k) = omega arith in
      ap (λ (i : ℕ). reclaim cap hs i h) z ∙ reclaim-last cap hs (j + k) h ∙ rw (reclaim_still e j, e)

-- ---- the cell that is picked

module _ (hs : List (Option ℕ)) where
  picks_at : (z : List ℕ) (p : ℕ) → ((i : ℕ) → i < p → holds (get_or z i 0) hs ≡ true) → p < length z → holds (get_or z p 0) hs ≡ false → pick hs z ≡ some (get_or z p 0)
  picks_at [] p s h e = absurd (not-suc-le-zero h)
  picks_at (x ∷ z) zero s h e = rw e
  picks_at (x ∷ z) (suc p) s h e = rw (s 0 (omega arith)) (picks_at z p (λ i l. s (suc i) (suc-le-suc l)) (le_of_suc-le-suc h) e)

  picks_none : (z : List ℕ) → ((i : ℕ) → i < length z → holds (get_or z i 0) hs ≡ true) → pick hs z ≡ none
  picks_none [] s = refl
  picks_none (x ∷ z) s = rw (s 0 (suc-le-suc zero-le)) (picks_none z (λ i l. s (suc i) (suc-le-suc l)))

-- ---- a scan of ZCT

-- what stands before low's place has a mark
pub scan_from : {zs : List ℕ} {used : ℕ} {work : List ℕ} {low : ℕ} → Scan zs used work low → (p : ℕ) → p ≡ place low (take used zs) → Marked zs work p
scan_from {zs} {used} {work} {low} S p e i l =
    let u = place-used zs used S.fits low in
    let q : i < used = omega arith in
    S.below i q (rw (get_or-take used zs i 0 q) at (place-low low (take used zs) i (rw e at l)))

-- ---- the address below which ZCT has only cells that are held

-- what stands before place p of an ascending list
has-before : (z : List ℕ) (p w : ℕ) → Ascending z → p < length z → has w z ≡ true → w < get_or z p 0 → (place w z < p) × (get_or z (place w z) 0 ≡ w)
has-before z p w s h e l =
    let q = has-place w z s e in
    let u : place w z ≤ p = place_upto w z p h (omega arith) in
    (le-lt u (λ r. let g : get_or z p 0 ≡ w = rw (← r) q.1 in omega arith), q.1)
  where
    le-lt : {m n : ℕ} → m ≤ n → (m ≡ n → ⊥) → m < n
    le-lt h n = omega arith

-- a destroy enters nothing but its own address
has_destroy : (cap b w : ℕ) (t : Tables) → (w ≡ b → ⊥) → has w (apply cap (destroys b) t).zct ≡ has w t.zct
unfolding view
has_destroy cap b w t n = ap (λ (v : View). v.0) (view_other cap (destroys b) t w (ne_eqb w b n))

low-le : (low b : ℕ) → (cond (ltb b low) b low ≤ low) × (cond (ltb b low) b low ≤ b)
low-le low b = go (ltb b low) refl
  where
    go : (d : Bool) → ltb b low ≡ d → (cond (ltb b low) b low ≤ low) × (cond (ltb b low) b low ≤ b)
    go true e = let h = ltb-true b low e in rw e (omega arith)
    go false e = let h = ltb-false b low e in rw e (omega arith)

-- below low nothing comes in with a field that is let go
has-gone : (cap low w : ℕ) (f : Field) (t : Tables) → w < low_to low f → has w (replay cap (drops f) t).zct ≡ true → (w < low) × (has w t.zct ≡ true)
unfolding replay
has-gone cap low w Nothing t l h = (l, h)
has-gone cap low w (Figure x) t l h = (l, h)
has-gone cap low w (Free b) t l h = (l, h)
has-gone cap low w (Cell b) t l h =
    let q = low-le low b in
    (omega arith, sym (has_destroy cap b w t (λ e. omega arith)) ∙ h)

has-released : (cap a w : ℕ) (x y : Field) (t : Tables) → w < low_to (low_to a x) y → has w (replay cap (drops x ++ drops y) (leave_zct a t)).zct ≡ true → (w < a) × (has w t.zct ≡ true)
unfolding leave_zct
has-released cap a w x y t l h =
    let q = has-gone cap (low_to a x) w y (replay cap (drops x) (leave_zct a t)) l (rw (replay-append cap (drops x) (drops y) (leave_zct a t)) at h) in
    let r = has-gone cap a w x (leave_zct a t) q.0 q.1 in
    let b = r.0 in
    (b, sym (remove_other w a t.zct (ne_eqb w a (λ e. omega arith))) ∙ r.1)

mark-one : (b : Bool) → ◌≡◌ {A = ℕ} (cond b 1 0) 1 → b ≡ true
mark-one true h = refl
mark-one false h = absurd (omega arith)

mark-not : (b : Bool) → (◌≡◌ {A = ℕ} (cond b 1 0) 1 → ⊥) → b ≡ false
mark-not true h = absurd (h refl)
mark-not false h = refl

pub heaped : {n cap : ℕ} {r : HeapRows} {at : State} {h : Heap} → Rows n cap r at h → at.freed ≤ 2000000 → Heaped cap r at
heaped {h = h} R few = record { heap = h; rows = rw R.ready.are.zct_is.long R; few = few }

-- the rows after k turns that each freed a cell, and an address below which ZCT has only cells that are held
pub record TurnsGoing (n cap : ℕ) (hs : List (Option ℕ)) (k : ℕ) (r : HeapRows) (at : State) (h : Heap) (o : State) (low : ℕ) : Type 0 where
  pub rows : Rows n cap r o (reclaim cap hs k h)
  pub len : o.len ≡ at.len
  pub count : o.freed ≡ at.freed + k
  pub below : (w : ℕ) → has w (reclaim cap hs k h).tables.zct ≡ true → w < low → holds w hs ≡ true

pub going_first : {n cap : ℕ} {r : HeapRows} {at : State} {h : Heap} (hs : List (Option ℕ)) → Rows n cap r at h → TurnsGoing n cap hs 0 r at h at 0
unfolding reclaim
going_first hs R = record { rows = R; len = refl; count = omega arith; below = λ w e l. absurd (not-suc-le-zero l) }

module _ {n cap : ℕ} {hs : List (Option ℕ)} {k : ℕ} {r : HeapRows} {at : State} {h : Heap} {s : State} {low : ℕ} {work : List ℕ}
    (G : TurnsGoing n cap hs k r at h s low) (M : Marks n work hs) where
  entries : take s.used.zct r.tables.zct ≡ (reclaim cap hs k h).tables.zct
  entries = is-take G.rows.ready.are.zct_is

  entry : (i : ℕ) → i < s.used.zct → get_or (reclaim cap hs k h).tables.zct i 0 ≡ get_or r.tables.zct i 0
  entry i l = rw (← entries) (get_or-take s.used.zct r.tables.zct i 0 l)

  small : (i : ℕ) → i < s.used.zct → get_or r.tables.zct i 0 < n
  small i l =
      let c = G.rows.ready.are.zct_is.count in
      rw (entry i l) at (all_at (λ y. y < n) (reclaim cap hs k h).tables.zct G.rows.ready.kept.zct_below i (omega arith))

  pub scan : Scan r.tables.zct s.used.zct work low
  scan =
      record {
        fits = (is-padded G.rows.ready.are.zct_is).fits;
        up = rw entries G.rows.ready.kept.zct_up;
        small = λ i l. rw M.long (small i l);
        below = λ i l b.
            let c = G.rows.ready.are.zct_is.count in
            let o : holds (get_or r.tables.zct i 0) hs ≡ true = G.below (get_or r.tables.zct i 0) (rw (entry i l) at (has-at (reclaim cap hs k h).tables.zct i (omega arith))) b in
            M.marks (get_or r.tables.zct i 0) (small i l) ∙ ap (λ (t : Bool). cond t 1 0) o;
      }

  held-before : {p : ℕ} → p ≤ s.used.zct → Marked r.tables.zct work p → (i : ℕ) → i < p → holds (get_or (reclaim cap hs k h).tables.zct i 0) hs ≡ true
  held-before u U i l =
      let q : i < s.used.zct = omega arith in
      rw (entry i q) (mark-one (holds (get_or r.tables.zct i 0) hs) (sym (M.marks (get_or r.tables.zct i 0) (small i q)) ∙ U i l))

  -- an entry with no mark is the cell to take
  module _ {p : ℕ} (U : Bare r.tables.zct s.used.zct work p) where
    before : (i : ℕ) → i < p → holds (get_or (reclaim cap hs k h).tables.zct i 0) hs ≡ true
    before = let l = U.here in held-before (omega arith) U.marked

    picked : pick hs (reclaim cap hs k h).tables.zct ≡ some (get_or r.tables.zct p 0)
    picked =
        let l = U.here in
        let c = G.rows.ready.are.zct_is.count in
        let g = entry p l in
        rw (← g)
        (picks_at hs (reclaim cap hs k h).tables.zct p before (omega arith)
        (rw g (mark-not (holds (get_or r.tables.zct p 0) hs) (λ e. U.bare (M.marks (get_or r.tables.zct p 0) (small p l) ∙ e)))))

    pub going_next : {r' : HeapRows} {s' : State} {low' : ℕ} → Freed n cap (get_or r.tables.zct p 0) r' s (reclaim cap hs k h) s' low' → TurnsGoing n cap hs (k + 1) r' at h s' low'
    unfolding free_cell
    going_next F =
        let e = reclaim-next cap hs h k (get_or r.tables.zct p 0) picked in
        let l = U.here in
        let c = G.rows.ready.are.zct_is.count in
        let d = G.count in
        let i = F.rows.freed in
        let j = G.rows.freed in
        record {
          rows = rw e F.rows;
          len = F.len ∙ G.len;
          count = omega arith;
          below = λ w o b.
              let a : ℕ = get_or r.tables.zct p 0 in
              let fs = (reclaim cap hs k h).shape.fields in
              let q = has-released cap a w (field fs a 0) (field fs a 1) (reclaim cap hs k h).tables (rw F.lowest at b) (rw e at o) in
              let g = entry p l in
              let r = has-before (reclaim cap hs k h).tables.zct p w G.rows.ready.kept.zct_up (omega arith) q.1 (rw (← g) at q.0) in
              rw r.1 at (before (place w (reclaim cap hs k h).tables.zct) r.0);
        }

  -- where there is none, the turns that are left change nothing
  pub done_early : Marked r.tables.zct work s.used.zct → (m : ℕ) → k ≤ m → AfterTurns n cap hs m r at h s
  done_early U m l =
      let c = G.rows.ready.are.zct_is.count in
      let d = G.count in
      let none_left : pick hs (reclaim cap hs k h).tables.zct ≡ none = picks_none hs (reclaim cap hs k h).tables.zct (λ i b. held-before (omega arith) U i (omega arith)) in
      let j : m - k + k ≡ m = omega arith in
      let e : reclaim cap hs m h ≡ reclaim cap hs k h = rw j at (reclaim_still cap hs h k none_left (m - k)) in
      record { rows = rw e G.rows; len = G.len; grows = omega arith; few = omega arith }

  pub done_late : (m : ℕ) → k ≤ m → m ≤ k → AfterTurns n cap hs m r at h s
  done_late m l o =
      let d = G.count in
      let e : m ≡ k = omega arith in
      record { rows = rw e G.rows; len = G.len; grows = omega arith; few = omega arith }
