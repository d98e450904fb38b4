-- Reclaiming: what its turns keep it keeps, and it ends with no cell of the zero count table unheld. Assumes nothing.
use Prim.Native.Nat.{ℕ, zero, suc, ◌+◌, ◌<◌, ◌≤◌}
use mathlib.Core.Path.{◌≡◌, refl, sym, ap, ◌∙◌}
use mathlib.Core.Bool.{Bool, true, false, ◌||◌, cond, true≢false, false≢true, or-true}
use mathlib.Core.Option.{Option, none, some}
use mathlib.Core.List.{List, [], ◌∷◌}
use native.Mathlib.Omega.{arith}
use lib.Dec.{eqb}
use borrow.Author.Tests.{eqb-true, eq-eqb}
use Rattle.rules.specs.Table.{has, Ascending}
use Rattle.rules.specs.declared.Field.TheVariants.{Free}
use Rattle.rules.specs.Heap.{Heap, place, field}
use Rattle.rules.specs.Settle.{holds, pick, on_pick, free_cell, reclaim}
use Rattle.rules.specs.Whole.{Kept}
use Rattle.rules.specs.Invariant.{live, Good, Done, lives}
use Rattle.rules.proofs.Sorted.{all_has}
use Rattle.rules.proofs.Cells.{free_dead, Plain1, Figures, place_in_1}
use Rattle.rules.proofs.Turn.{turn-was, turn-mark, turn-live, turn-field, turn-less, turn-good, turn-kept, turn-plain, turn-figures}

-- ---- what `pick` finds

pub pick_some : (hs : List (Option ℕ)) (z : List ℕ) (a : ℕ) → pick hs z ≡ some a → (has a z ≡ true) × (holds a hs ≡ false)
pick_some hs [] a e = absurd (let w : ◌≡◌ {A = ℕ} 0 1 = cc in omega arith)
pick_some hs (x ∷ z) a e = go (holds x hs) refl e (pick_some hs z a)
  where
    go : (p : Bool) → holds x hs ≡ p → cond p (pick hs z) (some x) ≡ some a → (pick hs z ≡ some a → (has a z ≡ true) × (holds a hs ≡ false)) → (has a (x ∷ z) ≡ true) × (holds a hs ≡ false)
    go true d e h = (rw (h e).0 (or-true (eqb a x)), (h e).1)
    go false d e h = let f : x ≡ a = cc in (rw (eq-eqb a x (sym f)), rw f at d)

pub pick-none : (hs : List (Option ℕ)) (z : List ℕ) → pick hs z ≡ none → (a : ℕ) → has a z ≡ true → holds a hs ≡ true
pick-none hs [] e a i = absurd (false≢true i)
pick-none hs (x ∷ z) e a i = go (holds x hs) refl e (pick-none hs z)
  where
    go : (p : Bool) → holds x hs ≡ p → cond p (pick hs z) (some x) ≡ none → (pick hs z ≡ none → (a : ℕ) → has a z ≡ true → holds a hs ≡ true) → holds a hs ≡ true
    go true d e h = at (eqb a x) refl i
      where
        at : (q : Bool) → eqb a x ≡ q → (q || has a z) ≡ true → holds a hs ≡ true
        at true f i = rw (eqb-true a x f) d
        at false f i = h e a i
    go false d e h = absurd (let w : ◌≡◌ {A = ℕ} 0 1 = cc in omega arith)

-- what no cell is left for, none is left for with more holds
pub pick_more : (hs ks : List (Option ℕ)) (z : List ℕ) → ((b : ℕ) → holds b hs ≡ true → holds b ks ≡ true) → pick hs z ≡ none → pick ks z ≡ none
pick_more hs ks z m e = go (pick ks z) refl
  where
    go : (o : Option ℕ) → pick ks z ≡ o → pick ks z ≡ none
    go none d = d
    go (some a) d = let p = pick_some ks z a d in absurd (true≢false (sym (m a (pick-none hs z e a p.0)) ∙ p.1))

-- the cell that reclaiming takes is the smallest that no hold names
pub pick_least : (hs : List (Option ℕ)) (z : List ℕ) (a b : ℕ) → Ascending z → pick hs z ≡ some a → has b z ≡ true → holds b hs ≡ false → a ≤ b
pick_least hs [] a b s e i u = absurd (false≢true i)
pick_least hs (x ∷ z) a b s e i u = go (holds x hs) refl e (pick_least hs z a b s.1) (eqb b x) refl i
  where
    go : (p : Bool) → holds x hs ≡ p → cond p (pick hs z) (some x) ≡ some a → (pick hs z ≡ some a → has b z ≡ true → holds b hs ≡ false → a ≤ b)
        → (q : Bool) → eqb b x ≡ q → (q || has b z) ≡ true → a ≤ b
    go true d e ih true f i = absurd (true≢false (sym d ∙ ap (λ y. holds y hs) (sym (eqb-true b x f)) ∙ u))
    go true d e ih false f i = ih e i u
    go false d e ih true f i = let g : x ≡ a = cc in let k = eqb-true b x f in omega arith
    go false d e ih false f i = let g : x ≡ a = cc in let k = all_has (λ y. x < y) b z s.0 i in omega arith

-- and the smallest such is the one that it takes
pub least_pick : (hs : List (Option ℕ)) (z : List ℕ) (a : ℕ) → Ascending z → has a z ≡ true → holds a hs ≡ false → ((b : ℕ) → has b z ≡ true → holds b hs ≡ false → a ≤ b) → pick hs z ≡ some a
least_pick hs z a s i u m = go (pick hs z) refl
  where
    go : (o : Option ℕ) → pick hs z ≡ o → pick hs z ≡ some a
    go none e = absurd (true≢false (sym (pick-none hs z e a i) ∙ u))
    go (some b) e =
        let p = pick_some hs z b e in
        let l = m b p.0 p.1 in
        let k = pick_least hs z b a s e i u in
        let q : b ≡ a = omega arith in
        e ∙ ap some q

-- ---- what freeing leaves, reclaiming leaves

pub reclaim-leaves : {A : Type 0} (f : Heap → A) (cap : ℕ) (hs : List (Option ℕ)) → ((a : ℕ) (h : Heap) → f (free_cell cap a h) ≡ f h) → (k : ℕ) (h : Heap) → f (reclaim cap hs k h) ≡ f h
unfolding reclaim
reclaim-leaves f cap hs e zero h = refl
reclaim-leaves f cap hs e (suc k) h = go (λ a. reclaim-leaves f cap hs e k (free_cell cap a h) ∙ e a h) (pick hs h.tables.zct) refl
  where
    go : ((a : ℕ) → f (reclaim cap hs k (free_cell cap a h)) ≡ f h) → (o : Option ℕ) → pick hs h.tables.zct ≡ o → f (reclaim cap hs (suc k) h) ≡ f h
    go ih none q = rw q
    go ih (some a) q = rw q (ih a)

-- h with the variables vs
abbrev pub having : List (Option ℕ) → Heap → Heap
having vs h = record { shape = record { fields = h.shape.fields; variables = vs }; first = h.first; tables = h.tables; log = h.log; freed = h.freed }

-- reclaiming looks at the holds that are counted, not at the variables
pub reclaim-having : (cap : ℕ) (hs vs : List (Option ℕ)) (k : ℕ) (h : Heap) → reclaim cap hs k (having vs h) ≡ having vs (reclaim cap hs k h)
unfolding reclaim
reclaim-having cap hs vs zero h = refl
reclaim-having cap hs vs (suc k) h = go (pick hs h.tables.zct) (reclaim-having cap hs vs k)
  where
    turn : Heap → Option ℕ → Heap
    turn h o = on_pick o h (λ a. reclaim cap hs k (free_cell cap a h))

    free_having : (a : ℕ) → free_cell cap a (having vs h) ≡ having vs (free_cell cap a h)
    free_having a = unfold free_cell in refl

    go : (o : Option ℕ) → ((h : Heap) → reclaim cap hs k (having vs h) ≡ having vs (reclaim cap hs k h)) → turn (having vs h) o ≡ having vs (turn h o)
    go none ih = refl
    go (some a) ih = ap (reclaim cap hs k) (free_having a) ∙ ih (free_cell cap a h)

-- with nothing to take, nothing is done
pub reclaim_idle : (cap : ℕ) (hs : List (Option ℕ)) (k : ℕ) (h : Heap) → Done hs h → reclaim cap hs k h ≡ h
unfolding reclaim
reclaim_idle cap hs zero h d = refl
reclaim_idle cap hs (suc k) h d = rw d

-- one turn more, seen from its end
pub reclaim-last : (cap : ℕ) (hs : List (Option ℕ)) (k : ℕ) (h : Heap)
    → reclaim cap hs (suc k) h ≡ on_pick (pick hs (reclaim cap hs k h).tables.zct) (reclaim cap hs k h) (λ a. free_cell cap a (reclaim cap hs k h))
unfolding reclaim
reclaim-last cap hs zero h = refl
reclaim-last cap hs (suc k) h = go (pick hs h.tables.zct) refl (reclaim-last cap hs k)
  where
    turn : Option ℕ → Heap
    turn o = on_pick o h (λ a. reclaim cap hs k (free_cell cap a h))

    go : (o : Option ℕ) → pick hs h.tables.zct ≡ o
        → ((h : Heap) → reclaim cap hs (suc k) h ≡ on_pick (pick hs (reclaim cap hs k h).tables.zct) (reclaim cap hs k h) (λ a. free_cell cap a (reclaim cap hs k h)))
        → on_pick o h (λ a. reclaim cap hs (suc k) (free_cell cap a h)) ≡ on_pick (pick hs (turn o).tables.zct) (turn o) (λ a. free_cell cap a (turn o))
    go none e ih = rw e
    go (some a) e ih = ih (free_cell cap a h)

module _ (n cap : ℕ) (cap3 : 3 ≤ cap) (hs : List (Option ℕ)) where
  abbrev G : Heap → Type 0
  G h = Good n cap h.shape.fields hs h.tables

  -- what a turn keeps, whichever cell it takes, reclaiming keeps
  pub reclaim_keeps : (P : Heap → Type 0) → ((h : Heap) → G h → (a : ℕ) → has a h.tables.zct ≡ true → holds a hs ≡ false → P h → P (free_cell cap a h))
      → (k : ℕ) (h : Heap) → G h → P h → P (reclaim cap hs k h)
  unfolding reclaim
  reclaim_keeps P f zero h g p = p
  reclaim_keeps P f (suc k) h g p = go (pick hs h.tables.zct) refl (reclaim_keeps P f k)
    where
      turn : Option ℕ → Heap
      turn o = on_pick o h (λ a. reclaim cap hs k (free_cell cap a h))

      go : (o : Option ℕ) → pick hs h.tables.zct ≡ o → ((h : Heap) → G h → P h → P (reclaim cap hs k h)) → P (turn o)
      go none e ih = p
      go (some a) e ih =
          let m = pick_some hs h.tables.zct a e in
          ih (free_cell cap a h) (turn-good n cap cap3 hs h g a m.0 m.1) (f h g a m.0 m.1 p)

  pub reclaim-good : (k : ℕ) (h : Heap) → G h → G (reclaim cap hs k h)
  reclaim-good k h g = reclaim_keeps G (λ h g a i u p. turn-good n cap cap3 hs h g a i u) k h g g

  -- with as many turns as there are cells in use, it comes to its end
  pub reclaim-done : (k : ℕ) (h : Heap) → G h → lives h.shape.fields ≤ k → Done hs (reclaim cap hs k h)
  unfolding reclaim
  reclaim-done zero h g l = go (pick hs h.tables.zct) refl
    where
      go : (o : Option ℕ) → pick hs h.tables.zct ≡ o → Done hs h
      go none e = e
      go (some a) e =
          let m = pick_some hs h.tables.zct a e in
          absurd (let q = turn-less n cap cap3 hs h g a m.0 m.1 in omega arith)
  reclaim-done (suc k) h g l = go (pick hs h.tables.zct) refl (reclaim-done k)
    where
      turn : Option ℕ → Heap
      turn o = on_pick o h (λ a. reclaim cap hs k (free_cell cap a h))

      go : (o : Option ℕ) → pick hs h.tables.zct ≡ o → ((h : Heap) → G h → lives h.shape.fields ≤ k → Done hs (reclaim cap hs k h)) → Done hs (turn o)
      go none e ih = e
      go (some a) e ih =
          let m = pick_some hs h.tables.zct a e in
          ih (free_cell cap a h) (turn-good n cap cap3 hs h g a m.0 m.1) (let q = turn-less n cap cap3 hs h g a m.0 m.1 in omega arith)

  -- cells in use and cells freed make one sum
  pub reclaim-sum : (k : ℕ) (h : Heap) → G h → lives (reclaim cap hs k h).shape.fields + (reclaim cap hs k h).freed ≡ lives h.shape.fields + h.freed
  unfolding free_cell
  reclaim-sum k h g =
      reclaim_keeps (λ h'. lives h'.shape.fields + h'.freed ≡ lives h.shape.fields + h.freed)
      (λ j g a i u p. let q = turn-less n cap cap3 hs j g a i u in omega arith)
      k h g refl

  pub reclaim-plain : (k : ℕ) (h : Heap) → G h → Plain1 h.shape.fields → Plain1 (reclaim cap hs k h).shape.fields
  reclaim-plain = reclaim_keeps (λ h. Plain1 h.shape.fields) (turn-plain n cap cap3 hs)

  pub reclaim-figures : (k : ℕ) (h : Heap) → G h → Figures h.shape.fields → Figures (reclaim cap hs k h).shape.fields
  reclaim-figures = reclaim_keeps (λ h. Figures h.shape.fields) (turn-figures n cap cap3 hs)

  pub reclaim-kept : (k : ℕ) (h : Heap) → G h → Kept n cap h.tables → Kept n cap (reclaim cap hs k h).tables
  reclaim-kept = reclaim_keeps (λ h. Kept n cap h.tables) (turn-kept n cap cap3 hs)

  -- if no cell is free afterwards, nothing was taken: a cell that is freed is the first free one
  pub reclaim-full : (k : ℕ) (h : Heap) → G h → (reclaim cap hs k h).first ≡ n → reclaim cap hs k h ≡ h
  unfolding reclaim
  reclaim-full zero h g e = refl
  reclaim-full (suc k) h g e = go (pick hs h.tables.zct) refl e
    where
      freed-below : (h : Heap) → G h → (a : ℕ) → has a h.tables.zct ≡ true → holds a hs ≡ false → (free_cell cap a h).first < n
      freed-below h g a i u = unfold free_cell place in let l = place_in_1 n a h.shape.fields g.len (turn-was n cap cap3 hs h g a i u) in let e = g.len in omega arith

      go : (o : Option ℕ) → pick hs h.tables.zct ≡ o → (on_pick o h (λ a. reclaim cap hs k (free_cell cap a h))).first ≡ n → on_pick o h (λ a. reclaim cap hs k (free_cell cap a h)) ≡ h
      go none d e = refl
      go (some a) d e =
          let m = pick_some hs h.tables.zct a d in
          let b = reclaim_keeps (λ x. x.first < n) (λ x q b i u p. freed-below x q b i u) k (free_cell cap a h) (turn-good n cap cap3 hs h g a m.0 m.1) (freed-below h g a m.0 m.1) in
          absurd (omega arith)

  -- a cell that is freed was taken at one of the turns
  pub taken-when : (h : Heap) → G h → (a : ℕ) → live h.shape.fields a ≡ true → (k : ℕ) → live (reclaim cap hs k h).shape.fields a ≡ false
      → (j : ℕ) × ((j < k) × (pick hs (reclaim cap hs j h).tables.zct ≡ some a))
  unfolding reclaim
  taken-when h g a l zero d = absurd (true≢false (sym l ∙ d))
  taken-when h g a l (suc k) d = go (live R.shape.fields a) refl (taken-when h g a l k)
    where
      R : Heap
      R = reclaim cap hs k h

      same : (b : ℕ) (q : Bool) → pick hs R.tables.zct ≡ some b → eqb a b ≡ q → live R.shape.fields a ≡ true
          → cond q false (live R.shape.fields a) ≡ false → pick hs R.tables.zct ≡ some a
      same b true e f l d = let x = eqb-true a b f in cc
      same b false e f l d = absurd (true≢false (sym l ∙ d))

      turn : (o : Option ℕ) → pick hs R.tables.zct ≡ o → live R.shape.fields a ≡ true → live (on_pick o R (λ b. free_cell cap b R)).shape.fields a ≡ false → pick hs R.tables.zct ≡ some a
      turn none e l d = absurd (true≢false (sym l ∙ d))
      turn (some b) e l d =
          let m = pick_some hs R.tables.zct b e in
          same b (eqb a b) e refl l (sym (turn-live n cap cap3 hs R (reclaim-good k h g) b m.0 m.1 a) ∙ d)

      go : (q : Bool) → live R.shape.fields a ≡ q → (live R.shape.fields a ≡ false → (j : ℕ) × ((j < k) × (pick hs (reclaim cap hs j h).tables.zct ≡ some a)))
          → (j : ℕ) × ((j < suc k) × (pick hs (reclaim cap hs j h).tables.zct ≡ some a))
      go false e ih = let r = ih e in (r.0, (let x = r.1.0 in omega arith, r.1.1))
      go true e ih = (k, (omega arith, turn (pick hs R.tables.zct) refl e (ap (λ x. live x.shape.fields a) (sym (reclaim-last cap hs k h)) ∙ d)))

  -- a cell that no turn takes keeps its fields
  pub untaken_field : (h : Heap) → G h → (a f : ℕ) → f < 2 → (k : ℕ) → ((j : ℕ) → j < k → pick hs (reclaim cap hs j h).tables.zct ≡ some a → ⊥) → field (reclaim cap hs k h).shape.fields a f ≡ field h.shape.fields a f
  untaken_field h g a f l zero u = unfold reclaim in refl
  untaken_field h g a f l (suc k) u =
      ap (λ x. field x.shape.fields a f) (reclaim-last cap hs k h) ∙ turn (pick hs R.tables.zct) refl ∙ untaken_field h g a f l k (λ j i. u j (omega arith))
    where
      R : Heap
      R = reclaim cap hs k h

      other : (b : ℕ) → pick hs R.tables.zct ≡ some b → (q : Bool) → eqb a b ≡ q → eqb a b ≡ false
      other b e true d = absurd (u k (omega arith) (e ∙ ap some (sym (eqb-true a b d))))
      other b e false d = d

      turn : (o : Option ℕ) → pick hs R.tables.zct ≡ o → field (on_pick o R (λ b. free_cell cap b R)).shape.fields a f ≡ field R.shape.fields a f
      turn none e = refl
      turn (some b) e = let m = pick_some hs R.tables.zct b e in turn-field n cap cap3 hs R (reclaim-good k h g) b m.0 m.1 a f (other b e (eqb a b) refl) l

  -- a free cell keeps the address that follows it
  reclaim-mark : (h : Heap) → G h → (a b : ℕ) → field h.shape.fields a 0 ≡ Free b → (k : ℕ) → field (reclaim cap hs k h).shape.fields a 0 ≡ Free b
  reclaim-mark h g a b e k =
      reclaim_keeps (λ x. field x.shape.fields a 0 ≡ Free b) (λ x y c i u p. turn-field n cap cap3 hs x y c i u a 0 (other x y c i u p (eqb a c) refl) (omega arith) ∙ p) k h g e
    where
      other : (x : Heap) → G x → (c : ℕ) → has c x.tables.zct ≡ true → holds c hs ≡ false → field x.shape.fields a 0 ≡ Free b → (q : Bool) → eqb a c ≡ q → eqb a c ≡ false
      other x y c i u p true d = absurd (true≢false (sym (turn-was n cap cap3 hs x y c i u) ∙ ap (live x.shape.fields) (sym (eqb-true a c d)) ∙ free_dead x.shape.fields a b p))
      other x y c i u p false d = d

  -- and a cell that a turn takes is free afterwards, followed by the cell that was the first free one
  pub taken-marked : (h : Heap) → G h → (a j k : ℕ) → j < k → pick hs (reclaim cap hs j h).tables.zct ≡ some a → field (reclaim cap hs k h).shape.fields a 0 ≡ Free (reclaim cap hs j h).first
  unfolding reclaim
  taken-marked h g a j zero l e = absurd (omega arith)
  taken-marked h g a zero (suc k) l e =
      let m = pick_some hs h.tables.zct a e in
      rw e (reclaim-mark (free_cell cap a h) (turn-good n cap cap3 hs h g a m.0 m.1) a h.first (turn-mark n cap cap3 hs h g a m.0 m.1) k)
  taken-marked h g a (suc j) (suc k) l e = go (pick hs h.tables.zct) refl e (λ x y. taken-marked x y a j k)
    where
      turn : ℕ → Option ℕ → Heap
      turn k o = on_pick o h (λ b. reclaim cap hs k (free_cell cap b h))

      go : (o : Option ℕ) → pick hs h.tables.zct ≡ o → pick hs (turn j o).tables.zct ≡ some a
          → ((h : Heap) → G h → j < k → pick hs (reclaim cap hs j h).tables.zct ≡ some a → field (reclaim cap hs k h).shape.fields a 0 ≡ Free (reclaim cap hs j h).first)
          → field (turn k o).shape.fields a 0 ≡ Free (turn j o).first
      go none d e ih = absurd (let p = sym d ∙ e in let w : ◌≡◌ {A = ℕ} 0 1 = cc in omega arith)
      go (some b) d e ih = let m = pick_some hs h.tables.zct b d in ih (free_cell cap b h) (turn-good n cap cap3 hs h g b m.0 m.1) (omega arith) e
