-- Two tables walked in step with the address. Assumes nothing.
use Prim.Native.Nat.{ℕ, zero, suc, ◌+◌, ◌<◌, ◌≤◌}
use mathlib.Core.Path.{◌≡◌, refl}
use mathlib.Core.Bool.{Bool, true, false}
use mathlib.Core.List.{List}
use native.Mathlib.Omega.{arith}
use native.Mathlib.Numerals.{add-one}
use lib.Dec.{eqb, ltb}
use lib.ListN.{get_or}
use borrow.Author.Tests.{eqb-true, eqb-false, ltb-true, ltb-false}
use borrow.Author.Count.{below_more}
use Rattle.rules.specs.declared.Head.{Head}
use Rattle.rules.specs.Rows.{TableRows}
use Rattle.rules.specs.Sound.{mark, Live, TableRow, TablesSound, At, NotIn, Agree}

-- the entries before z are below a, and the others are not
pub record WalkPlace (row : List ℕ) (used a z : ℕ) : Type 0 where
  pub most : z ≤ used
  pub below : (j : ℕ) → j < z → get_or row j 0 < a
  pub above : z < used → a ≤ get_or row z 0

module _ (n : ℕ) (ks row : List ℕ) (used : ℕ) (t : TableRow n ks row used) where
  pub up : (i j : ℕ) → i < j → j < used → get_or row i 0 < get_or row j 0
  up i zero h k = absurd (omega arith)
  up i (suc j) h k = let e = rw (add-one j) at (t.ascending j (omega arith)) in go (ltb i j) refl e (λ l. up i j l (omega arith))
    where
      go : (q : Bool) → ltb i j ≡ q → get_or row j 0 < get_or row (suc j) 0 → (i < j → get_or row i 0 < get_or row j 0) → get_or row i 0 < get_or row (suc j) 0
      go true e s r = let w = r (ltb-true i j e) in omega arith
      go false e s r = let w = ltb-false i j e in let o : i ≡ j = omega arith in rw o s

  -- each entry is a cell that isn't free, above the entry before it
  pub listed : (j : ℕ) → j < used → Live n ks (get_or row j 0) × ((i : ℕ) → i + 1 ≡ j → get_or row i 0 < get_or row j 0)
  listed j h = (t.live j h, λ i e. rw (← e) (t.ascending i (omega arith)))

  module _ (a z : ℕ) (p : WalkPlace row used a z) where
    pub in_next : At row used z a → WalkPlace row used (a + 1) (z + 1)
    in_next h =
        record {
          most = omega (arith, h.0);
          below = below_more (λ j. get_or row j 0 < a + 1) z (λ j k. let w = p.below j k in omega arith) (let e = h.1 in omega arith);
          above = λ k. let w = t.ascending z k in let e = h.1 in omega arith;
        }

    pub out_next : (At row used z a → ⊥) → WalkPlace row used (a + 1) z
    out_next d =
        record {
          most = p.most;
          below = λ j k. let w = p.below j k in omega arith;
          above = λ k. let w = p.above k in differs (get_or row z 0) w (λ e. d (k, e));
        }
      where
        differs : (x : ℕ) → a ≤ x → (x ≡ a → ⊥) → a + 1 ≤ x
        differs x h d = omega arith

    pub out : (At row used z a → ⊥) → NotIn row used a
    out d j h = go (ltb j z) refl (eqb j z) refl
      where
        go : (q : Bool) → ltb j z ≡ q → (s : Bool) → eqb j z ≡ s → ⊥
        go true e s f = let w = p.below j (ltb-true j z e) in let v = h.1 in omega arith
        go false e true f = let o = eqb-true j z f in d (rw o at h)
        go false e false f =
            let g = ltb-false j z e in
            let l : z < j = other j z g (eqb-false j z f) in
            let w = up z j l h.0 in
            let v = p.above (omega (arith, h.0)) in
            let x = h.1 in
            omega arith
          where
            other : (j z : ℕ) → z ≤ j → (j ≡ z → ⊥) → z < j
            other j z g d = omega arith

-- what has been compared once the address is a
pub record Gone (h : Head) (ks : List ℕ) (t : TableRows) (count : ℕ → ℕ) (a z q : ℕ) : Type 0 where
  pub zplace : WalkPlace t.zct h.zct a z
  pub qplace : WalkPlace t.mrt h.mrt a q
  pub most : a ≤ h.sizes.n
  pub zmost : z ≤ h.zct
  pub qmost : q ≤ h.mrt
  pub apart : (i : ℕ) → i < z → (j : ℕ) → j < q → get_or t.zct i 0 ≡ get_or t.mrt j 0 → ⊥
  pub one : (b : ℕ) → b < a → Live h.sizes.n ks b → NotIn t.zct h.zct b → NotIn t.mrt h.mrt b → count b ≡ 1
  pub none : (j : ℕ) → j < z → count (get_or t.zct j 0) ≡ 0
  pub exact : (j : ℕ) → j < q → get_or t.counts j 0 < h.sizes.cap → count (get_or t.mrt j 0) ≡ get_or t.counts j 0

module _ (h : Head) (ks : List ℕ) (t : TableRows) (count : ℕ → ℕ) where
  -- a is ZCT's next cell, MRT's next cell
  abbrev pub InZct : ℕ → ℕ → Type 0
  InZct a z = At t.zct h.zct z a

  abbrev pub InMrt : ℕ → ℕ → Type 0
  InMrt a q = At t.mrt h.mrt q a

  module _ (T : TablesSound h ks t) (a z q : ℕ) (g : Gone h ks t count a z q) where
    abbrev zct_in : InZct a z → WalkPlace t.zct h.zct (a + 1) (z + 1)
    zct_in = in_next h.sizes.n ks t.zct h.zct T.zct_row a z g.zplace

    abbrev zct_out : (InZct a z → ⊥) → WalkPlace t.zct h.zct (a + 1) z
    zct_out = out_next h.sizes.n ks t.zct h.zct T.zct_row a z g.zplace

    abbrev mrt_in : InMrt a q → WalkPlace t.mrt h.mrt (a + 1) (q + 1)
    mrt_in = in_next h.sizes.n ks t.mrt h.mrt T.mrt_row a q g.qplace

    abbrev mrt_out : (InMrt a q → ⊥) → WalkPlace t.mrt h.mrt (a + 1) q
    mrt_out = out_next h.sizes.n ks t.mrt h.mrt T.mrt_row a q g.qplace

    abbrev One : ℕ → Type 0
    One b = Live h.sizes.n ks b → NotIn t.zct h.zct b → NotIn t.mrt h.mrt b → count b ≡ 1

    pub turn-zct : a < h.sizes.n → InZct a z → (InMrt a q → ⊥) → count a ≡ 0 → Gone h ks t count (a + 1) (z + 1) q
    turn-zct l i d e =
        record {
          zplace = zct_in i;
          qplace = mrt_out d;
          most = omega arith;
          zmost = omega (arith, i.0);
          qmost = g.qmost;
          apart = below_more (λ i. (j : ℕ) → j < q → get_or t.zct i 0 ≡ get_or t.mrt j 0 → ⊥) z g.apart (λ j k s. let w = g.qplace.below j k in let v = i.1 in omega arith);
          one = below_more One a g.one (λ l o m. absurd (o z i));
          none = below_more (λ j. count (get_or t.zct j 0) ≡ 0) z g.none (rw i.1 e);
          exact = g.exact;
        }

    pub turn-mrt : a < h.sizes.n → (InZct a z → ⊥) → InMrt a q → (get_or t.counts q 0 < h.sizes.cap → count a ≡ get_or t.counts q 0) → Gone h ks t count (a + 1) z (q + 1)
    turn-mrt l d i e =
        record {
          zplace = zct_out d;
          qplace = mrt_in i;
          most = omega arith;
          zmost = g.zmost;
          qmost = omega (arith, i.0);
          apart = λ x k. below_more (λ j. get_or t.zct x 0 ≡ get_or t.mrt j 0 → ⊥) q (g.apart x k) (λ s. let w = g.zplace.below x k in let v = i.1 in omega arith);
          one = below_more One a g.one (λ l o m. absurd (m q i));
          none = g.none;
          exact = below_more (λ j. get_or t.counts j 0 < h.sizes.cap → count (get_or t.mrt j 0) ≡ get_or t.counts j 0) q g.exact (rw i.1 e);
        }

    pub turn_one : a < h.sizes.n → (InZct a z → ⊥) → (InMrt a q → ⊥) → ((mark ks a ≡ 3 → ⊥) → count a ≡ 1) → Gone h ks t count (a + 1) z q
    turn_one l d i e =
        record {
          zplace = zct_out d;
          qplace = mrt_out i;
          most = omega arith;
          zmost = g.zmost;
          qmost = g.qmost;
          apart = g.apart;
          one = below_more One a g.one (λ l o m. e l.used);
          none = g.none;
          exact = g.exact;
        }

    pub lonely : a < h.sizes.n → (InZct a z → ⊥) → (InMrt a q → ⊥) → (((mark ks a ≡ 3 → ⊥) → count a ≡ 1) → ⊥) → Agree h ks t count → ⊥
    lonely l d i k A =
        let no-zct = out h.sizes.n ks t.zct h.zct T.zct_row a z g.zplace d in
        let no-mrt = out h.sizes.n ks t.mrt h.mrt T.mrt_row a q g.qplace i in
        k (λ u. A.one a (record { cell = l; used = u }) no-zct no-mrt)
