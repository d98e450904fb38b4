-- A heap whose invariant holds at a batch's end has sound rows, and a heap with sound rows has the invariant. Assumes nothing.
use Prim.Native.Nat.{ℕ, zero, suc, ◌+◌, ◌*◌, ◌<◌, ◌≤◌}
use mathlib.Core.Path.{◌≡◌, refl, sym, ap, ◌∙◌, subst}
use mathlib.Core.Logic.{◌⊎◌, inl, inr}
use mathlib.Core.Bool.{Bool, true, false, cond, true≢false, false≢true}
use mathlib.Core.Option.{Option, none, some}
use mathlib.Core.List.{List, [], map}
use native.Mathlib.Omega.{arith}
use native.Mathlib.Numerals.{add-one}
use lib.Dec.{ltb}
use lib.IntN.{pos, negsuc}
use lib.ListN.{length, get_or, length-map}
use borrow.Author.Tests.{ltb-true, ltb-false}
use Rattle.rules.specs.declared.Field.{Field}
use Rattle.rules.specs.declared.Field.TheVariants.{Nothing, Figure, Cell, Free}
use Rattle.rules.specs.declared.Sizes.{Sizes}
use Rattle.rules.specs.Field.{kind_of, value_of, variable_of, address_of}
use Rattle.rules.specs.Table.{Entry, has, count_in, addresses, counts, pad, Ascending}
use Rattle.rules.specs.Rules.{replay}
use Rattle.rules.specs.Heap.{Heap, place, field}
use Rattle.rules.specs.Settle.{holds, pick}
use Rattle.rules.specs.Head.{Limits}
use Rattle.rules.specs.Rows.{rows_of, head_of}
use Rattle.rules.specs.Whole.{Kept}
use Rattle.rules.specs.Sound.{Live, Mark, Word, Words, Variables, TableRow, TablesSound, NotIn, ZctHeld, kind, word, mark, pointers, held_among, times, FreeList, Sound}
use Rattle.rules.specs.Invariant.{refs, live, view, count_of, ok_of, Counted, Good, Frees, Fitting, Inv, Done, Ended}
use Rattle.rules.proofs.Reclaim.{pick_some, pick-none}
use Rattle.rules.proofs.Cells.{free_dead}
use Rattle.rules.proofs.Positions.{has-at, at_has, not-has, all_at, at_all, up_at, at_up, count_at, at_count, not-counted, pad-at, pad-zero, refs-pointers, holds-held, holds_at, at-holds, kind_at, kind-nothing, inside, live_at, at-live, dead_at, chain-path, path-chain, off_path, on_chain, word_of, of_word, half, no-refs, some-refs}

-- what the rows of a heap do not say: how long its lists are, and that its log is empty
pub record Plain (s : Sizes) (h : Heap) : Type 0 where
  pub fields_long : length h.shape.fields ≡ 2 * s.n
  pub variables_long : length h.shape.variables ≡ s.m
  pub log_none : h.log ≡ []

-- ---- at one address, by values: in ZCT or not, the count in MRT, the pointers, in use or not

module _ (cap : ℕ) (cap3 : 3 ≤ cap) where
  record At (z : Bool) (m r : ℕ) (lv : Bool) : Type 0 where
    zl : z ≡ true → (lv ≡ true) × (m ≡ 0) × (r ≡ 0)
    ml : 1 ≤ m → (lv ≡ true) × (2 ≤ m) × (m ≤ cap) × (m < cap → r ≡ m)
    on : lv ≡ true → z ≡ false → m ≡ 0 → r ≡ 1

  -- the same as `Counted` says it
  abbrev Known : Bool → ℕ → ℕ → Bool → Type 0
  Known z m r lv = (ok_of cap z m) × (lv ≡ true → (count_of z m ≡ cap) ⊎ (count_of z m ≡ r)) × (lv ≡ false → (z ≡ false) × (m ≡ 0) × (r ≡ 0))

  either : (c r : ℕ) → c < cap → (c ≡ cap) ⊎ (c ≡ r) → c ≡ r
  either c r h (inl e) = absurd (omega arith)
  either c r h (inr e) = e

  at_known : (z : Bool) (m r : ℕ) (lv : Bool) → Known z m r lv → At z m r lv
  at_known true zero r true k = record { zl = λ e. (refl, refl, sym (either 0 r (omega arith) (k.1 refl))); ml = λ h. absurd (omega arith); on = λ l e. absurd (true≢false e) }
  at_known true (suc m) r true k = absurd k.0
  at_known false zero r true k = record { zl = λ e. absurd (false≢true e); ml = λ h. absurd (omega arith); on = λ l e n. sym (either 1 r (omega arith) (k.1 refl)) }
  at_known false (suc m) r true k =
      record {
        zl = λ e. absurd (false≢true e);
        ml = λ h. (refl, omega (arith, k.0), omega (arith, k.0), λ h. let q = either (suc m) r (omega arith) (k.1 refl) in omega arith);
        on = λ l e n. absurd (omega arith);
      }
  at_known z m r false k =
      let q = k.2 refl in
      record { zl = λ e. absurd (false≢true (sym q.0 ∙ e)); ml = λ h. absurd (omega (arith, q.1)); on = λ l. absurd (false≢true l) }

  known_at : (z : Bool) (m r : ℕ) (lv : Bool) → At z m r lv → (lv ≡ false → r ≡ 0) → Known z m r lv
  known_at true zero r true a d = (tt, λ l. inr (sym (a.zl refl).2), λ l. absurd (true≢false l))
  known_at true (suc m) r true a d = absurd (omega (arith, (a.zl refl).1))
  known_at false zero r true a d = (tt, λ l. inr (sym (a.on refl refl refl)), λ l. absurd (true≢false l))
  known_at false (suc m) r true a d = let q = a.ml (omega arith) in ((omega (arith, q.1), q.2), λ l. go (ltb (suc m) cap) refl q.2 q.3, λ l. absurd (true≢false l))
    where
      go : (p : Bool) → ltb (suc m) cap ≡ p → suc m ≤ cap → (suc m < cap → r ≡ suc m) → (suc m ≡ cap) ⊎ (suc m ≡ r)
      go true e h k = inr (sym (k (ltb-true (suc m) cap e)))
      go false e h k = let i = ltb-false (suc m) cap e in inl (omega arith)
  known_at true m r false a d = absurd (false≢true (a.zl refl).0)
  known_at false zero r false a d = (tt, λ l. absurd (false≢true l), λ l. (refl, refl, d refl))
  known_at false (suc m) r false a d = absurd (false≢true (a.ml (omega arith)).0)

row_of : (n : ℕ) (ks z : List ℕ) (u : ℕ) → u ≡ length z → Ascending z → ((j : ℕ) → j < length z → Live n ks (get_or z j 0)) → TableRow n ks (pad n z) u
row_of n ks z u e a l =
    record {
      ascending = λ j h. rw (add-one j, pad-at n z j (omega arith), pad-at n z (suc j) (omega arith)) (up_at z a j (omega arith));
      live = λ j h. rw (pad-at n z j (omega arith)) (l j (omega arith));
      zeros = λ j h. pad-zero n z j (omega arith);
    }

module _ (s : Sizes) (ok : Limits s) (h : Heap) where
  abbrev fs : List Field
  fs = h.shape.fields

  abbrev vs : List (Option ℕ)
  vs = h.shape.variables

  abbrev z : List ℕ
  z = h.tables.zct

  abbrev m : List Entry
  m = h.tables.mrt

  abbrev first : ℕ
  first = h.first

  mrt-pad : (j : ℕ) → j < length m → get_or (pad s.n (addresses m)) j 0 ≡ get_or (addresses m) j 0
  mrt-pad j h = pad-at s.n (addresses m) j (simp length-map (omega arith))

  counts-pad : (j : ℕ) → j < length m → get_or (pad s.n (counts m)) j 0 ≡ get_or (counts m) j 0
  counts-pad j h = pad-at s.n (counts m) j (simp length-map (omega arith))

  -- ---- from the invariant to the rows

  module _ (ended : Ended s h) where
    abbrev inv : Inv s h
    inv = ended.inv

    good : Good s.n s.cap fs vs h.tables
    unfolding replay
    good = subst (λ l. Good s.n s.cap fs vs (replay s.cap l h.tables)) ended.log_empty inv.good

    known : (b : ℕ) → At s.cap ok.cap_least (has b z) (count_in b m) (refs fs b) (live fs b)
    unfolding view
    known b =
        let c = good.counted b in
        at_known s.cap ok.cap_least (has b z) (count_in b m) (refs fs b) (live fs b)
        (c.ok, c.exact, λ l. let q = c.gone l in (ap (λ v. v.0) q.0, ap (λ v. v.1) q.0, q.1))

    pointed : (b : ℕ) → 1 ≤ refs fs b → live fs b ≡ true
    pointed b h = go (live fs b) refl
      where
        go : (q : Bool) → live fs b ≡ q → q ≡ true
        go true e = refl
        go false e = let z = ((good.counted b).gone e).1 in absurd (omega arith)

    mark-at : (a f b : ℕ) → a < s.n → f < 2 → field fs a f ≡ Free b → Mark s.n (map kind_of fs) a f (pos b)
    unfolding field place
    mark-at a zero b h k e =
        let o : times a inv.frees.list ≡ 1 = rw (free_dead fs a b e) at (inv.frees.once a h) in
        let c = on_chain s.n fs good.len first inv.frees.list a b inv.frees.chain (omega arith) e in
        record { first = refl; next = c.0; alone = kind_at fs (2 * a + 1) ∙ ap kind_of c.1 }
    mark-at a (suc zero) b h k e = absurd (inv.plain_1 a b e)
    mark-at a (suc (suc f)) b h k e = absurd (omega arith)

    words_are : Words s.n (map kind_of fs) (map value_of fs)
    unfolding field Word
    words_are a h f k = of_word s.n fs good.len a f (go (field fs a f) refl)
      where
        go : (x : Field) → field fs a f ≡ x → Word s.n (map kind_of fs) a f (kind_of x) (value_of x)
        go Nothing e = refl
        go (Figure x) e = rw e at (inv.figures (place a f))
        go (Cell b) e = live_at s.n fs good.len b (pointed b (some-refs fs (place a f) b e))
        go (Free b) e = mark-at a f b h k e

    variables_are : Variables s.n (map kind_of fs) (map variable_of vs)
    variables_are v h d = go (at-holds vs v (rw length-map at h))
      where
        go : (get_or (map variable_of vs) v (pos 0) ≡ negsuc 0) ⊎ ((b : ℕ) × (get_or (map variable_of vs) v (pos 0) ≡ pos b) × (holds b vs ≡ true)) →
            Live s.n (map kind_of fs) (address_of s.n (get_or (map variable_of vs) v (pos 0)))
        go (inl e) = absurd (d e)
        go (inr p) = rw p.1 (live_at s.n fs good.len p.0 (good.held p.0 p.2))

    count-here : (j : ℕ) → j < length m → count_in (get_or (addresses m) j 0) m ≡ get_or (counts m) j 0
    count-here j h = count_at m inv.kept.mrt_up j h

    ranged-at : (j : ℕ) → j < length m → (2 ≤ get_or (counts m) j 0) × (get_or (counts m) j 0 ≤ s.cap)
    ranged-at j h = all_at (λ c. (2 ≤ c) × (c ≤ s.cap)) (counts m) inv.kept.mrt_counts j (simp length-map (omega arith))

    -- what is known at MRT's place j
    mrt-at : (j : ℕ) → j < length m →
        (live fs (get_or (addresses m) j 0) ≡ true) × (get_or (counts m) j 0 < s.cap → refs fs (get_or (addresses m) j 0) ≡ get_or (counts m) j 0)
    mrt-at j h =
        let e = count-here j h in
        let r = ranged-at j h in
        let k = (known (get_or (addresses m) j 0)).ml (omega arith) in
        (k.0, λ l. k.3 (omega arith) ∙ e)

    tables-are : TablesSound (head_of s h) (map kind_of fs) (rows_of s h).tables
    unfolding head_of rows_of
    tables-are =
        record {
          zct_row =
              row_of s.n (map kind_of fs) z (length z) refl inv.kept.zct_up
              (λ j h. live_at s.n fs good.len (get_or z j 0) ((known (get_or z j 0)).zl (has-at z j h)).0);
          mrt_row =
              row_of s.n (map kind_of fs) (addresses m) (length m) (simp length-map) inv.kept.mrt_up
              (λ j h. live_at s.n fs good.len (get_or (addresses m) j 0) (mrt-at j (rw length-map at h)).0);
          counts_row = record { ranged = λ j h. rw (counts-pad j h) (ranged-at j h); zeros = λ j k. pad-zero s.n (counts m) j (simp length-map k) };
        }

    free_list-is : FreeList s.n (map kind_of fs) (map value_of fs) first
    free_list-is =
        record {
          list = inv.frees.list;
          path = chain-path s.n fs good.len first inv.frees.list inv.frees.chain;
          once = λ b h m. inv.frees.once b h ∙ go b m (live fs b) refl;
        }
      where
        go : (b : ℕ) → mark (map kind_of fs) b ≡ 3 → (q : Bool) → live fs b ≡ q → ◌≡◌ {A = ℕ} (cond q 0 1) 1
        go b m true e = absurd ((live_at s.n fs good.len b e).used m)
        go b m false e = refl

    pointers-are : (b : ℕ) → b < s.n → pointers s.n (map kind_of fs) (map value_of fs) b (2 * s.n) ≡ refs fs b
    pointers-are b h = rw (← good.len) (sym (refs-pointers s.n fs b h))

    apart-is : (i j : ℕ) → i < length z → j < length m → get_or (pad s.n z) i 0 ≡ get_or (pad s.n (addresses m)) j 0 → ⊥
    apart-is i j h k e =
        let o : get_or z i 0 ≡ get_or (addresses m) j 0 = sym (pad-at s.n z i h) ∙ e ∙ mrt-pad j k in
        let z = ((known (get_or z i 0)).zl (has-at z i h)).1 in
        let w : count_in (get_or (addresses m) j 0) m ≡ 0 = rw o at z in
        let c = count-here j k in
        let r = ranged-at j k in
        omega arith

    one-is : (a : ℕ) → Live s.n (map kind_of fs) a → NotIn (pad s.n z) (length z) a → NotIn (pad s.n (addresses m)) (length m) a →
        pointers s.n (map kind_of fs) (map value_of fs) a (2 * s.n) ≡ 1
    one-is a l y d =
        pointers-are a l.cell ∙
        (known a).on (at-live s.n fs good.len a l) (not-has a z (λ j h e. y j (h, pad-at s.n z j h ∙ e)))
        (not-counted a m (λ j h e. d j (h, mrt-pad j h ∙ e)))

    none_is : (j : ℕ) → j < length z → pointers s.n (map kind_of fs) (map value_of fs) (get_or (pad s.n z) j 0) (2 * s.n) ≡ 0
    none_is j h =
        rw (pad-at s.n z j h)
        (pointers-are (get_or z j 0) (all_at (λ y. y < s.n) z inv.kept.zct_below j h) ∙ ((known (get_or z j 0)).zl (has-at z j h)).2)

    held-is : ZctHeld s.n (map variable_of vs) (pad s.n z) (length z)
    held-is j h =
        let b = all_at (λ y. y < s.n) z inv.kept.zct_below j h in
        rw (pad-at s.n z j h, length-map vs variable_of) (sym (holds-held s.n vs (get_or z j 0) b) ∙ pick-none vs z ended.settled_all (get_or z j 0) (has-at z j h))

    exact-is : (j : ℕ) → j < length m → get_or (pad s.n (counts m)) j 0 < s.cap →
        pointers s.n (map kind_of fs) (map value_of fs) (get_or (pad s.n (addresses m)) j 0) (2 * s.n) ≡ get_or (pad s.n (counts m)) j 0
    exact-is j h l =
        let b = all_at (λ y. y < s.n) (addresses m) inv.kept.mrt_below j (simp length-map (omega arith)) in
        let w : get_or (counts m) j 0 < s.cap = rw (counts-pad j h) at l in
        rw (counts-pad j h, mrt-pad j h) (pointers-are (get_or (addresses m) j 0) b ∙ (mrt-at j h).1 w)

    pub ended_sound : Sound (head_of s h) (rows_of s h)
    unfolding head_of rows_of
    ended_sound =
        record {
          cells = record { words = words_are; variables = variables_are };
          tables = tables-are;
          free-list = free_list-is;
          agree = record { apart = apart-is; one = one-is; none = none_is; exact = exact-is };
          held = held-is;
          log_zero = rw ended.log_empty (pad-zero (2 * s.l) []);
        }

  -- ---- from the rows to the invariant

  module _ (plain : Plain s h) (sound : Sound (head_of s h) (rows_of s h)) where
    word-here : (a k : ℕ) → a < s.n → k < 2 → Word s.n (map kind_of fs) a k (kind_of (field fs a k)) (value_of (field fs a k))
    unfolding head_of rows_of
    word-here a k h l = word_of s.n fs plain.fields_long a k (sound.cells.words a h k l)

    plain_here : (a b : ℕ) → field fs a 1 ≡ Free b → ⊥
    unfolding Word
    plain_here a b e =
        let c = inside s.n fs plain.fields_long a 1 (Free b) (omega arith) e (λ o. let w : ◌≡◌ {A = ℕ} 0 1 = cc in omega arith) in
        let w : Mark s.n (map kind_of fs) a 1 (pos b) = rw e at (word-here a 1 c (omega arith)) in
        omega (arith, w.first)

    figures-here : (i : ℕ) → Fitting (get_or fs i Nothing)
    unfolding field place Word
    figures-here i = go (get_or fs i Nothing) refl
      where
        go : (x : Field) → get_or fs i Nothing ≡ x → Fitting x
        go Nothing e = tt
        go (Figure x) e =
            let p = half i in
            let q : field fs p.cell p.part ≡ Figure x = rw p.is at e in
            let c = inside s.n fs plain.fields_long p.cell p.part (Figure x) p.small q (λ o. let w : ◌≡◌ {A = ℕ} 0 1 = cc in omega arith) in
            rw q at (word-here p.cell p.part c p.small)
        go (Cell a) e = tt
        go (Free a) e = tt

    targets : (i b : ℕ) → get_or fs i Nothing ≡ Cell b → live fs b ≡ true
    unfolding field place Word
    targets i b e =
        let p = half i in
        let q : field fs p.cell p.part ≡ Cell b = rw p.is at e in
        let c = inside s.n fs plain.fields_long p.cell p.part (Cell b) p.small q (λ o. let w : ◌≡◌ {A = ℕ} 0 1 = cc in omega arith) in
        at-live s.n fs plain.fields_long b (rw q at (word-here p.cell p.part c p.small))

    unpointed : (b : ℕ) → live fs b ≡ false → refs fs b ≡ 0
    unpointed b l = no-refs fs b (λ i k e. absurd (true≢false (sym (targets i b e) ∙ l)))

    held-live : (b : ℕ) → holds b vs ≡ true → live fs b ≡ true
    unfolding head_of rows_of
    held-live b e =
        let k = holds_at b vs e in
        let l = sound.cells.variables k.index (simp length-map k.within) (λ o. let w : pos b ≡ negsuc 0 = sym k.same ∙ o in let q : ◌≡◌ {A = ℕ} 0 1 = cc in omega arith) in
        at-live s.n fs plain.fields_long b (rw k.same at l)

    zct-live : (j : ℕ) → j < length z → Live s.n (map kind_of fs) (get_or z j 0)
    unfolding head_of rows_of
    zct-live j h = rw (pad-at s.n z j h) at (sound.tables.zct_row.live j h)

    mrt-live : (j : ℕ) → j < length m → Live s.n (map kind_of fs) (get_or (addresses m) j 0)
    unfolding head_of rows_of
    mrt-live j h = rw (mrt-pad j h) at (sound.tables.mrt_row.live j h)

    ranged-here : (j : ℕ) → j < length m → (2 ≤ get_or (counts m) j 0) × (get_or (counts m) j 0 ≤ s.cap)
    unfolding head_of rows_of
    ranged-here j h = rw (counts-pad j h) at (sound.tables.counts_row.ranged j h)

    kept_here : Kept s.n s.cap h.tables
    unfolding head_of rows_of
    kept_here =
        record {
          zct_up = at_up z (λ j k. rw (add-one j, pad-at s.n z j (omega arith), pad-at s.n z (suc j) k) at (sound.tables.zct_row.ascending j (omega arith)));
          zct_below = at_all (λ y. y < s.n) z (λ j k. (zct-live j k).cell);
          mrt_up = at_up (addresses m) (λ j k.
              let w : suc j < length m = rw length-map at k in
              rw (add-one j, mrt-pad j (omega arith), mrt-pad (suc j) w) at (sound.tables.mrt_row.ascending j (omega arith)));
          mrt_below = at_all (λ y. y < s.n) (addresses m) (λ j k. (mrt-live j (rw length-map at k)).cell);
          mrt_counts = at_all (λ c. (2 ≤ c) × (c ≤ s.cap)) (counts m) (λ j k. ranged-here j (rw length-map at k));
        }

    refs-here : (b : ℕ) → b < s.n → refs fs b ≡ pointers s.n (map kind_of fs) (map value_of fs) b (2 * s.n)
    refs-here b k = rw (← plain.fields_long) (refs-pointers s.n fs b k)

    at-zct : (b : ℕ) → has b z ≡ true → (live fs b ≡ true) × (count_in b m ≡ 0) × (refs fs b ≡ 0)
    unfolding head_of rows_of
    at-zct b e =
        let k = at_has b z e in
        let l : Live s.n (map kind_of fs) b = rw k.same at (zct-live k.index k.within) in
        let p : get_or (pad s.n z) k.index 0 ≡ b = pad-at s.n z k.index k.within ∙ k.same in (
          at-live s.n fs plain.fields_long b l,
          not-counted b m (λ j w q. sound.agree.apart k.index j k.within w (p ∙ sym (mrt-pad j w ∙ q))),
          refs-here b l.cell ∙ (rw p at (sound.agree.none k.index k.within)),
        )

    at-mrt : (b c : ℕ) → count_in b m ≡ suc c → (live fs b ≡ true) × (2 ≤ suc c) × (suc c ≤ s.cap) × (suc c < s.cap → refs fs b ≡ suc c)
    unfolding head_of rows_of
    at-mrt b c e =
        let k = at_count b c m e in
        let l : Live s.n (map kind_of fs) b = rw k.same at (mrt-live k.index k.within) in
        let r : (2 ≤ suc c) × (suc c ≤ s.cap) = rw k.beside at (ranged-here k.index k.within) in
        let p : get_or (pad s.n (addresses m)) k.index 0 ≡ b = mrt-pad k.index k.within ∙ k.same in
        let q : get_or (pad s.n (counts m)) k.index 0 ≡ suc c = counts-pad k.index k.within ∙ k.beside in
        (at-live s.n fs plain.fields_long b l, r.0, r.1, λ w. refs-here b l.cell ∙ (rw (p, q) at (sound.agree.exact k.index k.within)) w)

    at_neither : (b : ℕ) → live fs b ≡ true → has b z ≡ false → count_in b m ≡ 0 → refs fs b ≡ 1
    unfolding head_of rows_of
    at_neither b l y c =
        let w = live_at s.n fs plain.fields_long b l in
        refs-here b w.cell ∙
        sound.agree.one b w
        (λ j p. let q : get_or z j 0 ≡ b = sym (pad-at s.n z j p.0) ∙ p.1 in absurd (true≢false (sym (rw q at (has-at z j p.0)) ∙ y)))
        (λ j p.
        let q : get_or (addresses m) j 0 ≡ b = sym (mrt-pad j p.0) ∙ p.1 in
        let t : count_in b m ≡ get_or (counts m) j 0 = rw q at (count_at m kept_here.mrt_up j p.0) in
        let r = ranged-here j p.0 in
        omega arith)

    counted-here : (b : ℕ) → Counted s.cap h.tables (refs fs b) (live fs b) b
    unfolding view
    counted-here b =
        let k = known_at s.cap ok.cap_least (has b z) (count_in b m) (refs fs b) (live fs b) (record { zl = at-zct b; ml = counts-at (count_in b m) refl; on = at_neither b }) (unpointed b) in
        record { ok = k.0; exact = k.1; gone = λ l. let q = k.2 l in ((λ i. (q.0 i, q.1 i)), q.2) }
      where
        counts-at : (c : ℕ) → count_in b m ≡ c → 1 ≤ c → (live fs b ≡ true) × (2 ≤ c) × (c ≤ s.cap) × (c < s.cap → refs fs b ≡ c)
        counts-at zero e k = absurd (omega arith)
        counts-at (suc c) e k = at-mrt b c e

    alone-here : (a : ℕ) → a < s.n → mark (map kind_of fs) a ≡ 3 → field fs a 1 ≡ Nothing
    unfolding head_of rows_of Word field place
    alone-here a k e =
        let o : 2 * a + 0 ≡ 2 * a = omega arith in
        let e' : kind (map kind_of fs) a 0 ≡ 3 = rw o e in
        let w : Mark s.n (map kind_of fs) a 0 (word (map value_of fs) a 0) = rw e' at (sound.cells.words a k 0 (omega arith)) in
        kind-nothing (get_or fs (2 * a + 1) Nothing) (sym (kind_at fs (2 * a + 1)) ∙ w.alone)

    frees-here : Frees s.n fs h.first
    unfolding head_of rows_of
    frees-here =
        let F = sound.free-list in
        record {
          list = F.list;
          chain = path-chain s.n fs plain.fields_long alone-here h.first F.list F.path;
          once = λ b k. go b k (live fs b) refl;
        }
      where
        go : (b : ℕ) → b < s.n → (q : Bool) → live fs b ≡ q → times b sound.free-list.list ≡ cond q 0 1
        go b k true e = off_path s.n fs plain.fields_long h.first sound.free-list.list b sound.free-list.path (live_at s.n fs plain.fields_long b e).used
        go b k false e = sound.free-list.once b k (dead_at s.n fs plain.fields_long b k e)

    done-here : Done vs h
    unfolding head_of rows_of
    done-here = go (pick vs z) refl
      where
        go : (o : Option ℕ) → pick vs z ≡ o → pick vs z ≡ none
        go none e = e
        go (some a) e =
            let p = pick_some vs z a e in
            let k = at_has a z p.0 in
            let q : get_or (pad s.n z) k.index 0 ≡ a = pad-at s.n z k.index k.within ∙ k.same in
            let c : a < s.n = (live_at s.n fs plain.fields_long a (at-zct a p.0).0).cell in
            let w : held_among s.n (map variable_of vs) a (length vs) ≡ true = rw (q, length-map vs variable_of) at (sound.held k.index k.within) in
            absurd (true≢false (sym w ∙ sym (holds-held s.n vs a c) ∙ p.1))

    pub sound_ended : Ended s h
    unfolding replay
    sound_ended =
        record {
          inv =
              record {
                good = rw plain.log_none (record { len = plain.fields_long; counted = counted-here; held = held-live });
                frees = frees-here;
                kept = kept_here;
                plain_1 = plain_here;
                figures = figures-here;
                variables_long = plain.variables_long;
                log_room = rw plain.log_none (omega arith);
                log_small = rw plain.log_none tt;
              };
          settled_all = done-here;
          log_empty = plain.log_none;
        }
