-- Laws of the free list: a path is followed one cell on, and any whole list goes on from where a walk has come. Assumes nothing.
use Prim.Native.Nat.{ℕ, zero, suc, ◌+◌, ◌*◌, ◌<◌, ◌≤◌}
use mathlib.Core.Path.{◌≡◌, refl, sym, ap, ◌∙◌}
use mathlib.Core.Logic.{◌⊎◌, inl, inr, ⊎_elim}
use mathlib.Core.Bool.{Bool, true, false}
use mathlib.Core.List.{List, [], ◌∷◌, ◌++◌, append-nil}
use native.Mathlib.Omega.{arith}
use lib.Dec.{eqb}
use lib.IntN.{ℤ, pos}
use lib.ListN.{length, get_or, set, length-set}
use lib.Seq.{get_or-set_same, get_or-set_other, ext_get_or}
use borrow.Author.Tests.{eqb-true, eqb-false}
use Rattle.rules.specs.Field.{address_of}
use Rattle.rules.specs.Sound.{mark, next, FreePath, times, FreeList}
use Rattle.rules.proofs.Tables.{eqb_self}
use Rattle.checks.specs.Walk.{Met, Stopped, Walked, AllMet, zeros}

times-append : (b : ℕ) (l m : List ℕ) → times b (l ++ m) ≡ times b l + times b m
times-append b [] m = omega arith
times-append b (x ∷ l) m = let e = times-append b l m in omega arith

pub zeros-less : (l : List ℕ) (i : ℕ) → i < length l → get_or l i 0 ≡ 0 → zeros (set l i 1) < zeros l
zeros-less [] i h e = absurd (omega arith)
zeros-less (x ∷ l) zero h e = rw e (omega arith)
zeros-less (x ∷ l) (suc i) h e = let r = zeros-less l i (omega arith) e in omega arith

module _ (n : ℕ) (ks : List ℕ) (vs : List ℤ) where
  on : (from : ℕ) (l : List ℕ) (at : ℕ) → FreePath n ks vs from l at → at < n → mark ks at ≡ 3 → FreePath n ks vs from (l ++ at ∷ []) (next n vs at)
  on from [] at c h m = rw c (refl, (h, (m, refl)))
  on from (x ∷ l) at c h m = (c.0, (c.1.0, (c.1.1.0, on (next n vs from) l at c.1.1.1 h m)))

  -- a list to n goes on from where a walk has come
  rest : (from : ℕ) (l : List ℕ) (at : ℕ) (m : List ℕ) → FreePath n ks vs from l at → FreePath n ks vs from m n → (r : List ℕ) × ((m ≡ l ++ r) × FreePath n ks vs at r n)
  rest from [] at m c d = (m, (refl, rw c at d))
  rest from (x ∷ l) at [] c d = absurd (let h = c.1.0 in omega arith)
  rest from (x ∷ l) at (y ∷ m) c d =
      let r = rest (next n vs from) l at m c.1.1.1 d.1.1.1 in
      (r.0, (rw (c.0, d.0) (ap (λ (t : List ℕ). from ∷ t) r.1.0), r.1.1))

  -- of two walks from one address one goes on from where the other has come
  along : (from : ℕ) (l : List ℕ) (at : ℕ) (m : List ℕ) (to : ℕ) → FreePath n ks vs from l at → FreePath n ks vs from m to
      → ((r : List ℕ) × ((m ≡ l ++ r) × FreePath n ks vs at r to)) ⊎ ((r : List ℕ) × ((l ≡ m ++ r) × FreePath n ks vs to r at))
  along from [] at m to c d = inl (m, (refl, rw c at d))
  along from (x ∷ l) at [] to c d = inr (x ∷ l, (refl, rw d at c))
  along from (x ∷ l) at (y ∷ m) to c d =
      ⊎_elim
      (λ q. inl (q.0, (rw (c.0, d.0) (ap (λ (t : List ℕ). from ∷ t) q.1.0), q.1.1)))
      (λ q. inr (q.0, (rw (c.0, d.0) (ap (λ (t : List ℕ). from ∷ t) q.1.0), q.1.1)))
      (along (next n vs from) l at m to c.1.1.1 d.1.1.1)

  module _ (first : ℕ) where
    pub turn : (at : ℕ) (work : List ℕ) → Met n ks vs first at work → at < n → mark ks at ≡ 3 → get_or work at 0 ≡ 0 → Met n ks vs first (next n vs at) (set work at 1)
    turn at work m h k z =
        record {
          list = m.list ++ at ∷ [];
          path = on first m.list at m.path h k;
          marks = λ b. go b (eqb b at) refl;
          single = λ b. less b (eqb b at) refl;
          long = simp length-set m.long;
        }
      where
        go : (b : ℕ) (q : Bool) → eqb b at ≡ q → get_or (set work at 1) b 0 ≡ times b (m.list ++ at ∷ [])
        go b true e =
            rw (eqb-true b at e, get_or-set_same work at 1 0 (omega (arith, m.long)), times-append at m.list (at ∷ []), eqb_self at)
            (omega (arith, m.marks at))
        go b false e = rw (get_or-set_other work at b 1 0 (eqb-false b at e), times-append b m.list (at ∷ []), e) (omega (arith, m.marks b))

        less : (b : ℕ) (q : Bool) → eqb b at ≡ q → times b (m.list ++ at ∷ []) ≤ 1
        less b true e = rw (eqb-true b at e, times-append at m.list (at ∷ []), eqb_self at) (omega (arith, m.marks at))
        less b false e = rw (times-append b m.list (at ∷ []), e) (omega (arith, m.single b))

    module _ (at : ℕ) (work : List ℕ) (m : Met n ks vs first at work) (F : FreeList n ks vs first) where
      R : (r : List ℕ) × ((F.list ≡ m.list ++ r) × FreePath n ks vs at r n)
      R = rest first m.list at F.list m.path F.path

      -- a walk that stands at a cell goes on by it
      stands : (r : List ℕ) → FreePath n ks vs at r n → (at ≡ n → ⊥) → (at < n) × ((mark ks at ≡ 3) × (1 ≤ times at r))
      stands [] c d = absurd (d c)
      stands (x ∷ r) c d = (c.1.0, (c.1.1.0, rw (c.0, eqb_self at) (omega arith)))

      -- one that cannot go on there has come to n
      stuck : Stopped n ks at work → (at ≡ n → ⊥) → ⊥
      stuck k d =
          let s = stands R.0 R.1.1 d in
          let o = rw (R.1.0, times-append at m.list R.0) at (F.once at s.0 s.1.0) in
          let w = m.marks at in
          let z : times at m.list ≡ 0 = omega (arith, s.1.1) in
          k s.0 s.1.0 (w ∙ z)

    pub met-frees : (work : List ℕ) → Met n ks vs first n work → AllMet n ks work → FreeList n ks vs first
    met-frees work m a = record { list = m.list; path = m.path; once = λ b h k. let d = a b h k in one (times b m.list) (m.single b) (λ z. d (m.marks b ∙ z)) }
      where
        one : (t : ℕ) → t ≤ 1 → (t ≡ 0 → ⊥) → t ≡ 1
        one zero h d = absurd (d refl)
        one (suc zero) h d = refl
        one (suc (suc t)) h d = absurd (omega arith)

    pub frees-met : (work : List ℕ) → Met n ks vs first n work → FreeList n ks vs first → AllMet n ks work
    frees-met work m F b h k z =
        let r = rest first m.list n F.list m.path F.path in
        let o = rw (r.1.0, times-append b m.list r.0) at (F.once b h k) in
        let t = ended r.0 r.1.1 in
        let w = m.marks b in
        omega arith
      where
        ended : (r : List ℕ) → FreePath n ks vs n r n → times b r ≡ 0
        ended [] c = refl
        ended (x ∷ r) c = absurd (let q = c.1.0 in omega arith)

    -- the next address was read through its bits
    pub turned : (at : ℕ) (work : List ℕ) → Met n ks vs first at work → at < n → mark ks at ≡ 3 → get_or work at 0 ≡ 0
        → (y : ℤ) → y ≡ get_or vs (2 * at) (pos 0) → (t : ℕ) → t ≡ address_of (n + 1) y → Met n ks vs first t (set work at 1)
    turned at work m h k z y b t e = rw (e, b) (turn at work m h k z)

    -- ---- for callers: what a walk's answer says of the free list

    pub came : {r : Bool} {work : List ℕ} → Walked r n ks vs first work → r ≡ true → Met n ks vs first n work
    came W e = rw (W.answer.yes e) at W.met

    pub no-list : {r : Bool} {work : List ℕ} → Walked r n ks vs first work → r ≡ false → FreeList n ks vs first → ⊥
    no-list {work = work} W e F = stuck W.to work W.met F W.stopped (W.answer.no e)

    -- ---- a walk leaves one row

    -- one that cannot go on is as long as any
    longest : {at to : ℕ} {work work' : List ℕ} (m : Met n ks vs first at work) → Stopped n ks at work → (k : Met n ks vs first to work') (r : List ℕ)
        → k.list ≡ m.list ++ r → FreePath n ks vs at r to → k.list ≡ m.list
    longest m s k [] e c = e ∙ append-nil m.list
    longest {at} m s k (x ∷ r) e c =
        let o = rw (e, times-append at m.list (x ∷ r), c.0, eqb_self at) at (k.single at) in
        let w = m.marks at in
        absurd (s c.1.0 c.1.1.0 (omega arith))

    pub walked_unique : {r r' : Bool} {work work' : List ℕ} → Walked r n ks vs first work → Walked r' n ks vs first work' → work ≡ work'
    walked_unique {work = work} {work' = work'} W X =
        ext_get_or 0 work work' (W.met.long ∙ sym X.met.long) (λ i h. W.met.marks i ∙ ap (times i) lists ∙ sym (X.met.marks i))
      where
        lists : W.met.list ≡ X.met.list
        lists =
            ⊎_elim
            (λ q. sym (longest W.met W.stopped X.met q.0 q.1.0 q.1.1))
            (λ q. longest X.met X.stopped W.met q.0 q.1.0 q.1.1)
            (along first W.met.list W.to X.met.list X.to W.met.path X.met.path)
