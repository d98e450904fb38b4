-- The rows of a heap that keeps the invariant are that heap, and rows that are a heap are those written down for it. Assumes nothing.
use Prim.Native.Nat.{ℕ, zero, suc, ◌+◌, ◌*◌, ◌-◌, ◌≤◌, ◌<◌}
use mathlib.Core.Path.{◌≡◌, refl, sym, ap, ◌∙◌}
use mathlib.Core.Bool.{Bool, true, false, cond}
use mathlib.Core.Option.{none, some}
use mathlib.Core.List.{List, [], ◌∷◌}
use native.Mathlib.Omega.{arith}
use lib.Dec.{eqb}
use lib.ListN.{length, get_or, replicate, length-map, length-replicate, get_or-append}
use lib.IntN.{ℤ}
use borrow.Author.Tests.{eqb-true}
use Rattle.rules.specs.declared.Head.{Head}
use Rattle.rules.specs.declared.State.{State}
use Rattle.rules.specs.declared.Field.{Field}
use Rattle.rules.specs.declared.Field.TheVariants.{Nothing, Figure, Cell, Free}
use Rattle.rules.specs.declared.Sizes.{Sizes}
use Rattle.rules.specs.Table.{addresses, counts, pad}
use Rattle.rules.specs.Heap.{Transaction, allocates, creates, destroys, Heap, place, field}
use Rattle.rules.specs.Rows.{Lent, lent, words, rows_of, head_of, heap_of}
use Rattle.rules.specs.Refusals.{cleared}
use Rattle.rules.specs.Whole.{Inside, Logged, Whole, start_of}
use Rattle.rules.specs.Sound.{times, Sound, Sized}
use Rattle.rules.specs.Invariant.{live, Chain, Small, Inv}
use Rattle.rules.proofs.Cells.{live_below, free_dead}
use Rattle.rules.specs.Head.{Limits}
use Rattle.rules.proofs.Calls.{holds-var}
use Rattle.rules.proofs.Positions.{Half, half, some-refs}
use Rattle.rules.proofs.Roundtrip.{length-pad, length-words, mark-there, chain-within, first-within, zct_fits, addresses-fit, counts-fit, head-of-heap, rows-of-heap}

-- ---- what fields and variables name is inside

-- the address after a cell of the free list
chain_next : (fs : List Field) (n : ℕ) → length fs ≡ 2 * n → (from : ℕ) (l : List ℕ) → Chain fs n from l → (a b : ℕ) → 1 ≤ times a l → field fs a 0 ≡ Free b → b ≤ n
chain_next fs n e from [] c a b t f = absurd (omega arith)
chain_next fs n e from (x ∷ l) c a b t f = go (eqb a x) refl t (λ k. chain_next fs n e c.1.0 l c.1.3 a b k f)
  where
    go : (q : Bool) → eqb a x ≡ q → 1 ≤ cond q 1 0 + times a l → (1 ≤ times a l → b ≤ n) → b ≤ n
    go true d t ih =
        let g : a ≡ from = eqb-true a x d ∙ c.0 in
        let f' : field fs from 0 ≡ Free b = rw g at f in
        let k = c.1.1 in
        let same : c.1.0 ≡ b = cc in
        let w = chain-within fs n e c.1.0 l c.1.3 in
        omega arith
    go false d t ih = ih (omega arith)

module _ {s : Sizes} {h : Heap} (I : Inv s h) where
  -- a pointer names a cell in use
  pub cell-inside : (i b : ℕ) → get_or h.shape.fields i Nothing ≡ Cell b → b < s.n
  cell-inside i b e = go (live h.shape.fields b) refl
    where
      go : (q : Bool) → live h.shape.fields b ≡ q → b < s.n
      go true d = live_below s.n h.shape.fields I.good.len b d
      go false d = absurd (let k = ((I.good.counted b).gone d).1 in let r = some-refs h.shape.fields i b e in omega arith)

  -- the mark of a free cell names the next of the free list
  pub mark-inside : (i b : ℕ) → get_or h.shape.fields i Nothing ≡ Free b → b ≤ s.n
  unfolding field place
  mark-inside i b e = go g.part refl g.small
    where
      g : Half i
      g = half i

      go : (f : ℕ) → g.part ≡ f → f < 2 → b ≤ s.n
      go zero d l =
          let is0 = g.is in
          let w : i ≡ 2 * g.cell + 0 = omega arith in
          let e' : get_or h.shape.fields (2 * g.cell + 0) Nothing ≡ Free b = rw w at e in
          let t = mark-there h.shape.fields (2 * g.cell + 0) b e' in
          let z = I.good.len in
          let o = I.frees.once g.cell (omega arith) in
          let k = rw (free_dead h.shape.fields g.cell b e') at o in
          chain_next h.shape.fields s.n z h.first I.frees.list I.frees.chain g.cell b (omega arith) e'
      go (suc zero) d l =
          let is1 = g.is in
          let w : i ≡ 2 * g.cell + 1 = omega arith in
          absurd (I.plain_1 g.cell b (rw w at e))
      go (suc (suc f)) d l = absurd (omega arith)

  pub inside : (i : ℕ) → Inside s.n (get_or h.shape.fields i Nothing)
  inside i = go (get_or h.shape.fields i Nothing) refl
    where
      go : (f : Field) → get_or h.shape.fields i Nothing ≡ f → Inside s.n f
      go Nothing e = tt
      go (Figure x) e = tt
      go (Cell b) e = cell-inside i b e
      go (Free b) e = mark-inside i b e

  pub held_inside : (v a : ℕ) → get_or h.shape.variables v none ≡ some a → a < s.n
  held_inside v a e = live_below s.n h.shape.fields I.good.len a (I.good.held a (holds-var h.shape.variables v a e))

-- ---- the log's row

pub twice : (i : ℕ) → 2 * suc i + 1 ≡ suc (suc (2 * i + 1))
twice i = omega arith

words_small : (n : ℕ) (xs : List Transaction) → Small n xs → (i : ℕ) → i < length xs → get_or (words xs) (2 * i + 1) 0 < n
words_small n [] S i l = absurd (omega arith)
words_small n (allocates a ∷ xs) S zero l = S.0
words_small n (creates a ∷ xs) S zero l = S.0
words_small n (destroys a ∷ xs) S zero l = S.0
words_small n (allocates a ∷ xs) S (suc i) l = rw (twice i) (words_small n xs S.1 i (omega arith))
words_small n (creates a ∷ xs) S (suc i) l = rw (twice i) (words_small n xs S.1 i (omega arith))
words_small n (destroys a ∷ xs) S (suc i) l = rw (twice i) (words_small n xs S.1 i (omega arith))

pub logged-of : (n k : ℕ) (xs : List Transaction) → length xs ≤ k → Small n xs → Logged n (pad (2 * k) (words xs)) (length xs) xs
logged-of n k xs h S =
    let w = length-words xs in
    let long : length (pad (2 * k) (words xs)) ≡ 2 * k = length-pad (2 * k) (words xs) (omega arith) in
    record {
      count = refl;
      fits = omega arith;
      row = sym (ap (λ (m : ℕ). pad m (words xs)) long);
      small = λ i l. rw (get_or-append (words xs) (replicate (2 * k - length (words xs)) 0) 0 (2 * i + 1) (omega arith)) (words_small n xs S i l);
    }

-- ---- the whole

-- where a batch stands on a heap
abbrev pub state_of : Heap → State
state_of h =
    record {
      len = length h.log;
      first = h.first;
      used = record { zct = length h.tables.zct; mrt = length h.tables.mrt };
      freed = h.freed;
    }

pub whole_of : {s : Sizes} {h : Heap} → Limits s → Inv s h → Whole s (rows_of s h) (state_of h) h
unfolding rows_of
whole_of {s} {h} F I =
    let w = length-words h.log in
    let k = I.log_room in
    record {
      limits = F;
      rows =
          record {
            most = F.n_most;
            big = F.cap_least;
            cells = record { long = I.good.len; kinds = refl; values = refl; inside = inside I };
            ready =
                record {
                  are =
                      record {
                        zct_is = record { long = length-pad s.n h.tables.zct (zct_fits I); count = refl; padded = refl };
                        mrt_is =
                            record {
                              long = length-pad s.n (addresses h.tables.mrt) (addresses-fit I);
                              count = sym (length-map h.tables.mrt _);
                              padded = refl;
                            };
                        counts_is =
                            record {
                              long = length-pad s.n (counts h.tables.mrt) (counts-fit I);
                              count = sym (length-map h.tables.mrt _);
                              padded = refl;
                            };
                      };
                  kept = I.kept;
                };
            first = refl;
            within = first-within I;
            freed = refl;
          };
      logged = logged-of s.n s.l h.log I.log_room I.log_small;
      log_long = length-pad (2 * s.l) (words h.log) (omega arith);
      variables_are = refl;
      held_inside = held_inside I;
      work_long = length-replicate s.n 0;
    }

start_at : {h : Head} {r : Lent} → Sized h r → state_of (heap_of h r) ≡ start_of h
unfolding head_of heap_of
start_at Z = ap start_of (head-of-heap Z)

-- the rows of a sound heap, the work row cleared, are the heap that is read from them
pub whole-at : {h : Head} {r : Lent} → Sized h r → Sound h r → Inv h.sizes (heap_of h r) → Whole h.sizes (cleared h r) (start_of h) (heap_of h r)
whole-at {h} {r} Z S I = rw (rows-of-heap Z S, start_at Z) at (whole_of Z.within.limits I)

-- ---- and the converse, for an entry point's exit

pub lent_as : {ks ks' : List ℕ} {xs xs' vs vs' : List ℤ} {zs zs' ms ms' cs cs' ls ls' ws ws' : List ℕ}
    → ks ≡ ks' → xs ≡ xs' → vs ≡ vs' → zs ≡ zs' → ms ≡ ms' → cs ≡ cs' → ls ≡ ls' → ws ≡ ws'
    → lent ks xs vs zs ms cs ls ws ≡ lent ks' xs' vs' zs' ms' cs' ls' ws'
lent_as ek ex ev ez em ec el ew = rw (ek, ex, ev, ez, em, ec, el, ew)

module _ {s : Sizes} {r : Lent} {at : State} {h : Heap} (W : Whole s r at h) where
  -- rows whose work row is zero are those of the heap
  pub rows_all : r.work ≡ replicate s.n 0 → r ≡ rows_of s h
  unfolding rows_of
  rows_all w =
      let R = W.rows in
      let A = R.ready.are in
      let g : r.log ≡ pad (2 * s.l) (words h.log) = W.logged.row ∙ ap (λ (m : ℕ). pad m (words h.log)) W.log_long in
      lent_as R.cells.kinds R.cells.values W.variables_are A.zct_is.padded A.mrt_is.padded A.counts_is.padded g w

  -- and the head
  pub head-is : record { sizes = s; free = at.first; zct = at.used.zct; mrt = at.used.mrt } ≡ head_of s h
  unfolding head_of
  head-is =
      let A = W.rows.ready.are in
      rw (W.rows.first, A.zct_is.count, A.mrt_is.count ∙ length-map h.tables.mrt _)
