-- Laws of what a call does to the rows: a variable, a field, the first free cell. Assumes nothing.
use mathlib.Core.Path.{◌≡◌, refl, sym, ap, ◌∙◌}
use mathlib.Core.Bool.{Bool, true, false, cond}
use mathlib.Core.Option.{Option, none, some}
use mathlib.Core.List.{List, [], ◌∷◌, ◌++◌, append_assoc}
use Prim.Native.Nat.{ℕ, ◌+◌, ◌*◌, ◌≤◌, ◌<◌}
use native.Mathlib.Omega.{arith}
use borrow.Author.Tests.{le-ltb, eq-eqb, ne_eqb}
use lib.IntN.{ℤ, pos}
use mir.Val.{bool_byte}
use lib.ListN.{length, get_or, set}
use Rattle.rules.specs.declared.Field.{Field}
use Rattle.rules.specs.declared.Field.TheVariants.{Nothing, Figure, Cell, Free}
use Rattle.rules.specs.declared.Deed.{Deed}
use Rattle.rules.specs.declared.Deed.TheVariants.{Copy, Clear, Link, Put, Blank, Follow, Read, Same}
use Rattle.rules.specs.declared.Refusal.TheVariants.{NoneFree}
use Rattle.rules.specs.declared.State.{State}
use Rattle.rules.specs.declared.Sizes.{Sizes}
use Rattle.std.proofs.Common.{Ok, Err}
use Rattle.rules.specs.Field.{address_of, variable_of, field_of, kind_of, value_of, held_of}
use Rattle.rules.specs.Heap.{Transaction, allocates, creates, Shape, Heap, place, field}
use Rattle.rules.specs.Call.{drops, var, at, write, hold, to_cell, target, makes, same_cell, value}
use Rattle.rules.specs.Step.{no_cell_free, do_new, take_cell}
use Rattle.rules.specs.Rows.{CallRows, Lent}
use Rattle.rules.specs.Whole.{Inside, Cells, Logged, Whole}
use Rattle.cells.specs.Leaves.{Near}
use Rattle.cells.specs.Free.{CellTaken}
use Rattle.rules.proofs.Lists.{map-set, set-each}
use Rattle.cells.proofs.Storing.{inside-more, cell-lengths, read, read_inside, stored_at}
use Rattle.cells.proofs.Logging.{logged-same}
use Rattle.before.specs.Seen.{Held, Shown}
use Rattle.calls.specs.Doing.{Did, Does, Wrote, Writes, Writable}
use Rattle.before.proofs.Seeing.{word-is, held-is, held_none}
use Rattle.cells.proofs.Marking.{held_as}

-- ---- what it answers

pub other-value : (d : Deed) (s : Shape) → ((v f : ℕ) → d ≡ Read v f → ⊥) → ((v w : ℕ) → d ≡ Same v w → ⊥) → pos 0 ≡ value d s
unfolding value
other-value (Copy v w) s r q = refl
other-value (Clear v) s r q = refl
other-value (Link v f w) s r q = refl
other-value (Put v f x) s r q = refl
other-value (Blank v f) s r q = refl
other-value (Follow v f w) s r q = refl
other-value (Read v f) s r q = absurd (r v f refl)
other-value (Same v w) s r q = absurd (q v w refl)

pub one-for : (b c : Bool) → b ≡ c → pos (bool_byte b) ≡ cond c (pos 1) (pos 0)
one-for true c e = rw (← e)
one-for false c e = rw (← e)

-- ---- a variable

pub held-set : {n : ℕ} {vs vs' : List ℤ} {hs : List (Option ℕ)} (v : ℕ) (o : Option ℕ) → Held n vs hs → ((a : ℕ) → o ≡ some a → a < n)
    → vs' ≡ set vs v (variable_of o) → Held n vs' (set hs v o)
held-set {n} {hs = hs} v o H I e =
    record {
      are = e ∙ rw H.are (sym (map-set variable_of v o hs));
      inside = λ w. set-each (λ q. (a : ℕ) → q ≡ some a → a < n) hs v w o none I (H.inside w);
    }

pub copied : {n : ℕ} {vs : List ℤ} {hs : List (Option ℕ)} (v w : ℕ) → w < length vs → Held n vs hs → Held n (set vs v (get_or vs w (pos 0))) (set hs v (get_or hs w none))
copied {vs = vs} {hs = hs} v w l H = held-set v (get_or hs w none) H (H.inside w) (ap (λ (x : ℤ). set vs v x) (word-is H w l))

pub cleared : {n : ℕ} {vs vs' : List ℤ} {hs : List (Option ℕ)} (v : ℕ) → Held n vs hs → vs' ≡ set vs v (variable_of none) → Held n vs' (set hs v none)
cleared v H e = held-set v none H (λ a d. absurd (let z : ◌≡◌ {A = ℕ} 0 1 = cc in omega arith)) e

-- what v holds, where its word was read
pub held-some : {n : ℕ} {vs : List ℤ} {hs : List (Option ℕ)} (v : ℕ) {o : Option ℕ} → Held n vs hs → v < length vs → o ≡ held_of (get_or vs v (pos 0)) → get_or hs v none ≡ o
held-some v H l e = sym (e ∙ held-is H v l)

-- ---- a field that is followed

at-inside : {n : ℕ} {r : CallRows} {s : Shape} (v f : ℕ) → Shown n r s → Inside n (at s v f)
unfolding at field
at-inside {n} {s = s} v f S = go (var s v) refl
  where
    go : (o : Option ℕ) → var s v ≡ o → Inside n (at s v f)
    go none e = rw (e, at) tt
    go (some a) e = rw (e, at) (S.cells.inside (place a f))

target-inside : (n : ℕ) (x : Field) → Inside n x → (a : ℕ) → target x ≡ some a → a < n
target-inside n Nothing I a e = absurd (let z : ◌≡◌ {A = ℕ} 0 1 = cc in omega arith)
target-inside n (Figure y) I a e = absurd (let z : ◌≡◌ {A = ℕ} 0 1 = cc in omega arith)
target-inside n (Cell b) I a e = let q : b ≡ a = cc in omega arith
target-inside n (Free b) I a e = absurd (let z : ◌≡◌ {A = ℕ} 0 1 = cc in omega arith)

near-target : (n : ℕ) (x : Field) → n ≤ 1024 → Inside n x → Near (target x)
near-target n Nothing m I = tt
near-target n (Figure y) m I = tt
near-target n (Cell b) m I = omega arith
near-target n (Free b) m I = tt

module _ {n : ℕ} {r : CallRows} {s : Shape} (v f : ℕ) {o : Option ℕ} (S : Shown n r s) (e : o ≡ target (at s v f)) where
  pub near-followed : n ≤ 1024 → Near o
  near-followed m = rw e (near-target n (at s v f) m (at-inside v f S))

  pub followed : {vs' : List ℤ} (w : ℕ) → vs' ≡ set r.variables w (variable_of o) → Held n vs' (set s.variables w (target (at s v f)))
  followed w q = held-set w (target (at s v f)) S.held (target-inside n (at s v f) (at-inside v f S)) (q ∙ ap (λ (p : Option ℕ). set r.variables w (variable_of p)) e)

pub no_address : (n : ℕ) → held_as n n ≡ none
no_address n = rw (le-ltb n n (omega arith))

-- ---- a field that is written

-- v holds nothing, so that nothing is written
pub wrote_none : {v f len : ℕ} {x : Field} {r : CallRows} → Writable v f x r len → none ≡ held_of (get_or r.variables v (pos 0)) → Writes v f x r len r len
unfolding write at var
wrote_none {v = v} W e n s ts S L = rw (write, at, var, held-some v S.held W.v_below e) (record { shown = S; logged = logged-same L })

module _ {v f a len : ℕ} {x : Field} {r : CallRows} (W : Writable v f x r len) (e : some a ≡ held_of (get_or r.variables v (pos 0))) where
  pub write-place : (2 * a + f < length r.kinds) × (2 * a + f < length r.values) × (2 * a + f < 2048)
  write-place =
      let l = cell-lengths W.shown.cells in
      let p = l.0 in
      let q = l.1 in
      let h = W.shown.held.inside v a (held-some v W.shown.held W.v_below e) in
      let m = W.most in
      let b = W.f_below in
      (omega arith, omega arith, omega arith)

  -- what is written is inside, whatever shape the rows are
  inside-of : {n : ℕ} {s : Shape} → Shown n r s → Inside n x
  inside-of {n} S =
      let k = (cell-lengths W.shown.cells).0 in
      let l = (cell-lengths S.cells).0 in
      let q : W.n ≡ n = omega arith in
      rw q at W.inside

  module _ {old : Field} (q : old ≡ field_of (get_or r.kinds (2 * a + f) 0) (get_or r.values (2 * a + f) (pos 0))) where
    old-at : {n : ℕ} {s : Shape} → Shown n r s → old ≡ at s v f
    unfolding at var field place
    old-at S = rw (at, var, held-some v S.held W.v_below e) (read S.cells old (2 * a + f) q)

    pub old-room : 2 * (len + length (drops old)) ≤ length r.log
    old-room = rw (old-at W.shown) W.room

    pub old-inside : Inside 1024 old
    old-inside = inside-more old W.most (read_inside W.shown.cells old (2 * a + f) q)

    -- from what the parts of the writing say
    pub wrote : {ks : List ℕ} {xs : List ℤ} {log : List ℕ} {len' : ℕ} → ks ≡ set r.kinds (2 * a + f) (kind_of x) → xs ≡ set r.values (2 * a + f) (value_of x)
        → ((n : ℕ) (ts : List Transaction) → Logged n r.log len ts → Inside n old → Logged n log len' (ts ++ drops old))
        → Writes v f x r len (record { kinds = ks; values = xs; variables = r.variables; log = log }) len'
    unfolding write var
    wrote ek ex more n s ts S L =
        record {
          shown =
              record {
                cells = rw (write, var, held-some v S.held W.v_below e) (stored_at a f x S.cells (inside-of S) ek ex);
                held = S.held;
              };
          logged = rw (← old-at S) (more n ts L (read_inside S.cells old (2 * a + f) q));
        }

-- the cell that w held is w's
module _ {n : ℕ} {vs : List ℤ} (s : Shape) (H : Held n vs s.variables) (v f w : ℕ) {b : ℕ} (l : w < length vs) (e : some b ≡ held_of (get_or vs w (pos 0))) where
  pub linked_as : {len : ℕ} {r : CallRows} {us : List Transaction} → Wrote n r len (write s v f (Cell b)) us → Wrote n r len (write s v f (to_cell (var s w))) us
  unfolding var
  linked_as W = record { shown = rw (held-some w H l e) W.shown; logged = W.logged }

  pub linked : {len len' : ℕ} {r : CallRows} {log : List ℕ} (ts : List Transaction) → Wrote n r len (write s v f (Cell b)) (ts ++ drops (at s v f))
      → ((n : ℕ) (us : List Transaction) → Logged n r.log len us → b < n → Logged n log len' (us ++ (creates b ∷ [])))
      → Wrote n (record { kinds = r.kinds; values = r.values; variables = r.variables; log = log }) len' (write s v f (to_cell (var s w))) (ts ++ (drops (at s v f) ++ makes (var s w)))
  unfolding var
  linked ts W more =
      linked_as
      (record {
        shown = record { cells = W.shown.cells; held = W.shown.held };
        logged = rw (held-some w H l e, ← append_assoc) (more n (ts ++ drops (at s v f)) W.logged (H.inside w b (held-some w H l e)));
      })

-- ---- two variables

pub same_none : {n : ℕ} {vs : List ℤ} {hs : List (Option ℕ)} (v w : ℕ) {a : ℕ} → Held n vs hs → v < length vs → a ≡ address_of n (get_or vs v (pos 0)) → n ≤ a
    → pos 0 ≡ cond (same_cell (get_or hs v none) (get_or hs w none)) (pos 1) (pos 0)
same_none v w H l e h = rw (held_none H v l e h)

-- ---- the first free cell

pub none_free : {s : Sizes} {r : Lent} {st : State} {h : Heap} (v : ℕ) → st.first ≡ s.n → Whole s r st h → Did s r st (do_new (no_cell_free s h) v h) (Err NoneFree)
unfolding do_new no_cell_free
none_free {s} {h = h} v e W =
    let q : h.first ≡ s.n = cc W.rows.first in
    rw (eq-eqb h.first s.n q)
    (record { whole = W; answered = refl })

-- from what the parts of the taking say
pub took : {s : Sizes} {r : CallRows} {st : State} {ks : List ℕ} {xs vs : List ℤ} {log : List ℕ} {next len : ℕ} (v : ℕ) → (st.first ≡ s.n → ⊥)
    → ((n : ℕ) (fs : List Field) → Cells n r.kinds r.values fs → CellTaken n ks xs st.first next fs) → vs ≡ set r.variables v (variable_of (some st.first))
    → ((n : ℕ) (ts : List Transaction) → Logged n r.log st.len ts → st.first < n → Logged n log len (ts ++ (allocates st.first ∷ []))) → length log ≡ length r.log
    → Does s (λ h. do_new (no_cell_free s h) v h) r st (record { kinds = ks; values = xs; variables = vs; log = log })
    (record { len = len; first = next; used = st.used; freed = st.freed }) (Ok (pos 0))
unfolding do_new no_cell_free take_cell hold
took {s} {r} {st} v d taking ev more el t work h W =
    let f = W.rows.first in
    let i : st.first < s.n = below W.rows.within d in
    let T = taking s.n h.shape.fields W.rows.cells in
    let H = held-set {hs = h.shape.variables} v (some st.first) (record { are = W.variables_are; inside = W.held_inside }) (λ a z. let y : st.first ≡ a = cc in omega arith) ev in
    rw (ne_eqb h.first s.n (λ z. d (f ∙ z)))
    (record {
      whole =
          rw (← f)
          (record {
            limits = W.limits;
            rows =
                record {
                  most = W.rows.most;
                  big = W.rows.big;
                  cells = T.cells;
                  ready = W.rows.ready;
                  first = T.next;
                  within = T.within;
                  freed = W.rows.freed;
                };
            logged = more s.n h.log W.logged i;
            log_long = el ∙ W.log_long;
            variables_are = H.are;
            held_inside = H.inside;
            work_long = W.work_long;
          });
      answered = refl;
    })
  where
    below : st.first ≤ s.n → (st.first ≡ s.n → ⊥) → st.first < s.n
    below w d = omega arith
