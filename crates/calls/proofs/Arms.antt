-- Laws of each arm of a call: what it needs, and that the rows are the heap after it. Assumes nothing.
use mathlib.Core.Path.{◌≡◌, refl, ap, ◌∙◌}
use mathlib.Core.Option.{Option, none, some}
use mathlib.Core.List.{List, ◌++◌}
use Prim.Native.Nat.{ℕ, ◌+◌, ◌*◌, ◌≤◌, ◌<◌}
use native.Mathlib.Omega.{arith}
use lib.IntN.{ℤ, pos}
use lib.ListN.{length, get_or, set, length-append, length-map}
use Rattle.std.proofs.Common.{Ok}
use Rattle.rules.specs.declared.Field.TheVariants.{Nothing, Figure, Cell}
use Rattle.rules.specs.declared.Deed.{Deed}
use Rattle.rules.specs.declared.Deed.TheVariants.{Copy, Clear, Link, Put, Blank, Follow, Read, Same}
use Rattle.rules.specs.declared.Call.{Call}
use Rattle.rules.specs.declared.Call.TheVariants.{New, Do, Settle}
use Rattle.rules.specs.declared.State.{State}
use Rattle.rules.specs.declared.Sizes.{Sizes}
use Rattle.rules.specs.Field.{held_of, variable_of}
use Rattle.rules.specs.Heap.{Shape, Heap}
use Rattle.rules.specs.Call.{drops, Fits, var, at, is_held, want, refuses, check, logs, act, hold, target, makes, value, answer}
use Rattle.rules.specs.Step.{needs, do_deed, acted}
use Rattle.rules.specs.Rows.{TableRows, CallRows, Lent, beside}
use Rattle.rules.specs.Whole.{Logged, Whole}
use Rattle.rules.proofs.Calls.{two_11}
use Rattle.cells.proofs.Storing.{cell-lengths}
use Rattle.cells.specs.Leaves.{Near}
use Rattle.cells.proofs.Logging.{logged-same}
use Rattle.before.specs.Seen.{Shown, Reach, Reaches}
use Rattle.calls.specs.Doing.{Did, Writes, Links, Writable, Linkable, Takeable, Able}
use Rattle.calls.proofs.Acting.{held-some, copied, cleared, near-followed, followed}

-- ---- link's two steps

module _ {v f w b len : ℕ} {r : CallRows} (L : Linkable v f w r len) (e : some b ≡ held_of (get_or r.variables w (pos 0))) where
  pub link_near : b < L.n
  link_near = L.shown.held.inside w b (held-some w L.shown.held L.w_below e)

  pub link_writable : Writable v f (Cell b) r len
  link_writable =
      let r = L.room in
      record {
        n = L.n;
        most = L.most;
        shape = L.shape;
        shown = L.shown;
        v_below = L.v_below;
        f_below = L.f_below;
        inside = link_near;
        room = omega arith;
      }

  pub link_room : {log' : List ℕ} {l : ℕ} → Logged L.n log' l (L.list ++ drops (at L.shape v f)) → length log' ≡ length r.log → (2 * l + 1 < length log') × (b < 2048)
  link_room {log'} {l} G k =
      let c = G.count in
      let d = L.logged.count in
      let r = L.room in
      let a = length-append L.list (drops (at L.shape v f)) in
      let h = link_near in
      let m = L.most in
      (omega arith, omega arith)

-- w holds a cell
held-none : (o : Option ℕ) → o ≡ none → want (is_held o) 11 ≡ 0 → ⊥
held-none none e h = absurd (omega arith)
held-none (some a) e h = absurd (let z : ◌≡◌ {A = ℕ} 0 1 = cc in omega arith)

pub link_held : {v f w len : ℕ} {r : CallRows} → Linkable v f w r len → none ≡ held_of (get_or r.variables w (pos 0)) → ⊥
unfolding var
link_held {w = w} L e = held-none (get_or L.shape.variables w none) (held-some w L.shown.held L.w_below e) L.held_w

-- ---- what a call needs

makes_one : (o : Option ℕ) → want (is_held o) 11 ≡ 0 → length (makes o) ≡ 1
makes_one none e = absurd (omega arith)
makes_one (some a) e = refl

pub shown_of : {s : Sizes} {r : Lent} {st : State} {h : Heap} → Whole s r st h → Shown s.n (record { kinds = r.kinds; values = r.values; variables = r.variables; log = r.log }) h.shape
shown_of W = record { cells = W.rows.cells; held = record { are = W.variables_are; inside = W.held_inside } }

module _ {s : Sizes} {r : CallRows} {st : State} where
  pub can_take : {v : ℕ} → Able s (New v) r st → Takeable s.n v r st
  can_take A =
      let l = cell-lengths A.whole.rows.cells in
      record { most = A.whole.rows.most; within = A.whole.rows.within; kinds_long = l.0; values_long = l.1; v_below = A.fits; room = A.room }

  pub can_reach : {c : Call} (v f : ℕ) → Able s c r st → v < length r.variables → f < 2 → Reach s.n r v f
  can_reach v f A p q =
      let l = cell-lengths A.whole.rows.cells in
      record { kinds_long = l.0; values_long = l.1; v_below = p; f_below = q }

  pub can_link : {v f w : ℕ} → Able s (Do (Link v f w)) r st → Linkable v f w r st.len
  unfolding refuses logs
  can_link {v} {f} {w} A =
      let t = two_11 (is_held (var A.heap.shape v)) (is_held (var A.heap.shape w)) A.right in
      let r = A.room in
      let a = length-append (drops (at A.heap.shape v f)) (makes (var A.heap.shape w)) in
      let o = makes_one (var A.heap.shape w) t.1 in
      record {
        n = s.n;
        most = A.whole.rows.most;
        shape = A.heap.shape;
        shown = shown_of A.whole;
        v_below = A.fits.0;
        f_below = A.fits.1;
        w_below = A.fits.2;
        held_w = t.1;
        list = A.heap.log;
        logged = A.whole.logged;
        room = omega arith;
      }

  pub can_look : {v f w : ℕ} → Able s (Do (Follow v f w)) r st → Reach s.n r v f
  can_look A =
      let C = A.whole.rows.cells in
      record { kinds_long = rw C.kinds (simp length-map C.long); values_long = rw C.values (simp length-map C.long); v_below = A.fits.0; f_below = A.fits.1 }

  pub can_answer : {d : Deed} → Able s (Do d) r st → Reaches s.n r (Do d)
  can_answer A = record { shape = A.heap.shape; shown = shown_of A.whole; fits = A.fits }

  pub can_follow : {v f w : ℕ} {o : Option ℕ} → Able s (Do (Follow v f w)) r st → ((sh : Shape) → Shown s.n r sh → o ≡ target (at sh v f)) → (w < length r.variables) × Near o
  can_follow {v} {f} A k = let S = shown_of A.whole in (A.fits.2, near-followed v f S (k A.heap.shape S) A.whole.rows.most)

  pub can_put : {v f : ℕ} {x : ℤ} (y : ℤ) → Able s (Do (Put v f x)) r st → Writable v f (Figure y) r st.len
  unfolding logs
  can_put y A =
      record {
        n = s.n;
        most = A.whole.rows.most;
        shape = A.heap.shape;
        shown = shown_of A.whole;
        v_below = A.fits.0;
        f_below = A.fits.1;
        inside = tt;
        room = A.room;
      }

  pub can_blank : {v f : ℕ} → Able s (Do (Blank v f)) r st → Writable v f Nothing r st.len
  unfolding logs
  can_blank A =
      record {
        n = s.n;
        most = A.whole.rows.most;
        shape = A.heap.shape;
        shown = shown_of A.whole;
        v_below = A.fits.0;
        f_below = A.fits.1;
        inside = tt;
        room = A.room;
      }

-- ---- what it leaves

-- where the batch stands, with k entries in the log
abbrev pub logging : State → ℕ → State
logging st k = record { len = k; first = st.first; used = st.used; freed = st.freed }

module _ {s : Sizes} {r : CallRows} {st : State} {t : TableRows} {work : List ℕ} {h : Heap} (W : Whole s (beside t work r) st h) where
  -- what a caller has at hand is all that a call needs
  pub able : (c : Call) → Fits (length r.variables) c → check c h.shape ≡ 0 → 2 * (st.len + needs c h.shape) ≤ length r.log → Able s c r st
  able c k q m = record { tables = t; work = work; heap = h; whole = W; fits = k; right = q; room = m }

  deed_did : {r' : CallRows} {len : ℕ} (d : Deed) → Shown s.n r' (act d h.shape) → Logged s.n r'.log len (h.log ++ logs d h.shape) → length r'.log ≡ length r.log
      → Whole s (beside t work r') (logging st len) (do_deed d h).heap
  unfolding do_deed
  deed_did d S L l =
      record {
        limits = W.limits;
        rows =
            record {
              most = W.rows.most;
              big = W.rows.big;
              cells = S.cells;
              ready = W.rows.ready;
              first = W.rows.first;
              within = W.rows.within;
              freed = W.rows.freed;
            };
        logged = L;
        log_long = l ∙ W.log_long;
        variables_are = S.held.are;
        held_inside = S.held.inside;
        work_long = W.work_long;
      }

  -- deeds that change the variables alone
  module _ {vs : List ℤ} where
    pub did_copy : (v u : ℕ) → u < length r.variables → vs ≡ set r.variables v (get_or r.variables u (pos 0))
        → Whole s (beside t work (record { kinds = r.kinds; values = r.values; variables = vs; log = r.log })) st (do_deed (Copy v u) h).heap
    unfolding act hold var logs
    did_copy v u l e = deed_did (Copy v u) (record { cells = W.rows.cells; held = rw e (copied v u l (shown_of W).held) }) (logged-same W.logged) refl

    pub did_clear : (v : ℕ) → vs ≡ set r.variables v (variable_of none)
        → Whole s (beside t work (record { kinds = r.kinds; values = r.values; variables = vs; log = r.log })) st (do_deed (Clear v) h).heap
    unfolding act hold logs
    did_clear v e = deed_did (Clear v) (record { cells = W.rows.cells; held = cleared v (shown_of W).held e }) (logged-same W.logged) refl

    pub did_follow : (v f u : ℕ) {o : Option ℕ} → ((sh : Shape) → Shown s.n r sh → o ≡ target (at sh v f)) → vs ≡ set r.variables u (variable_of o)
        → Whole s (beside t work (record { kinds = r.kinds; values = r.values; variables = vs; log = r.log })) st (do_deed (Follow v f u) h).heap
    unfolding act hold logs
    did_follow v f u k e =
        let S = shown_of W in
        deed_did (Follow v f u) (record { cells = W.rows.cells; held = followed v f S (k h.shape S) u e }) (logged-same W.logged) refl

  -- deeds that change nothing
  pub did_read : (v f : ℕ) → Whole s (beside t work r) st (do_deed (Read v f) h).heap
  unfolding act logs
  did_read v f = deed_did (Read v f) (shown_of W) (logged-same W.logged) refl

  pub did_same : (v u : ℕ) → Whole s (beside t work r) st (do_deed (Same v u) h).heap
  unfolding act logs
  did_same v u = deed_did (Same v u) (shown_of W) (logged-same W.logged) refl

  -- deeds that change a field
  module _ {r' : CallRows} {len : ℕ} (l : length r'.log ≡ length r.log) where
    pub did_link : (v f u : ℕ) → Links v f u r st.len r' len → Whole s (beside t work r') (logging st len) (do_deed (Link v f u) h).heap
    unfolding act logs
    did_link v f u k = let o = k s.n h.shape h.log (shown_of W) W.logged in deed_did (Link v f u) o.shown o.logged l

    pub did_put : (v f : ℕ) (y z : ℤ) → z ≡ y → Writes v f (Figure z) r st.len r' len → Whole s (beside t work r') (logging st len) (do_deed (Put v f y) h).heap
    unfolding act logs
    did_put v f y z q k = let o = k s.n h.shape h.log (shown_of W) W.logged in deed_did (Put v f y) (rw q at o.shown) o.logged l

    pub did_blank : (v f : ℕ) → Writes v f Nothing r st.len r' len → Whole s (beside t work r') (logging st len) (do_deed (Blank v f) h).heap
    unfolding act logs
    did_blank v f k = let o = k s.n h.shape h.log (shown_of W) W.logged in deed_did (Blank v f) o.shown o.logged l

-- ---- with its answer

module _ {s : Sizes} {r : Lent} {st : State} (k : ℕ) (h : Heap) {x : ℤ} where
  pub deed_done : (d : Deed) → Whole s r st (do_deed d h).heap → x ≡ value d h.shape → Did s r st (acted s (Do d) k h) (Ok x)
  unfolding acted do_deed
  deed_done d W e = record { whole = W; answered = ap (answer 0) e }

  pub settle_done : Whole s r st h → x ≡ pos k → Did s r st (acted s Settle k h) (Ok x)
  unfolding acted
  settle_done W e = record { whole = W; answered = ap (answer 0) e }
