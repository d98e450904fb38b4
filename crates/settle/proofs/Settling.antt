-- Laws of a settle on all rows, and how a caller meets and uses its contract. Assumes nothing.
use mathlib.Core.Path.{◌≡◌, refl, sym, ap, ◌∙◌}
use mathlib.Core.Logic.{◌⊎◌, ⊎_elim}
use mathlib.Core.Bool.{Bool, true, false}
use mathlib.Core.Option.{Option, none, some}
use mathlib.Core.List.{List, map}
use Prim.Native.Nat.{ℕ, ◌≤◌, ◌<◌}
use native.Mathlib.Omega.{arith}
use lib.ListN.{length, get_or, set, length-set, replicate, length-replicate, length-map}
use lib.Seq.{set-get_or, set-set}
use lib.IntN.{ℤ, pos, negsuc}
use Rattle.rules.specs.declared.Call.{Call}
use Rattle.rules.specs.declared.Call.TheVariants.{New, Do, Settle}
use denote.Enum.Declared.{tag_of}
use Rattle.rules.specs.contracts.Call.{the_type}
use Rattle.rules.specs.declared.Used.{Used}
use Rattle.rules.specs.declared.State.{State}
use Rattle.rules.specs.declared.Sizes.{Sizes}
use Rattle.rules.specs.Field.{variable_of, held_of}
use Rattle.rules.specs.Rules.{replay}
use Rattle.rules.specs.Heap.{Heap}
use Rattle.rules.specs.Settle.{replayed, settled_by, settled}
use Rattle.rules.specs.Call.{Fits}
use Rattle.rules.specs.Step.{counted, settled_if}
use Rattle.rules.specs.Rows.{TableRows, HeapRows, Lent, heap_rows}
use Rattle.rules.specs.Whole.{Ready, Rows, Whole}
use Rattle.rules.proofs.Lists.{map-set}
use Rattle.rules.proofs.Roundtrip.{held_back}
use Rattle.cells.specs.Leaves.{Near}
use Rattle.std.proofs.lemmas.List.{get_or-map}
use Rattle.rules.proofs.Step.{settled_by-log, settled_by-variables}
use Rattle.cells.specs.Marks.{Marks}
use Rattle.cells.proofs.Logging.{logged_none}
use Rattle.reclaim.specs.Reclaiming.{Reclaimable, Reclaims}
use Rattle.settle.specs.Replaying.{Replays}
use Rattle.settle.specs.Settling.{holding, Settleable, Settled, Settles, Roomable, RoomMade, MakesRoom}

-- where the batch stands after a replay
abbrev emptied : State → Used → State
emptied at u = record { len = 0; first = at.first; used = u; freed = at.freed }

-- the rows of cells, with other tables
abbrev tabled : HeapRows → TableRows → HeapRows
tabled r t = record { kinds = r.kinds; values = r.values; tables = t }

-- the rows of cells and tables, with these variables, log and work row
abbrev with_variables : List ℤ → HeapRows → List ℕ → List ℕ → Lent
with_variables vs r log work = record { kinds = r.kinds; values = r.values; variables = vs; tables = r.tables; log = log; work = work }

-- rows that are replayed
replayed-rows : {n cap : ℕ} {r : HeapRows} {t : TableRows} {at : State} {u : Used} {h : Heap} → Rows n cap r at h → Ready n cap t u (replay cap h.log h.tables) → Rows n cap (tabled r t) (emptied at u) (replayed cap h)
unfolding replayed
replayed-rows R A = record { most = R.most; big = R.big; cells = R.cells; ready = A; first = R.first; within = R.within; freed = R.freed }

-- a settle from what its parts say of the rows: the replay and the marking, then the reclaiming and the clearing
module _ {s : Sizes} {r : Lent} {at : State} {t : TableRows} {u : Used} {work : List ℕ}
    (replays : Replays s.cap r.log at.len r.tables at.used t u)
    (marks : (hs : List (Option ℕ)) → r.variables ≡ map variable_of hs → Marks (length r.work) work hs) where
  module _ {own : List ℤ} {h : Heap} (W : Whole s (holding own r) at h) where
    rows-by : Rows s.n s.cap (tabled (heap_rows r) t) (emptied at u) (replayed s.cap h)
    rows-by = replayed-rows W.rows (replays s.n h.log h.tables W.logged W.rows.ready)

    marks-by : (hs : List (Option ℕ)) → r.variables ≡ map variable_of hs → Marks s.n work hs
    marks-by hs e = rw W.work_long at (marks hs e)

  pub reclaimable_by : Settleable s r at → Reclaimable s.cap (tabled (heap_rows r) t) work (emptied at u) (length work)
  reclaimable_by S =
      let R = rows-by S.whole in
      let M = marks-by S.whole S.holds S.counted in
      let l = R.ready.are.zct_is.long in
      let k = M.long in
      let f = S.few in
      let m = R.most in
      record { heap = replayed s.cap S.heap; holds = S.holds; rows = rw l R; marks = rw l M; few = omega arith }

  module _ {r' : HeapRows} {log work' : List ℕ} {o : State} (reclaims : Reclaims s.cap (length work) work (tabled (heap_rows r) t) (emptied at u) r' o)
      (log-clear : log ≡ replicate (length r.log) 0) (work-clear : work' ≡ replicate (length work) 0) where
    pub settled-by : Settles s r at (with_variables r.variables r' log work') o
    unfolding settled_by replayed
    settled-by own hs h W e =
        let M = marks-by W hs e in
        let D = reclaims s.n hs (replayed s.cap h) (rows-by W) M in
        let k = M.long in
        let w : work' ≡ replicate s.n 0 = rw k at work-clear in
        let v = settled_by-variables s hs h in
        let g = settled_by-log s hs h in
        let f = D.few in
        record {
          whole =
              record {
                limits = W.limits;
                rows = rw k at D.rows;
                logged = rw (g, D.len) (logged_none s.n (length r.log) log-clear);
                log_long = ap length log-clear ∙ length-replicate (length r.log) 0 ∙ W.log_long;
                variables_are = rw v W.variables_are;
                held_inside = rw v W.held_inside;
                work_long = ap length w ∙ length-replicate s.n 0;
              };
          grows = D.grows;
          few = omega arith;
          work_zero = w;
        }

-- where the holds that were counted are the heap's own variables, that is `settled`
pub settled-whole : {s : Sizes} {r : Lent} {at o : State} {h : Heap} → Settled s h.shape.variables r at h o → Whole s r o (settled s h)
unfolding settled
settled-whole S = S.whole

-- a caller whose variables' row is the heap's can settle
pub settleable : {s : Sizes} {r : Lent} {at : State} {h : Heap} → Whole s r at h → at.freed ≤ 1000000 → Settleable s r at
settleable {r = r} {h = h} W few = record { heap = h; own = r.variables; holds = h.shape.variables; whole = W; counted = W.variables_are; few = few }

-- ---- the settle before a call

-- where none is made the rows stay
pub room_as_is : (c : Call) {make : Bool} {s : Sizes} {r : Lent} {at : State} → make ≡ false → MakesRoom c make s r at r at
unfolding settled_if
room_as_is c e h W = rw e (record { whole = W; grows = omega arith; few = omega arith; work_is = refl })

-- where one is made that counts hs, and the variables are as they were
room-made : {make : Bool} {s : Sizes} {hs : List (Option ℕ)} {r : Lent} (r' : Lent) {ys : List ℤ} {at o : State} {h : Heap} → make ≡ true → ys ≡ r.variables
    → Settled s hs (holding r.variables r') at h o → RoomMade make s hs r at h (holding ys r') o
unfolding settled_if
room-made r' e q S = rw (e, q) (record { whole = S.whole; grows = S.grows; few = S.few; work_is = S.work_zero })

-- a call that is no new counts what the variables hold
counted-all : (c : Call) (h : Heap) → ((v : ℕ) → c ≡ New v → ⊥) → counted c h ≡ h.shape.variables
counted-all (New v) h n = absurd (n v refl)
counted-all (Do d) h n = refl
counted-all Settle h n = refl

pub room_for : (c : Call) {make : Bool} {s : Sizes} {r r' : Lent} {at o : State} → ((v : ℕ) → c ≡ New v → ⊥) → make ≡ true → r'.variables ≡ r.variables
    → Settles s r at r' o → MakesRoom c make s r at r' o
room_for c {r = r} {r'} n e q S h W = rw (counted-all c h n) (room-made r' e q (S r.variables h.shape.variables h W W.variables_are))

-- v is still there after the settle
pub still_there : (c : Call) {v : ℕ} (vs : List ℤ) (x : ℤ) {xs ys : List ℤ} → c ≡ New v → xs ≡ set vs v x → ys ≡ xs → Fits (length vs) c → v < length ys
still_there c {v} vs x is a q f = let l : v < length vs = rw is at f in omega (arith, ap length q ∙ ap length a ∙ length-set vs v x)

-- v is let go before a new, and holds afterwards what it held
module _ (c : Call) {v : ℕ} (is : c ≡ New v) {s : Sizes} {r : Lent} {at : State} where
  there : {h : Heap} → Whole s r at h → Fits (length r.variables) c → v < length h.shape.variables
  there {h} W f = let l : v < length r.variables = rw is at f in omega (arith, ap length W.variables_are ∙ length-map h.shape.variables variable_of)

  aside : {xs : List ℤ} {h : Heap} → Whole s r at h → xs ≡ set r.variables v (negsuc 0) → xs ≡ map variable_of (counted c h)
  aside {h = h} W a = a ∙ rw (is, W.variables_are) (sym (map-set variable_of v none h.shape.variables))

  pub settleable_for : {xs : List ℤ} → xs ≡ set r.variables v (negsuc 0) → Roomable c s r at → Settleable s (holding xs r) at
  settleable_for a R = record { heap = R.heap; own = r.variables; holds = counted c R.heap; whole = R.whole; counted = aside R.whole a; few = R.few }

  -- what v held
  module _ {o : Option ℕ} (d : o ≡ held_of (get_or r.variables v (pos 0))) (f : Fits (length r.variables) c) where
    own-hold : {h : Heap} → Whole s r at h → o ≡ get_or h.shape.variables v none
    own-hold {h} W = d ∙ rw (W.variables_are, get_or-map variable_of h.shape.variables v none (pos 0) (there W f)) (held_back (get_or h.shape.variables v none))

    pub own_near : Roomable c s r at → Near o
    own_near R = near o (λ a e. R.whole.held_inside v a (sym (own-hold R.whole) ∙ e)) R.whole.limits.n_most
      where
        near : {n : ℕ} (o : Option ℕ) → ((a : ℕ) → o ≡ some a → a < n) → n ≤ 1024 → Near o
        near none i m = tt
        near (some a) i m = let l = i a refl in omega arith

    back-again : {xs ys : List ℤ} {h : Heap} → Whole s r at h → xs ≡ set r.variables v (negsuc 0) → ys ≡ set xs v (variable_of o) → ys ≡ r.variables
    back-again {h = h} W a b =
        let g : variable_of o ≡ get_or r.variables v (pos 0) = rw (own-hold W, W.variables_are) (sym (get_or-map variable_of h.shape.variables v none (pos 0) (there W f))) in
        b ∙ rw (a, g) (set-set r.variables v (negsuc 0) (get_or r.variables v (pos 0)) ∙ set-get_or r.variables v (pos 0))

    pub room_for_new : {make : Bool} {xs ys : List ℤ} (r' : Lent) {s' : State} → make ≡ true → xs ≡ set r.variables v (negsuc 0) → r'.variables ≡ xs
        → ys ≡ set r'.variables v (variable_of o) → Settles s (holding xs r) at r' s' → MakesRoom c make s r at (holding ys r') s'
    room_for_new r' e a q b S h W = room-made r' e (back-again W (q ∙ a) b) (S r.variables (counted c h) h W (aside W a))

-- ---- the row of variables before a call, by what call it is

-- the row of variables, with v let go before a new; the word that v has there; and the row with that word put back
abbrev pub set_aside : Call → List ℤ → List ℤ
set_aside (New v) xs = set xs v (negsuc 0)
set_aside (Do d) xs = xs
set_aside Settle xs = xs

abbrev pub own_word : Call → List ℤ → ℤ
own_word (New v) xs = get_or xs v (pos 0)
own_word (Do d) xs = pos 0
own_word Settle xs = pos 0

abbrev pub put_back : Call → ℤ → List ℤ → List ℤ
put_back (New v) x xs = set xs v x
put_back (Do d) x xs = xs
put_back Settle x xs = xs

-- the row of variables with v let go is the holds that are counted
aside_counted : (c : Call) (h : Heap) {xs : List ℤ} → xs ≡ map variable_of h.shape.variables → set_aside c xs ≡ map variable_of (counted c h)
aside_counted (New v) h e = rw e (sym (map-set variable_of v none h.shape.variables))
aside_counted (Do d) h e = e
aside_counted Settle h e = e

-- v put back, the row is as it was
put-back : (c : Call) (xs : List ℤ) → put_back c (own_word c xs) (set_aside c xs) ≡ xs
put-back (New v) xs = set-set xs v (negsuc 0) (get_or xs v (pos 0)) ∙ set-get_or xs v (pos 0)
put-back (Do d) xs = refl
put-back Settle xs = refl

pub aside_long : (c : Call) (xs : List ℤ) → length (set_aside c xs) ≡ length xs
aside_long (New v) xs = length-set xs v (negsuc 0)
aside_long (Do d) xs = refl
aside_long Settle xs = refl

-- a settle between the two
pub room_by : (c : Call) {s : Sizes} {r : Lent} {at : State} {make : Bool} {x : ℤ} {xs ys : List ℤ} {r' : HeapRows} {log work : List ℕ} {o : State} → make ≡ true
    → xs ≡ set_aside c r.variables → x ≡ own_word c r.variables → ys ≡ put_back c x xs
    → Settles s (holding xs r) at (with_variables xs r' log work) o → MakesRoom c make s r at (with_variables ys r' log work) o
room_by c {r = r} {x = x} {xs} {ys} {r'} {log} {work} e a d b S h W =
    room-made (with_variables xs r' log work) e as_was (S r.variables (counted c h) h W (a ∙ aside_counted c h W.variables_are))
  where
    as_was : ys ≡ r.variables
    as_was = rw (b, d, a) (put-back c r.variables)

-- a call that is no new lets go of nothing
pub other_call : (c : Call) (x : ℤ) (xs : List ℤ) → (tag_of the_type c ≡ 1) ⊎ (tag_of the_type c ≡ 2) → (xs ≡ set_aside c xs) × ((pos 0 ≡ own_word c xs) × (xs ≡ put_back c x xs))
other_call (New v) x xs t = absurd (⊎_elim (λ e. omega arith) (λ e. omega arith) t)
other_call (Do d) x xs t = (refl, (refl, refl))
other_call Settle x xs t = (refl, (refl, refl))

-- a new lets go of v
pub new_call : (c : Call) {v : ℕ} (x : ℤ) (xs : List ℤ) → c ≡ New v → (set xs v (negsuc 0) ≡ set_aside c xs) × ((get_or xs v (pos 0) ≡ own_word c xs) × (set xs v x ≡ put_back c x xs))
new_call c x xs n = rw n (refl, (refl, refl))

-- whose variable is there
pub fits_new : (c : Call) {v m : ℕ} → c ≡ New v → Fits m c → v < m
fits_new c n f = rw n at f
