-- Figures decide nothing: a heap whose figures are all made 0 goes the same way. Assumes nothing.
use Prim.Native.Nat.{ℕ, zero, suc, ◌-◌}
use mathlib.Core.Path.{◌≡◌, refl, sym, ap, ◌∙◌}
use mathlib.Core.Bool.{Bool, true, false}
use mathlib.Core.Option.{Option, none, some}
use mathlib.Core.List.{List, [], ◌∷◌, map}
use lib.Dec.{eqb}
use lib.IntN.{pos}
use lib.ListN.{get_or, get_or-map}
use Rattle.rules.specs.declared.Field.{Field}
use Rattle.rules.specs.declared.Field.TheVariants.{Nothing, Figure, Cell, Free}
use Rattle.rules.specs.declared.Deed.{Deed}
use Rattle.rules.specs.declared.Deed.TheVariants.{Copy, Clear, Link, Put, Blank, Follow, Read, Same}
use Rattle.rules.specs.declared.Call.{Call}
use Rattle.rules.specs.declared.Call.TheVariants.{New, Do, Settle}
use Rattle.rules.specs.declared.Sizes.{Sizes}
use Rattle.rules.specs.Heap.{Shape, Heap, place, field, store}
use Rattle.rules.specs.Call.{drops, Answer, unless, var, at, is_cell, no_figure, refuses, check, logs, write, hold, to_cell, target, act, value}
use Rattle.rules.specs.Settle.{pick, free_cell, on_pick, reclaim, replayed, settled_by, settled}
use Rattle.rules.specs.Step.{Stepped, refused, full, no_cell_free, wants, counted, settled_if, settled_for, after, take_cell, do_new, do_deed, acted, run, step, calls, unfreed, batch}
use Rattle.rules.proofs.Lists.{map-set}

abbrev pub erase_f : Field → Field
erase_f Nothing = Nothing
erase_f (Figure x) = Figure (pos 0)
erase_f (Cell a) = Cell a
erase_f (Free a) = Free a

abbrev pub erase_d : Deed → Deed
erase_d (Copy v w) = Copy v w
erase_d (Clear v) = Clear v
erase_d (Link v f w) = Link v f w
erase_d (Put v f x) = Put v f (pos 0)
erase_d (Blank v f) = Blank v f
erase_d (Follow v f w) = Follow v f w
erase_d (Read v f) = Read v f
erase_d (Same v w) = Same v w

abbrev pub erase_c : Call → Call
erase_c (New v) = New v
erase_c (Do d) = Do (erase_d d)
erase_c Settle = Settle

abbrev pub erase_s : Shape → Shape
erase_s s = record { fields = map erase_f s.fields; variables = s.variables }

abbrev pub erase : Heap → Heap
erase h = record { shape = erase_s h.shape; first = h.first; tables = h.tables; log = h.log; freed = h.freed }

store-erase : (l : List Field) (a f : ℕ) (x : Field) → store (map erase_f l) a f (erase_f x) ≡ map erase_f (store l a f x)
unfolding store
store-erase l a f x = sym (map-set erase_f (place a f) x l)

field-erase : (l : List Field) (a f : ℕ) → field (map erase_f l) a f ≡ erase_f (field l a f)
unfolding field
field-erase l a f = get_or-map erase_f l (place a f) Nothing

drops-erase : (x : Field) → drops (erase_f x) ≡ drops x
drops-erase Nothing = refl
drops-erase (Figure x) = refl
drops-erase (Cell a) = refl
drops-erase (Free a) = refl

after-erase : (x : Field) → after (erase_f x) ≡ after x
after-erase Nothing = refl
after-erase (Figure x) = refl
after-erase (Cell a) = refl
after-erase (Free a) = refl

target-erase : (x : Field) → target (erase_f x) ≡ target x
target-erase Nothing = refl
target-erase (Figure x) = refl
target-erase (Cell a) = refl
target-erase (Free a) = refl

is-erase : (x : Field) → (is_cell (erase_f x) ≡ is_cell x) × (no_figure (erase_f x) ≡ no_figure x)
is-erase Nothing = (refl, refl)
is-erase (Figure x) = (refl, refl)
is-erase (Cell a) = (refl, refl)
is-erase (Free a) = (refl, refl)

to_cell-erase : (o : Option ℕ) → to_cell o ≡ erase_f (to_cell o)
to_cell-erase none = refl
to_cell-erase (some a) = refl

-- ---- settle

free_cell-erase : (cap a : ℕ) (h : Heap) → free_cell cap a (erase h) ≡ erase (free_cell cap a h)
unfolding free_cell
free_cell-erase cap a h =
    rw (
      field-erase h.shape.fields a 0,
      field-erase h.shape.fields a 1,
      drops-erase (field h.shape.fields a 0),
      drops-erase (field h.shape.fields a 1),
      store-erase h.shape.fields a 0 (Free h.first),
      store-erase (store h.shape.fields a 0 (Free h.first)) a 1 Nothing,
    )

reclaim-erase : (cap : ℕ) (hs : List (Option ℕ)) (k : ℕ) (h : Heap) → reclaim cap hs k (erase h) ≡ erase (reclaim cap hs k h)
unfolding reclaim
reclaim-erase cap hs zero h = refl
reclaim-erase cap hs (suc k) h = go (pick hs h.tables.zct) (reclaim-erase cap hs k)
  where
    turn : Heap → Option ℕ → Heap
    turn h o = on_pick o h (λ a. reclaim cap hs k (free_cell cap a h))

    go : (o : Option ℕ) → ((h : Heap) → reclaim cap hs k (erase h) ≡ erase (reclaim cap hs k h)) → turn (erase h) o ≡ erase (turn h o)
    go none ih = refl
    go (some a) ih = ap (reclaim cap hs k) (free_cell-erase cap a h) ∙ ih (free_cell cap a h)

settled_by-erase : (s : Sizes) (hs : List (Option ℕ)) (h : Heap) → settled_by s hs (erase h) ≡ erase (settled_by s hs h)
unfolding settled_by replayed
settled_by-erase s hs h = reclaim-erase s.cap hs s.n (replayed s.cap h)

pub settled-erase : (s : Sizes) (h : Heap) → settled s (erase h) ≡ erase (settled s h)
unfolding settled
settled-erase s h = settled_by-erase s h.shape.variables h

settled_if-erase : (b : Bool) (s : Sizes) (hs : List (Option ℕ)) (h : Heap) → settled_if b s hs (erase h) ≡ erase (settled_if b s hs h)
unfolding settled_if
settled_if-erase true s hs h = settled_by-erase s hs h
settled_if-erase false s hs h = refl

-- ---- the deeds

at_erase : (s : Shape) (v f : ℕ) → at (erase_s s) v f ≡ erase_f (at s v f)
unfolding at var
at_erase s v f = go (get_or s.variables v none)
  where
    at_of : List Field → Option ℕ → Field
    at_of fs o = elim o [ none ↦ Nothing | some a ↦ field fs a f ]

    go : (o : Option ℕ) → at_of (map erase_f s.fields) o ≡ erase_f (at_of s.fields o)
    go none = refl
    go (some a) = field-erase s.fields a f

refuses-erase : (d : Deed) (s : Shape) → refuses (erase_d d) (erase_s s) ≡ refuses d s
unfolding refuses var
refuses-erase (Copy v w) s = refl
refuses-erase (Clear v) s = refl
refuses-erase (Link v f w) s = refl
refuses-erase (Put v f x) s = refl
refuses-erase (Blank v f) s = refl
refuses-erase (Follow v f w) s = rw (at_erase s v f, (is-erase (at s v f)).0)
refuses-erase (Read v f) s = rw (at_erase s v f, (is-erase (at s v f)).1)
refuses-erase (Same v w) s = refl

logs-erase : (d : Deed) (s : Shape) → logs (erase_d d) (erase_s s) ≡ logs d s
unfolding logs var
logs-erase (Copy v w) s = refl
logs-erase (Clear v) s = refl
logs-erase (Link v f w) s = rw (at_erase s v f, drops-erase (at s v f))
logs-erase (Put v f x) s = rw (at_erase s v f, drops-erase (at s v f))
logs-erase (Blank v f) s = rw (at_erase s v f, drops-erase (at s v f))
logs-erase (Follow v f w) s = refl
logs-erase (Read v f) s = refl
logs-erase (Same v w) s = refl

write-erase : (s : Shape) (v f : ℕ) (x : Field) → write (erase_s s) v f (erase_f x) ≡ erase_s (write s v f x)
unfolding write var
write-erase s v f x = go (get_or s.variables v none)
  where
    write_of : List Field → Field → Option ℕ → List Field
    write_of fs x o = elim o [ none ↦ fs | some a ↦ store fs a f x ]

    go : (o : Option ℕ) → ◌≡◌ {A = Shape} (record { fields = write_of (map erase_f s.fields) (erase_f x) o; variables = s.variables }) (record { fields = map erase_f (write_of s.fields x o); variables = s.variables })
    go none = refl
    go (some a) = rw (store-erase s.fields a f x)

act-erase : (d : Deed) (s : Shape) → act (erase_d d) (erase_s s) ≡ erase_s (act d s)
unfolding act hold var
act-erase (Copy v w) s = refl
act-erase (Clear v) s = refl
act-erase (Link v f w) s = ap (write (erase_s s) v f) (to_cell-erase (get_or s.variables w none)) ∙ write-erase s v f (to_cell (get_or s.variables w none))
act-erase (Put v f x) s = write-erase s v f (Figure x)
act-erase (Blank v f) s = write-erase s v f Nothing
act-erase (Follow v f w) s = rw (at_erase s v f, target-erase (at s v f))
act-erase (Read v f) s = refl
act-erase (Same v w) s = refl

-- ---- what a call answers

abbrev pub is_read : Call → Bool
is_read (New v) = false
is_read (Do (Copy v w)) = false
is_read (Do (Clear v)) = false
is_read (Do (Link v f w)) = false
is_read (Do (Put v f x)) = false
is_read (Do (Blank v f)) = false
is_read (Do (Follow v f w)) = false
is_read (Do (Read v f)) = true
is_read (Do (Same v w)) = false
is_read Settle = false

is_read-erase : (c : Call) → is_read (erase_c c) ≡ is_read c
is_read-erase (New v) = refl
is_read-erase (Do (Copy v w)) = refl
is_read-erase (Do (Clear v)) = refl
is_read-erase (Do (Link v f w)) = refl
is_read-erase (Do (Put v f x)) = refl
is_read-erase (Do (Blank v f)) = refl
is_read-erase (Do (Follow v f w)) = refl
is_read-erase (Do (Read v f)) = refl
is_read-erase (Do (Same v w)) = refl
is_read-erase Settle = refl

-- a read with status 0 answers a figure
abbrev pub Figured : Call → ℕ → Type 0
Figured c k = (is_read c ≡ true) × (k ≡ 0)

value-erase : (d : Deed) (s : Shape) → (Figured (Do d) 0 → ⊥) → value (erase_d d) (erase_s s) ≡ value d s
unfolding value var
value-erase (Copy v w) s r = refl
value-erase (Clear v) s r = refl
value-erase (Link v f w) s r = refl
value-erase (Put v f x) s r = refl
value-erase (Blank v f) s r = refl
value-erase (Follow v f w) s r = refl
value-erase (Read v f) s r = absurd (r (refl, refl))
value-erase (Same v w) s r = refl

-- the outcomes o and p agree: p is o with its figures made 0, but for the figure that a read answers
pub record Alike (c : Call) (o p : Stepped) : Type 0 where
  pub heaps : p.heap ≡ erase o.heap
  pub statuses : p.answer.status ≡ o.answer.status
  pub values : (Figured c o.answer.status → ⊥) → p.answer.value ≡ o.answer.value

take_cell-erase : (v : ℕ) (h : Heap) → take_cell v (erase h) ≡ erase (take_cell v h)
unfolding take_cell hold
take_cell-erase v h = rw (field-erase h.shape.fields h.first 0, after-erase (field h.shape.fields h.first 0), store-erase h.shape.fields h.first 0 Nothing)

do_deed_alike : (d : Deed) (h : Heap) → Alike (Do d) (do_deed d h) (do_deed (erase_d d) (erase h))
unfolding do_deed
do_deed_alike d h =
    record {
      heaps = rw (act-erase d h.shape, logs-erase d h.shape);
      statuses = refl;
      values = λ r. value-erase d h.shape r;
    }

do_new_alike : (q : Bool) (v : ℕ) (h : Heap) → Alike (New v) (do_new q v h) (do_new q v (erase h))
unfolding do_new
do_new_alike true v h = record { heaps = refl; statuses = refl; values = λ r. refl }
do_new_alike false v h = record { heaps = take_cell-erase v h; statuses = refl; values = λ r. refl }

acted_alike : (s : Sizes) (c : Call) (k : ℕ) (h : Heap) → Alike c (acted s c k h) (acted s (erase_c c) k (erase h))
unfolding acted no_cell_free
acted_alike s (New v) k h = do_new_alike (eqb h.first s.n) v h
acted_alike s (Do d) k h = do_deed_alike d h
acted_alike s Settle k h = record { heaps = refl; statuses = refl; values = λ r. refl }

wants-erase : (s : Sizes) (c : Call) (h : Heap) → wants s (erase_c c) (erase h) ≡ wants s c h
unfolding wants full no_cell_free
wants-erase s (New v) h = refl
wants-erase s (Do d) h = rw (logs-erase d h.shape)
wants-erase s Settle h = refl

counted-erase : (c : Call) (h : Heap) → counted (erase_c c) (erase h) ≡ counted c h
counted-erase (New v) h = refl
counted-erase (Do d) h = refl
counted-erase Settle h = refl

for_erase : (s : Sizes) (c : Call) (h : Heap) → settled_for s (erase_c c) (erase h) ≡ erase (settled_for s c h)
for_erase s c h = rw (wants-erase s c h, counted-erase c h) (settled_if-erase (wants s c h) s (counted c h) h)

run_alike : (s : Sizes) (c : Call) (h : Heap) → Alike c (run s c h) (run s (erase_c c) (erase h))
unfolding run
run_alike s c h = let k = settled_for s c h in rw (for_erase s c h) (acted_alike s c (k.freed - h.freed) k)

check-erase : (c : Call) (s : Shape) → check (erase_c c) (erase_s s) ≡ check c s
check-erase (New v) s = refl
check-erase (Do d) s = refuses-erase d s
check-erase Settle s = refl

pub step_alike : (s : Sizes) (c : Call) (h : Heap) → Alike c (step s c h) (step s (erase_c c) (erase h))
unfolding step
step_alike s c h = rw (check-erase c h.shape) (go (check c h.shape))
  where
    go : (k : ℕ) → Alike c (unless k (refused h) (run s c h)) (unless k (refused (erase h)) (run s (erase_c c) (erase h)))
    go zero = run_alike s c h
    go (suc j) = record { heaps = refl; statuses = refl; values = λ r. refl }

-- ---- two heaps that are equal but for figures, and two calls that are equal but for a put's figure

pub record Blind (c : Call) (o p : Stepped) : Type 0 where
  pub heaps : erase o.heap ≡ erase p.heap
  pub statuses : o.answer.status ≡ p.answer.status
  pub values : (Figured c o.answer.status → ⊥) → o.answer.value ≡ p.answer.value

pub step_blind : (s : Sizes) (c d : Call) (h k : Heap) → erase_c c ≡ erase_c d → erase h ≡ erase k → Blind c (step s c h) (step s d k)
step_blind s c d h k e f =
    let a = step_alike s c h in
    let b = step_alike s d k in
    let m : step s (erase_c c) (erase h) ≡ step s (erase_c d) (erase k) = rw (e, f) in
    let t : (step s c h).answer.status ≡ (step s d k).answer.status = sym a.statuses ∙ ap (λ o. o.answer.status) m ∙ b.statuses in
    let r : is_read d ≡ is_read c = sym (is_read-erase d) ∙ ap is_read (sym e) ∙ is_read-erase c in
    record {
      heaps = sym a.heaps ∙ ap (λ o. o.heap) m ∙ b.heaps;
      statuses = t;
      values = λ n. sym (a.values n) ∙ ap (λ o. o.answer.value) m ∙ b.values (λ x. n (sym r ∙ x.0, t ∙ x.1));
    }

abbrev pub SameCalls : List Call → List Call → Type 0
SameCalls [] [] = Unit {0}
SameCalls [] (d ∷ ds) = ⊥
SameCalls (c ∷ cs) [] = ⊥
SameCalls (c ∷ cs) (d ∷ ds) = (erase_c c ≡ erase_c d) × SameCalls cs ds

-- one answer a call; equal but for the figures that reads answer
abbrev pub SameAnswers : List Call → List Answer → List Answer → Type 0
SameAnswers [] [] [] = Unit {0}
SameAnswers [] [] (b ∷ bs) = ⊥
SameAnswers [] (a ∷ as') bs = ⊥
SameAnswers (c ∷ cs) [] bs = ⊥
SameAnswers (c ∷ cs) (a ∷ as') [] = ⊥
SameAnswers (c ∷ cs) (a ∷ as') (b ∷ bs) = (a.status ≡ b.status) × ((Figured c a.status → ⊥) → a.value ≡ b.value) × SameAnswers cs as' bs

pub calls_blind : (s : Sizes) (cs ds : List Call) (h k : Heap) → SameCalls cs ds → erase h ≡ erase k
    → (erase (calls s cs h).heap ≡ erase (calls s ds k).heap) × SameAnswers cs (calls s cs h).answers (calls s ds k).answers
unfolding calls
calls_blind s [] [] h k e f = (sym (settled-erase s h) ∙ ap (settled s) f ∙ settled-erase s k, tt)
calls_blind s [] (d ∷ ds) h k e f = absurd e
calls_blind s (c ∷ cs) [] h k e f = absurd e
calls_blind s (c ∷ cs) (d ∷ ds) h k e f =
    let b = step_blind s c d h k e.0 f in
    let r = calls_blind s cs ds (step s c h).heap (step s d k).heap e.1 b.heaps in
    (r.0, (b.statuses, b.values, r.1))

pub batch_blind : (s : Sizes) (cs ds : List Call) (h k : Heap) → SameCalls cs ds → erase h ≡ erase k
    → (erase (batch s cs h).heap ≡ erase (batch s ds k).heap) × SameAnswers cs (batch s cs h).answers (batch s ds k).answers
unfolding batch
batch_blind s cs ds h k e f = calls_blind s cs ds (unfreed h) (unfreed k) e (ap unfreed f)
