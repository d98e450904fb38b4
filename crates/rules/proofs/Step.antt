-- A call, a settle and a batch keep a heap's invariant; a batch ends settled. Assumes nothing.
use Prim.Native.Nat.{ℕ, zero, suc, ◌+◌, ◌-◌, ◌<◌, ◌≤◌}
use mathlib.Core.Path.{◌≡◌, refl, sym, ap, ◌∙◌}
use mathlib.Core.Logic.{◌⊎◌, inl, inr}
use mathlib.Core.Bool.{Bool, true, false, cond, ◌||◌, true≢false, false≢true}
use mathlib.Core.Option.{Option, none, some}
use mathlib.Core.List.{List, [], ◌∷◌}
use native.Mathlib.Omega.{arith}
use lib.Dec.{eqb}
use lib.IntN.{pos}
use lib.ListN.{length, set, length-set, length-append}
use lib.Seq.{set-set}
use borrow.Author.Tests.{eqb-true, eqb-false, ltb-false, le-ltb}
use Rattle.rules.specs.declared.Field.TheVariants.{Nothing}
use Rattle.rules.specs.declared.Deed.{Deed}
use Rattle.rules.specs.declared.Deed.TheVariants.{Copy, Clear, Link, Put, Blank, Follow, Read, Same}
use Rattle.rules.specs.declared.Call.{Call}
use Rattle.rules.specs.declared.Call.TheVariants.{New, Do, Settle}
use Rattle.rules.specs.declared.Sizes.{Sizes}
use Rattle.rules.specs.Heap.{Tables, allocates, Shape, Heap, place, store, Transaction}
use Rattle.rules.specs.Rules.{apply, replay}
use Rattle.rules.specs.Settle.{holds, free_cell, replayed, settled_by, settled}
use Rattle.rules.specs.Call.{var, check, logs, hold, Fits, AllFit, InRange, unless, refuses}
use Rattle.rules.specs.Step.{done, refused, settled_if, full, no_cell_free, take_cell, do_new, run, step, calls, batch, needs, wants, counted, settled_for, do_deed, acted, unfreed}
use Rattle.rules.specs.Whole.{Kept}
use Rattle.rules.proofs.Tests.{not_first}
use Rattle.rules.specs.Head.{Limits}
use Rattle.rules.specs.Invariant.{refs, live, view, Counted, Good, Frees, Small, Inv, Done, Ended, lives}
use Rattle.rules.proofs.Tables.{view-own, view_other, change}
use Rattle.rules.proofs.Sorted.{replay-kept, small-append, replay-append}
use Rattle.rules.proofs.Cells.{live-store_0, refs-store, length-store, lives-le, Plain1, Figures, plain-store, plain-store_0, figures-store}
use Rattle.rules.proofs.Reclaim.{having, reclaim-having, reclaim-full, reclaim-good, reclaim-done, reclaim-leaves, reclaim-sum, reclaim-plain, reclaim-figures, reclaim-kept, reclaim_idle}
use Rattle.rules.proofs.FreeList.{Taken, frees-store, frees-take, reclaim-frees}
use Rattle.rules.proofs.Calls.{holds-set, hold-good, deed_good, act_keeps, act-variables, logs-small, logs-long, store-live}

-- a call needs at most two entries
pub needs_two : (c : Call) (sh : Shape) → needs c sh ≤ 2
needs_two (New v) sh = omega arith
needs_two (Do d) sh = logs-long d sh
needs_two Settle sh = omega arith

-- where no settle is wanted there is room
room-now : (s : Sizes) (c : Call) (h : Heap) → wants s c h ≡ false → full s (needs c h.shape) h ≡ false
unfolding wants
room-now s (New v) h e = not_first _ _ e
room-now s (Do d) h e = e
room-now s Settle h e = absurd (true≢false e)

-- ---- a settle that counts any holds

module _ (s : Sizes) (hs : List (Option ℕ)) (h : Heap) where
  pub settled_by-log : (settled_by s hs h).log ≡ []
  unfolding settled_by replayed free_cell
  settled_by-log = reclaim-leaves (λ (x : Heap). x.log) s.cap hs (λ a x. refl) s.n (replayed s.cap h)

  pub settled_by-variables : (settled_by s hs h).shape.variables ≡ h.shape.variables
  unfolding settled_by replayed free_cell
  settled_by-variables = reclaim-leaves (λ (x : Heap). x.shape.variables) s.cap hs (λ a x. refl) s.n (replayed s.cap h)

pub settled_if-variables : (b : Bool) (s : Sizes) (hs : List (Option ℕ)) (h : Heap) → (settled_if b s hs h).shape.variables ≡ h.shape.variables
unfolding settled_if
settled_if-variables true s hs h = settled_by-variables s hs h
settled_if-variables false s hs h = refl

-- the heap's own variables take no part in a settle
pub settled_if-having : (b : Bool) (s : Sizes) (hs vs : List (Option ℕ)) (h : Heap) → settled_if b s hs (having vs h) ≡ having vs (settled_if b s hs h)
unfolding settled_if settled_by replayed
settled_if-having true s hs vs h = reclaim-having s.cap hs vs s.n (replayed s.cap h)
settled_if-having false s hs vs h = refl

module _ (s : Sizes) (ok : Limits s) (hs : List (Option ℕ)) (h : Heap)
    (g : Good s.n s.cap h.shape.fields hs (replay s.cap h.log h.tables)) where
  few : lives h.shape.fields ≤ s.n
  few = let l = lives-le h.shape.fields in let e = g.len in omega arith

  pub settled_by-good : Good s.n s.cap (settled_by s hs h).shape.fields hs (settled_by s hs h).tables
  unfolding settled_by replayed
  settled_by-good = reclaim-good s.n s.cap ok.cap_least hs s.n (replayed s.cap h) g

  pub settled_by-done : Done hs (settled_by s hs h)
  unfolding settled_by replayed
  settled_by-done = reclaim-done s.n s.cap ok.cap_least hs s.n (replayed s.cap h) g few

  pub settled_by-sum : lives (settled_by s hs h).shape.fields + (settled_by s hs h).freed ≡ lives h.shape.fields + h.freed
  unfolding settled_by replayed
  settled_by-sum = reclaim-sum s.n s.cap ok.cap_least hs s.n (replayed s.cap h) g

  pub settled_by-frees : Frees s.n h.shape.fields h.first → Frees s.n (settled_by s hs h).shape.fields (settled_by s hs h).first
  unfolding settled_by replayed
  settled_by-frees = reclaim-frees s.n s.cap ok.cap_least hs s.n (replayed s.cap h) g

  pub settled_by-kept : Kept s.n s.cap h.tables → Small s.n h.log → Kept s.n s.cap (settled_by s hs h).tables
  unfolding settled_by replayed
  settled_by-kept k l = reclaim-kept s.n s.cap ok.cap_least hs s.n (replayed s.cap h) g (replay-kept s.n s.cap ok.cap_least h.log h.tables k l)

  pub settled_by-plain : Plain1 h.shape.fields → Plain1 (settled_by s hs h).shape.fields
  unfolding settled_by replayed
  settled_by-plain = reclaim-plain s.n s.cap ok.cap_least hs s.n (replayed s.cap h) g

  pub settled_by-figures : Figures h.shape.fields → Figures (settled_by s hs h).shape.fields
  unfolding settled_by replayed
  settled_by-figures = reclaim-figures s.n s.cap ok.cap_least hs s.n (replayed s.cap h) g

  -- with no cell free after it, a settle freed none: the log is replayed, and that is all
  settled_by-full : no_cell_free s (settled_by s hs h) ≡ true → settled_by s hs h ≡ replayed s.cap h
  unfolding no_cell_free settled_by replayed
  settled_by-full e = reclaim-full s.n s.cap ok.cap_least hs s.n (replayed s.cap h) g (eqb-true _ _ e)

-- with nothing logged a replay changes nothing
replayed_idle : (cap : ℕ) (h : Heap) → h.log ≡ [] → replayed cap h ≡ h
unfolding replayed replay
replayed_idle cap h e = go h.log e
  where
    go : (l : List Transaction) → l ≡ []
        → ◌≡◌ {A = Heap} (record { shape = h.shape; first = h.first; tables = replay cap l h.tables; log = []; freed = h.freed }) (record { shape = h.shape; first = h.first; tables = h.tables; log = l; freed = h.freed })
    go [] e = refl
    go (x ∷ l) e = absurd (let z = ap length e in omega arith)

-- and with nothing to take a settle does nothing
pub settled_idle : (s : Sizes) (h : Heap) → Done h.shape.variables h → h.log ≡ [] → settled s h ≡ h
unfolding settled settled_by
settled_idle s h d e = rw (replayed_idle s.cap h e) (reclaim_idle s.cap h.shape.variables s.n h d)

-- ---- v let go

-- h with the holds for its variables that the settle before a call counts: before a new, v let go
abbrev pub counting : Call → Heap → Heap
counting c h = having (counted c h) h

-- the heap after the settle before a call, if one is made; before a new with v let go
abbrev pub readied : Sizes → Call → Heap → Heap
readied s c h = settled_if (wants s c h) s (counted c h) (counting c h)

-- but for the variables it is the settled heap
pub for_readied : (s : Sizes) (c : Call) (h : Heap) → settled_for s c h ≡ having h.shape.variables (readied s c h)
for_readied s c h = settled_if-having (wants s c h) s (counted c h) h.shape.variables (counting c h)

-- what v held before is nothing to the taking
taken-readied : (s : Sizes) (v : ℕ) (h : Heap) → take_cell v (settled_for s (New v) h) ≡ take_cell v (readied s (New v) h)
unfolding take_cell hold
taken-readied s v h = ap (take_cell v) (for_readied s (New v) h) ∙ taken-having h.shape.variables (readied s (New v) h) (settled_if-variables (wants s (New v) h) s (counted (New v) h) (counting (New v) h))
  where
    taken-having : (vs : List (Option ℕ)) (x : Heap) → x.shape.variables ≡ set vs v none → take_cell v (having vs x) ≡ take_cell v x
    taken-having vs x e = rw (e, set-set vs v none (some x.first))

-- with no cell free when a new is done, a settle was made for it
pub none_free_settled : (s : Sizes) (v : ℕ) (h : Heap) → no_cell_free s (settled_for s (New v) h) ≡ true → settled_for s (New v) h ≡ settled_by s (counted (New v) h) h
unfolding wants settled_if
none_free_settled s v h e = go (full s 1 h) (no_cell_free s h) refl e
  where
    hs : List (Option ℕ)
    hs = counted (New v) h

    go : (p q : Bool) → no_cell_free s h ≡ q → no_cell_free s (settled_if (p || q) s hs h) ≡ true → settled_if (p || q) s hs h ≡ settled_by s hs h
    go true q d e = refl
    go false true d e = refl
    go false false d e = absurd (false≢true (sym d ∙ e))

-- what a call that passed its check comes to
abbrev pub Ran : Sizes → Call → Heap → Type 0
Ran s c h = (run s c h ≡ acted s c ((readied s c h).freed - h.freed) (readied s c h)) ⊎ (run s c h ≡ refused (replayed s.cap h) 14)

module _ (s : Sizes) (ok : Limits s) where
  -- ---- settle

  pub settled-done : (h : Heap) → Inv s h → (Done h.shape.variables (settled s h)) × (((settled s h).log ≡ []) × ((settled s h).shape.variables ≡ h.shape.variables))
  unfolding settled
  settled-done h g = let hs = h.shape.variables in (settled_by-done s ok hs h g.good, (settled_by-log s hs h, settled_by-variables s hs h))

  pub settled-inv : (h : Heap) → Inv s h → Inv s (settled s h)
  unfolding settled replay
  settled-inv h g =
      let hs = h.shape.variables in
      let l = settled_by-log s hs h in
      let v = settled_by-variables s hs h in
      record {
        good = rw (l, v) (settled_by-good s ok hs h g.good);
        frees = settled_by-frees s ok hs h g.good g.frees;
        kept = settled_by-kept s ok hs h g.good g.kept g.log_small;
        plain_1 = settled_by-plain s ok hs h g.good g.plain_1;
        figures = settled_by-figures s ok hs h g.good g.figures;
        variables_long = rw v g.variables_long;
        log_room = rw l (omega arith);
        log_small = rw l tt;
      }

  pub settle_sound : (h : Heap) → Inv s h → Ended s (settled s h)
  settle_sound h g = let d = settled-done h g in record { inv = settled-inv h g; settled_all = rw d.1.1 d.0; log_empty = d.1.0 }

  -- ---- the settle before a call

  settled_if-inv : (b : Bool) (h : Heap) → Inv s h → Inv s (settled_if b s h.shape.variables h)
  unfolding settled_if settled
  settled_if-inv true h g = settled-inv h g
  settled_if-inv false h g = g

  -- with v let go a heap keeps its invariant
  pub counting-inv : (c : Call) (h : Heap) → Inv s h → Inv s (counting c h)
  unfolding hold replay
  counting-inv (New v) h g =
      record {
        good = hold-good s ok h.shape (replay s.cap h.log h.tables) g.good v none (λ a e. absurd (let z : ◌≡◌ {A = ℕ} 0 1 = cc in omega arith));
        frees = g.frees;
        kept = g.kept;
        plain_1 = g.plain_1;
        figures = g.figures;
        variables_long = length-set h.shape.variables v none ∙ g.variables_long;
        log_room = g.log_room;
        log_small = g.log_small;
      }
  counting-inv (Do d) h g = g
  counting-inv Settle h g = g

  pub counted-good : (c : Call) (h : Heap) → Inv s h → Good s.n s.cap h.shape.fields (counted c h) (replay s.cap h.log h.tables)
  counted-good c h g = (counting-inv c h g).good

  -- with no cell free after the settle before a call, nothing was freed
  pub counted-full : (c : Call) (h : Heap) → Inv s h → no_cell_free s (settled_by s (counted c h) h) ≡ true → settled_by s (counted c h) h ≡ replayed s.cap h
  counted-full c h g = settled_by-full s ok (counted c h) h (counted-good c h g)

  -- between the settle for a new and the taking v may name a freed cell: the invariant is that of the heap with v let go
  pub readied-inv : (c : Call) (h : Heap) → Inv s h → Inv s (readied s c h)
  readied-inv c h g = settled_if-inv (wants s c h) (counting c h) (counting-inv c h g)

  -- the log has room for a call's entries
  pub for_room : (c : Call) (h : Heap) → Inv s h → length (settled_for s c h).log + needs c (settled_for s c h).shape ≤ s.l
  unfolding settled_if full
  for_room c h g = go (wants s c h) refl
    where
      hs : List (Option ℕ)
      hs = counted c h

      go : (b : Bool) → wants s c h ≡ b → length (settled_if b s hs h).log + needs c (settled_if b s hs h).shape ≤ s.l
      go true e = let l = ok.l_least in let k = needs_two c (settled_by s hs h).shape in rw (settled_by-log s hs h) (omega arith)
      go false e = ltb-false s.l (length h.log + needs c h.shape) (room-now s c h e)

  -- before a deed that needs no entry there is no settle
  pub unsettled : (d : Deed) (h : Heap) → Inv s h → logs d h.shape ≡ [] → settled_for s (Do d) h ≡ h
  unfolding wants full settled_if
  unsettled d h g e = rw (e, le-ltb s.l (length h.log + 0) (let r = g.log_room in omega arith))

  -- what passed its check passes after the settle too
  pub for_right : (c : Call) (h : Heap) → Inv s h → check c h.shape ≡ 0 → check c (settled_for s c h).shape ≡ 0
  unfolding refuses logs var
  for_right (New v) h g e = refl
  for_right (Do (Copy v w)) h g e = refl
  for_right (Do (Clear v)) h g e = refl
  for_right (Do (Link v f w)) h g e = rw (settled_if-variables (wants s (Do (Link v f w)) h) s h.shape.variables h) e
  for_right (Do (Put v f x)) h g e = rw (settled_if-variables (wants s (Do (Put v f x)) h) s h.shape.variables h) e
  for_right (Do (Blank v f)) h g e = rw (settled_if-variables (wants s (Do (Blank v f)) h) s h.shape.variables h) e
  for_right (Do (Follow v f w)) h g e = rw (unsettled (Follow v f w) h g refl) e
  for_right (Do (Read v f)) h g e = rw (unsettled (Read v f) h g refl) e
  for_right (Do (Same v w)) h g e = rw (unsettled (Same v w) h g refl) e
  for_right Settle h g e = refl

  -- both in the heap that is readied: for a deed that is the settled one
  readied-room : (c : Call) (h : Heap) → Inv s h → length (readied s c h).log + needs c (readied s c h).shape ≤ s.l
  readied-room (New v) h g = rw (for_readied s (New v) h) at (for_room (New v) h g)
  readied-room (Do d) h g = for_room (Do d) h g
  readied-room Settle h g = for_room Settle h g

  pub readied-right : (c : Call) (h : Heap) → Inv s h → check c h.shape ≡ 0 → check c (readied s c h).shape ≡ 0
  readied-right (New v) h g e = refl
  readied-right (Do d) h g e = for_right (Do d) h g e
  readied-right Settle h g e = refl

  -- ---- the deeds

  module _ (h : Heap) (g : Inv s h) where
    t : Tables
    t = replay s.cap h.log h.tables

    pub do_deed-inv : (d : Deed) → InRange s.m d → refuses d h.shape ≡ 0 → length h.log + length (logs d h.shape) ≤ s.l → Inv s (do_deed d h).heap
    unfolding do_deed t
    do_deed-inv d f e r =
        record {
          good = rw replay-append (deed_good s ok h.shape t g.good d f e);
          frees =
              act_keeps s ok h.shape t g.good (λ fs. Frees s.n fs h.first) g.frees
              (λ a f x i l u p. frees-store s.n h.shape.fields h.first g.good.len g.frees a f x i l (store-live s ok h.shape t g.good a f x i l u))
              d f e;
          kept = g.kept;
          plain_1 = act_keeps s ok h.shape t g.good Plain1 g.plain_1 (λ a f x i l u p. plain-store h.shape.fields a f x u g.plain_1) d f e;
          figures = act_keeps s ok h.shape t g.good Figures g.figures (λ a f x i l u p. figures-store h.shape.fields a f x p g.figures) d f e;
          variables_long = act-variables d h.shape ∙ g.variables_long;
          log_room = rw length-append r;
          log_small = small-append s.n h.log (logs d h.shape) g.log_small (logs-small s ok h.shape t g.good d f);
        }

    -- ---- new

    pub taken : no_cell_free s h ≡ false → Taken s.n h.shape.fields h.first g.good.len g.frees
    unfolding no_cell_free
    taken d = frees-take s.n h.shape.fields h.first g.good.len g.frees d

    pub take-inv : (v : ℕ) → no_cell_free s h ≡ false → length h.log + 1 ≤ s.l → Inv s (take_cell v h)
    unfolding take_cell hold replay change place t
    take-inv v d r =
        record {
          good =
              record {
                len = rw length-store g.good.len;
                counted = λ b. rw (replay-append, refs' b, live' b) (go b (eqb b h.first) refl);
                held = λ b i. rw (live' b) (kept b (eqb b h.first) refl (holds-set h.shape.variables v (some h.first) b i));
              };
          frees = T.rest;
          kept = g.kept;
          plain_1 = plain-store_0 h.shape.fields h.first Nothing g.plain_1;
          figures = figures-store h.shape.fields h.first 0 Nothing tt g.figures;
          variables_long = length-set h.shape.variables v (some h.first) ∙ g.variables_long;
          log_room = rw length-append r;
          log_small = small-append s.n h.log (allocates h.first ∷ []) g.log_small (below, tt);
        }
      where
        T : Taken s.n h.shape.fields h.first g.good.len g.frees
        T = taken d

        there_0 : place h.first 0 < length h.shape.fields
        there_0 = let k = T.there in omega arith

        below : h.first < s.n
        below = let k = T.there in let l = g.good.len in omega arith

        live' : (b : ℕ) → live (store h.shape.fields h.first 0 Nothing) b ≡ cond (eqb b h.first) true (live h.shape.fields b)
        live' b = live-store_0 h.shape.fields h.first b Nothing there_0

        refs' : (b : ℕ) → refs (store h.shape.fields h.first 0 Nothing) b ≡ refs h.shape.fields b
        refs' b = let e = rw T.mark.1 at (refs-store h.shape.fields h.first 0 b Nothing there_0) in omega arith

        old : (view t h.first ≡ (false, 0)) × (refs h.shape.fields h.first ≡ 0)
        old = (g.good.counted h.first).gone T.was_free

        fresh-view : view (apply s.cap (allocates h.first) t) h.first ≡ (true, 0)
        fresh-view = view-own s.cap (allocates h.first) t ∙ ap (change s.cap (allocates h.first)) old.0

        own : Counted s.cap (apply s.cap (allocates h.first) t) (refs h.shape.fields h.first) true h.first
        own = record { ok = rw fresh-view tt; exact = λ l. inr (rw fresh-view (sym old.1)); gone = λ l. absurd (true≢false l) }

        go : (b : ℕ) (q : Bool) → eqb b h.first ≡ q → Counted s.cap (apply s.cap (allocates h.first) t) (refs h.shape.fields b) (cond q true (live h.shape.fields b)) b
        go b true e = rw (eqb-true b h.first e) own
        go b false e =
            let c = g.good.counted b in
            record {
              ok = rw (view_other s.cap (allocates h.first) t b e) c.ok;
              exact = rw (view_other s.cap (allocates h.first) t b e) c.exact;
              gone = rw (view_other s.cap (allocates h.first) t b e) c.gone;
            }

        kept : (b : ℕ) (q : Bool) → eqb b h.first ≡ q → (some h.first ≡ some b) ⊎ (holds b h.shape.variables ≡ true) → cond q true (live h.shape.fields b) ≡ true
        kept b true e i = refl
        kept b false e (inl i) = absurd (eqb-false b h.first e (cc))
        kept b false e (inr i) = g.good.held b i

  -- ---- a call

  -- a new that finds no cell free after its settle: nothing was freed
  new_full : (v : ℕ) (h : Heap) → Inv s h → no_cell_free s (settled_for s (New v) h) ≡ true → settled_for s (New v) h ≡ replayed s.cap h
  new_full v h g e = let d = none_free_settled s v h e in d ∙ counted-full (New v) h g (rw d at e)

  -- a call that passed its check is done in the heap that is readied for it; but a new may answer 14, and has then freed nothing
  pub run_as : (c : Call) (h : Heap) → Inv s h → Ran s c h
  unfolding run acted do_new no_cell_free
  run_as (New v) h g = go (no_cell_free s (settled_for s (New v) h)) refl
    where
      go : (q : Bool) → no_cell_free s (settled_for s (New v) h) ≡ q
          → (do_new q v (settled_for s (New v) h) ≡ do_new (no_cell_free s (readied s (New v) h)) v (readied s (New v) h)) ⊎ (do_new q v (settled_for s (New v) h) ≡ refused (replayed s.cap h) 14)
      go true d = inr (ap (λ (x : Heap). refused x 14) (new_full v h g d))
      go false d = inl (rw (rw (for_readied s (New v) h) at d) (ap (λ (x : Heap). done x (pos 0)) (taken-readied s v h)))
  run_as (Do d) h g = inl refl
  run_as Settle h g = inl refl

  pub do_new-inv : (v : ℕ) (h : Heap) → Inv s h → length h.log + 1 ≤ s.l → Inv s (do_new (no_cell_free s h) v h).heap
  unfolding do_new
  do_new-inv v h g r = at (no_cell_free s h) refl
    where
      at : (q : Bool) → no_cell_free s h ≡ q → Inv s (do_new q v h).heap
      at true d = g
      at false d = take-inv h g v d r

  acted-inv : (c : Call) (k : ℕ) (h : Heap) → Inv s h → Fits s.m c → check c h.shape ≡ 0 → length h.log + needs c h.shape ≤ s.l → Inv s (acted s c k h).heap
  unfolding acted
  acted-inv (New v) k h g f e r = do_new-inv v h g r
  acted-inv (Do d) k h g f e r = do_deed-inv h g d f e r
  acted-inv Settle k h g f e r = g

  -- the log replayed and emptied, and nothing freed
  replayed-inv : (h : Heap) → Inv s h → Inv s (replayed s.cap h)
  unfolding replayed replay
  replayed-inv h g =
      record {
        good = g.good;
        frees = g.frees;
        kept = replay-kept s.n s.cap ok.cap_least h.log h.tables g.kept g.log_small;
        plain_1 = g.plain_1;
        figures = g.figures;
        variables_long = g.variables_long;
        log_room = omega arith;
        log_small = tt;
      }

  pub run-inv : (c : Call) (h : Heap) → Inv s h → Fits s.m c → check c h.shape ≡ 0 → Inv s (run s c h).heap
  run-inv c h g f e = go (run_as c h g)
    where
      go : Ran s c h → Inv s (run s c h).heap
      go (inl d) = rw d (acted-inv c ((readied s c h).freed - h.freed) (readied s c h) (readied-inv c h g) f (readied-right c h g e) (readied-room c h g))
      go (inr d) = rw d (replayed-inv h g)

  pub step-inv : (c : Call) (h : Heap) → Inv s h → Fits s.m c → Inv s (step s c h).heap
  unfolding step
  step-inv c h g f = go (check c h.shape) refl
    where
      go : (k : ℕ) → check c h.shape ≡ k → Inv s (unless k (refused h) (run s c h)).heap
      go zero e = run-inv c h g f e
      go (suc j) e = g

  -- ---- a batch

  pub calls_ended : (cs : List Call) (h : Heap) → Inv s h → AllFit s.m cs → Ended s (calls s cs h).heap
  unfolding calls
  calls_ended [] h g f = settle_sound h g
  calls_ended (c ∷ cs) h g f = calls_ended cs (step s c h).heap (step-inv c h g f.0) f.1

  -- the invariant does not ask how many cells were freed
  pub counted_from_0 : (h : Heap) → Inv s h → Inv s (unfreed h)
  counted_from_0 h g =
      record {
        good = g.good;
        frees = g.frees;
        kept = g.kept;
        plain_1 = g.plain_1;
        figures = g.figures;
        variables_long = g.variables_long;
        log_room = g.log_room;
        log_small = g.log_small;
      }

  pub batch_ended : (cs : List Call) (h : Heap) → Inv s h → AllFit s.m cs → Ended s (batch s cs h).heap
  unfolding batch
  batch_ended cs h g f = calls_ended cs (unfreed h) (counted_from_0 h g) f
