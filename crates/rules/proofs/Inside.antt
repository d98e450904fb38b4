-- Inside a batch: the heap after some of its calls, a call's answer there, and what a read says, by the rows that the batch of the calls before it leaves. Assumes nothing.
use Prim.Native.Nat.{ℕ, zero, suc, ◌+◌, ◌*◌, ◌<◌}
use mathlib.Core.Path.{◌≡◌, refl, sym, ap, ◌∙◌}
use mathlib.Core.Logic.{◌↔◌}
use mathlib.Core.Bool.{Bool, true, false, cond, true≢false}
use mathlib.Core.Option.{Option, none, some}
use mathlib.Core.List.{List, [], ◌∷◌, ◌++◌, append-nil}
use native.Mathlib.Omega.{arith}
use lib.Dec.{eqb}
use lib.IntN.{ℤ, pos, negsuc}
use lib.ListN.{length, get_or, drop, get_or-map}
use lib.Seq.{get_or-drop}
use borrow.Author.Tests.{eqb-true}
use Rattle.rules.specs.declared.Field.{Field}
use Rattle.rules.specs.declared.Field.TheVariants.{Nothing, Figure, Cell, Free}
use Rattle.rules.specs.declared.Deed.{Deed}
use Rattle.rules.specs.declared.Deed.TheVariants.{Copy, Clear, Link, Put, Blank, Follow, Read, Same}
use Rattle.rules.specs.declared.Call.{Call}
use Rattle.rules.specs.declared.Call.TheVariants.{Do}
use Rattle.rules.specs.declared.Sizes.{Sizes}
use Rattle.rules.specs.Head.{Limits}
use Rattle.rules.specs.Field.{kind_of, variable_of}
use Rattle.rules.specs.Heap.{Heap, place, field}
use Rattle.rules.specs.Rules.{replay}
use Rattle.rules.specs.Settle.{holds, replayed, settled_by, settled}
use Rattle.rules.specs.Call.{InRange, AllFit, unless, var, at, is_held, no_figure, refuses, value}
use Rattle.rules.specs.Step.{refused, wants, settled_if, settled_for, do_deed, acted, run, step, calls}
use Rattle.rules.specs.Rows.{rows_of}
use Rattle.rules.specs.Refusals.{answer_words}
use Rattle.rules.specs.Run.{Said, said}
use Rattle.rules.specs.Sound.{kind}
use Rattle.rules.specs.Demands.{AllListed, Finds, ReadSays}
use Rattle.rules.specs.Invariant.{live, Inv}
use Rattle.rules.specs.Moment.{heap_after}
use Rattle.rules.proofs.Cells.{free_dead}
use Rattle.rules.proofs.Positions.{kind_at}
use Rattle.rules.proofs.Turn.{turn-field}
use Rattle.rules.proofs.Reclaim.{reclaim_keeps}
use Rattle.rules.proofs.Calls.{holds-var, var-live}
use Rattle.rules.proofs.Step.{settled_by-variables, settled-inv, step-inv}
use Rattle.rules.proofs.Facts.{step-listed}

-- ---- the calls before

module _ (s : Sizes) where
  pub calls-end : (cs : List Call) (h : Heap) → (calls s cs h).heap ≡ settled s (heap_after s cs h)
  unfolding calls heap_after
  calls-end [] h = refl
  calls-end (c ∷ cs) h = calls-end cs (step s c h).heap

  -- a batch goes on from there
  pub calls-after : (cs ds : List Call) (h : Heap) → (calls s (cs ++ ds) h).heap ≡ (calls s ds (heap_after s cs h)).heap
  unfolding calls heap_after
  calls-after [] ds h = refl
  calls-after (c ∷ cs) ds h = calls-after cs ds (step s c h).heap

  pub after_both : (cs ds : List Call) (h : Heap) → heap_after s (cs ++ ds) h ≡ heap_after s ds (heap_after s cs h)
  unfolding heap_after
  after_both [] ds h = refl
  after_both (c ∷ cs) ds h = after_both cs ds (step s c h).heap

  -- the words of the answers row from there on
  pub words_from : (cs ds : List Call) (h : Heap) (rest : List ℤ)
      → drop (2 * length cs) (answer_words (calls s (cs ++ ds) h).answers ++ rest) ≡ answer_words (calls s ds (heap_after s cs h)).answers ++ rest
  unfolding calls heap_after
  words_from [] ds h rest = refl
  words_from (c ∷ cs) ds h rest =
      let two : 2 * suc (length cs) ≡ suc (suc (2 * length cs)) = omega arith in
      rw two (words_from cs ds (step s c h).heap rest)

  -- the call after them: its status, and its value beside it
  module _ (cs ds : List Call) (c : Call) (h : Heap) (rest : List ℤ) where
    row : List ℤ
    row = answer_words (calls s (cs ++ c ∷ ds) h).answers ++ rest

    word_at : (j : ℕ) → get_or row (2 * length cs + j) (negsuc 0) ≡ get_or (answer_words (calls s (c ∷ ds) (heap_after s cs h)).answers ++ rest) j (negsuc 0)
    unfolding row
    word_at j = sym (get_or-drop (2 * length cs) row j (negsuc 0)) ∙ ap (λ (l : List ℤ). get_or l j (negsuc 0)) (words_from cs (c ∷ ds) h rest)

    pub status-at : get_or (answer_words (calls s (cs ++ c ∷ ds) h).answers ++ rest) (2 * length cs) (negsuc 0) ≡ pos (step s c (heap_after s cs h)).answer.status
    unfolding calls row
    status-at = let z : 2 * length cs + 0 ≡ 2 * length cs = omega arith in rw z at (word_at 0)

    pub value-at : get_or (answer_words (calls s (cs ++ c ∷ ds) h).answers ++ rest) (2 * length cs + 1) (negsuc 0) ≡ (step s c (heap_after s cs h)).answer.value
    unfolding calls row
    value-at = word_at 1

  -- what is said to the calls at the front
  pub said-first : (cs ds : List Call) (h : Heap) (rest : List ℤ) → said cs (answer_words (calls s (cs ++ ds) h).answers ++ rest) ≡ said cs (answer_words (calls s cs h).answers ++ [])
  unfolding calls
  said-first [] ds h rest = refl
  said-first (c ∷ cs) ds h rest =
      ap (λ (l : List Said). record { call = c; status = pos (step s c h).answer.status; value = (step s c h).answer.value } ∷ l) (said-first cs ds (step s c h).heap rest)

  -- what follows the answers is not said
  pub said-alone : (cs : List Call) (h : Heap) (rest : List ℤ) → said cs (answer_words (calls s cs h).answers ++ rest) ≡ said cs (answer_words (calls s cs h).answers ++ [])
  said-alone cs h rest = rw (append-nil cs) at (said-first cs [] h rest)

  -- what is said to the calls after them
  pub said-from : (cs ds : List Call) (h : Heap) (rest : List ℤ)
      → said ds (drop (2 * length cs) (answer_words (calls s (cs ++ ds) h).answers ++ rest)) ≡ said ds (answer_words (calls s ds (heap_after s cs h)).answers ++ [])
  said-from cs ds h rest = ap (said ds) (words_from cs ds h rest) ∙ said-alone ds (heap_after s cs h) rest

  -- each call is answered 0, or with one of its reasons
  pub all_listed : (cs : List Call) (h : Heap) (rest : List ℤ) → AllListed (said cs (answer_words (calls s cs h).answers ++ rest))
  unfolding calls
  all_listed [] h rest = tt
  all_listed (c ∷ cs) h rest = (step-listed s c h, all_listed cs (step s c h).heap rest)

  pub after-inv : Limits s → (cs : List Call) (h : Heap) → Inv s h → AllFit s.m cs → Inv s (heap_after s cs h)
  unfolding heap_after
  after-inv ok [] h g f = g
  after-inv ok (c ∷ cs) h g f = after-inv ok cs (step s c h).heap (step-inv s ok c h g f.0) f.1

-- ---- a settle leaves the fields of a cell that a variable holds

module _ (s : Sizes) (ok : Limits s) (h : Heap) (g : Inv s h) where
  pub held-fields : (b f : ℕ) → holds b h.shape.variables ≡ true → f < 2 → field (settled s h).shape.fields b f ≡ field h.shape.fields b f
  unfolding settled settled_by replayed
  held-fields b f i k =
      let hs = h.shape.variables in
      reclaim_keeps s.n s.cap ok.cap_least hs (λ x. field x.shape.fields b f ≡ field h.shape.fields b f)
      (λ x e a z u p. turn-field s.n s.cap ok.cap_least hs x e a z u b f (apart a u (eqb b a) refl) k ∙ p)
      s.n (replayed s.cap h) g.good refl
    where
      apart : (a : ℕ) → holds a h.shape.variables ≡ false → (q : Bool) → eqb b a ≡ q → eqb b a ≡ false
      apart a u true e = absurd (true≢false (sym i ∙ ap (λ (x : ℕ). holds x h.shape.variables) (eqb-true b a e) ∙ u))
      apart a u false e = e

  pub var-settled : (v : ℕ) → var (settled s h).shape v ≡ var h.shape v
  unfolding var settled
  var-settled v = rw (settled_by-variables s h.shape.variables h)

  seen_settled : (v f : ℕ) → f < 2 → at (settled s h).shape v f ≡ at h.shape v f
  unfolding at var
  seen_settled v f k = rw (var-settled v, at) (go (var h.shape v) refl)
    where
      go : (o : Option ℕ) → var h.shape v ≡ o
          → ◌≡◌ {A = Field} (elim o [ none ↦ Nothing | some a ↦ field (settled s h).shape.fields a f ]) (elim o [ none ↦ Nothing | some a ↦ field h.shape.fields a f ])
      go none e = refl
      go (some a) e = held-fields a f (holds-var h.shape.variables v a e) k

  -- so a settle changes nothing for a deed
  pub refuses-settled : (d : Deed) → InRange s.m d → refuses d (settled s h).shape ≡ refuses d h.shape
  unfolding refuses
  refuses-settled (Copy v w) r = refl
  refuses-settled (Clear v) r = refl
  refuses-settled (Link v f w) r = rw (var-settled v, var-settled w)
  refuses-settled (Put v f x) r = rw (var-settled v)
  refuses-settled (Blank v f) r = rw (var-settled v)
  refuses-settled (Follow v f w) r = rw (var-settled v, seen_settled v f r.1)
  refuses-settled (Read v f) r = rw (var-settled v, seen_settled v f r.1)
  refuses-settled (Same v w) r = rw (var-settled v, var-settled w)

  pub value-settled : (d : Deed) → InRange s.m d → value d (settled s h).shape ≡ value d h.shape
  unfolding value
  value-settled (Copy v w) r = refl
  value-settled (Clear v) r = refl
  value-settled (Link v f w) r = refl
  value-settled (Put v f x) r = refl
  value-settled (Blank v f) r = refl
  value-settled (Follow v f w) r = refl
  value-settled (Read v f) r = rw (seen_settled v f r.1)
  value-settled (Same v w) r = rw (var-settled v, var-settled w)

  deed_ran : (d : Deed) → InRange s.m d → value d (settled_for s (Do d) h).shape ≡ value d h.shape
  unfolding settled_if settled
  deed_ran d r = go (wants s (Do d) h)
    where
      go : (b : Bool) → value d (settled_if b s h.shape.variables h).shape ≡ value d h.shape
      go true = value-settled d r
      go false = refl

  pub deed_value : (d : Deed) → InRange s.m d → refuses d h.shape ≡ 0 → (step s (Do d) h).answer.value ≡ value d h.shape
  unfolding step run acted do_deed
  deed_value d r e = rw e (deed_ran d r)

-- a deed's status is what refuses it
pub deed_status : (s : Sizes) (d : Deed) (h : Heap) → (step s (Do d) h).answer.status ≡ refuses d h.shape
unfolding step run acted do_deed
deed_status s d h = go (refuses d h.shape)
  where
    go : (k : ℕ) → (unless k (refused h) (run s (Do d) h)).answer.status ≡ k
    go zero = refl
    go (suc k) = refl

-- ---- what a read says

-- 11 where v holds nothing, else what its field f gives
read_status : (s : Sizes) (v f : ℕ) (h : Heap) → (step s (Do (Read v f)) h).answer.status ≡ cond (is_held (var h.shape v)) (no_figure (at h.shape v f)) 11
unfolding refuses
read_status s v f h = deed_status s (Read v f) h

-- by the field's kind
record ByKind (x : Field) : Type 0 where
  nought : (no_figure x ≡ 0) ↔ (kind_of x ≡ 1)
  eleven : no_figure x ≡ 11 → ⊥
  thirteen : (no_figure x ≡ 13) ↔ (kind_of x ≡ 2)
  fifteen : (no_figure x ≡ 15) ↔ (kind_of x ≡ 0)

by_kind : (x : Field) → ((b : ℕ) → x ≡ Free b → ⊥) → ByKind x
by_kind Nothing n = record { nought = (omega arith, omega arith); eleven = omega arith; thirteen = (omega arith, omega arith); fifteen = (omega arith, omega arith) }
by_kind (Figure x) n = record { nought = (omega arith, omega arith); eleven = omega arith; thirteen = (omega arith, omega arith); fifteen = (omega arith, omega arith) }
by_kind (Cell a) n = record { nought = (omega arith, omega arith); eleven = omega arith; thirteen = (omega arith, omega arith); fifteen = (omega arith, omega arith) }
by_kind (Free a) n = absurd (n a refl)

pub pos-same : (j k : ℕ) → pos j ≡ pos k → j ≡ k
pos-same j k e = cc

not_neg : (j k : ℕ) → pos j ≡ negsuc k → ⊥
not_neg j k e = let z : ◌≡◌ {A = ℕ} 0 1 = cc in omega arith

module _ (s : Sizes) (ok : Limits s) (h : Heap) (g : Inv s h) (v f : ℕ) (small : f < 2) where
  pub row-variable : get_or (rows_of s h).variables v (negsuc 0) ≡ variable_of (var h.shape v)
  unfolding rows_of var
  row-variable = get_or-map variable_of h.shape.variables v none

  module _ (a : ℕ) (e : var h.shape v ≡ some a) where
    in_use : live h.shape.fields a ≡ true
    in_use = var-live s ok h.shape (replay s.cap h.log h.tables) g.good v a e

    row-kind : kind (rows_of s h).kinds a f ≡ kind_of (field h.shape.fields a f)
    unfolding rows_of field place
    row-kind = kind_at h.shape.fields (2 * a + f)

    -- a cell in use has no free mark
    no-mark : (b : ℕ) → field h.shape.fields a f ≡ Free b → ⊥
    no-mark b = go f small
      where
        go : (f : ℕ) → f < 2 → field h.shape.fields a f ≡ Free b → ⊥
        go zero k d = true≢false (sym in_use ∙ free_dead h.shape.fields a b d)
        go (suc zero) k d = g.plain_1 a b d
        go (suc (suc f)) k d = absurd (omega arith)

    finds : (k : ℕ) → Finds (rows_of s h) v f k ↔ (kind_of (field h.shape.fields a f) ≡ k)
    finds k = (
      λ F. let c = pos-same a F.cell (sym (row-variable ∙ ap variable_of e) ∙ F.held) in sym row-kind ∙ ap (λ (b : ℕ). kind (rows_of s h).kinds b f) c ∙ F.there,
      λ d. record { cell = a; held = row-variable ∙ ap variable_of e; there = row-kind ∙ d },
    )

    says-field : ReadSays (rows_of s h) v f (pos (no_figure (field h.shape.fields a f)))
    says-field =
        let x = field h.shape.fields a f in
        let K = by_kind x no-mark in
        record {
          nought = (λ d. (finds 1).1 (K.nought.0 (pos-same _ _ d)), λ F. ap pos (K.nought.1 ((finds 1).0 F)));
          eleven = (λ d. absurd (K.eleven (pos-same _ _ d)), λ d. absurd (not_neg a 0 (sym (row-variable ∙ ap variable_of e) ∙ d)));
          thirteen = (λ d. (finds 2).1 (K.thirteen.0 (pos-same _ _ d)), λ F. ap pos (K.thirteen.1 ((finds 2).0 F)));
          fifteen = (λ d. (finds 0).1 (K.fifteen.0 (pos-same _ _ d)), λ F. ap pos (K.fifteen.1 ((finds 0).0 F)));
        }

  says_none : var h.shape v ≡ none → ReadSays (rows_of s h) v f (pos 11)
  says_none e =
      let w = row-variable ∙ ap variable_of e in
      record {
        nought = (λ d. absurd (let z = pos-same 11 0 d in omega arith), λ F. absurd (not_neg F.cell 0 (sym F.held ∙ w)));
        eleven = (λ d. w, λ d. refl);
        thirteen = (λ d. absurd (let z = pos-same 11 13 d in omega arith), λ F. absurd (not_neg F.cell 0 (sym F.held ∙ w)));
        fifteen = (λ d. absurd (let z = pos-same 11 15 d in omega arith), λ F. absurd (not_neg F.cell 0 (sym F.held ∙ w)));
      }

  read_says : ReadSays (rows_of s h) v f (pos (cond (is_held (var h.shape v)) (no_figure (at h.shape v f)) 11))
  unfolding at
  read_says = go (var h.shape v) refl
    where
      go : (o : Option ℕ) → var h.shape v ≡ o → ReadSays (rows_of s h) v f (pos (cond (is_held o) (no_figure (elim o [ none ↦ Nothing | some a ↦ field h.shape.fields a f ])) 11))
      go none e = says_none e
      go (some a) e = says-field a e

-- a read after these calls, by the rows of the heap that a settle leaves
pub read_after : (s : Sizes) (ok : Limits s) (h : Heap) → Inv s h → (v f : ℕ) → f < 2 → ReadSays (rows_of s (settled s h)) v f (pos (step s (Do (Read v f)) h).answer.status)
read_after s ok h g v f k =
    rw (read_status s v f h, ← var-settled s ok h g v, ← seen_settled s ok h g v f k) (read_says s ok (settled s h) (settled-inv s ok h g) v f k)
