-- A batch taken apart at a moment: the heap there, the call's answer there; two batches beside one another, that go on alike. Assumes nothing.
use Prim.Native.Nat.{ℕ, suc, ◌*◌}
use mathlib.Core.Path.{◌≡◌, refl, sym, ap, ap₂, ◌∙◌, subst}
use mathlib.Core.Logic.{◌⊎◌, inl, inr}
use mathlib.Core.List.{List, [], ◌∷◌, ◌++◌, append_assoc}
use lib.IntN.{ℤ, pos}
use lib.ListN.{length, drop}
use Rattle.rules.specs.declared.Head.{Head}
use Rattle.rules.specs.declared.Deed.{Deed}
use Rattle.rules.specs.declared.Call.{Call}
use Rattle.rules.specs.declared.Call.TheVariants.{New, Do, Settle}
use Rattle.rules.specs.declared.Sizes.{Sizes}
use Rattle.rules.specs.Heap.{Heap}
use Rattle.rules.specs.Settle.{settled}
use Rattle.rules.specs.Call.{AllFit, refuses, value}
use Rattle.rules.specs.Step.{Stepped, Result, step, calls, unfreed, batch}
use Rattle.rules.specs.Rows.{Lent, rows_of, head_of, heap_of}
use Rattle.rules.specs.Sound.{Sound, Sized}
use Rattle.rules.specs.Refusals.{Batched, outcome, cleared, leaves_with, answer_words, answered, accepted}
use Rattle.rules.specs.Run.{said}
use Rattle.rules.specs.Invariant.{Inv, Ended}
use Rattle.rules.specs.Moment.{heap_after, moment}
use Rattle.rules.specs.Demands.{status_at, value_at, SameBut, DeedSays}
use Rattle.rules.proofs.Step.{counted_from_0, settled_idle}
use Rattle.rules.proofs.Roundtrip.{heap-of-rows, rows-of-heap, head-of-heap}
use Rattle.rules.proofs.Facts.{Fourteen, call_refused}
use Rattle.rules.proofs.Inside.{calls-end, calls-after, after_both, status-at, value-at, said-alone, said-first, said-from, after-inv, refuses-settled, value-settled, deed_value, deed_status, pos-same}
use Rattle.rules.proofs.LetGo.{as_settle, settle_value}
use Rattle.rules.proofs.Calls.{fit_parts}
use Rattle.rules.proofs.Entry.{entry_ended}

-- ---- the moment

pub moment-inv : {h : Head} {r : Lent} → Sized h r → Sound h r → (cs : List Call) → AllFit h.sizes.m cs → Inv h.sizes (moment h r cs)
moment-inv {h} {r} Z S cs F = let ok = Z.within.limits in after-inv h.sizes ok cs (unfreed (heap_of h r)) (counted_from_0 h.sizes ok (heap_of h r) (entry_ended Z S).inv) F

module _ (h : Head) (r : Lent) where
  -- a batch goes on from there
  pub heap-there : (cs ds : List Call) → (batch h.sizes (cs ++ ds) (heap_of h r)).heap ≡ (calls h.sizes ds (moment h r cs)).heap
  unfolding batch
  heap-there cs ds = calls-after h.sizes cs ds (unfreed (heap_of h r))

  -- or ends
  pub end-there : (cs : List Call) → (batch h.sizes cs (heap_of h r)).heap ≡ settled h.sizes (moment h r cs)
  unfolding batch
  end-there cs = calls-end h.sizes cs (unfreed (heap_of h r))

  module _ (cs ds : List Call) (c : Call) (row : List ℤ) where
    pub status-there : status_at (accepted h r (cs ++ c ∷ ds) row) cs ≡ pos (step h.sizes c (moment h r cs)).answer.status
    unfolding accepted answered batch
    status-there = let s = h.sizes in let k = unfreed (heap_of h r) in status-at s cs ds c k (drop (2 * length (calls s (cs ++ c ∷ ds) k).answers) row)

    pub value_there : value_at (accepted h r (cs ++ c ∷ ds) row) cs ≡ (step h.sizes c (moment h r cs)).answer.value
    unfolding accepted answered batch
    value_there = let s = h.sizes in let k = unfreed (heap_of h r) in value-at s cs ds c k (drop (2 * length (calls s (cs ++ c ∷ ds) k).answers) row)

  -- what the batch of these calls alone says
  pub said-own : (cs : List Call) (row : List ℤ) → said cs (accepted h r cs row).answers ≡ said cs (answer_words (calls h.sizes cs (unfreed (heap_of h r))).answers ++ [])
  unfolding accepted answered batch
  said-own cs row = let s = h.sizes in let k = unfreed (heap_of h r) in said-alone s cs k (drop (2 * length (calls s cs k).answers) row)

-- ---- a batch of no call on a sound heap

-- its settle finds nothing to do
pub idle_left : {h : Head} {r : Lent} → Sized h r → Sound h r → (row : List ℤ) → accepted h r [] row ≡ leaves_with (outcome 0 h 0) (cleared h r) row
unfolding accepted batch calls answered
idle_left {h} {r} Z S row =
    let k = unfreed (heap_of h r) in
    let e : settled h.sizes k ≡ k = idle (entry_ended Z S) in
    rw e (ap₂ (λ (x : Head) (y : Lent). leaves_with (outcome 0 x 0) y row) (same_head ∙ head-of-heap Z) (same_rows ∙ rows-of-heap Z S))
  where
    idle : Ended h.sizes (heap_of h r) → settled h.sizes (unfreed (heap_of h r)) ≡ unfreed (heap_of h r)
    idle E = settled_idle h.sizes (unfreed (heap_of h r)) E.settled_all E.log_empty

    same_head : head_of h.sizes (unfreed (heap_of h r)) ≡ head_of h.sizes (heap_of h r)
    same_head = unfold head_of in refl

    same_rows : rows_of h.sizes (unfreed (heap_of h r)) ≡ rows_of h.sizes (heap_of h r)
    same_rows = unfold rows_of in refl

-- ---- two batches

-- what a batch leaves is told by the heap at its end
pub same_left : (s : Sizes) {x y : Heap} → x ≡ y → (outcome 0 (head_of s x) x.freed ≡ outcome 0 (head_of s y) y.freed) × (rows_of s x ≡ rows_of s y)
same_left s e = (ap (λ (y : Heap). outcome 0 (head_of s y) y.freed) e, ap (rows_of s) e)

pub same_as : {cs us vs ds : List Call} {o p x y : Batched} → o ≡ x → p ≡ y → SameBut cs us vs ds x y → SameBut cs us vs ds o p
same_as {cs} {us} {vs} {ds} {o} {p} {x} {y} e d S = subst (λ (z : Batched). SameBut cs us vs ds z p) (sym e) (subst (λ (z : Batched). SameBut cs us vs ds x z) (sym d) S)

module _ (h : Head) (r : Lent) (cs ds : List Call) where
  abbrev s : Sizes
  s = h.sizes

  abbrev k : Heap
  k = unfreed (heap_of h r)

  whole-heap : (us : List Call) → (batch s (cs ++ (us ++ ds)) (heap_of h r)).heap ≡ (calls s ds (moment h r (cs ++ us))).heap
  whole-heap us = ap (λ (es : List Call). (batch s es (heap_of h r)).heap) (sym (append_assoc cs us ds)) ∙ heap-there h r (cs ++ us) ds

  pub said-before : (us : List Call) (row : List ℤ) → said cs (accepted h r (cs ++ (us ++ ds)) row).answers ≡ said cs (answer_words (calls s cs k).answers ++ [])
  unfolding accepted answered batch
  said-before us row = said-first s cs (us ++ ds) k (drop (2 * length (calls s (cs ++ (us ++ ds)) k).answers) row)

  pub said-after : (us : List Call) (row : List ℤ) → said ds (drop (2 * length (cs ++ us)) (accepted h r (cs ++ (us ++ ds)) row).answers) ≡ said ds (answer_words (calls s ds (moment h r (cs ++ us))).answers ++ [])
  unfolding accepted answered batch
  said-after us row = rw (← append_assoc cs us ds) (said-from s (cs ++ us) ds k (drop (2 * length (calls s ((cs ++ us) ++ ds) k).answers) row))

  -- batches that go on alike after cs and us, and after cs and vs, leave the same
  pub same_but : (us vs : List Call) (row row' : List ℤ) → calls s ds (moment h r (cs ++ us)) ≡ calls s ds (moment h r (cs ++ vs))
      → SameBut cs us vs ds (accepted h r (cs ++ (us ++ ds)) row) (accepted h r (cs ++ (vs ++ ds)) row')
  unfolding accepted
  same_but us vs row row' e =
      let same = whole-heap us ∙ ap (λ (o : Result). o.heap) e ∙ sym (whole-heap vs) in
      record {
        outcomes = (same_left s same).0;
        same_rows = (same_left s same).1;
        before = said-before us row ∙ sym (said-before vs row');
        after = said-after us row ∙ ap (λ (o : Result). said ds (answer_words o.answers ++ [])) e ∙ sym (said-after vs row');
      }

-- the moment after one more call, or none
module _ (h : Head) (r : Lent) (cs : List Call) where
  pub then-call : (c : Call) → moment h r (cs ++ c ∷ []) ≡ (step h.sizes c (moment h r cs)).heap
  unfolding heap_after
  then-call c = after_both h.sizes cs (c ∷ []) (unfreed (heap_of h r))

  pub then-none : moment h r (cs ++ []) ≡ moment h r cs
  unfolding heap_after
  then-none = after_both h.sizes cs [] (unfreed (heap_of h r))

-- ---- a new answered 14 is as the call settle

module _ {h : Head} {r : Lent} (Z : Sized h r) (S : Sound h r) (cs : List Call) (F : AllFit h.sizes.m cs) (ds : List Call) (v : ℕ) (row row' : List ℤ) where
  pub as_settled : status_at (accepted h r (cs ++ New v ∷ ds) row) cs ≡ pos 14
      → SameBut cs (New v ∷ []) (Settle ∷ []) ds (accepted h r (cs ++ New v ∷ ds) row) (accepted h r (cs ++ Settle ∷ ds) row') × (value_at (accepted h r (cs ++ Settle ∷ ds) row') cs ≡ pos 0)
  as_settled e =
      let s = h.sizes in
      let I = moment-inv Z S cs F in
      let w = pos-same _ _ (sym (status-there h r cs ds (New v) row) ∙ e) in
      let a = ap (λ (o : Stepped). o.heap) (as_settle s Z.within.limits v (moment h r cs) I w) in (
        same_but h r cs ds (New v ∷ []) (Settle ∷ []) row row' (ap (calls s ds) (then-call h r cs (New v) ∙ a ∙ sym (then-call h r cs Settle))),
        value_there h r cs ds Settle row' ∙ settle_value s Z.within.limits v (moment h r cs) I w,
      )

-- ---- a deed, by what the calls before it leave

module _ {h : Head} {r : Lent} (Z : Sized h r) (S : Sound h r) (cs ds : List Call) (d : Deed) (F : AllFit h.sizes.m (cs ++ Do d ∷ ds)) (row row' : List ℤ) where
  shape-left : (heap_of (accepted h r cs row').outcome.head (accepted h r cs row').rows).shape ≡ (settled h.sizes (moment h r cs)).shape
  unfolding accepted
  shape-left = rw (end-there h r cs) (ap (λ (x : Heap). x.shape) (heap-of-rows h.sizes (settled h.sizes (moment h r cs))))

  pub deed_says : DeedSays d (heap_of (accepted h r cs row').outcome.head (accepted h r cs row').rows).shape (status_at (accepted h r (cs ++ Do d ∷ ds) row) cs) (value_at (accepted h r (cs ++ Do d ∷ ds) row) cs)
  deed_says =
      let s = h.sizes in
      let ok = Z.within.limits in
      let m = moment h r cs in
      let p = fit_parts s.m cs (Do d ∷ ds) F in
      let I = moment-inv Z S cs p.0 in
      let e = ap (refuses d) shape-left ∙ refuses-settled s ok m I d p.1.0 in
      record {
        refused_for = status-there h r cs ds (Do d) row ∙ ap pos (deed_status s d m ∙ sym e);
        value-is = λ z.
            value_there h r cs ds (Do d) row ∙ deed_value s ok m I d p.1.0 (sym e ∙ z) ∙ sym (ap (value d) shape-left ∙ value-settled s ok m I d p.1.0);
      }

-- ---- a call that is refused, but not with 14, is as left out

module _ (h : Head) (r : Lent) (cs ds : List Call) (x : Call) (k : ℕ) (row row' : List ℤ) where
  pub left_out : status_at (accepted h r (cs ++ x ∷ ds) row) cs ≡ pos (suc k) → (suc k ≡ 14 → ⊥) → SameBut cs (x ∷ []) [] ds (accepted h r (cs ++ x ∷ ds) row) (accepted h r (cs ++ ds) row')
  left_out e n =
      let s = h.sizes in
      let m = moment h r cs in
      let q = (call_refused s x m k (pos-same _ _ (sym (status-there h r cs ds x row) ∙ e))).1 in
      same_but h r cs ds (x ∷ []) [] row row'
      (ap (calls s ds) (then-call h r cs x ∙ same q ∙ sym (then-none h r cs)))
    where
      same : {A : Type 0} → (A × ((step h.sizes x (moment h r cs)).heap ≡ moment h r cs)) ⊎ Fourteen h.sizes x (moment h r cs) (suc k) (step h.sizes x (moment h r cs)) → (step h.sizes x (moment h r cs)).heap ≡ moment h r cs
      same (inl p) = p.1
      same (inr f) = absurd (n f.said)
