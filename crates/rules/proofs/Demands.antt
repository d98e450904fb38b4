-- The three demands, met by our heap and by every outcome that has its entry point's contract; and that they fix the heap. Assumes nothing.
use mathlib.Core.Path.{◌≡◌, refl, sym, ap, ◌∙◌, subst}
use mathlib.Core.Logic.{◌↔◌}
use mathlib.Core.Bool.{Bool, true, false}
use mathlib.Core.List.{List, [], ◌∷◌}
use Rattle.rules.specs.declared.Head.{Head}
use Rattle.rules.specs.declared.Sizes.{Sizes}
use Rattle.rules.specs.Head.{fresh_head}
use Rattle.rules.specs.Rows.{Lent}
use Rattle.rules.specs.Sound.{Sound, Sized}
use Rattle.rules.specs.Refusals.{After, Batched, is_sized, is_sound, fresh_of, audit_of, batch_of}
use Rattle.rules.specs.Endless.{endless}
use Rattle.rules.specs.Run.{Heaps, ours, Batch, hand_in, run_from, run_of, Came, Trace, AlikeBatches, AlikeRows, AlikeRuns, said_in, but14, AsEndless}
use Rattle.rules.specs.Demands.{BatchRefuses, CallRefused, FreshRefuses, AuditRefuses, BatchSettles, BatchesSettle, SettleEnds, Demand1, Demand2, Demand3, Contracts}
use Rattle.rules.proofs.Tests.{sized-true, sized-false, sound-true, sound-false}
use Rattle.rules.proofs.Figures.{figures_hidden}
use Rattle.rules.proofs.AsEndless.{as_endless}
use Rattle.rules.proofs.Demand1.{Way, way_0, way_1, way_2, way_3, way_4, way}
use Rattle.rules.proofs.Demand1 as one
use Rattle.rules.proofs.Demand2 as two

pub demand_1 : Demand1 ours
demand_1 = one.demand_1

pub demand_2 : Demand2 ours
demand_2 = two.demand_2

pub demand_3 : Demand3 ours
demand_3 = record { figures_hidden = figures_hidden; as_endless = as_endless }

-- ---- the demands fix the heap

module _ (H : Heaps) (d : Demand1 H) (e : Demand2 H) where
  batch_fixed : (h : Head) (r : Lent) (b : Batch) → Way h r b (hand_in ours h r b) → hand_in H h r b ≡ hand_in ours h r b
  batch_fixed h r b (way_1 n p) = let x = (d.batch_refuses h r b).refused_1 in x.left (x.when n) ∙ sym p
  batch_fixed h r b (way_2 z c p) = let x = (d.batch_refuses h r b).refused_2 in x.left (x.when (z, c)) ∙ sym p
  batch_fixed h r b (way_3 z s p) = let x = (d.batch_refuses h r b).refused_3 in x.left (x.when (z, s)) ∙ sym p
  batch_fixed h r b (way_4 z c u p) = let x = (d.batch_refuses h r b).refused_4 in x.left (x.when (z, c, u)) ∙ sym p
  batch_fixed h r b (way_0 z c u p) = (e.batch_settles h r b).by_the_rules c.calls c.decoded ((d.batch_refuses h r b).accepted_else z c u) ∙ sym p

  fresh_fixed : (s : Sizes) (r : Lent) (q : Bool) → is_sized (fresh_head s) r ≡ q → H.fresh s r ≡ fresh_of s r
  fresh_fixed s r true t = let z = sized-true _ _ t in (d.fresh_refuses_only_1 s r).1 z ∙ sym ((demand_1.fresh_refuses_only_1 s r).1 z)
  fresh_fixed s r false t = let z = sized-false _ _ t in (d.fresh_refuses_only_1 s r).0 z ∙ sym ((demand_1.fresh_refuses_only_1 s r).0 z)

  audit_fixed : (h : Head) (r : Lent) (p q : Bool) → is_sized h r ≡ p → is_sound h r ≡ q → H.audit h r ≡ audit_of h r
  audit_fixed h r false q s t = let z = sized-false h r s in (d.audit_refuses_only_1_and_4 h r).0 z ∙ sym ((demand_1.audit_refuses_only_1_and_4 h r).0 z)
  audit_fixed h r true false s t =
      let z = sized-true h r s in
      let u = sound-false h r t in
      (d.audit_refuses_only_1_and_4 h r).1 z u ∙ sym ((demand_1.audit_refuses_only_1_and_4 h r).1 z u)
  audit_fixed h r true true s t =
      let z = sized-true h r s in
      let u = sound-true h r t in
      (d.audit_refuses_only_1_and_4 h r).2 z u ∙ sym ((demand_1.audit_refuses_only_1_and_4 h r).2 z u)

  -- a heap that meets demands 1 and 2 is ours in every outcome
  pub demands_fix : Contracts H ours
  demands_fix =
      record {
        fresh_as = λ s r. fresh_fixed s r _ refl;
        audit_as = λ h r. audit_fixed h r _ _ refl refl;
        batch_as = λ h r ws row. let b : Batch = record { calls = ws; answers = row } in batch_fixed h r b (way h r b);
      }

-- ---- of outcomes that have their entry points' contracts

-- one batch, and two and three
pub batch-outcome : (h : Head) (r : Lent) (b : Batch) (o : Batched) → o ≡ batch_of h r b.calls b.answers → BatchRefuses h r b o × BatchSettles h r b o
batch-outcome h r b o e = subst (λ (x : Batched). BatchRefuses h r b x × BatchSettles h r b x) (sym e) (demand_1.batch_refuses h r b, demand_2.batch_settles h r b)

pub two-outcomes : (h : Head) (r : Lent) (b c : Batch) (o p : Batched) → o ≡ batch_of h r b.calls b.answers → p ≡ batch_of h r c.calls c.answers
    → CallRefused h r b c o p × BatchesSettle h r b c o p
two-outcomes h r b c o p e f =
    subst (λ (x : Batched). CallRefused h r b c x p × BatchesSettle h r b c x p) (sym e)
    (subst (λ (y : Batched). CallRefused h r b c (hand_in ours h r b) y × BatchesSettle h r b c (hand_in ours h r b) y) (sym f) (demand_1.call_refused h r b c, demand_2.batches_settle h r b c))

pub three-outcomes : (h : Head) (r : Lent) (b c d : Batch) (o p q : Batched)
    → o ≡ batch_of h r b.calls b.answers → p ≡ batch_of h r c.calls c.answers → q ≡ batch_of p.outcome.head p.rows d.calls d.answers
    → SettleEnds h b c d o p q
three-outcomes h r b c d o p q e f g =
    subst (λ (z : Batched). SettleEnds h b c d o p z) (sym g)
    (subst (λ (y : Batched). SettleEnds h b c d o y (hand_in ours y.outcome.head y.rows d)) (sym f)
    (subst (λ (x : Batched). SettleEnds h b c d x (hand_in ours h r c) (hand_in ours (hand_in ours h r c).outcome.head (hand_in ours h r c).rows d)) (sym e) (demand_2.settle_ends h r b c d)))

pub fresh-outcome : (s : Sizes) (r : Lent) (o : After) → o ≡ fresh_of s r → FreshRefuses s r o
fresh-outcome s r o e = subst (FreshRefuses s r) (sym e) (demand_1.fresh_refuses_only_1 s r)

pub audit-outcome : (h : Head) (r : Lent) (o : After) → o ≡ audit_of h r → AuditRefuses h r o × (Sized h r → (o.outcome.status ≡ 0) ↔ Sound h r)
audit-outcome h r o e =
    subst (λ (x : After). AuditRefuses h r x × (Sized h r → (x.outcome.status ≡ 0) ↔ Sound h r)) (sym e) (demand_1.audit_refuses_only_1_and_4 h r, demand_2.audit_exactly h r)

-- a run: a fresh outcome, and outcomes each of which is a batch on what the one before left
came-is : (h : Head) (r : Lent) (bs : List Batch) (os : List Batched) → Came h r bs os → os ≡ run_from ours h r bs
unfolding run_from
came-is h r [] [] c = refl
came-is h r [] (o ∷ os) c = absurd c
came-is h r (b ∷ bs) [] c = absurd c
came-is h r (b ∷ bs) (o ∷ os) c =
    ap (λ (t : List Batched). o ∷ t) (came-is o.outcome.head o.rows bs os c.1) ∙ ap (λ (x : Batched). x ∷ run_from ours x.outcome.head x.rows bs) c.0

module _ {s : Sizes} {r : Lent} {f : After} {bs : List Batch} {os : List Batched} (t : Trace s r f bs os) where
  trace_is : os ≡ run_of ours s r bs
  unfolding run_of
  trace_is = came-is f.outcome.head f.rows bs os t.came ∙ ap (λ (g : After). run_from ours g.outcome.head g.rows bs) t.made

  fresh-taken : (fresh_of s r).outcome.status ≡ 0
  fresh-taken = ap (λ (g : After). g.outcome.status) (sym t.made) ∙ t.taken

  pub trace_endless : AsEndless (but14 (said_in s.m bs os)) (endless s.m)
  trace_endless = rw trace_is (as_endless s r bs fresh-taken)

pub trace_figures : {s : Sizes} {r q : Lent} {f g : After} {bs cs : List Batch} {os ps : List Batched} → Trace s r f bs os → Trace s q g cs ps → AlikeBatches bs cs
    → (f.outcome ≡ g.outcome) × AlikeRows f.rows g.rows × AlikeRuns bs os ps
trace_figures {s} {r} {q} {f} {g} {bs} {cs} t u a =
    rw (t.made, u.made, trace_is t, trace_is u) (figures_hidden s r q bs cs (fresh-taken t) (fresh-taken u) a)

-- ---- a heap with the contracts

-- one outcome for each input: two heaps that meet the contracts agree in every outcome
pub unique : (H G : Heaps) → Contracts H ours → Contracts G ours → Contracts H G
unique H G c d =
    record {
      fresh_as = λ s r. c.fresh_as s r ∙ sym (d.fresh_as s r);
      audit_as = λ h r. c.audit_as h r ∙ sym (d.audit_as h r);
      batch_as = λ h r ws row. c.batch_as h r ws row ∙ sym (d.batch_as h r ws row);
    }

-- so they are one
pub are-one : (H G : Heaps) → Contracts H G → H ≡ G
are-one H G c = λ i. record {
  fresh = λ s r. c.fresh_as s r i;
  audit = λ h r. c.audit_as h r i;
  batch = λ h r ws row. c.batch_as h r ws row i;
}

-- what the contracts promise is enough for all three demands
pub contracts_meet : (H : Heaps) → Contracts H ours → Demand1 H × Demand2 H × Demand3 H
contracts_meet H c =
    let e = sym (are-one H ours c) in
    (subst Demand1 e demand_1, subst Demand2 e demand_2, subst Demand3 e demand_3)
