-- Demand 1 of our heap: it refuses for the listed reasons, in their order, and for no others. Assumes nothing.
use Prim.Native.Nat.{ℕ, suc, ◌*◌, ◌≤◌}
use mathlib.Core.Path.{◌≡◌, refl, sym, ap, ◌∙◌}
use mathlib.Core.Bool.{Bool, true, false, cond}
use mathlib.Core.Option.{Option, none, some}
use mathlib.Core.List.{List, [], ◌∷◌, ◌++◌}
use native.Mathlib.Omega.{arith}
use lib.Dec.{leb}
use lib.ListN.{length, drop, replicate, length-append, length-drop}
use lib.Seq.{drop_at}
use lib.IntN.{ℤ}
use borrow.Author.Tests.{leb-true, leb-false}
use Rattle.rules.specs.declared.Head.{Head}
use Rattle.rules.specs.declared.Deed.TheVariants.{Read}
use Rattle.rules.specs.declared.Call.{Call}
use Rattle.rules.specs.declared.Call.TheVariants.{New, Do, Settle}
use Rattle.rules.specs.declared.Sizes.{Sizes}
use Rattle.rules.specs.Head.{fresh_head, zero_head}
use Rattle.rules.specs.Heap.{Heap}
use Rattle.rules.specs.Call.{Answer, AllFit, calls_in}
use Rattle.rules.specs.Step.{step, calls, unfreed, batch, fresh}
use Rattle.rules.specs.Rows.{Lent, rows_of, heap_of}
use Rattle.rules.specs.Sound.{Sound, Sized}
use Rattle.rules.specs.Refusals.{Batched, outcome, leaves, leaves_with, cleared, is_sized, is_sound, answer_words, answered, accepted, check_sound, check_answers, check_calls, fresh_of, audit_of, batch_of}
use Rattle.rules.specs.Run.{ours, Batch, hand_in, said}
use Rattle.rules.specs.Moment.{moment}
use Rattle.rules.specs.Demands.{Asks, Accepted, status_at, Callable, TooShort, Exactly, AllListed, ReadSays, BatchRefuses, CallRefused, Demand1}
use Rattle.rules.proofs.Calls.{calls_in_fit, fit_parts}
use Rattle.rules.proofs.Inside.{all_listed, read_after}
use Rattle.rules.proofs.Beside.{moment-inv, end-there, status-there, idle_left, same_as, as_settled, deed_says, left_out}
use Rattle.rules.proofs.Tests.{sized-true, sized-false, true-sized, false-sized, sound-true, sound-false, true-sound, false-sound}

-- the five ways of a batch
pub data Way (h : Head) (r : Lent) (b : Batch) (o : Batched) : Type 0 where
  way_1 : (Sized h r → ⊥) → o ≡ leaves_with (outcome 1 h 0) r b.answers → Way h r b o
  way_2 : Sized h r → calls_in h.sizes.m b.calls ≡ none → o ≡ leaves_with (outcome 2 h 0) r b.answers → Way h r b o
  way_3 : Sized h r → TooShort h b → o ≡ leaves_with (outcome 3 h 0) r b.answers → Way h r b o
  way_4 : Sized h r → Callable h b → (Sound h r → ⊥) → o ≡ leaves_with (outcome 4 h 0) (cleared h r) b.answers → Way h r b o
  way_0 : Sized h r → (c : Callable h b) → Sound h r → o ≡ accepted h r c.calls b.answers → Way h r b o

module _ (h : Head) (r : Lent) (b : Batch) where
  sound_way : Sized h r → (c : Callable h b) → (q : Bool) → is_sound h r ≡ q → Way h r b (cond q (accepted h r c.calls b.answers) (leaves_with (outcome 4 h 0) (cleared h r) b.answers))
  sound_way z c true e = way_0 z c (sound-true h r e) refl
  sound_way z c false e = way_4 z c (sound-false h r e) refl

  answers_way : Sized h r → (cs : List Call) → calls_in h.sizes.m b.calls ≡ some cs → (q : Bool) → leb (2 * length cs) (length b.answers) ≡ q
      → Way h r b (cond q (check_sound h r cs b.answers) (leaves_with (outcome 3 h 0) r b.answers))
  unfolding check_sound
  answers_way z cs d true e = sound_way z (record { calls = cs; decoded = d; room = leb-true _ _ e }) (is_sound h r) refl
  answers_way z cs d false e = way_3 z (record { calls = cs; decoded = d; short = leb-false _ _ e }) refl

  calls_way : Sized h r → (o : Option (List Call)) → calls_in h.sizes.m b.calls ≡ o → Way h r b (check_calls h r o b.answers)
  unfolding check_calls check_answers
  calls_way z none d = way_2 z d refl
  calls_way z (some cs) d = answers_way z cs d (leb (2 * length cs) (length b.answers)) refl

  pub way : Way h r b (hand_in ours h r b)
  unfolding batch_of
  way = go (is_sized h r) refl
    where
      go : (q : Bool) → is_sized h r ≡ q → Way h r b (cond q (check_calls h r (calls_in h.sizes.m b.calls) b.answers) (leaves_with (outcome 1 h 0) r b.answers))
      go true e = calls_way (sized-true h r e) (calls_in h.sizes.m b.calls) refl
      go false e = way_1 (sized-false h r e) refl

  -- the reasons exclude one another
  none_callable : calls_in h.sizes.m b.calls ≡ none → Callable h b → ⊥
  none_callable e c = let d = c.decoded in let z : ◌≡◌ {A = ℕ} 0 1 = cc in omega arith

  none-short : calls_in h.sizes.m b.calls ≡ none → TooShort h b → ⊥
  none-short e c = let d = c.decoded in let z : ◌≡◌ {A = ℕ} 0 1 = cc in omega arith

  pub same-calls : (cs ds : List Call) → calls_in h.sizes.m b.calls ≡ some cs → calls_in h.sizes.m b.calls ≡ some ds → cs ≡ ds
  same-calls cs ds e f = cc

  short_callable : TooShort h b → Callable h b → ⊥
  short_callable s c =
      let e = ap length (same-calls s.calls c.calls s.decoded c.decoded) in
      let a = s.short in
      let d = c.room in
      omega arith

  -- a way that is the reason's own, and one that is another's
  own : {P : Type 0} {k : ℕ} {o what : Batched} → P → what.outcome.status ≡ k → o ≡ what → Exactly P k o what
  own p s e = record { when = λ q. ap (λ (x : Batched). x.outcome.status) e ∙ s; only = λ q. p; left = λ q. e }

  other : {P : Type 0} {k j : ℕ} {o what : Batched} (its : Batched) → (P → ⊥) → (j ≡ k → ⊥) → its.outcome.status ≡ j → o ≡ its → Exactly P k o what
  other {k = k} {o = o} its n d s e =
      let no : o.outcome.status ≡ k → ⊥ = λ q. d (sym (ap (λ (x : Batched). x.outcome.status) e ∙ s) ∙ q) in
      record { when = λ p. absurd (n p); only = λ q. absurd (no q); left = λ q. absurd (no q) }

  accepted_0 : (cs : List Call) → (accepted h r cs b.answers).outcome.status ≡ 0
  unfolding accepted
  accepted_0 cs = refl

  exactly_1 : {o : Batched} → Way h r b o → Exactly (Sized h r → ⊥) 1 o (leaves_with (outcome 1 h 0) r b.answers)
  exactly_1 (way_1 n e) = own n refl e
  exactly_1 (way_2 z c e) = other (leaves_with (outcome 2 h 0) r b.answers) (λ n. n z) (omega arith) refl e
  exactly_1 (way_3 z s e) = other (leaves_with (outcome 3 h 0) r b.answers) (λ n. n z) (omega arith) refl e
  exactly_1 (way_4 z c u e) = other (leaves_with (outcome 4 h 0) (cleared h r) b.answers) (λ n. n z) (omega arith) refl e
  exactly_1 (way_0 z c u e) = other (accepted h r c.calls b.answers) (λ n. n z) (omega arith) (accepted_0 c.calls) e

  exactly_2 : {o : Batched} → Way h r b o → Exactly (Sized h r × (calls_in h.sizes.m b.calls ≡ none)) 2 o (leaves_with (outcome 2 h 0) r b.answers)
  exactly_2 (way_1 n e) = other (leaves_with (outcome 1 h 0) r b.answers) (λ p. n p.0) (omega arith) refl e
  exactly_2 (way_2 z c e) = own (z, c) refl e
  exactly_2 (way_3 z s e) = other (leaves_with (outcome 3 h 0) r b.answers) (λ p. none-short p.1 s) (omega arith) refl e
  exactly_2 (way_4 z c u e) = other (leaves_with (outcome 4 h 0) (cleared h r) b.answers) (λ p. none_callable p.1 c) (omega arith) refl e
  exactly_2 (way_0 z c u e) = other (accepted h r c.calls b.answers) (λ p. none_callable p.1 c) (omega arith) (accepted_0 c.calls) e

  exactly_3 : {o : Batched} → Way h r b o → Exactly (Sized h r × TooShort h b) 3 o (leaves_with (outcome 3 h 0) r b.answers)
  exactly_3 (way_1 n e) = other (leaves_with (outcome 1 h 0) r b.answers) (λ p. n p.0) (omega arith) refl e
  exactly_3 (way_2 z c e) = other (leaves_with (outcome 2 h 0) r b.answers) (λ p. none-short c p.1) (omega arith) refl e
  exactly_3 (way_3 z s e) = own (z, s) refl e
  exactly_3 (way_4 z c u e) = other (leaves_with (outcome 4 h 0) (cleared h r) b.answers) (λ p. short_callable p.1 c) (omega arith) refl e
  exactly_3 (way_0 z c u e) = other (accepted h r c.calls b.answers) (λ p. short_callable p.1 c) (omega arith) (accepted_0 c.calls) e

  exactly_4 : {o : Batched} → Way h r b o → Exactly (Sized h r × Callable h b × (Sound h r → ⊥)) 4 o (leaves_with (outcome 4 h 0) (cleared h r) b.answers)
  exactly_4 (way_1 n e) = other (leaves_with (outcome 1 h 0) r b.answers) (λ p. n p.0) (omega arith) refl e
  exactly_4 (way_2 z c e) = other (leaves_with (outcome 2 h 0) r b.answers) (λ p. none_callable c p.1) (omega arith) refl e
  exactly_4 (way_3 z s e) = other (leaves_with (outcome 3 h 0) r b.answers) (λ p. short_callable s p.1) (omega arith) refl e
  exactly_4 (way_4 z c u e) = own (z, c, u) refl e
  exactly_4 (way_0 z c u e) = other (accepted h r c.calls b.answers) (λ p. p.2 u) (omega arith) (accepted_0 c.calls) e

  status-of : {o what : Batched} (k : ℕ) → what.outcome.status ≡ k → o ≡ what → o.outcome.status ≡ k
  status-of k s e = ap (λ (x : Batched). x.outcome.status) e ∙ s

  accepts : {o : Batched} → Way h r b o → Sized h r → Callable h b → Sound h r → o.outcome.status ≡ 0
  accepts (way_1 n e) z c u = absurd (n z)
  accepts (way_2 y d e) z c u = absurd (none_callable d c)
  accepts (way_3 y s e) z c u = absurd (short_callable s c)
  accepts (way_4 y d n e) z c u = absurd (n u)
  accepts (way_0 y d w e) z c u = status-of 0 (accepted_0 d.calls) e

  -- what an accepted batch had, and what it left
  pub record Accepts (o : Batched) : Type 0 where
    pub sized : Sized h r
    pub callable : Callable h b
    pub sound : Sound h r
    pub left : o ≡ accepted h r callable.calls b.answers

  no-status : {A : Type 0} {o : Batched} (what : Batched) {k : ℕ} → what.outcome.status ≡ suc k → o ≡ what → o.outcome.status ≡ 0 → A
  no-status what s e z = let f = status-of _ s e in absurd (omega arith)

  taken_of : {o : Batched} → Way h r b o → o.outcome.status ≡ 0 → Accepts o
  taken_of (way_1 n e) s = no-status (leaves_with (outcome 1 h 0) r b.answers) refl e s
  taken_of (way_2 y d e) s = no-status (leaves_with (outcome 2 h 0) r b.answers) refl e s
  taken_of (way_3 y d e) s = no-status (leaves_with (outcome 3 h 0) r b.answers) refl e s
  taken_of (way_4 y d n e) s = no-status (leaves_with (outcome 4 h 0) (cleared h r) b.answers) refl e s
  taken_of (way_0 y d w e) s = record { sized = y; callable = d; sound = w; left = e }

  taken : Accepted (hand_in ours h r b) → Accepts (hand_in ours h r b)
  taken s = taken_of way s

-- an accepted batch of the calls cs: what it had, and what it left
pub record Took (h : Head) (r : Lent) (b : Batch) (cs : List Call) : Type 0 where
  pub sized : Sized h r
  pub sound : Sound h r
  pub room : 2 * length cs ≤ length b.answers
  pub fit : AllFit h.sizes.m cs
  pub left : hand_in ours h r b ≡ accepted h r cs b.answers

pub took : (h : Head) (r : Lent) (b : Batch) (cs : List Call) → Asks h b cs → Accepted (hand_in ours h r b) → Took h r b cs
took h r b cs d a =
    let t = taken h r b a in
    let q = same-calls h r b t.callable.calls cs t.callable.decoded d in
    record {
      sized = t.sized;
      sound = t.sound;
      room = rw q at t.callable.room;
      fit = calls_in_fit h.sizes.m b.calls cs d;
      left = t.left ∙ ap (λ (ds : List Call). accepted h r ds b.answers) q;
    }

-- whatever its calls are
pub record TookSome (h : Head) (r : Lent) (b : Batch) : Type 0 where
  pub calls : List Call
  pub decoded : Asks h b calls
  pub had : Took h r b calls

pub took_some : (h : Head) (r : Lent) (b : Batch) → Accepted (hand_in ours h r b) → TookSome h r b
took_some h r b a = let c = (taken h r b a).callable in record { calls = c.calls; decoded = c.decoded; had = took h r b c.calls c.decoded a }

-- what a batch leaves where nothing refuses
pub accepted_as : (h : Head) (r : Lent) (b : Batch) (cs : List Call) → Sized h r → Asks h b cs → 2 * length cs ≤ length b.answers → Sound h r → hand_in ours h r b ≡ accepted h r cs b.answers
accepted_as h r b cs z d k u = (took h r b cs d (accepts h r b (way h r b) z (record { calls = cs; decoded = d; room = k }) u)).left

-- ---- answers: two words for each call

pub answers-long : (s : Sizes) (cs : List Call) (h : Heap) → length (calls s cs h).answers ≡ length cs
unfolding calls
answers-long s [] h = refl
answers-long s (c ∷ cs) h = ap suc (answers-long s cs (step s c h).heap)

pub words_long : (as' : List Answer) → length (answer_words as') ≡ 2 * length as'
words_long [] = refl
words_long (a ∷ as') = omega (arith, words_long as')

pub answered_past : (as' : List Answer) (row : List ℤ) → 2 * length as' ≤ length row
    → (length (answered as' row) ≡ length row) × (drop (2 * length as') (answered as' row) ≡ drop (2 * length as') row)
unfolding answered
answered_past as' row h =
    let w = words_long as' in (
      rw (length-append, length-drop) (omega arith),
      drop_at (answer_words as') (drop (2 * length as') row) (2 * length as') w,
    )

accepted_past : (h : Head) (r : Lent) (row : List ℤ) (cs : List Call) → 2 * length cs ≤ length row
    → (length (accepted h r cs row).answers ≡ length row) × (drop (2 * length cs) (accepted h r cs row).answers ≡ drop (2 * length cs) row)
unfolding accepted batch
accepted_past h r row cs k =
    let h₁ : Heap = record { shape = (heap_of h r).shape; first = (heap_of h r).first; tables = (heap_of h r).tables; log = (heap_of h r).log; freed = 0 } in
    let e = answers-long h.sizes cs h₁ in
    rw e at (answered_past (calls h.sizes cs h₁).answers row (rw e k))

work_0 : (h : Head) (r : Lent) (cs : List Call) (row : List ℤ) → (accepted h r cs row).rows.work ≡ replicate h.sizes.n 0
unfolding accepted rows_of
work_0 h r cs row = refl

-- ---- calls refused

accepted-listed : (h : Head) (r : Lent) (cs : List Call) (row : List ℤ) → AllListed (said cs (accepted h r cs row).answers)
unfolding accepted answered batch
accepted-listed h r cs row = let k = unfreed (heap_of h r) in all_listed h.sizes cs k (drop (2 * length (calls h.sizes cs k).answers) row)

-- ---- a read

module _ {h : Head} {r : Lent} (Z : Sized h r) (S : Sound h r) (cs ds : List Call) (v f : ℕ) (row row' : List ℤ) where
  accepted_read : AllFit h.sizes.m (cs ++ Do (Read v f) ∷ ds) → ReadSays (accepted h r cs row').rows v f (status_at (accepted h r (cs ++ Do (Read v f) ∷ ds) row) cs)
  unfolding accepted
  accepted_read F =
      let s = h.sizes in
      let p = fit_parts s.m cs (Do (Read v f) ∷ ds) F in
      rw (end-there h r cs, status-there h r cs ds (Do (Read v f)) row)
      (read_after s Z.within.limits (moment h r cs) (moment-inv Z S cs p.0) v f p.1.0.1)

-- ---- fresh and audit

module _ (s : Sizes) (r : Lent) where
  pub fresh-refused : (Sized (fresh_head s) r → ⊥) → fresh_of s r ≡ leaves (outcome 1 zero_head 0) r
  unfolding fresh_of
  fresh-refused z = rw (false-sized (fresh_head s) r z)

  pub fresh-accepted : Sized (fresh_head s) r
      → fresh_of s r ≡ leaves (outcome 0 (fresh_head s) 0) (rows_of s (fresh s))
  unfolding fresh_of
  fresh-accepted z = rw (true-sized (fresh_head s) r z)

  -- accepted means the sizes are right
  pub fresh-sized : (fresh_of s r).outcome.status ≡ 0 → Sized (fresh_head s) r
  unfolding fresh_of
  fresh-sized e = go (is_sized (fresh_head s) r) refl e
    where
      go : (q : Bool) → is_sized (fresh_head s) r ≡ q
          → (cond q (leaves (outcome 0 (fresh_head s) 0) (rows_of s (fresh s))) (leaves (outcome 1 zero_head 0) r)).outcome.status ≡ 0
          → Sized (fresh_head s) r
      go true d e = sized-true _ _ d
      go false d e = absurd (omega arith)

module _ (h : Head) (r : Lent) where
  pub audit_1 : (Sized h r → ⊥) → audit_of h r ≡ leaves (outcome 1 h 0) r
  unfolding audit_of
  audit_1 z = rw (false-sized h r z)

  pub audit_4 : Sized h r → (Sound h r → ⊥) → audit_of h r ≡ leaves (outcome 4 h 0) (cleared h r)
  unfolding audit_of
  audit_4 z u = rw (true-sized h r z, false-sound h r u)

  pub audit_0 : Sized h r → Sound h r → audit_of h r ≡ leaves (outcome 0 h 0) (cleared h r)
  unfolding audit_of
  audit_0 z u = rw (true-sized h r z, true-sound h r u)

-- ---- of one batch

module _ (h : Head) (r : Lent) (b : Batch) where
  no_change : Took h r b [] → hand_in ours h r b ≡ leaves_with (outcome 0 h 0) (cleared h r) b.answers
  no_change t = t.left ∙ idle_left t.sized t.sound b.answers

  pub batch_refuses : BatchRefuses h r b (hand_in ours h r b)
  batch_refuses =
      let w = way h r b in
      record {
        refused_1 = exactly_1 h r b w;
        refused_2 = exactly_2 h r b w;
        refused_3 = exactly_3 h r b w;
        refused_4 = exactly_4 h r b w;
        accepted_else = accepts h r b w;
        work_zero = λ a. let t = took_some h r b a in rw t.had.left (work_0 h r t.calls b.answers);
        answers_past = λ cs d a. let t = took h r b cs d a in rw t.left (accepted_past h r b.answers cs t.room);
        refused_11_to_15 = λ cs d a. let t = took h r b cs d a in rw t.left (accepted-listed h r cs b.answers);
        no_call_no_change = λ d a. no_change (took h r b [] d a);
      }

-- ---- of two batches on the same rows

module _ (h : Head) (r : Lent) (b c : Batch) where
  pub call_refused : CallRefused h r b c (hand_in ours h r b) (hand_in ours h r c)
  call_refused =
      record {
        refused_as_left_out = λ cs ds x k d e a a' o n.
            let t = took h r b (cs ++ x ∷ ds) d a in
            let u = took h r c (cs ++ ds) e a' in
            same_as t.left u.left (left_out h r cs ds x k b.answers c.answers (rw t.left at o) n);
        fourteen_settles = λ cs ds v d e a a' o.
            let t = took h r b (cs ++ New v ∷ ds) d a in
            let u = took h r c (cs ++ Settle ∷ ds) e a' in
            let S = as_settled t.sized t.sound cs (fit_parts h.sizes.m cs (New v ∷ ds) t.fit).0 ds v b.answers c.answers (rw t.left at o) in
            (same_as t.left u.left S.0, rw u.left S.1);
        deed_answered = λ cs ds x d e a a'.
            let t = took h r b (cs ++ Do x ∷ ds) d a in
            let u = took h r c cs e a' in
            rw (t.left, u.left) (deed_says t.sized t.sound cs ds x t.fit b.answers c.answers);
        fifteen_exactly = λ cs ds v f d e a a'.
            let t = took h r b (cs ++ Do (Read v f) ∷ ds) d a in
            let u = took h r c cs e a' in
            rw (t.left, u.left) (accepted_read t.sized t.sound cs ds v f b.answers c.answers t.fit);
      }

-- ---- the demand

pub demand_1 : Demand1 ours
demand_1 =
    record {
      batch_refuses = batch_refuses;
      call_refused = call_refused;
      fresh_refuses_only_1 = λ s r. (fresh-refused s r, fresh-accepted s r);
      audit_refuses_only_1_and_4 = λ h r. (audit_1 h r, audit_4 h r, audit_0 h r);
    }
