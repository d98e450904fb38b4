-- The three entry points: what each refusal leaves, and what an accepted call comes to. Assumes nothing.
use Prim.Native.Nat.{ℕ, ◌*◌, ◌/◌, ◌≤◌, ◌<◌}
use mathlib.Core.Path.{◌≡◌, refl, sym, subst, ◌∙◌}
use mathlib.Core.Bool.{Bool, true, false, not}
use mathlib.Core.Option.{none, some}
use mathlib.Core.List.{List}
use native.Mathlib.Omega.{arith}
use borrow.Author.Tests.{not-true, not-false}
use lib.IntN.{ℤ}
use lib.ListN.{length, replicate}
use Rattle.rules.specs.declared.Head.{Head}
use Rattle.rules.specs.declared.Call.{Call}
use Rattle.rules.specs.declared.Sizes.{Sizes}
use Rattle.rules.specs.Head.{Says, sized, fresh_head, Within}
use Rattle.rules.specs.Call.{calls_in}
use Rattle.rules.specs.Step.{batch, fresh}
use Rattle.rules.specs.Rows.{Lent, lengths_of, rows_of, heap_of}
use Rattle.rules.specs.Whole.{start_of}
use Rattle.rules.specs.Sound.{Sound, Sized, Lengths}
use Rattle.rules.specs.Refusals.{Numbers, outcome, leaves, leaves_with, cleared, accepted, fresh_of, batch_of}
use Rattle.rules.specs.Demands.{BatchRefuses}
use Rattle.rules.proofs.Answers.{refused, passed}
use Rattle.rules.proofs.Demand1.{demand_1, fresh-refused, fresh-accepted, accepted_as}
use Rattle.rules.proofs.Entry.{entry_ended}
use Rattle.rules.proofs.Whole.{whole-at}
use Rattle.words.specs.Words.{Calls, Decides}
use Rattle.words.proofs.Listing.{listed}
use Rattle.working.specs.Working.{Standing, Runnable, Runs}
use Rattle.heap.specs.Judging.{Passed}

-- the check of the sizes, of rows r
abbrev Checked : Bool → Head → Lent → Type 0
Checked fits h r = Says fits (Within h × Lengths h.sizes (lengths_of r))

pub is_sized : {h : Head} {r : Lent} {fits : Bool} → Checked fits h r → not fits ≡ false → Sized h r
is_sized s t = let z = passed s t in record { within = z.0; lengths = z.1 }

unsized : {h : Head} {r : Lent} {fits : Bool} → Checked fits h r → not fits ≡ true → Sized h r → ⊥
unsized s t z = refused s t (z.within, z.lengths)

-- ---- what says no to a batch

module _ {h : Head} (r : Lent) (ws row : List ℤ) {fits : Bool} (lengths : Checked fits h r) where
  facts : BatchRefuses h r (record { calls = ws; answers = row }) (batch_of h r ws row)
  facts = demand_1.batch_refuses h r (record { calls = ws; answers = row })

  pub refused_1 : not fits ≡ true → leaves_with (outcome 1 h 0) r row ≡ batch_of h r ws row
  refused_1 t = let d = facts.refused_1 in sym (d.left (d.when (unsized lengths t)))

  module _ (long : not fits ≡ false) {right : Bool} (words : Decides right h.sizes.m ws) where
    pub refused_2 : not right ≡ true → leaves_with (outcome 2 h 0) r row ≡ batch_of h r ws row
    refused_2 t = let d = facts.refused_2 in sym (d.left (d.when (is_sized lengths long, words.no (not-true right t))))

    module _ (known : not right ≡ false) where
      all : Calls h.sizes.m ws
      all = words.yes (not-false right known)

      pub refused_3 : length row < length ws / 2 → leaves_with (outcome 3 h 0) r row ≡ batch_of h r ws row
      refused_3 l =
          let d = facts.refused_3 in
          let n = (listed h.sizes.m ws all.list all.are).long in
          sym (d.left (d.when (is_sized lengths long, record { calls = all.list; decoded = all.are; short = omega arith })))

      module _ (room : length ws / 2 ≤ length row) {good : Bool} (says : Says good (Sound h r)) where
        room_for : 2 * length all.list ≤ length row
        room_for = let n = (listed h.sizes.m ws all.list all.are).long in omega arith

        pub refused_4 : not good ≡ true → leaves_with (outcome 4 h 0) (cleared h r) row ≡ batch_of h r ws row
        refused_4 t =
            let d = facts.refused_4 in
            sym (d.left (d.when (is_sized lengths long, record { calls = all.list; decoded = all.are; room = room_for }, refused says t)))

        pub nothing_says_no : not good ≡ false → Passed h r ws row
        nothing_says_no t = record { sized = is_sized lengths long; list = all.list; are = all.are; room = room_for; sound = passed says t }

-- ---- a batch, of rows r that a view shows as q, and r' and q' once it was judged

module _ {h : Head} {r r' q q' : Lent} (ws : List ℤ) {row : List ℤ} (shown : q ≡ r) (shown' : q' ≡ r') where
  pub said_no : {k : ℕ} → leaves_with (outcome k h 0) q' row ≡ batch_of h q ws row → leaves_with (outcome k h 0) r' row ≡ batch_of h r ws row
  said_no e = rw (← shown, ← shown') e

  module _ (P : Passed h q ws row × (q' ≡ cleared h q)) where
    standing : Standing h.sizes r' (start_of h) (heap_of h q)
    standing =
        let p = P.0 in
        let I = (entry_ended p.sized p.sound).inv in
        rw (← shown', P.1) (record { whole = whole-at p.sized p.sound I; inv = I })

    pub runnable : Runnable h ws r' row
    runnable = let p = P.0 in record { list = p.list; are = p.are; room = p.room; heap = heap_of h q; standing = standing }

    pub accepted_by : {t : Lent} {row' : List ℤ} {o : Numbers} → Runs h ws r' row t row' o → leaves_with o t row' ≡ batch_of h r ws row
    unfolding accepted batch heap_of
    accepted_by runs =
        let p = P.0 in
        let D = runs p.list (heap_of h q) p.are standing in
        let b = accepted_as h q (record { calls = ws; answers = row }) p.list p.sized p.are p.room p.sound in
        rw (← shown, b, D.rows, D.is, D.answers)

-- ---- fresh

-- from what the check of the code says of the rows, for a head g that was made
module _ {s : Sizes} {g : Head} (made : g ≡ fresh_head s) {q r : Lent} (views : q ≡ r) {fits : Bool} (looked : Checked fits g q) where
  lengths : Checked fits g r
  lengths = subst (λ (x : Lent). Checked fits g x) views looked

  pub no_fresh : {p : Sizes} {z : Head} → not fits ≡ true → p ≡ sized 0 0 0 0 → z ≡ fresh_head p → leaves (outcome 1 z 0) r ≡ fresh_of s r
  no_fresh t e₀ e = rw (e, e₀) (sym (fresh-refused s r (λ z. unsized lengths t (rw made z))))

  pub fresh_sized : not fits ≡ false → Sized (fresh_head s) r
  fresh_sized t = subst (λ (k : Head). Sized k r) made (is_sized lengths t)

  pub made_fresh : {q' : Lent} → not fits ≡ false → q' ≡ rows_of s (fresh s) → leaves (outcome 0 g 0) q' ≡ fresh_of s r
  made_fresh t written = rw (made, written) (sym (fresh-accepted s r (fresh_sized t)))
