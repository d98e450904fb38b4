-- Laws of what a call sees: what a variable holds, a field of its cell. Assumes nothing.
use mathlib.Core.Path.{◌≡◌, refl, sym, ap, ◌∙◌}
use mathlib.Core.Bool.{Bool, true, false, cond, ◌&&◌}
use mathlib.Core.Option.{Option, none, some}
use mathlib.Core.List.{List, [], ◌∷◌, map}
use Prim.Native.Nat.{ℕ, zero, suc, ◌+◌, ◌*◌, ◌≤◌, ◌<◌}
use native.Mathlib.Omega.{arith}
use lib.Dec.{ltb}
use borrow.Author.Tests.{lt-ltb, le-ltb}
use lib.IntN.{ℤ, pos}
use lib.ListN.{length, get_or}
use Rattle.std.proofs.Common.{Result, IsErrAnd}
use Rattle.std.proofs.lemmas.Result.{err_from_is_err_and}
use Rattle.rules.specs.declared.Call.{Call}
use Rattle.rules.specs.declared.Field.{Field}
use Rattle.rules.specs.declared.Field.TheVariants.{Nothing}
use Rattle.rules.specs.declared.Refusal.{Refusal}
use Rattle.rules.specs.declared.Refusal.TheVariants.{NothingHeld, NoCell, CellThere, NoneFree, NothingThere}
use Rattle.rules.specs.Field.{address_of, variable_of, field_of, held_of}
use Rattle.rules.specs.Heap.{Shape, place, field}
use Rattle.rules.specs.Rows.{CallRows}
use Rattle.rules.specs.Call.{var, at, is_held, makes, want, no_of, status_of}
use Rattle.rules.proofs.Roundtrip.{held_back}
use Rattle.cells.proofs.Storing.{cell-lengths, read}
use Rattle.before.specs.Seen.{Held, Shown, Reach, Reaches, field_below}

-- a word of the row is what its variable holds, past no default
word : (hs : List (Option ℕ)) (v : ℕ) → v < length (map variable_of hs) → get_or (map variable_of hs) v (pos 0) ≡ variable_of (get_or hs v none)
word [] v h = absurd (omega arith)
word (x ∷ hs) zero h = refl
word (x ∷ hs) (suc v) h = word hs v (omega arith)

module _ {n : ℕ} {vs : List ℤ} {hs : List (Option ℕ)} (H : Held n vs hs) (v : ℕ) (l : v < length vs) where
  pub word-is : get_or vs v (pos 0) ≡ variable_of (get_or hs v none)
  word-is = let k : v < length (map variable_of hs) = rw H.are at l in rw H.are (word hs v k)

  -- what was read is what the variable holds
  pub held-is : held_of (get_or vs v (pos 0)) ≡ get_or hs v none
  held-is = ap held_of word-is ∙ held_back (get_or hs v none)

  -- the address that was read says what the variable holds
  address-is : {r : ℕ} → r ≡ address_of n (get_or vs v (pos 0)) → cond (ltb r n) (some r) none ≡ get_or hs v none
  address-is {r} e = go (get_or hs v none) refl
    where
      go : (o : Option ℕ) → get_or hs v none ≡ o → cond (ltb r n) (some r) none ≡ o
      go none q =
          let z : r ≡ n = e ∙ ap (address_of n) (word-is ∙ ap variable_of q) in
          rw (le-ltb r n (omega arith))
      go (some a) q =
          let z : r ≡ a = e ∙ ap (address_of n) (word-is ∙ ap variable_of q) in
          let i = H.inside v a q in
          rw (lt-ltb r n (omega arith), z)

  pub held-some : {r : ℕ} → r ≡ address_of n (get_or vs v (pos 0)) → r < n → get_or hs v none ≡ some r
  held-some {r} e h = sym (address-is e) ∙ rw (lt-ltb r n h)

  pub held_none : {r : ℕ} → r ≡ address_of n (get_or vs v (pos 0)) → n ≤ r → get_or hs v none ≡ none
  held_none {r} e h = sym (address-is e) ∙ rw (le-ltb r n h)

  pub held_test : {r : ℕ} → r ≡ address_of n (get_or vs v (pos 0)) → ltb r n ≡ is_held (get_or hs v none)
  held_test {r} e = go (ltb r n) refl (address-is e)
    where
      go : (q : Bool) → ltb r n ≡ q → cond q (some r) none ≡ get_or hs v none → q ≡ is_held (get_or hs v none)
      go true d h = rw (← h)
      go false d h = rw (← h)

-- and a field of its cell is what was read there
module _ {n : ℕ} {r : CallRows} {s : Shape} (S : Shown n r s) (v f : ℕ) (l : v < length r.variables) where
  pub at_some : {a : ℕ} {x : Field} → a ≡ address_of n (get_or r.variables v (pos 0)) → a < n
      → x ≡ field_of (get_or r.kinds (2 * a + f) 0) (get_or r.values (2 * a + f) (pos 0)) → x ≡ at s v f
  unfolding at var field place
  at_some {a} {x} e h q = rw (held-some S.held v l e h, at, var) (read S.cells x (2 * a + f) q)

  pub at_none : {a : ℕ} → a ≡ address_of n (get_or r.variables v (pos 0)) → n ≤ a → Nothing ≡ at s v f
  unfolding at var
  at_none e h = rw (held_none S.held v l e h, at, var)

-- the same of the rows alone
module _ {n : ℕ} (ks : List ℕ) (xs : List ℤ) (f : ℕ) {a b : ℕ} (e : a ≡ b) where
  pub below-some : {x : Field} → a < n → x ≡ field_of (get_or ks (2 * a + f) 0) (get_or xs (2 * a + f) (pos 0)) → x ≡ field_below n ks xs (some b) f
  unfolding field_below
  below-some h q = rw (← e, field_below, lt-ltb a n h) q

  pub below_none : n ≤ a → Nothing ≡ field_below n ks xs (some b) f
  unfolding field_below
  below_none h = rw (← e, field_below, le-ltb a n h)

-- and a field of its cell is the shape's
pub seen_below : {n : ℕ} {r : CallRows} {s : Shape} (v f : ℕ) {o : Option ℕ} {x : Field} → Shown n r s → v < length r.variables
    → o ≡ held_of (get_or r.variables v (pos 0)) → x ≡ field_below n r.kinds r.values o f → x ≡ at s v f
unfolding field_below at var field place
seen_below {n} {r} {s} v f S l q d = d ∙ rw (q ∙ held-is S.held v l) (go (get_or s.variables v none) refl)
  where
    go : (o : Option ℕ) → get_or s.variables v none ≡ o → field_below n r.kinds r.values (get_or s.variables v none) f ≡ at s v f
    go none e = rw (at, var, e)
    go (some a) e =
        let h = S.held.inside v a e in
        rw (at, var, e, lt-ltb a n h) (read S.cells _ (2 * a + f) refl)

pub made : (o : Option ℕ) (r : ℕ) (q : Bool) → q ≡ is_held o → r ≡ cond q 1 0 → r ≡ length (makes o)
made none r q e h = h ∙ ap (λ (x : Bool). cond x 1 0) e
made (some a) r q e h = h ∙ ap (λ (x : Bool). cond x 1 0) e

-- rows long enough for a call's variables are long enough for a field of one
pub reach : {n : ℕ} {r : CallRows} {c : Call} {v f : ℕ} → Reaches n r c → v < length r.variables → f < 2 → Reach n r v f
reach R l k =
    let c = cell-lengths R.shown.cells in
    record { kinds_long = c.0; values_long = c.1; v_below = l; f_below = k }

-- ---- a view of the rows

module _ {n : ℕ} {q r : CallRows} (e : q ≡ r) where
  -- shows what they show
  pub shown-there : {s : Shape} → Shown n r s → Shown n q s
  shown-there S = rw e S

  -- and is as long
  pub reach-there : {a f : ℕ} → Reach n r a f → Reach n q a f
  reach-there R = rw e R

  pub reaches-there : {c : Call} → Reaches n r c → Reaches n q c
  reaches-there R = rw e R

-- ---- what is said first

no_zero : (e : Refusal) → no_of e ≡ 0 → ⊥
no_zero NothingHeld h = absurd (omega arith)
no_zero NoCell h = absurd (omega arith)
no_zero CellThere h = absurd (omega arith)
no_zero NoneFree h = absurd (omega arith)
no_zero NothingThere h = absurd (omega arith)

-- the error that a `?` hands on
pub handed_on : (r : Result (Unit {0}) Refusal) (e : Refusal) → IsErrAnd r (λ y. y ≡ e) → status_of r ≡ no_of e
handed_on r e h = let p = err_from_is_err_and r h in rw (p.1, p.2)

pub first_no : (e : Refusal) (p : Bool) (k : ℕ) → no_of e ≡ want p 11 → no_of e ≡ cond p k 11
first_no e true k h = absurd (no_zero e h)
first_no e false k h = h

pub first_yes : (p : Bool) (j k : ℕ) → 0 ≡ want p 11 → j ≡ k → j ≡ cond p k 11
first_yes true j k h e = e
first_yes false j k h e = absurd (omega arith)

pub both_first : (p q : Bool) → want (p && q) 11 ≡ cond p (want q 11) 11
both_first true q = refl
both_first false q = refl
