-- Counts against the pointers that there are. Assumes nothing.
use Prim.Native.Nat.{ℕ, zero, suc, ◌+◌, ◌<◌, ◌≤◌, pred}
use mathlib.Core.Path.{◌≡◌, refl, sym, ◌∙◌}
use mathlib.Core.Logic.{◌⊎◌, inl, inr}
use mathlib.Core.Bool.{Bool, true, false, cond, true≢false}
use mathlib.Core.List.{List, [], ◌∷◌}
use native.Mathlib.Omega.{arith}
use native.Mathlib.Nat.{le_of_suc-le-suc, not-suc-le-zero}
use lib.Dec.{eqb}
use lib.ListN.{length, get_or, set}
use borrow.Author.Tests.{eqb-true, eqb-false}
use Rattle.rules.specs.declared.Field.{Field}
use Rattle.rules.specs.declared.Field.TheVariants.{Nothing, Figure, Cell, Free}
use Rattle.rules.specs.Heap.{Tables, Transaction, creates, destroys}
use Rattle.rules.specs.Rules.{apply, replay}
use Rattle.rules.specs.Call.{drops}
use Rattle.rules.specs.Invariant.{hit, refs, count, named, Counted}
use Rattle.rules.proofs.Tables.{view_other, up, down, count_create, count_destroy, ok-at_create, ok-at_destroy}

pub refs-set : (fs : List Field) (i : ℕ) (x : Field) (a : ℕ) → i < length fs → refs (set fs i x) a + hit (get_or fs i Nothing) a ≡ refs fs a + hit x a
refs-set [] i x a h = absurd (not-suc-le-zero h)
refs-set (f ∷ fs) zero x a h = omega arith
refs-set (f ∷ fs) (suc i) x a h = omega (arith, refs-set fs i x a (le_of_suc-le-suc h))

-- the create that goes with a field that is written
abbrev pub gains : Field → List Transaction
gains Nothing = []
gains (Figure x) = []
gains (Cell a) = creates a ∷ []
gains (Free a) = []

module _ (cap : ℕ) (cap3 : 3 ≤ cap) where
  same_r : {t : Tables} {r r' : ℕ} {lv : Bool} {b : ℕ} → r ≡ r' → Counted cap t r lv b → Counted cap t r' lv b
  same_r {t} {r} {r'} {lv} {b} e c = rw e at c

  down-exact : (c r r' : ℕ) → r ≡ r' + 1 → (c ≡ cap) ⊎ (c ≡ r) → (down cap c ≡ cap) ⊎ (down cap c ≡ r')
  unfolding down
  down-exact c r r' e h = go (eqb c cap) refl h
    where
      go : (q : Bool) → eqb c cap ≡ q → (c ≡ cap) ⊎ (c ≡ r) → (cond q c (pred c) ≡ cap) ⊎ (cond q c (pred c) ≡ r')
      go true d h = inl (eqb-true c cap d)
      go false d (inl h) = absurd (eqb-false c cap d h)
      go false d (inr h) = let g : pred c ≡ r' = omega arith in inr g

  up-exact : (c r r' : ℕ) → r' ≡ r + 1 → (c ≡ cap) ⊎ (c ≡ r) → (up cap c ≡ cap) ⊎ (up cap c ≡ r')
  unfolding up
  up-exact c r r' e h = go (eqb c cap) refl h
    where
      go : (q : Bool) → eqb c cap ≡ q → (c ≡ cap) ⊎ (c ≡ r) → (cond q c (suc c) ≡ cap) ⊎ (cond q c (suc c) ≡ r')
      go true d h = inl (eqb-true c cap d)
      go false d (inl h) = absurd (eqb-false c cap d h)
      go false d (inr h) = inr (omega arith)

  -- a change elsewhere
  elsewhere : (x : Transaction) {t : Tables} {r : ℕ} {lv : Bool} {b : ℕ} → eqb b (named x) ≡ false → Counted cap t r lv b → Counted cap (apply cap x t) r lv b
  elsewhere x {t} {r} {lv} {b} d c =
      record {
        ok = rw (view_other cap x t b d) c.ok;
        exact = rw (view_other cap x t b d) c.exact;
        gone = rw (view_other cap x t b d) c.gone;
      }

  pub drop-counted : (old : Field) {t : Tables} {r r' : ℕ} {lv : Bool} {b : ℕ} → r ≡ r' + hit old b → Counted cap t r lv b → Counted cap (replay cap (drops old) t) r' lv b
  unfolding replay
  drop-counted Nothing e c = same_r (omega arith) c
  drop-counted (Figure x) e c = same_r (omega arith) c
  drop-counted (Free a) e c = same_r (omega arith) c
  drop-counted (Cell a) {t} {r} {r'} {lv} {b} e c = go (eqb b a) refl e
    where
      own : {b : ℕ} → b ≡ a → r ≡ r' + 1 → Counted cap t r lv b → Counted cap (apply cap (destroys a) t) r' lv b
      own {b} d e c =
          rw d
          (let c : Counted cap t r lv a = rw d at c in
          record {
            ok = ok-at_destroy cap cap3 a t c.ok;
            exact = λ l. rw (count_destroy cap cap3 a t c.ok) (down-exact (count t a) r r' e (c.exact l));
            gone = λ l. absurd (let g = (c.gone l).1 in omega arith);
          })

      go : (q : Bool) → eqb b a ≡ q → r ≡ r' + cond q 1 0 → Counted cap (apply cap (destroys a) t) r' lv b
      go true d e = own (eqb-true b a d) (omega arith) c
      go false d e = elsewhere (destroys a) d (same_r (omega arith) c)

  pub gain_counted : (x : Field) {t : Tables} {r r' : ℕ} {lv : Bool} {b : ℕ} → r' ≡ r + hit x b → (hit x b ≡ 1 → lv ≡ true) → Counted cap t r lv b → Counted cap (replay cap (gains x) t) r' lv b
  unfolding replay
  gain_counted Nothing e l c = same_r (omega arith) c
  gain_counted (Figure x) e l c = same_r (omega arith) c
  gain_counted (Free a) e l c = same_r (omega arith) c
  gain_counted (Cell a) {t} {r} {r'} {lv} {b} e l c = go (eqb b a) refl e l
    where
      own : {b : ℕ} → b ≡ a → r' ≡ r + 1 → lv ≡ true → Counted cap t r lv b → Counted cap (apply cap (creates a) t) r' lv b
      own {b} d e l c =
          rw d
          (let c : Counted cap t r lv a = rw d at c in
          record {
            ok = ok-at_create cap cap3 a t c.ok;
            exact = λ k. rw (count_create cap cap3 a t c.ok) (up-exact (count t a) r r' e (c.exact k));
            gone = λ k. absurd (true≢false (sym l ∙ k));
          })

      go : (q : Bool) → eqb b a ≡ q → r' ≡ r + cond q 1 0 → (◌≡◌ {A = ℕ} (cond q 1 0) 1 → lv ≡ true) → Counted cap (apply cap (creates a) t) r' lv b
      go true d e l = own (eqb-true b a d) (omega arith) (l refl) c
      go false d e l = elsewhere (creates a) d (same_r (omega arith) c)
