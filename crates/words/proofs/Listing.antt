-- Laws of a row of words as calls: each four of them, the call at a place. Assumes nothing.
use mathlib.Core.Path.{◌≡◌, refl, ap, ◌∙◌, subst}
use mathlib.Core.Bool.{Bool, true, false, cond}
use mathlib.Core.Option.{Option, none, some}
use mathlib.Core.List.{List, [], ◌∷◌, ◌++◌}
use Prim.Native.Nat.{ℕ, zero, suc, ◌+◌, ◌*◌, ◌≤◌, ◌<◌, ◌%◌}
use native.Mathlib.Omega.{arith}
use lib.Dec.{leb}
use borrow.Author.Tests.{le-leb, lt-leb}
use lib.IntN.{ℤ}
use lib.ListN.{length, get_or, drop}
use Rattle.rules.specs.declared.Call.{Call}
use Rattle.rules.specs.declared.Call.TheVariants.{Settle}
use Rattle.rules.specs.Call.{call_of, and_then, calls_of, calls_in}
use Rattle.rules.proofs.Alike.{no-first, first-call}
use Rattle.words.specs.Words.{is_some, call_at, Decides}

-- calls before those of the rest
abbrev before_rest : List Call → Option (List Call) → Option (List Call)
before_rest cs none = none
before_rest cs (some ds) = some (cs ++ ds)

-- the words before i are calls
pub record Passed (m : ℕ) (ws : List ℤ) (i : ℕ) : Type 0 where
  pub within : i ≤ length ws
  pub calls : List Call
  pub rest : calls_of m ws ≡ before_rest calls (calls_of m (drop i ws))

none-joined : (r : Option (List Call)) → r ≡ before_rest [] r
none-joined none = refl
none-joined (some cs) = refl

pub passed_none : (m : ℕ) (ws : List ℤ) → Passed m ws 0
passed_none m ws = record { within = omega arith; calls = []; rest = none-joined (calls_of m ws) }

-- the call at a place four words on
four_on : (m : ℕ) (x y z w : ℤ) (ws : List ℤ) (k : ℕ) → call_at m (x ∷ y ∷ z ∷ w ∷ ws) (4 * suc k) ≡ call_at m ws (4 * k)
four_on m x y z w ws k =
    let p : 4 * suc k ≡ suc (suc (suc (suc (4 * k)))) = omega arith in
    let a : suc (suc (suc (suc (4 * k)))) + 1 ≡ suc (suc (suc (suc (4 * k + 1)))) = omega arith in
    let b : suc (suc (suc (suc (4 * k)))) + 2 ≡ suc (suc (suc (suc (4 * k + 2)))) = omega arith in
    let g : suc (suc (suc (suc (4 * k)))) + 3 ≡ suc (suc (suc (suc (4 * k + 3)))) = omega arith in
    rw (p, a, b, g)

-- ---- the calls, from each four words

-- each four of the words are a call
abbrev pub EachFour : ℕ → List ℤ → Type 0
EachFour m ws = (k : ℕ) → 4 * k + 4 ≤ length ws → is_some (call_at m ws (4 * k)) ≡ true

-- some four of the words are none
abbrev pub NotFour : ℕ → List ℤ → Type 0
NotFour m ws = (k : ℕ) × (4 * k + 4 ≤ length ws) × (is_some (call_at m ws (4 * k)) ≡ false)

joined : (o : Option Call) (r : Option (List Call)) → is_some o ≡ true → (cs : List Call) × (r ≡ some cs) → (cs : List Call) × (and_then o r ≡ some cs)
joined none r h e = absurd (let z : ◌≡◌ {A = ℕ} 0 1 = cc in omega arith)
joined (some c) r h e = (c ∷ e.0, ap (and_then (some c)) e.1)

of_each : (n m : ℕ) (ws : List ℤ) → length ws ≡ 4 * n → EachFour m ws → (cs : List Call) × (calls_of m ws ≡ some cs)
unfolding calls_of
of_each zero m [] l h = ([], refl)
of_each zero m (x ∷ ws) l h = absurd (omega arith)
of_each (suc n) m [] l h = absurd (omega arith)
of_each (suc n) m (x ∷ []) l h = absurd (omega arith)
of_each (suc n) m (x ∷ y ∷ []) l h = absurd (omega arith)
of_each (suc n) m (x ∷ y ∷ z ∷ []) l h = absurd (omega arith)
of_each (suc n) m (x ∷ y ∷ z ∷ w ∷ ws) l h =
    joined (call_of m x y z w) (calls_of m ws) (h 0 (omega arith))
    (of_each n m ws (omega arith) (λ k q. subst (λ (o : Option Call). is_some o ≡ true) (four_on m x y z w ws k) (h (suc k) (omega arith))))

-- ---- the call at a place, for the loop over the calls

-- the i-th call is that of the words from 4i on, and there are four words to a call
pub record ListedCalls (m : ℕ) (ws : List ℤ) (cs : List Call) : Type 0 where
  pub long : length ws ≡ 4 * length cs
  pub call : (i : ℕ) → i < length cs → call_at m ws (4 * i) ≡ some (get_or cs i Settle)

listed_of : (m : ℕ) (ws : List ℤ) (cs : List Call) → calls_of m ws ≡ some cs → ListedCalls m ws cs
unfolding calls_of
listed_of m [] [] e = record { long = refl; call = λ i h. absurd (omega arith) }
listed_of m [] (d ∷ cs) e = absurd (let z : ◌≡◌ {A = ℕ} 0 1 = cc in omega arith)
listed_of m (x ∷ []) cs e = absurd (let z : ◌≡◌ {A = ℕ} 0 1 = cc in omega arith)
listed_of m (x ∷ y ∷ []) cs e = absurd (let z : ◌≡◌ {A = ℕ} 0 1 = cc in omega arith)
listed_of m (x ∷ y ∷ z ∷ []) cs e = absurd (let z : ◌≡◌ {A = ℕ} 0 1 = cc in omega arith)
listed_of m (x ∷ y ∷ z ∷ w ∷ ws) [] e = absurd (no-first (call_of m x y z w) (calls_of m ws) e)
listed_of m (x ∷ y ∷ z ∷ w ∷ ws) (d ∷ cs) e =
    let t = first-call (call_of m x y z w) (calls_of m ws) d cs e in
    let L = listed_of m ws cs t.1 in
    record { long = omega (arith, L.long); call = λ i h. at i h t.0 L }
  where
    at : (i : ℕ) → i < length (d ∷ cs) → call_of m x y z w ≡ some d → ListedCalls m ws cs → call_at m (x ∷ y ∷ z ∷ w ∷ ws) (4 * i) ≡ some (get_or (d ∷ cs) i Settle)
    at zero h t L = t
    at (suc i) h t L = four_on m x y z w ws i ∙ L.call i (omega arith)

pub listed : (m : ℕ) (ws : List ℤ) (cs : List Call) → calls_in m ws ≡ some cs → ListedCalls m ws cs
unfolding calls_in
listed m ws cs e = go (leb (length ws) 1024) e
  where
    go : (q : Bool) → cond q (calls_of m ws) none ≡ some cs → ListedCalls m ws cs
    go true e = listed_of m ws cs e
    go false e = absurd (let z : ◌≡◌ {A = ℕ} 0 1 = cc in omega arith)

-- ---- yes and no

pub says-yes : (r : Bool) (n m : ℕ) (ws : List ℤ) → r ≡ true → length ws ≤ 1024 → length ws ≡ 4 * n → EachFour m ws → Decides r m ws
unfolding calls_in
says-yes r n m ws e h l f =
    let c = of_each n m ws l f in
    record { yes = λ q. record { list = c.0; are = rw (le-leb (length ws) 1024 h) c.1 }; no = λ q. absurd (let z : ◌≡◌ {A = ℕ} 0 1 = cc in omega arith) }

says-no : (r : Bool) (m : ℕ) (ws : List ℤ) → r ≡ false → ((cs : List Call) → calls_in m ws ≡ some cs → ⊥) → Decides r m ws
says-no r m ws e d = record { yes = λ q. absurd (let z : ◌≡◌ {A = ℕ} 0 1 = cc in omega arith); no = λ q. go (calls_in m ws) d }
  where
    go : (o : Option (List Call)) → ((cs : List Call) → o ≡ some cs → ⊥) → o ≡ none
    go none d = refl
    go (some cs) d = absurd (d cs refl)

pub too_many : (r : Bool) (m : ℕ) (ws : List ℤ) → r ≡ false → 1024 < length ws → Decides r m ws
unfolding calls_in
too_many r m ws e h = record { yes = λ q. absurd (let z : ◌≡◌ {A = ℕ} 0 1 = cc in omega arith); no = λ q. rw (lt-leb (length ws) 1024 h) }

pub not_by_four : (r : Bool) (m : ℕ) (ws : List ℤ) → r ≡ false → (length ws % 4 ≡ 0 → ⊥) → Decides r m ws
not_by_four r m ws e d = says-no r m ws e (λ cs q. d (let l = (listed m ws cs q).long in omega arith))

pub not_each : (r : Bool) (m : ℕ) (ws : List ℤ) → r ≡ false → NotFour m ws → Decides r m ws
not_each r m ws e b = says-no r m ws e (λ cs q. let L = listed m ws cs q in other (call_at m ws (4 * b.0)) _ b.2 (L.call b.0 (omega (arith, L.long, b.1))))
  where
    other : (o : Option Call) (c : Call) → is_some o ≡ false → o ≡ some c → ⊥
    other none c h e = let z : ◌≡◌ {A = ℕ} 0 1 = cc in omega arith
    other (some d) c h e = let z : ◌≡◌ {A = ℕ} 0 1 = cc in omega arith
