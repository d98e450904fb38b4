-- Laws of numbers: what one more byte does, and a number that is too large. Assumes nothing.
use lib.IntN.{pos}
use Rattle.std.proofs.Common.{◌≡◌, ℕ, zero, suc, ◌+◌, ◌*◌, ◌-◌, ◌≤◌, ◌<◌, Bool, true, false, cond, leb, List, [], ◌∷◌, length, get_or, drop, refl, arith, negsuc, add-one, drop-cons}
use Rattle.std.proofs.Math.Option.{Option, none, some}
use Rattle.std.proofs.lemmas.Bool.Decides.{nat_tests}
use borrow.Author.Tests.{ne_eqb, lt-leb, lt-ltb, le-ltb, leb-true, leb-false}
use Rattle.script.specs.Number.{is_digit, digits_from, number_of, within32, plain, minus, plain_of, figure_of}
use Rattle.script.specs.Line.{capped}

-- ---- digits

-- a digit, or none
pub digits_on : (s : List ℕ) (i n : ℕ) → i < length s → digits_from n (drop i s) ≡ cond (is_digit (get_or s i 0)) (digits_from (n * 10 + (get_or s i 0 - 48)) (drop (i + 1) s)) none
unfolding digits_from
digits_on s i n h = rw (drop-cons s i 0 h, add-one)

-- a number that is too large stays so
pub digits_much : (s : List ℕ) (n : ℕ) → 2147483648 < n → capped (digits_from n s) ≡ none
unfolding digits_from
digits_much [] n h = rw (lt-leb n 2147483648 h)
digits_much (b ∷ s) n h = go (is_digit b) (digits_much s (n * 10 + (b - 48)) (omega arith))
  where
    go : (q : Bool) → capped (digits_from (n * 10 + (b - 48)) s) ≡ none → capped (cond q (digits_from (n * 10 + (b - 48)) s) none) ≡ none
    go true e = e
    go false e = refl

-- ---- a number after a minus

pub minus_capped : (o : Option ℕ) → minus o ≡ minus (capped o)
minus_capped none = refl
minus_capped (some zero) = refl
minus_capped (some (suc n)) = go (leb (suc n) 2147483648) refl
  where
    go : (q : Bool) → leb (suc n) 2147483648 ≡ q → within32 (negsuc n) ≡ minus (cond q (some (suc n)) none)
    go true e = refl
    go false e = let w = leb-false (suc n) 2147483648 e in rw (le-ltb n 2147483648 (omega arith))

-- ---- a number as far as it counts, as a number

-- a number up to 2,147,483,648; one above for any larger number, and for none
abbrev pub capped_number : Option ℕ → ℕ
capped_number none = 2147483649
capped_number (some n) = cond (leb n 2147483648) n 2147483649

pub plain-some : (o : Option ℕ) → capped_number o < 2147483648 → plain o ≡ some (pos (capped_number o))
plain-some none h = absurd (omega arith)
plain-some (some n) h = go (leb n 2147483648) h
  where
    go : (q : Bool) → cond q n 2147483649 < 2147483648 → within32 (pos n) ≡ some (pos (cond q n 2147483649))
    go true k = rw (lt-ltb n 2147483648 k)
    go false k = absurd (omega arith)

pub plain-none : (o : Option ℕ) → 2147483648 ≤ capped_number o → plain o ≡ none
plain-none none h = refl
plain-none (some n) h = go (leb n 2147483648) refl h
  where
    go : (q : Bool) → leb n 2147483648 ≡ q → 2147483648 ≤ cond q n 2147483649 → within32 (pos n) ≡ none
    go true e k = rw (le-ltb n 2147483648 k)
    go false e k = let w = leb-false n 2147483648 e in rw (le-ltb n 2147483648 (omega arith))

pub minus-zero : (o : Option ℕ) → capped_number o ≡ 0 → minus o ≡ none
minus-zero none h = refl
minus-zero (some zero) h = refl
minus-zero (some (suc n)) h = absurd (go (leb (suc n) 2147483648) h)
  where
    go : (q : Bool) → cond q (suc n) 2147483649 ≡ 0 → ⊥
    go true k = omega arith
    go false k = omega arith

pub minus_much : (o : Option ℕ) → 2147483648 < capped_number o → minus o ≡ none
minus_much none h = refl
minus_much (some zero) h = refl
minus_much (some (suc n)) h = go (leb (suc n) 2147483648) refl h
  where
    go : (q : Bool) → leb (suc n) 2147483648 ≡ q → 2147483648 < cond q (suc n) 2147483649 → within32 (negsuc n) ≡ none
    go true e k = let w = leb-true (suc n) 2147483648 e in absurd (omega arith)
    go false e k = let w = leb-false (suc n) 2147483648 e in rw (le-ltb n 2147483648 (omega arith))

pub minus-some : (o : Option ℕ) → (capped_number o ≡ 0 → ⊥) → capped_number o ≤ 2147483648 → minus o ≡ some (negsuc (capped_number o - 1))
minus-some none h k = absurd (omega arith)
minus-some (some zero) h k = absurd (h refl)
minus-some (some (suc n)) h k = go (leb (suc n) 2147483648) k
  where
    go : (q : Bool) → cond q (suc n) 2147483649 ≤ 2147483648 → within32 (negsuc n) ≡ some (negsuc (cond q (suc n) 2147483649 - 1))
    go true k = let e : suc n - 1 ≡ n = omega arith in rw (lt-ltb n 2147483648 (omega arith), e)
    go false k = absurd (omega arith)

-- ---- figures

pub figure_short : (s : List ℕ) → length s < 1 → figure_of s ≡ plain_of s
unfolding figure_of number_of
figure_short [] h = refl
figure_short (b ∷ s) h = absurd (omega arith)

pub figure_plain : (s : List ℕ) → 1 ≤ length s → (get_or s 0 0 ≡ 45 → ⊥) → figure_of s ≡ plain_of s
unfolding figure_of
figure_plain [] h d = absurd (omega arith)
figure_plain (b ∷ s) h d = rw (ne_eqb b 45 d)

-- what the functions' proofs cite
pub ruleset digit_laws = (digits_on, digits_much, nat_tests)

pub ruleset figure_laws = (minus_capped, figure_short, figure_plain)
