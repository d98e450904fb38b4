-- Laws of what a line says: a word that is no operation, and numbers that are too large. Assumes nothing.
use Rattle.std.proofs.Common.{◌≡◌, ℕ, ◌+◌, ◌<◌, Bool, true, false, cond, eqb, leb, List, [], length, get_or, refl, ◌∙◌, arith, pos, ℤ}
use Rattle.std.proofs.Math.Option.{Option, none, some}
use borrow.Author.Tests.{leb-false}
use Rattle.rules.specs.Call.{call_of}
use Rattle.rules.specs.Head.{Limits, Says, sized}
use Rattle.rules.specs.declared.Sizes.{Sizes}
use Rattle.rules.specs.Refusals.{is_within}
use Rattle.rules.proofs.Tests.{within-says}
use Rattle.script.specs.Number.{number_of}
use Rattle.script.specs.Line.{arity, call_with, operation_line, word_of, on_number, heap_line, capped}
use Rattle.script.specs.declared.Line.{Line}
use Rattle.script.specs.declared.Line.TheVariants as L
use Rattle.script.proofs.Meaning.{with_four, with_three, with_two, with_one}

-- ---- a line after the first

no_call : (m : ℕ) (a b c : Option ℤ) → call_with m (pos 0) a b c ≡ none
unfolding call_with call_of
no_call m none b c = refl
no_call m (some a) none c = refl
no_call m (some a) (some b) none = refl
no_call m (some a) (some b) (some c) = refl

-- a word that is no operation makes a line bad, whatever follows
pub no_operation : (m : ℕ) (fs : List (List ℕ)) → operation_line m 0 fs ≡ none
unfolding operation_line
no_operation m fs = go (eqb (length fs) (arity 0 + 1)) (no_call m (word_of 0 1 fs) (word_of 0 2 fs) (word_of 0 3 fs))
  where
    go : {x : Option Line} (q : Bool) → x ≡ none → cond q x none ≡ none
    go true e = e
    go false e = refl

-- ---- line 1

-- a number that is bad when it is too large may be taken as far as it counts
on_capped : (o : Option ℕ) (f : ℕ → Option Line) → ((n : ℕ) → 2147483648 < n → f n ≡ none) → on_number o f ≡ on_number (capped o) f
on_capped none f h = refl
on_capped (some n) f h = go (leb n 2147483648) refl
  where
    go : (q : Bool) → leb n 2147483648 ≡ q → f n ≡ on_number (cond q (some n) none) f
    go true e = refl
    go false e = h n (leb-false n 2147483648 e)

on_bad : (o : Option ℕ) (f : ℕ → Option Line) → ((n : ℕ) → f n ≡ none) → on_number o f ≡ none
on_bad none f h = refl
on_bad (some n) f h = h n

-- numbers beyond the limits
fine_not : (n m l cap : ℕ) → (Limits (sized n m l cap) → ⊥) → with_four n m l cap ≡ none
fine_not n m l cap d = go (is_within (sized n m l cap)) refl
  where
    go : (q : Bool) → is_within (sized n m l cap) ≡ q → cond q (some (L.Heap (sized n m l cap))) none ≡ none
    go true e = absurd (d ((within-says (sized n m l cap)).yes e))
    go false e = refl

not_three : (n m l : ℕ) (o : Option ℕ) → ((c : ℕ) → Limits (sized n m l c) → ⊥) → with_three n m l o ≡ none
not_three n m l o d = on_bad o (λ c. with_four n m l c) (λ c. fine_not n m l c (d c))

not_two : (n m : ℕ) (o₃ o : Option ℕ) → ((l c : ℕ) → Limits (sized n m l c) → ⊥) → with_two n m o₃ o ≡ none
not_two n m o₃ o d = on_bad o₃ (λ l. with_three n m l o) (λ l. not_three n m l o (d l))

not_one : (n : ℕ) (o₂ o₃ o : Option ℕ) → ((m l c : ℕ) → Limits (sized n m l c) → ⊥) → with_one n o₂ o₃ o ≡ none
not_one n o₂ o₃ o d = on_bad o₂ (λ m. with_two n m o₃ o) (λ m. not_two n m o₃ o (d m))

under : (o : Option ℕ) (f g : ℕ → Option Line) → ((n : ℕ) → f n ≡ g n) → on_number o f ≡ on_number o g
under none f g h = refl
under (some n) f g h = h n

-- the same from each number on, as far as it counts
abbrev pub capped_three : ℕ → ℕ → ℕ → Option ℕ → Option Line
capped_three n m l o = on_number (capped o) (λ c. with_four n m l c)

abbrev pub capped_two : ℕ → ℕ → Option ℕ → Option ℕ → Option Line
capped_two n m o₃ o = on_number (capped o₃) (λ l. capped_three n m l o)

abbrev pub capped_one : ℕ → Option ℕ → Option ℕ → Option ℕ → Option Line
capped_one n o₂ o₃ o = on_number (capped o₂) (λ m. capped_two n m o₃ o)

three : (n m l : ℕ) (o : Option ℕ) → with_three n m l o ≡ capped_three n m l o
three n m l o = on_capped o (λ c. with_four n m l c) (λ c h. fine_not n m l c (λ z. let w = z.cap_most in omega arith))

two : (n m : ℕ) (o₃ o : Option ℕ) → with_two n m o₃ o ≡ capped_two n m o₃ o
two n m o₃ o =
    on_capped o₃ (λ l. with_three n m l o) (λ l h. not_three n m l o (λ c z. let w = z.l_most in omega arith))
    ∙ under (capped o₃) (λ l. with_three n m l o) (λ l. capped_three n m l o) (λ l. three n m l o)

one : (n : ℕ) (o₂ o₃ o : Option ℕ) → with_one n o₂ o₃ o ≡ capped_one n o₂ o₃ o
one n o₂ o₃ o =
    on_capped o₂ (λ m. with_two n m o₃ o) (λ m h. not_two n m o₃ o (λ l c z. let w = z.m_most in omega arith))
    ∙ under (capped o₂) (λ m. with_two n m o₃ o) (λ m. capped_two n m o₃ o) (λ m. two n m o₃ o)

-- line 1's numbers, each as far as it counts
pub heap_capped : (fs : List (List ℕ)) → heap_line fs ≡ on_number (capped (number_of (get_or fs 1 []))) (λ n. capped_one n (number_of (get_or fs 2 [])) (number_of (get_or fs 3 [])) (number_of (get_or fs 4 [])))
unfolding heap_line
heap_capped fs =
    let o₁ = number_of (get_or fs 1 []) in
    let o₂ = number_of (get_or fs 2 []) in
    let o₃ = number_of (get_or fs 3 []) in
    let o = number_of (get_or fs 4 []) in
    on_capped o₁ (λ n. with_one n o₂ o₃ o) (λ n h. not_one n o₂ o₃ o (λ m l c z. let w = z.n_most in omega arith))
    ∙ under (capped o₁) (λ n. with_one n o₂ o₃ o) (λ n. capped_one n o₂ o₃ o) (λ n. one n o₂ o₃ o)

-- the test of the limits is the code's
pub within_is : (s : Sizes) (r : Bool) → Says r (Limits s) → is_within s ≡ r
within_is s r h = go (is_within s) r (within-says s) h
  where
    go : (q r : Bool) → Says q (Limits s) → Says r (Limits s) → q ≡ r
    go true true k h = refl
    go true false k h = absurd (h.no refl (k.yes refl))
    go false true k h = absurd (k.no refl (h.yes refl))
    go false false k h = refl

pub ruleset heap_laws = (heap_capped, within_is)
