-- Laws of the operation words: a word, by its length and its bytes. Assumes nothing.
use Rattle.std.proofs.Common.{◌≡◌, ℕ, zero, suc, ◌<◌, ◌≤◌, Bool, true, false, cond, eqb, ◌&&◌, List, [], ◌∷◌, length, get_or, refl, ap, ◌∙◌, arith}
use Rattle.std.proofs.lemmas.Bool.Decides.{nat_tests}
use Rattle.std.proofs.Math.Dec.{eqb-suc-suc}
use borrow.Author.Tests.{ne_eqb}
use Rattle.script.specs.Text.{same_bytes, bytes}
use Rattle.script.specs.Line.{word_in, operations}

-- the bytes of p stand in s, from place i on
abbrev pub spells : List ℕ → ℕ → List ℕ → Bool
spells s i [] = true
spells s i (c ∷ p) = eqb (get_or s i 0) c && spells s (suc i) p

spells_on : (x : ℕ) (s : List ℕ) (i : ℕ) (p : List ℕ) → spells (x ∷ s) (suc i) p ≡ spells s i p
spells_on x s i [] = refl
spells_on x s i (c ∷ p) = ap (λ (b : Bool). eqb (get_or s i 0) c && b) (spells_on x s (suc i) p)

swap : (a b c : Bool) → (a && (b && c)) ≡ (b && (a && c))
swap true true c = refl
swap true false c = refl
swap false true c = refl
swap false false c = refl

-- the same bytes, by the length and the places
by_places : (s p : List ℕ) → same_bytes s p ≡ (eqb (length s) (length p) && spells s 0 p)
unfolding same_bytes
by_places [] [] = refl
by_places [] (c ∷ p) = rw (ne_eqb 0 (suc (length p)) (λ e. omega arith))
by_places (x ∷ s) [] = rw (ne_eqb (suc (length s)) 0 (λ e. omega arith))
by_places (x ∷ s) (c ∷ p) = rw (by_places s p, spells_on x s 0 p, eqb-suc-suc (length s) (length p)) (swap (eqb x c) (eqb (length s) (length p)) (spells s 0 p))

-- the operation of a word of n bytes
abbrev pub at_length : ℕ → List ℕ → ℕ
at_length n s =
    cond (eqb n 3 && spells s 0 (bytes "new")) 1
    (cond (eqb n 4 && spells s 0 (bytes "copy")) 2
    (cond (eqb n 5 && spells s 0 (bytes "clear")) 3
    (cond (eqb n 4 && spells s 0 (bytes "link")) 4
    (cond (eqb n 3 && spells s 0 (bytes "put")) 5
    (cond (eqb n 5 && spells s 0 (bytes "blank")) 6
    (cond (eqb n 6 && spells s 0 (bytes "follow")) 7
    (cond (eqb n 4 && spells s 0 (bytes "read")) 8
    (cond (eqb n 4 && spells s 0 (bytes "same")) 9
    (cond (eqb n 6 && spells s 0 (bytes "settle")) 10
    (cond (eqb n 5 && spells s 0 (bytes "batch")) 11
    (0)))))))))))

spelt : (s : List ℕ) → word_in 1 operations s ≡ at_length (length s) s
unfolding word_in
spelt s = rw (by_places s (bytes "new"), by_places s (bytes "copy"), by_places s (bytes "clear"), by_places s (bytes "link"), by_places s (bytes "put"), by_places s (bytes "blank"), by_places s (bytes "follow"), by_places s (bytes "read"), by_places s (bytes "same"), by_places s (bytes "settle"), by_places s (bytes "batch"))

word_of : (n : ℕ) (s : List ℕ) → n ≤ length s → length s < suc n → word_in 1 operations s ≡ at_length n s
word_of n s h l = let e : length s ≡ n = omega arith in spelt s ∙ ap (λ (k : ℕ). at_length k s) e

pub word_of_three : (s : List ℕ) → 3 ≤ length s → length s < 4 → word_in 1 operations s ≡ at_length 3 s
word_of_three s h l = word_of 3 s h l

pub word_of_four : (s : List ℕ) → 4 ≤ length s → length s < 5 → word_in 1 operations s ≡ at_length 4 s
word_of_four s h l = word_of 4 s h l

pub word_of_five : (s : List ℕ) → 5 ≤ length s → length s < 6 → word_in 1 operations s ≡ at_length 5 s
word_of_five s h l = word_of 5 s h l

pub word_of_six : (s : List ℕ) → 6 ≤ length s → length s < 7 → word_in 1 operations s ≡ at_length 6 s
word_of_six s h l = word_of 6 s h l

pub word_too_short : (s : List ℕ) → length s < 3 → word_in 1 operations s ≡ 0
word_too_short s h = spelt s ∙ go (length s) h
  where
    go : (n : ℕ) → n < 3 → at_length n s ≡ 0
    go zero h = refl
    go (suc zero) h = refl
    go (suc (suc zero)) h = refl
    go (suc (suc (suc n))) h = absurd (omega arith)

pub word_too_long : (s : List ℕ) → 7 ≤ length s → word_in 1 operations s ≡ 0
word_too_long s h =
    let d : (k : ℕ) → k < 7 → eqb (length s) k ≡ false = λ k l. ne_eqb (length s) k (λ e. omega arith) in
    spelt s ∙ rw (d 3 (omega arith), d 4 (omega arith), d 5 (omega arith), d 6 (omega arith))

-- what the operation words are found by
pub ruleset name_laws = (word_of_three, word_of_four, word_of_five, word_of_six, word_too_short, word_too_long, nat_tests)
