-- What a line that is read may be: line 1 a heap within the limits of rules, a later line a call of rules. Assumes nothing.
use Prim.Native.Nat.{ℕ, ◌+◌}
use mathlib.Core.Path.{◌≡◌, refl}
use mathlib.Core.Bool.{Bool, true, false, cond, ◌&&◌}
use mathlib.Core.Option.{Option, none, some}
use mathlib.Core.List.{List, []}
use lib.Dec.{eqb, leb}
use lib.ListN.{length, get_or}
use lib.IntN.{ℤ, pos}
use Rattle.rules.specs.declared.Call.{Call}
use Rattle.rules.specs.Call.{call_of}
use Rattle.rules.specs.Head.{Limits, sized}
use Rattle.rules.specs.Refusals.{is_within}
use Rattle.rules.proofs.Tests.{within-says}
use Rattle.words.specs.Words.{is_some}
use Rattle.script.specs.Text.{bytes, same_bytes, fields_of}
use Rattle.script.specs.Number.{number_of}
use Rattle.script.specs.Line.{operation_of, arity, word_of, call_if, call_with, call_line, operation_line, line_of, on_number, heap_line, head_line_of}
use Rattle.script.specs.declared.Line.{Line}
use Rattle.script.specs.declared.Line.TheVariants as L

-- ---- line 1

-- a heap within the limits, or bad
abbrev pub First : Option Line → Type 0
First none = Unit {0}
First (some (L.Heap sizes)) = Limits sizes
First (some (L.Call op a b c)) = ⊥
First (some L.Batch) = ⊥

first_if : (q : Bool) (x : Option Line) → First x → First (cond q x none)
first_if true x h = h
first_if false x h = tt

first_on : (o : Option ℕ) (f : ℕ → Option Line) → ((n : ℕ) → First (f n)) → First (on_number o f)
first_on none f h = tt
first_on (some n) f h = h n

-- a heap's line from its first numbers on
abbrev pub with_four : ℕ → ℕ → ℕ → ℕ → Option Line
with_four n m l c = cond (is_within (sized n m l c)) (some (L.Heap (sized n m l c))) none

abbrev pub with_three : ℕ → ℕ → ℕ → Option ℕ → Option Line
with_three n m l o = on_number o (λ c. with_four n m l c)

abbrev pub with_two : ℕ → ℕ → Option ℕ → Option ℕ → Option Line
with_two n m o₃ o = on_number o₃ (λ l. with_three n m l o)

abbrev pub with_one : ℕ → Option ℕ → Option ℕ → Option ℕ → Option Line
with_one n o₂ o₃ o = on_number o₂ (λ m. with_two n m o₃ o)

first-four : (n m l cap : ℕ) → First (with_four n m l cap)
first-four n m l cap = go (is_within (sized n m l cap)) refl
  where
    go : (q : Bool) → is_within (sized n m l cap) ≡ q → First (cond q (some (L.Heap (sized n m l cap))) none)
    go true e = (within-says (sized n m l cap)).yes e
    go false e = tt

first_three : (n m l : ℕ) (o : Option ℕ) → First (with_three n m l o)
first_three n m l o = first_on o (λ c. with_four n m l c) (λ c. first-four n m l c)

first_two : (n m : ℕ) (o₃ o : Option ℕ) → First (with_two n m o₃ o)
first_two n m o₃ o = first_on o₃ (λ l. with_three n m l o) (λ l. first_three n m l o)

first_one : (n : ℕ) (o₂ o₃ o : Option ℕ) → First (with_one n o₂ o₃ o)
first_one n o₂ o₃ o = first_on o₂ (λ m. with_two n m o₃ o) (λ m. first_two n m o₃ o)

first_heap : (fs : List (List ℕ)) → First (heap_line fs)
unfolding heap_line
first_heap fs =
    let o₂ = number_of (get_or fs 2 []) in
    let o₃ = number_of (get_or fs 3 []) in
    let o = number_of (get_or fs 4 []) in
    first_on (number_of (get_or fs 1 [])) (λ n. with_one n o₂ o₃ o) (λ n. first_one n o₂ o₃ o)

pub first_says : (bs : List ℕ) → First (head_line_of bs)
unfolding head_line_of
first_says bs =
    let fs = fields_of bs in
    first_if (leb (length bs) 80 && (eqb (length fs) 5 && same_bytes (get_or fs 0 []) (bytes "heap"))) (heap_line fs) (first_heap fs)

-- ---- a line after the first

-- a call of rules over m variables, the end of a batch, or bad
abbrev pub Later : ℕ → Option Line → Type 0
Later m none = Unit {0}
Later m (some (L.Heap sizes)) = ⊥
Later m (some (L.Call op a b c)) = is_some (call_of m op a b c) ≡ true
Later m (some L.Batch) = Unit {0}

later_if : (m : ℕ) (q : Bool) (x y : Option Line) → Later m x → Later m y → Later m (cond q x y)
later_if m true x y h k = h
later_if m false x y h k = k

later_with : (m : ℕ) (op : ℤ) (o₁ o₂ o₃ : Option ℤ) → Later m (call_with m op o₁ o₂ o₃)
unfolding call_with
later_with m op none o₂ o₃ = tt
later_with m op (some a) none o₃ = tt
later_with m op (some a) (some b) none = tt
later_with m op (some a) (some b) (some c) = go (call_of m op a b c) refl
  where
    go : (o : Option Call) → call_of m op a b c ≡ o → Later m (call_if o (L.Call op a b c))
    go none e = tt
    go (some x) e = rw e

later_operation : (m k : ℕ) (fs : List (List ℕ)) → Later m (operation_line m k fs)
unfolding operation_line
later_operation m k fs =
    later_if m (eqb (length fs) (arity k + 1)) (cond (eqb k 11) (some L.Batch) (call_line m k fs)) none
    (later_if m (eqb k 11) (some L.Batch) (call_line m k fs) tt (later_with m (pos k) (word_of k 1 fs) (word_of k 2 fs) (word_of k 3 fs))) tt

pub later_says : (m : ℕ) (bs : List ℕ) → Later m (line_of m bs)
unfolding line_of
later_says m bs =
    let fs = fields_of bs in
    let k = operation_of (get_or fs 0 []) in
    later_if m (leb (length bs) 80) (operation_line m k fs) none (later_operation m k fs) tt
