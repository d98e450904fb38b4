-- What a line says; a bad line says nothing: none. Assumes nothing.
use Rattle.std.specs.Prelude.{ℕ, suc, ◌+◌, cond, ◌&&◌, List, [], ◌∷◌, eqb, leb, length, get_or, ℤ, pos}
use Rattle.std.proofs.Math.Option.{Option, none, some}
use Rattle.rules.specs.Head.{sized}
use Rattle.rules.specs.Refusals.{is_within}
use Rattle.rules.specs.Call.{call_of}
use Rattle.script.specs.Text.{bytes, same_bytes, fields_of}
use Rattle.script.specs.Number.{number_of, plain_of, figure_of}
use Rattle.rules.specs.declared.Call.{Call}
use Rattle.script.specs.declared.Line.{Line}
use Rattle.script.specs.declared.Line.TheVariants as L
use Rattle.script.specs.declared.Operation.{Operation}
use Rattle.script.specs.declared.Operation.TheVariants as O
use Rattle.std.specs.Prelude as code

-- ---- operation words

-- the operation words, from 1 on, and batch after them
abbrev pub operations : List (List ℕ)
operations = bytes "new" ∷ bytes "copy" ∷ bytes "clear" ∷ bytes "link" ∷ bytes "put" ∷ bytes "blank" ∷ bytes "follow" ∷ bytes "read" ∷ bytes "same" ∷ bytes "settle" ∷ bytes "batch" ∷ []

-- which of the words, from k on; 0 for none
unfoldable pub word_in : ℕ → List (List ℕ) → List ℕ → ℕ
word_in k [] bs = 0
word_in k (w ∷ ws) bs = cond (same_bytes bs w) k (word_in (suc k) ws bs)

-- new 1 .. settle 10, batch 11; 0 for any other word
abbrev pub operation_of : List ℕ → ℕ
operation_of bs = word_in 1 operations bs

-- how many words follow: new v; copy v w; clear v; link v f w; put v f x; blank v f; follow v f w; read v f; same v w; settle; batch
unfoldable pub arity : ℕ → ℕ
arity k = get_or (0 ∷ 1 ∷ 2 ∷ 1 ∷ 3 ∷ 3 ∷ 2 ∷ 3 ∷ 2 ∷ 2 ∷ 0 ∷ 0 ∷ []) k 0

-- word i of operation k, of the fields of its line: put's third is a figure, the others are numbers, and one not named is 0
unfoldable pub word_of : ℕ → ℕ → List (List ℕ) → Option ℤ
word_of k i fs = cond (leb i (arity k)) (cond (eqb k 5 && eqb i 3) (figure_of (get_or fs i [])) (plain_of (get_or fs i []))) (some (pos 0))

-- ---- a line after the first

-- a call that would earn refusal 2 is bad
abbrev pub call_if : Option Call → Line → Option Line
call_if none l = none
call_if (some c) l = some l

-- the four words of a call
unfoldable pub call_with : ℕ → ℤ → Option ℤ → Option ℤ → Option ℤ → Option Line
call_with m op (some a) (some b) (some c) = call_if (call_of m op a b c) (L.Call op a b c)
call_with m op none b c = none
call_with m op (some a) none c = none
call_with m op (some a) (some b) none = none

-- the call of operation k, of the fields of its line
abbrev pub call_line : ℕ → ℕ → List (List ℕ) → Option Line
call_line m k fs = call_with m (pos k) (word_of k 1 fs) (word_of k 2 fs) (word_of k 3 fs)

-- as many words follow as the operation has
unfoldable pub operation_line : ℕ → ℕ → List (List ℕ) → Option Line
operation_line m k fs = cond (eqb (length fs) (arity k + 1)) (cond (eqb k 11) (some L.Batch) (call_line m k fs)) none

-- a line holds at most 80 bytes, and its first field is the operation word
unfoldable pub line_of : ℕ → List ℕ → Option Line
line_of m bs = cond (leb (length bs) 80) (operation_line m (operation_of (get_or (fields_of bs) 0 [])) (fields_of bs)) none

-- ---- line 1

-- with a number, where there is one
abbrev pub on_number : Option ℕ → (ℕ → Option Line) → Option Line
on_number none f = none
on_number (some n) f = f n

-- heap, n, m, L, cap; numbers that would earn refusal 1 are bad
unfoldable pub heap_line : List (List ℕ) → Option Line
heap_line fs =
    on_number (number_of (get_or fs 1 []))
    (λ n.
    on_number (number_of (get_or fs 2 []))
    (λ m.
    on_number (number_of (get_or fs 3 [])) (λ l. on_number (number_of (get_or fs 4 [])) (λ cap. cond (is_within (sized n m l cap)) (some (L.Heap (sized n m l cap))) none))))

-- line 1: heap, n, m, L, cap
unfoldable pub head_line_of : List ℕ → Option Line
head_line_of bs =
    cond (leb (length bs) 80 && (eqb (length (fields_of bs)) 5 && same_bytes (get_or (fields_of bs) 0 []) (bytes "heap"))) (heap_line (fields_of bs)) none

-- ---- what the functions hand on

-- a number, as far as it counts: none above 2,147,483,648
abbrev pub capped : Option ℕ → Option ℕ
capped none = none
capped (some n) = cond (leb n 2147483648) (some n) none

-- the number of an operation, 11 for batch
abbrev pub number_of_operation : Operation → ℕ
number_of_operation O.New = 1
number_of_operation O.Copy = 2
number_of_operation O.Clear = 3
number_of_operation O.Link = 4
number_of_operation O.Put = 5
number_of_operation O.Blank = 6
number_of_operation O.Follow = 7
number_of_operation O.Read = 8
number_of_operation O.Same = 9
number_of_operation O.Settle = 10
number_of_operation O.Batch = 11

-- the number of the operation that was named; 0 for none
abbrev pub number_named : code.Option Operation → ℕ
number_named code.None = 0
number_named (code.Some o) = number_of_operation o
