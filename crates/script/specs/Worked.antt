-- Lines worked by computation. Assumes nothing.
use Rattle.std.specs.Prelude.{ℕ, ◌≡◌, refl, List, [], ◌∷◌, ℤ, pos, negsuc}
use Rattle.std.proofs.Math.Option.{Option, none, some}
use Rattle.rules.specs.Head.{sized}
use Rattle.rules.specs.Call.{call_of}
use Rattle.rules.specs.Refusals.{is_within}
use Rattle.script.specs.Text.{bytes, same_bytes, up_to, more_fields, fields_of, lines_from, lines_of, next_line}
use Rattle.script.specs.Number.{digits_from, number_of, figure_of}
use Rattle.script.specs.Line.{word_in, arity, word_of, call_with, operation_line, line_of, heap_line, head_line_of}
use Rattle.script.specs.declared.Line.{Line}
use Rattle.script.specs.declared.Line.TheVariants as L

-- ---- lines and fields

-- a script that ends in LF has no empty last line, one that ends in two has one, and an empty text has none
lines : lines_of (bytes "ab\nc\n") ≡ bytes "ab" ∷ bytes "c" ∷ []
unfolding lines_from up_to
lines = refl

last_lacks_lf : lines_of (bytes "ab\nc") ≡ bytes "ab" ∷ bytes "c" ∷ []
unfolding lines_from up_to
last_lacks_lf = refl

empty_last_line : lines_of (bytes "ab\n\n") ≡ bytes "ab" ∷ [] ∷ []
unfolding lines_from up_to
empty_last_line = refl

no_line : lines_of (bytes "") ≡ []
unfolding lines_from
no_line = refl

after_lf : next_line (bytes "ab\nc") 0 ≡ 3
unfolding up_to
after_lf = refl

fields : fields_of (bytes "a\t\tb\t") ≡ bytes "a" ∷ [] ∷ bytes "b" ∷ [] ∷ []
unfolding up_to more_fields
fields = refl

-- ---- numbers

zero-alone : number_of (bytes "0") ≡ some 0
unfolding number_of digits_from
zero-alone = refl

leading_zero : number_of (bytes "00") ≡ none
unfolding number_of digits_from
leading_zero = refl

thirty_digits : number_of (bytes "123456789012345678901234567890") ≡ some 123456789012345678901234567890
unfolding number_of digits_from
thirty_digits = refl

plus : number_of (bytes "+5") ≡ none
unfolding number_of digits_from
plus = refl

space : number_of (bytes "5 ") ≡ none
unfolding number_of digits_from
space = refl

least_figure : figure_of (bytes "-2147483648") ≡ some (negsuc 2147483647)
unfolding figure_of number_of digits_from
least_figure = refl

most-figure : figure_of (bytes "2147483647") ≡ some (pos 2147483647)
unfolding figure_of number_of digits_from
most-figure = refl

too_little : figure_of (bytes "-2147483649") ≡ none
unfolding figure_of number_of digits_from
too_little = refl

too_much : figure_of (bytes "2147483648") ≡ none
unfolding figure_of number_of digits_from
too_much = refl

minus-zero : figure_of (bytes "-0") ≡ none
unfolding figure_of number_of digits_from
minus-zero = refl

lone_minus : figure_of (bytes "-") ≡ none
unfolding figure_of number_of digits_from
lone_minus = refl

-- ---- what a line says, or that it is bad

abbrev Heap : ℕ → ℕ → ℕ → ℕ → Option Line
Heap n m l cap = some (L.Heap (sized n m l cap))

abbrev Call : ℤ → ℤ → ℤ → ℤ → Option Line
Call op a b c = some (L.Call op a b c)

abbrev Batch : Option Line
Batch = some L.Batch

abbrev Bad : Option Line
Bad = none

-- ---- lines after the first, over 4 variables

says : List ℕ → Option Line
says bs = line_of 4 bs

put : says (bytes "put\t0\t1\t-2147483648") ≡ Call (pos 5) (pos 0) (pos 1) (negsuc 2147483647)
unfolding says line_of operation_line word_in arity word_of call_with call_of same_bytes up_to more_fields figure_of number_of digits_from
put = refl

follow : says (bytes "follow\t3\t1\t2") ≡ Call (pos 7) (pos 3) (pos 1) (pos 2)
unfolding says line_of operation_line word_in arity word_of call_with call_of same_bytes up_to more_fields figure_of number_of digits_from
follow = refl

settle : says (bytes "settle") ≡ Call (pos 10) (pos 0) (pos 0) (pos 0)
unfolding says line_of operation_line word_in arity word_of call_with call_of same_bytes up_to more_fields figure_of number_of digits_from
settle = refl

batch : says (bytes "batch") ≡ Batch
unfolding says line_of operation_line word_in arity word_of call_with call_of same_bytes up_to more_fields figure_of number_of digits_from
batch = refl

-- an unused word, a variable, a field and a figure out of range; a minus for a variable; two tabs; an empty line; other words
bad : List (List ℕ)
bad =
    bytes "settle\t" ∷ bytes "settle\t0" ∷ bytes "batch\t0" ∷ bytes "new\t4" ∷ bytes "read\t0\t2" ∷ bytes "put\t0\t0\t2147483648" ∷ bytes "new\t-1" ∷ bytes "new\t00"
    ∷ bytes "copy\t0\t\t1" ∷ bytes "copy\t0" ∷ bytes "copy\t0\t1\t2" ∷ bytes "new\t18446744073709551616" ∷ bytes "new\t123456789012345678901234567890" ∷ bytes "new 0" ∷ bytes "new\t0\r" ∷ bytes "New\t0" ∷ bytes "newt\t0"
    ∷ bytes "" ∷ bytes "\t" ∷ bytes "heap\t4\t2\t8\t3" ∷ bytes "put\t0\t0\t-0" ∷ bytes "put\t0\t0\t" ∷ bytes "0" ∷ []

each : (List ℕ → Option Line) → List (List ℕ) → List (Option Line)
each f [] = []
each f (x ∷ xs) = f x ∷ each f xs

all_bad : each says bad ≡ each (λ x. Bad) bad
unfolding bad each says line_of operation_line word_in arity word_of call_with call_of same_bytes up_to more_fields figure_of number_of digits_from
all_bad = refl

-- ---- line 1

most : head_line_of (bytes "heap\t1024\t64\t1024\t255") ≡ Heap 1024 64 1024 255
unfolding head_line_of heap_line is_within same_bytes up_to more_fields number_of digits_from
most = refl

least : head_line_of (bytes "heap\t1\t1\t2\t3") ≡ Heap 1 1 2 3
unfolding head_line_of heap_line is_within same_bytes up_to more_fields number_of digits_from
least = refl

bad_first : List (List ℕ)
bad_first =
    bytes "heap\t0\t1\t2\t3" ∷ bytes "heap\t1025\t1\t2\t3" ∷ bytes "heap\t1\t0\t2\t3" ∷ bytes "heap\t1\t65\t2\t3" ∷ bytes "heap\t1\t1\t1\t3" ∷ bytes "heap\t1\t1\t1025\t3" ∷ bytes "heap\t1\t1\t2\t2"
    ∷ bytes "heap\t1\t1\t2\t256" ∷ bytes "heap\t04\t1\t2\t3" ∷ bytes "heap\t1\t1\t2" ∷ bytes "heap\t1\t1\t2\t3\t" ∷ bytes "heap\t4294967297\t1\t2\t3" ∷ bytes "heap\t18446744073709551617\t1\t2\t3" ∷ bytes "batch" ∷ bytes "new\t0" ∷ bytes "" ∷ []

all_bad_first : each head_line_of bad_first ≡ each (λ x. Bad) bad_first
unfolding bad_first each head_line_of heap_line is_within same_bytes up_to more_fields number_of digits_from
all_bad_first = refl
