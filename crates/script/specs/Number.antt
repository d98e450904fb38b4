-- Numbers in decimal. Assumes nothing.
use Rattle.std.specs.Prelude.{ℕ, zero, suc, ◌+◌, ◌*◌, ◌-◌, Bool, cond, ◌&&◌, List, [], ◌∷◌, eqb, leb, ℤ, pos, negsuc}
use Rattle.std.proofs.Math.Option.{Option, none, some}
use Rattle.rules.specs.Call.{is_signed32}

-- a decimal digit: 0 is byte 48, 9 is byte 57
abbrev pub is_digit : ℕ → Bool
is_digit b = leb 48 b && leb b 57

-- digits that go on after those that make n
unfoldable pub digits_from : ℕ → List ℕ → Option ℕ
digits_from n [] = some n
digits_from n (b ∷ bs) = cond (is_digit b) (digits_from (n * 10 + (b - 48)) bs) none

-- numbers in decimal, no leading zeros: 0 is the one that begins with 0
unfoldable pub number_of : List ℕ → Option ℕ
number_of [] = none
number_of (b ∷ []) = digits_from 0 (b ∷ [])
number_of (b ∷ d ∷ bs) = cond (eqb b 48) none (digits_from 0 (b ∷ d ∷ bs))

-- within signed 32 bits
abbrev pub within32 : ℤ → Option ℤ
within32 x = cond (is_signed32 x) (some x) none

-- a number with no minus, as a word of a call
abbrev pub plain : Option ℕ → Option ℤ
plain none = none
plain (some n) = within32 (pos n)

-- a number after a minus: no -0
abbrev pub minus : Option ℕ → Option ℤ
minus none = none
minus (some zero) = none
minus (some (suc n)) = within32 (negsuc n)

-- a variable or a field: minus only for figures
abbrev pub plain_of : List ℕ → Option ℤ
plain_of bs = plain (number_of bs)

-- a figure: minus is byte 45
unfoldable pub figure_of : List ℕ → Option ℤ
figure_of [] = none
figure_of (b ∷ bs) = cond (eqb b 45) (minus (number_of bs)) (plain_of (b ∷ bs))
