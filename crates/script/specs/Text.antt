-- The text of a script: its lines, and the fields of a line. Assumes nothing.
use Rattle.std.specs.Prelude.{ℕ, ◌+◌, Bool, true, false, cond, ◌&&◌, List, [], ◌∷◌, eqb, length, drop}
use Prim.Native.String.{String, [] as []ˢ, ◌∷◌ as ◌∷ˢ◌}
use Prim.Native.Char.{code}

-- the bytes of a text in quotes (letters, digits and signs of 7 bits)
abbrev pub bytes : String → List ℕ
bytes []ˢ = []
bytes (c ∷ˢ s) = code c ∷ bytes s

-- the same bytes
unfoldable pub same_bytes : List ℕ → List ℕ → Bool
same_bytes [] [] = true
same_bytes [] (y ∷ ys) = false
same_bytes (x ∷ xs) [] = false
same_bytes (x ∷ xs) (y ∷ ys) = eqb x y && same_bytes xs ys

-- the bytes before the first b
unfoldable pub up_to : ℕ → List ℕ → List ℕ
up_to b [] = []
up_to b (x ∷ xs) = cond (eqb x b) [] (x ∷ up_to b xs)

-- the fields after the first: one after each tab, up to the next
unfoldable pub more_fields : List ℕ → List (List ℕ)
more_fields [] = []
more_fields (x ∷ xs) = cond (eqb x 9) (up_to 9 xs ∷ more_fields xs) (more_fields xs)

-- fields parted by one tab
abbrev pub fields_of : List ℕ → List (List ℕ)
fields_of xs = up_to 9 xs ∷ more_fields xs

-- the lines of a text: one at its start and one after each LF, where there is a byte, up to the next LF
unfoldable pub lines_from : Bool → List ℕ → List (List ℕ)
lines_from starts [] = []
lines_from starts (x ∷ xs) = cond starts (up_to 10 (x ∷ xs) ∷ lines_from (eqb x 10) xs) (lines_from (eqb x 10) xs)

-- lines end in LF (the last may lack it)
abbrev pub lines_of : List ℕ → List (List ℕ)
lines_of xs = lines_from true xs

-- the line that starts at a place: the bytes up to its LF, or up to the end of the text
abbrev pub line_at : List ℕ → ℕ → List ℕ
line_at xs at = up_to 10 (drop at xs)

-- where it ends: at its LF, or at the end of the text
abbrev pub line_end : List ℕ → ℕ → ℕ
line_end xs at = at + length (line_at xs at)

-- where the next line starts; there is one if that is below the text's length (`lines_step`, `lines_end` of proofs/TextLaws)
abbrev pub next_line : List ℕ → ℕ → ℕ
next_line xs at = line_end xs at + 1
