-- What printing leaves on a stream whose bytes are known. Assumes nothing.
use Rattle.std.specs.Prelude.{ℕ, List, take, Option, Result, MatchResult}
use Rattle.std.specs.Io.KnownBytes.{Appends}

-- the first of the bytes were appended, maybe none
abbrev pub AppendsSome : Option (List ℕ) → Option (List ℕ) → List ℕ → Type 0
AppendsSome old new bytes = (k : ℕ) × Appends old new (take k bytes)

-- the bytes were appended; at an error, only the first of them
abbrev pub Prints : {T E : Type 0} → Option (List ℕ) → Option (List ℕ) → List ℕ → Result T E → Type 0
Prints old new bytes r = MatchResult r (λ done. Appends old new bytes) (λ error. AppendsSome old new bytes)
