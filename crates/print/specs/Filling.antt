-- What filling a row from a stream takes from it, where the stream's bytes are known. Assumes nothing.
use Rattle.std.specs.Prelude.{ℕ, ◌<◌, ◌≤◌, List, length, take, Option, Result, MatchResult}
use Rattle.std.specs.Io.KnownBytes.{Consumes, IsAtEnd}

-- the row's first k bytes were taken from the stream
pub record Taken (old new : Option (List ℕ)) (row : List ℕ) (k : ℕ) : Type 0 where
  pub within : k ≤ length row
  pub taken : Consumes old new (take k row)

-- and they were all that it had, where the row has room for more
pub record Filled (old new : Option (List ℕ)) (row : List ℕ) (k : ℕ) : Type 0 where
  pub front : Taken old new row k
  pub all : k < length row → IsAtEnd new

-- the row is filled with so many bytes; at an error some were taken, maybe none
abbrev pub Fills : {E : Type 0} → Option (List ℕ) → Option (List ℕ) → List ℕ → Result ℕ E → Type 0
Fills old new row r = MatchResult r (λ k. Filled old new row k) (λ error. (k : ℕ) × Taken old new row k)
