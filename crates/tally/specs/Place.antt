-- How far a script is read: what a line, and the reading of a batch, leave true of that. Assumes nothing.
use Rattle.std.specs.Prelude.{ℕ, ◌≡◌, ◌+◌, ◌<◌, ◌≤◌, Option, Some, None, Result, Ok, Err}
use Rattle.reader.specs.declared.Reader.{Reader}
use Rattle.tally.specs.declared.Stop.{Stop}
use Rattle.tally.specs.declared.Stop.TheVariants.{TooLong, Bad, Output}

-- a batch that was read has a line more, it is no larger than a batch may be, and each call has a line of its own
pub record Batch (p r : Reader) (calls : ℕ) : Type 0 where
  pub more : p.number < r.number
  pub most : r.number ≤ 1000000
  pub batch : calls ≤ 256
  pub own : p.number + calls ≤ r.number

-- what stops the reading is a bad line, the last that was read
abbrev pub Stopped : Reader → Reader → Stop → Type 0
Stopped p r (Bad n) = (n ≡ r.number) × (p.number < n) × (n ≤ 1000000)
Stopped p r TooLong = ⊥
Stopped p r (Output e) = ⊥

-- what the reading of a batch leaves: a batch, or no line left and the reader as it was, or a bad line
abbrev pub Gathered : Reader → Reader → Result (Option ℕ) Stop → Type 0
Gathered p r (Ok (Some calls)) = Batch p r calls
Gathered p r (Ok None) = r.number ≡ p.number
Gathered p r (Err s) = Stopped p r s
