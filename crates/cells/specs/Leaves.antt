-- What a variable can be given to hold. Assumes nothing.
use Rattle.std.specs.Prelude.{ℕ, ◌<◌}
use Rattle.std.proofs.Math.Option.{Option, none, some}

-- nothing, or an address below 2,048
abbrev pub Near : Option ℕ → Type 0
Near none = Unit {0}
Near (some a) = a < 2048
