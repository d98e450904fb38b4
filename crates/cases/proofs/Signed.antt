-- A number of 31 bits, taken from 0, fits.
use Prim.Native.Nat.{ℕ, zero, suc, ◌<◌, ◌^◌}
use native.Mathlib.Omega.{arith}
use borrow.Author.Tests.{lt-ltb}
use lib.IntN.{pos, ◌-ℤ◌}
use mir.Syntax.{w32}
use mir.Val.{SFits, to_z}

below-zero : (n : ℕ) → n < 2 ^ 31 → SFits w32 (pos 0 -ℤ pos n)
below-zero zero h = record { sfits = omega arith }
below-zero (suc n) h = rw (lt-ltb 0 (suc n) (omega arith)) (record { sfits = omega arith })

pub negated : (n : ℕ) → n < 2 ^ 31 → SFits w32 (pos 0 -ℤ to_z w32 n)
negated n h = rw (lt-ltb n (2 ^ 31) h) (below-zero n h)
