-- Laws of a signed 32-bit number that is an address: what a sign test says, and the casts. Assumes nothing.
use mathlib.Core.Path.{◌≡◌, refl}
use Prim.Native.Nat.{ℕ, ◌<◌, ◌^◌}
use native.Mathlib.Omega.{arith}
use lib.Dec.{T}
use borrow.Author.Tests.{ltb-true}
use mathlib.Core.Bool.{true, false}
use lib.IntN.{ℤ, pos, negsuc, nat_abs}
use lib.Signed.{lt_z, non_neg, mag}
use mir.Syntax.{w32, w64}
use mir.Val.{SFits, Fits, to_z, of_z}
use mir.Facts.{to_z-of_z}
use Rattle.rules.specs.Field.{address_of}

-- a signed number that was read goes through its bits, and is itself again
pub back : (z : ℤ) → mag z < 2 ^ 31 → to_z w32 (of_z w32 z) ≡ z
back z h = to_z-of_z {w = w32} {z = z} (record { sfits = h })

-- what a sign test says of the address that a value is
pub address-none : (n : ℕ) (x : ℤ) → lt_z x (pos 0) ≡ true → n ≡ address_of n x
address-none n (pos a) h = absurd (let z : a < 0 = ltb-true a 0 h in omega arith)
address-none n (negsuc a) h = refl

pub address-some : (n : ℕ) (x : ℤ) → lt_z x (pos 0) ≡ false → nat_abs x ≡ address_of n x
address-some n (pos a) h = refl
address-some n (negsuc a) h = let q : ◌≡◌ {A = ℕ} 1 0 = cc in absurd (omega arith)

pub address-fits : (x : ℤ) → SFits w32 x → lt_z x (pos 0) ≡ false → T (non_neg x) × Fits w64 (nat_abs x)
address-fits (pos n) f h = (tt, let g : n < 2 ^ 31 = f.sfits in omega arith)
address-fits (negsuc n) f h = absurd (let q : ◌≡◌ {A = ℕ} 1 0 = cc in omega arith)
