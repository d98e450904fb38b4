-- Laws of a signed 32-bit number and its size. Assumes nothing.
use Prim.Native.Nat.{ℕ, suc, ◌+◌, ◌<◌, ◌^◌}
use mathlib.Core.Path.{◌≡◌, ap, ◌∙◌}
use mathlib.Core.Bool.{true, false}
use native.Mathlib.Omega.{arith}
use native.Mathlib.Numerals.{add-one}
use lib.Dec.{T}
use borrow.Author.Tests.{ltb-true, le-ltb}
use lib.IntN.{ℤ, pos, negsuc, nat_abs, ◌-ℤ◌}
use lib.Signed.{lt_z, non_neg, mag}
use mir.Syntax.{w32, w64}
use mir.Val.{SFits, Fits, to_z, of_z}
use mir.Facts.{to_z-of_z}

-- -1 less a number below 0
turned : (x : ℤ) → lt_z x (pos 0) ≡ true → negsuc 0 -ℤ x ≡ pos (mag x)
turned (pos n) h = absurd (let z : n < 0 = ltb-true n 0 h in omega arith)
turned (negsuc n) h = rw (le-ltb (suc n) 1 (omega arith)) (ap pos (omega arith))

pub turned-fits : (x : ℤ) → SFits w32 x → lt_z x (pos 0) ≡ true → SFits w32 (negsuc 0 -ℤ x)
turned-fits x f h = rw (turned x h) (record { sfits = f.sfits })

turned-is : (x : ℤ) → SFits w32 x → lt_z x (pos 0) ≡ true → to_z w32 (of_z w32 (negsuc 0 -ℤ x)) ≡ pos (mag x)
turned-is x f h = to_z-of_z (turned-fits x f h) ∙ turned x h

pub turned_cast : (x : ℤ) → SFits w32 x → lt_z x (pos 0) ≡ true → T (non_neg (to_z w32 (of_z w32 (negsuc 0 -ℤ x)))) × Fits w64 (nat_abs (to_z w32 (of_z w32 (negsuc 0 -ℤ x))))
turned_cast x f h = rw (turned-is x f h) (tt, let g : mag x < 2 ^ 31 = f.sfits in omega arith)

size_mag : (x : ℤ) → lt_z x (pos 0) ≡ true → mag x + 1 ≡ nat_abs x
size_mag (pos n) h = absurd (let z : n < 0 = ltb-true n 0 h in omega arith)
size_mag (negsuc n) h = add-one n

pub turned_size : (x : ℤ) → SFits w32 x → lt_z x (pos 0) ≡ true → nat_abs (to_z w32 (of_z w32 (negsuc 0 -ℤ x))) + 1 ≡ nat_abs x
turned_size x f h = rw (turned-is x f h) (size_mag x h)

pub turned-most : (x : ℤ) → SFits w32 x → lt_z x (pos 0) ≡ true → nat_abs (to_z w32 (of_z w32 (negsuc 0 -ℤ x))) < 2 ^ 31
turned-most x f h = rw (turned-is x f h) f.sfits

pub plain_cast : (x : ℤ) → SFits w32 x → lt_z x (pos 0) ≡ false → T (non_neg x) × Fits w64 (nat_abs x)
plain_cast (pos n) f h = (tt, let g : n < 2 ^ 31 = f.sfits in omega arith)
plain_cast (negsuc n) f h = let q : ◌≡◌ {A = ℕ} 1 0 = cc in absurd (omega arith)
