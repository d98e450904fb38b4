-- Laws of the words of a call: a word not named, a figure. Assumes nothing.
use mathlib.Core.Path.{◌≡◌, refl, sym, ◌∙◌}
use mathlib.Core.Bool.{true}
use Prim.Native.Nat.{zero, suc, ◌<◌}
use native.Mathlib.Omega.{arith}
use borrow.Author.Tests.{lt-ltb, le-ltb, ne_eqb}
use lib.IntN.{ℤ, pos, negsuc}
use lib.Signed.{mag}
use mir.Syntax.{w32}
use mir.Val.{SFits}
use mir.Facts.{to_z-of_z}
use Rattle.rules.specs.Call.{is_below, is_nought, is_signed32}

-- a word not named is below 1
pub nought : (x : ℤ) → is_below 1 x ≡ is_nought x
nought (pos zero) = refl
nought (pos (suc a)) = le-ltb (suc a) 1 (omega arith) ∙ sym (ne_eqb (suc a) 0 (λ e. omega arith))
nought (negsuc a) = refl

-- every figure is a signed 32-bit number
pub any_figure : (x : ℤ) → SFits w32 x → is_signed32 x ≡ true
any_figure x f = let h : mag x < 2147483648 = f.sfits in lt-ltb _ _ h

-- what the ten calls' words are found by
pub ruleset word_laws = (to_z-of_z, nought, any_figure)
