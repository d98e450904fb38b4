-- What a test for -1 says: it compares bits. Assumes nothing.
use mathlib.Core.Path.{◌≡◌, sym, ap, ◌∙◌}
use lib.IntN.{ℤ, negsuc}
use mir.Syntax.{w32}
use mir.Val.{SFits, to_z, of_z}
use mir.Facts.{to_z-of_z}

pub minus_one : {x : ℤ} → SFits w32 x → of_z w32 x ≡ 4294967295 → x ≡ negsuc 0
minus_one f e = sym (to_z-of_z f) ∙ ap (to_z w32) e

pub not-minus-one : {x : ℤ} → (of_z w32 x ≡ 4294967295 → ⊥) → x ≡ negsuc 0 → ⊥
not-minus-one d e = d (ap (of_z w32) e)
