-- An outcome's head is the head of its numbers: who hands it on hands on what the contracts speak of. Assumes nothing.
use mathlib.Core.Path.{◌≡◌, refl}
use Prim.Native.Nat.{ℕ}
use Rattle.std.specs.Prelude.{Result, Ok, Err}
use Rattle.rules.specs.declared.Head.{Head}
use Rattle.rules.specs.declared.Outcome.{Outcome}
use Rattle.rules.specs.declared.Refused.{Refused}
use Rattle.rules.specs.Refusals.{counted_as, numbers_of}

counted-head : (h : Head) (c : Result ℕ Refused) → (counted_as h c).head ≡ h
counted-head h (Ok k) = refl
counted-head h (Err e) = refl

pub handed-on : (o : Outcome) → (numbers_of o).head ≡ o.head
handed-on o = counted-head o.head o.count
