-- What says no to a batch, before its calls are worked. Assumes nothing.
use Rattle.std.specs.Prelude.{ℕ, ◌*◌, ◌≤◌, ◌≡◌, List, length, replicate, ℤ, Result, Ok, Err}
use Rattle.std.proofs.Math.Option.{some}
use Rattle.rules.specs.declared.Head.{Head}
use Rattle.rules.specs.declared.Call.{Call}
use Rattle.rules.specs.declared.Refused.{Refused}
use Rattle.rules.specs.Call.{calls_in}
use Rattle.rules.specs.Rows.{Lent}
use Rattle.rules.specs.Sound.{Sized, Sound}
use Rattle.rules.specs.Refusals.{outcome, number_of, leaves_with, cleared, batch_of}

-- nothing says no: the head and the lengths are within their limits, the words are calls, the answers have room, the heap is sound
pub record Passed (h : Head) (r : Lent) (ws row : List ℤ) : Type 0 where
  pub sized : Sized h r
  pub list : List Call
  pub are : calls_in h.sizes.m ws ≡ some list
  pub room : 2 * length list ≤ length row
  pub sound : Sound h r

-- the rows r' are what the refusal leaves; of a batch that passed, the work row is zero
abbrev pub Judged : Head → Lent → List ℤ → List ℤ → Lent → Result (Unit {0}) Refused → Type 0
Judged h r ws row r' (Ok x) = Passed h r ws row × (r' ≡ cleared h r)
Judged h r ws row r' (Err e) = leaves_with (outcome (number_of e) h 0) r' row ≡ batch_of h r ws row
