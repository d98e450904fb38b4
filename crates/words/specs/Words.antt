-- What four words are found to be, and what a row of words is. Assumes nothing.
use Rattle.std.specs.Prelude.{ℕ, ◌+◌, ◌≡◌, Bool, true, false, List, ℤ, pos, get_or}
use Rattle.std.proofs.Math.Option.{Option, none, some}
use Rattle.rules.specs.declared.Call.{Call}
use Rattle.rules.specs.Call.{call_of, calls_in}

-- is there a call?
abbrev pub is_some : Option Call → Bool
is_some none = false
is_some (some c) = true

-- the call that the four words from place i on are
abbrev pub call_at : ℕ → List ℤ → ℕ → Option Call
call_at m ws i = call_of m (get_or ws i (pos 0)) (get_or ws (i + 1) (pos 0)) (get_or ws (i + 2) (pos 0)) (get_or ws (i + 3) (pos 0))

-- the words are the calls in it
pub record Calls (m : ℕ) (ws : List ℤ) : Type 0 where
  pub list : List Call
  pub are : calls_in m ws ≡ some list

-- yes: the words are calls; no: they are none
pub record Decides (r : Bool) (m : ℕ) (ws : List ℤ) : Type 0 where
  pub yes : r ≡ true → Calls m ws
  pub no : r ≡ false → calls_in m ws ≡ none
