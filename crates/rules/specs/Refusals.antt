-- Numbers that say no, in the order 1, 2, 3, 4; and the ONE outcome of each entry point for every input. Assumes nothing.
use Rattle.std.specs.Prelude.{ℕ, ◌*◌, Bool, true, false, cond, List, [], ◌∷◌, ◌++◌, leb, length, drop, replicate, ℤ, pos, Result, Ok, Err}
use Rattle.std.proofs.Math.Option.{Option, none, some}
use Rattle.rules.specs.declared.Head.{Head}
use Rattle.rules.specs.declared.Sizes.{Sizes}
use Rattle.rules.specs.declared.Call.{Call}
use Rattle.rules.specs.declared.Outcome.{Outcome}
use Rattle.rules.specs.declared.Refused.{Refused}
use Rattle.rules.specs.declared.Refused.TheVariants.{Limits, Calls, Answers, Unsound}
use Rattle.rules.specs.Head.{fresh_head, zero_head}
use Rattle.rules.specs.Call.{Answer, calls_in}
use Rattle.rules.specs.Step.{batch, fresh}
use Rattle.rules.specs.Rows.{Lent, rows_of, head_of, heap_of}
use Rattle.rules.specs.Decide.{dec_limits, sound?, sized?}

-- the tests: `sized?` and `sound?` decide Sized and Sound by their types
abbrev pub test : {P : Type 0} → Dec P → Bool
test (yes p) = true
test (no d) = false

-- are the sizes within their limits?
unfoldable pub is_within : Sizes → Bool
is_within s = test (dec_limits s)

unfoldable pub is_sized : Head → Lent → Bool
is_sized h r = test (sized? h r)

unfoldable pub is_sound : Head → Lent → Bool
is_sound h r = test (sound? h r)

-- what an entry point returns, in numbers: 0 or the number that says no, the head, the cells freed
pub record Numbers : Type 0 where
  pub status : ℕ
  pub head : Head
  pub count : ℕ

-- what fresh and audit leave
pub record After : Type 0 where
  pub outcome : Numbers
  pub rows : Lent

-- what a batch leaves
pub record Batched : Type 0 where
  pub outcome : Numbers
  pub rows : Lent
  pub answers : List ℤ

abbrev pub outcome : ℕ → Head → ℕ → Numbers
outcome k h c = record { status = k; head = h; count = c }

-- the number of each refusal
abbrev pub number_of : Refused → ℕ
number_of Limits = 1
number_of Calls = 2
number_of Answers = 3
number_of Unsound = 4

-- an outcome in numbers: 0 and the cells freed, or the number that says no and a count of 0
abbrev pub counted_as : Head → Result ℕ Refused → Numbers
counted_as h (Ok c) = outcome 0 h c
counted_as h (Err e) = outcome (number_of e) h 0

abbrev pub numbers_of : Outcome → Numbers
numbers_of o = counted_as o.head o.count

abbrev pub leaves : Numbers → Lent → After
leaves o r = record { outcome = o; rows = r }

abbrev pub leaves_with : Numbers → Lent → List ℤ → Batched
leaves_with o r row = record { outcome = o; rows = r; answers = row }

-- work row zero, else everything as it was
abbrev pub cleared : Head → Lent → Lent
cleared h r =
    record {
      kinds = r.kinds;
      values = r.values;
      variables = r.variables;
      tables = r.tables;
      log = r.log;
      work = replicate h.sizes.n 0;
    }

-- ---- fresh: gives only 1

-- a refused fresh call returns 1, a head of zeros and a count of 0; an accepted one 0, the new head and a count of 0
unfoldable pub fresh_of : Sizes → Lent → After
fresh_of s r =
    cond (is_sized (fresh_head s) r) (leaves (outcome 0 (fresh_head s) 0) (rows_of s (fresh s))) (leaves (outcome 1 zero_head 0) r)

-- ---- audit: gives 1 and 4

-- saying yes, it returns 0, the head as given and a count of 0
unfoldable pub audit_of : Head → Lent → After
audit_of h r = cond (is_sized h r) (leaves (outcome (cond (is_sound h r) 0 4) h 0) (cleared h r)) (leaves (outcome 1 h 0) r)

-- ---- batch

-- answers are two words a call: status and value
abbrev pub answer_words : List Answer → List ℤ
answer_words [] = []
answer_words (a ∷ as') = pos a.status ∷ a.value ∷ answer_words as'

-- answers past the last call are untouched
unfoldable pub answered : List Answer → List ℤ → List ℤ
answered as' row = answer_words as' ++ drop (2 * length as') row

-- an accepted batch returns 0, the new head and the cells freed by all its settles
unfoldable pub accepted : Head → Lent → List Call → List ℤ → Batched
accepted h r cs row =
    let s = h.sizes in
    let b = batch s cs (heap_of h r) in
    leaves_with (outcome 0 (head_of s b.heap) b.heap.freed) (rows_of s b.heap) (answered b.answers row)

-- 4: not sound
unfoldable pub check_sound : Head → Lent → List Call → List ℤ → Batched
check_sound h r cs row = cond (is_sound h r) (accepted h r cs row) (leaves_with (outcome 4 h 0) (cleared h r) row)

-- 3: answers row shorter than two words a call
unfoldable pub check_answers : Head → Lent → List Call → List ℤ → Batched
check_answers h r cs row = cond (leb (2 * length cs) (length row)) (check_sound h r cs row) (leaves_with (outcome 3 h 0) r row)

-- 2: calls not a multiple of 4 words, above 1,024 words, or with a wrong word
unfoldable pub check_calls : Head → Lent → Option (List Call) → List ℤ → Batched
check_calls h r none row = leaves_with (outcome 2 h 0) r row
check_calls h r (some cs) row = check_answers h r cs row

-- 1: a head number or row length is outside its limits
unfoldable pub batch_of : Head → Lent → List ℤ → List ℤ → Batched
batch_of h r ws row = cond (is_sized h r) (check_calls h r (calls_in h.sizes.m ws) row) (leaves_with (outcome 1 h 0) r row)
