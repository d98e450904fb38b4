-- Heaps that cheat at what they answer, and those that show a figure where none is to be seen. Assumes nothing.
use Rattle.std.specs.Prelude.{ℕ, suc, cond, ◌&&◌, [], ◌∷◌, eqb, ℤ, pos, negsuc, get_or, set}
use Rattle.std.specs.Int.Signed.{mag}
use Rattle.rules.specs.Call.{Answer, answer}
use Rattle.rules.specs.Rows.{Lent}
use Rattle.rules.specs.Refusals.{outcome, leaves, leaves_with, fresh_of}
use Rattle.rules.specs.Run.{Heaps}
use Rattle.worthless.specs.Forms.{with_fresh, where_said, with_rows, with_work, with_log, with_zct, with_variables, with_kinds, with_values, operation, saying}

-- operation k answered 0 has another answer, by the rows that are left
abbrev pub answered_nought : ℕ → (Lent → Answer → Answer) → Heaps
answered_nought k f = saying (λ r c a. cond (eqb (operation c) k && eqb a.status 0) (f r a) a)

abbrev pub one_more : ℤ → ℤ
one_more (pos k) = pos (suc k)
one_more (negsuc k) = negsuc k

-- 14 to all
abbrev pub says_fourteen : Heaps
says_fourteen = saying (λ r c a. answer 14 (pos 0))

-- 0 always
abbrev pub answers_nought : Heaps
answers_nought = saying (λ r c a. answer a.status (pos 0))

-- 14 to every read that finds a figure
abbrev pub fourteen_for_read : Heaps
fourteen_for_read = answered_nought 8 (λ r a. answer 14 (pos 0))

-- 12 to a follow that finds a cell
abbrev pub twelve_for_cell : Heaps
twelve_for_cell = answered_nought 7 (λ r a. answer 12 (pos 0))

-- a read answers one more
abbrev pub read_one_more : Heaps
read_one_more = answered_nought 8 (λ r a. answer 0 (one_more a.value))

-- `same` is always 1
abbrev pub same_always : Heaps
same_always = answered_nought 9 (λ r a. answer 0 (pos 1))

-- a settle's value is one too high
abbrev pub settle_one_more : Heaps
settle_one_more = answered_nought 10 (λ r a. answer 0 (one_more a.value))

-- a made-up count of freed cells
abbrev pub made_up_count : Heaps
made_up_count = where_said 0 (λ o. leaves_with (outcome 0 o.outcome.head (suc o.outcome.count)) o.rows o.answers)

-- ---- a figure shown

-- the word in field 0 of cell 0
abbrev pub figure : Lent → ℤ
figure r = get_or r.values 0 (pos 0)

-- as a settle's value
abbrev pub figure_in_value : Heaps
figure_in_value = answered_nought 10 (λ r a. answer 0 (figure r))

-- as a settle's status
abbrev pub figure_in_status : Heaps
figure_in_status = answered_nought 10 (λ r a. answer (mag (figure r)) a.value)

-- in a row that should not show it: at the start of the work row, the log, ZCT, the variables and the kinds
abbrev pub figure_in_work : Heaps
figure_in_work = where_said 0 (with_rows (λ r. with_work (set r.work 0 (mag (figure r))) r))

abbrev pub figure_in_log : Heaps
figure_in_log = where_said 0 (with_rows (λ r. with_log (set r.log 0 (mag (figure r))) r))

abbrev pub figure_in_zct : Heaps
figure_in_zct = where_said 0 (with_rows (λ r. with_zct (set r.tables.zct 0 (mag (figure r))) r))

abbrev pub figure_in_variable : Heaps
figure_in_variable = where_said 0 (with_rows (λ r. with_variables (set r.variables 0 (figure r)) r))

abbrev pub figure_in_kind : Heaps
figure_in_kind = where_said 0 (with_rows (λ r. with_kinds (set r.kinds 1 (mag (figure r))) r))

-- beside nothing: as the value of field 1 of cell 0
abbrev pub figure_in_field : Heaps
figure_in_field = where_said 0 (with_rows (λ r. with_values (set r.values 1 (figure r)) r))

-- as the batch's count
abbrev pub figure_in_count : Heaps
figure_in_count = where_said 0 (λ o. leaves_with (outcome 0 o.outcome.head (mag (figure o.rows))) o.rows o.answers)

-- what the rows held before is the count of a fresh call
abbrev pub figure_in_fresh : Heaps
figure_in_fresh = with_fresh (λ s r. let o = fresh_of s r in cond (eqb o.outcome.status 0) (leaves (outcome 0 o.outcome.head (mag (figure r))) o.rows) o)

-- a fresh call leaves what the value row held
abbrev pub figure_in_fresh_row : Heaps
figure_in_fresh_row = with_fresh (λ s r. let o = fresh_of s r in cond (eqb o.outcome.status 0) (leaves o.outcome (with_values r.values o.rows)) o)

-- in the answers row of a refused batch
abbrev pub figure_in_refusal : Heaps
figure_in_refusal = where_said 2 (λ o. leaves_with o.outcome o.rows (figure o.rows ∷ []))
