-- The worked cases P1 to P11; proved by computing the table. Assumes nothing.
use Rattle.std.specs.Prelude.{T}
use Rattle.rules.specs.Sound.{Word}
use Rattle.rules.specs.Decide.{sound?, sized?, dec_word}
use Rattle.rules.specs.Cases.{freshly, outcome_of, right, table}
use Rattle.rules.specs.Rows as R
use Rattle.rules.specs.Rules as U
use Rattle.rules.specs.Settle as S
use Rattle.rules.specs.Heap as H
use Rattle.rules.specs.Call as C
use Rattle.rules.specs.Step as P
use Rattle.rules.specs.Refusals as F

pub worked : T (right table)
unfolding right table outcome_of freshly F.is_sized F.is_sound sound? sized? dec_word Word F.fresh_of F.batch_of F.check_calls F.check_answers F.check_sound F.accepted F.answered R.rows_of R.head_of R.heap_of C.call_of C.calls_of C.calls_in U.enter_zct U.leave_zct U.enter_mrt U.leave_mrt U.on_create U.on_destroy U.apply U.replay H.place H.field H.store S.free_cell S.reclaim S.replayed S.settled_by S.settled C.var C.at C.refuses C.logs C.write C.hold C.act C.value P.full P.no_cell_free P.wants P.settled_if P.take_cell P.do_new P.do_deed P.acted P.run P.step P.calls P.batch P.free_from P.fresh
worked = tt
