-- The cases against the errors that look right, and those that pin the rules, by computation. Assumes nothing.
use mathlib.Core.Path.{refl}
use Rattle.rules.specs.Rules as U
use Rattle.rules.specs.Settle as S
use Rattle.rules.specs.Heap as H
use Rattle.rules.specs.Call as C
use Rattle.rules.specs.Step as P
use Rattle.rules.specs.Against.{LooksRight, Pinned}

pub look_right : LooksRight
unfolding C.call_of C.calls_of C.calls_in U.enter_zct U.leave_zct U.enter_mrt U.leave_mrt U.on_create U.on_destroy U.apply U.replay H.place H.field H.store S.free_cell S.reclaim S.replayed S.settled_by S.settled C.var C.at C.refuses C.logs C.write C.hold C.act C.value P.full P.no_cell_free P.wants P.settled_if P.take_cell P.do_new P.do_deed P.acted P.run P.step P.calls P.batch P.free_from P.fresh
look_right =
    record {
      held_cells_stay = refl;
      destroyed_then_created = refl;
      cap_stays = refl;
      second_pointer_is_two = refl;
      freeing_goes_on = refl;
      new_cells_are_blank = refl;
      freed_cells_are_blank = refl;
      tables_ascend = refl;
      new_lets_go_of_its_cell = refl;
      for_room_too = refl;
      others_holds_count = refl;
      kept_at_14 = refl;
      the_end_counts_all = refl;
      settle_counts_all = refl;
      a_link_counts_all = refl;
    }

pub pinned : Pinned
unfolding C.call_of C.calls_of C.calls_in U.enter_zct U.leave_zct U.enter_mrt U.leave_mrt U.on_create U.on_destroy U.apply U.replay H.place H.field H.store S.free_cell S.reclaim S.replayed S.settled_by S.settled C.var C.at C.refuses C.logs C.write C.hold C.act C.value P.full P.no_cell_free P.wants P.settled_if P.take_cell P.do_new P.do_deed P.acted P.run P.step P.calls P.batch P.free_from P.fresh
pinned =
    record {
      same_is_one_cell = refl;
      copied_is_same = refl;
      copied_into_v = refl;
      nothing_copied = refl;
      followed_into_w = refl;
      blank_takes_one = refl;
      settle_counts_its_own = refl;
      cells_needed = refl;
      no_other_values = refl;
      link_over_figure_needs_one = refl;
      link_over_cell_needs_two = refl;
      two_are_enough = refl;
      put_over_cell_needs_one = refl;
      blank_over_cell_needs_one = refl;
      over_figure_needs_none = refl;
      refused_makes_no_settle = refl;
      smaller_first = refl;
      smallest_again = refl;
      numbered = refl;
      unnamed_are_nought = refl;
      no_other_words = refl;
      last_variable = refl;
      no_other_variable = refl;
      last_field = refl;
      no_other_field = refl;
      no_other_operation = refl;
      calls_256 = refl;
      not_257 = refl;
      whole_calls = refl;
    }
