-- No heap that cheats meets the demands: the comment names the fact that each of them breaks (proofs/Refuted). Assumes nothing.
use Rattle.rules.specs.Demands.{Demand1, Demand2, Demand3}
use Rattle.worthless.specs.Refusing as R
use Rattle.worthless.specs.Settling as S
use Rattle.worthless.specs.Answering as A

-- those that break a fact of demand 1
pub record Refuted1 : Type 0 where
  -- refused_1, refused_2, refused_3, refused_4: when
  pub two_for_1 : Demand1 (R.says_for_number 2 1) → ⊥
  pub three_for_2 : Demand1 (R.says_for_number 3 2) → ⊥
  pub four_for_3 : Demand1 (R.says_for_number 4 3) → ⊥
  pub one_for_4 : Demand1 (R.says_for_number 1 4) → ⊥
  -- only
  pub one_for_2 : Demand1 (R.says_for_number 1 2) → ⊥
  pub two_for_3 : Demand1 (R.says_for_number 2 3) → ⊥
  pub three_for_4 : Demand1 (R.says_for_number 3 4) → ⊥
  pub says_4 : Demand1 R.says_four → ⊥
  -- left
  pub clears_at_1 : Demand1 (R.clears_at 1) → ⊥
  pub clears_at_2 : Demand1 (R.clears_at 2) → ⊥
  pub clears_at_3 : Demand1 (R.clears_at 3) → ⊥
  pub clears_at_4 : Demand1 (R.clears_at 4) → ⊥
  pub keeps_work_at_4 : Demand1 R.keeps_work_at_four → ⊥
  -- accepted_else
  pub refuses-more : Demand1 R.refuses_more → ⊥
  -- work_zero
  pub leaves-work : Demand1 R.leaves_work → ⊥
  -- answers_past
  pub writes-past : Demand1 R.writes_past → ⊥
  pub cuts-answers : Demand1 R.cuts_answers → ⊥
  -- refused_11_to_15
  pub fifteen_for_12 : Demand1 R.fifteen_for_twelve → ⊥
  pub refused-with-value : Demand1 R.refused_with_value → ⊥
  pub copy-with-value : Demand1 R.copy_with_value → ⊥
  -- no_call_no_change
  pub forgets : Demand1 R.forgets → ⊥
  -- refused_as_left_out
  pub clears_at_15 : Demand1 R.clears_at_fifteen → ⊥
  pub settles_at_11 : Demand1 R.settles_at_eleven → ⊥
  pub answers_after_11 : Demand1 R.answers_after_eleven → ⊥
  pub answers_before_11 : Demand1 R.answers_before_eleven → ⊥
  -- fourteen_settles
  pub clears_in_the_middle : Demand1 S.clears_at_fourteen → ⊥
  pub loses_what_settle_reads : Demand1 S.loses_the_log → ⊥
  pub settle_one_more_at_14 : Demand1 A.settle_one_more → ⊥
  -- deed_answered
  pub refuses-links : Demand1 R.refuses_links → ⊥
  pub read-one-more : Demand1 A.read_one_more → ⊥
  -- fifteen_exactly
  pub thirteen-for-nothing : Demand1 R.thirteen_for_nothing → ⊥
  pub fifteen-for-cell : Demand1 R.fifteen_for_cell → ⊥
  pub fifteen_for_11 : Demand1 R.fifteen_for_eleven → ⊥
  pub nought_for_11 : Demand1 R.nought_for_eleven → ⊥
  -- fresh_refuses_only_1
  pub fresh-work : Demand1 R.fresh_work → ⊥
  pub fresh-head-kept : Demand1 R.fresh_head_kept → ⊥
  -- audit_refuses_only_1_and_4
  pub audit-work : Demand1 R.audit_work → ⊥
  pub audit_work_at_4 : Demand1 R.audit_work_at_four → ⊥
  pub audit_clears_at_1 : Demand1 R.audit_clears_at_one → ⊥

-- of demand 2
pub record Refuted2 : Type 0 where
  -- sizes_stay
  pub changes-cap : Demand2 S.changes_cap → ⊥
  -- batch_sound
  pub leaves-log : Demand2 S.leaves_log → ⊥
  -- exact_below_cap
  pub counts-one-more : Demand2 S.counts_one_more → ⊥
  -- frees_all
  pub frees-nothing : Demand2 S.frees_nothing → ⊥
  pub frees-once : Demand2 S.frees_once → ⊥
  -- frees_exactly
  pub pins-at-the-cap : Demand2 S.pins_at_the_cap → ⊥
  pub frees-pointed-to : Demand2 S.frees_pointed_to → ⊥
  pub frees-held : Demand2 S.frees_held → ⊥
  pub frees-largest-first : Demand2 S.frees_largest_first → ⊥
  pub turns-free-list : Demand2 S.turns_free_list → ⊥
  pub loses-figure : Demand2 S.loses_figure → ⊥
  pub lets-go : Demand2 S.lets_go → ⊥
  -- at_the_cap
  pub caps-early : Demand2 S.caps_early → ⊥
  -- cap_stays
  pub counts-anew : Demand2 S.counts_anew → ⊥
  -- ring_stays
  pub frees-rings : Demand2 S.frees_rings → ⊥
  -- count_is_freed
  pub made-up-count : Demand2 A.made_up_count → ⊥
  -- count_is_sum
  pub counts-last : Demand2 S.counts_last → ⊥
  -- handed_out_again
  pub hands-out-second : Demand2 S.hands_out_second → ⊥
  pub hands-out-old-figures : Demand2 S.hands_out_old_figures → ⊥
  pub value-beside-nothing : Demand2 S.value_beside_nothing → ⊥
  -- settle_value
  pub settle-one-more : Demand2 A.settle_one_more → ⊥
  -- settled_before
  pub settles-not-for-room : Demand2 S.settles_not_for_room → ⊥
  -- settle_ends
  pub settles-late : Demand2 S.settles_late → ⊥
  pub counts_after_settle : Demand2 S.counts_last → ⊥
  -- new_lets_go
  pub counts-for-room : Demand2 S.counts_for_room → ⊥
  pub reuses-uncounted : Demand2 S.reuses_uncounted → ⊥
  -- fourteen_exactly
  pub says_14 : Demand2 A.says_fourteen → ⊥
  pub fourteen-unsettled : Demand2 S.fourteen_unsettled → ⊥
  pub counts-own-hold : Demand2 S.counts_own_hold → ⊥
  pub counts-no-hold : Demand2 S.counts_no_hold → ⊥
  -- fourteen_keeps
  pub clears_at_14 : Demand2 S.clears_at_fourteen → ⊥
  pub loses-the-log : Demand2 S.loses_the_log → ⊥
  -- audit_exactly
  pub audit-yes : Demand2 R.audit_yes → ⊥
  pub audit-no : Demand2 R.audit_no → ⊥

-- of demand 3
pub record Refuted3 : Type 0 where
  -- figures_hidden
  pub figure-in-value : Demand3 A.figure_in_value → ⊥
  pub figure-in-status : Demand3 A.figure_in_status → ⊥
  pub figure-in-work : Demand3 A.figure_in_work → ⊥
  pub figure-in-log : Demand3 A.figure_in_log → ⊥
  pub figure-in-zct : Demand3 A.figure_in_zct → ⊥
  pub figure-in-variable : Demand3 A.figure_in_variable → ⊥
  pub figure-in-kind : Demand3 A.figure_in_kind → ⊥
  pub figure-in-field : Demand3 A.figure_in_field → ⊥
  pub figure-in-count : Demand3 A.figure_in_count → ⊥
  pub figure-in-fresh : Demand3 A.figure_in_fresh → ⊥
  pub figure-in-fresh-row : Demand3 A.figure_in_fresh_row → ⊥
  pub figure-in-refusal : Demand3 A.figure_in_refusal → ⊥
  -- as_endless
  pub answers_0 : Demand3 A.answers_nought → ⊥
  pub same-always : Demand3 A.same_always → ⊥
  pub twelve-for-cell : Demand3 A.twelve_for_cell → ⊥
  pub fourteen-for-read : Demand3 A.fourteen_for_read → ⊥
