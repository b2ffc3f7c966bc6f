-- The names that several files of proofs/ share.
pub use Rattle.std.proofs.Math.ListN.{set}
pub use Rattle.std.proofs.lemmas.Bool.{cases_lt}
pub use Rattle.std.proofs.lemmas.Bool.Decides.{nat_tests}
pub use Rattle.std.proofs.lemmas.List.{at_drop_all, at_drop_more, drop_all, drop_more, get_or-append_right, get_or-replicate, get_or_append_left, get_or_past, length-map, length-replicate, take_more}
pub use Rattle.std.proofs.lemmas.List.Sums.{fails_before_first, position_or_len_is, sum_by-cons}
pub use Rattle.std.proofs.lemmas.Option.{get_or_from_slice_get, slice_get-get_or, slice_get-map, slice_get_past, slice_get_read, slice_get_within}
pub use Rattle.std.specs.List.{AllByRecursion, list_all}
pub use Rattle.std.specs.Option.{option_map, option_to_list}
pub use Rattle.std.specs.Vec.{vec_capacity}
pub use Rattle.gh_base.specs.Cells.{seats_of}
pub use Rattle.gh_base.specs.Lists.{by, started}
pub use Rattle.gh_base.specs.Packing.{bit}
pub use Rattle.gh_base.specs.declared.shape.Shape.{Shape}
pub use Rattle.gh_base.specs.declared.value.Answer.TheVariants.{Done}
pub use Rattle.gh_coord.specs.Listing.{Coordinating}
pub use Rattle.gh_coord.specs.declared.cycles.Cycle.{Cycle}
pub use Rattle.gh_lines.specs.Text.{answer_line, answer_lines, credit_line, cycle_line, line_of_cycle, lines_from, live_line, MakerStands, SweptCycle}
pub use Rattle.gh_lists.specs.Order.{acted_in, Answered, begun_in}
pub use Rattle.gh_lists.specs.declared.handshake.Actor.{Actor}
pub use Rattle.gh_lists.specs.declared.handshake.Actor.TheVariants.{Leads}
pub use Rattle.gh_model.specs.Answers.{AllAnswer, Answers, ever_after_all}
pub use Rattle.gh_model.specs.Ever.{Ever, ever_after, makes_object, next_name, opening_ever, sets_global, stores_value, takes_answer, with_object, with_register}
pub use Rattle.gh_mutator.specs.Serving.{has_left_at, is_last, is_statement}
pub use Rattle.gh_mutator.specs.Vocabulary.{Name}
pub use Rattle.gh_replay.specs.Check.{answers_untaken, AreAlong, ever_at_end, HaveStatements, IsEverAfter}
pub use Rattle.gh_replay.specs.ListText.{is_comma, is_sign, ranged, turn_at, turn_with, until_of, within}
unfoldable pub use Rattle.gh_replay.specs.ListText.{list_of, turn_read, turns_read}
pub use Rattle.gh_replay.specs.Places.{AllGoOn, KnowsThoseGoing, RanWithinBudget, seen_of, standing_at}
pub use Rattle.gh_replay.specs.Plan.{no_plan, Plan}
pub use Rattle.gh_replay.specs.Replayed.{EitherOne, IsReplayed, IsUnfinished, NotBoth, OneOutcome}
pub use Rattle.gh_replay.specs.Report.{is_checked, IsReportOf, replay_lines, ReportState, rows_from, rows_of}
pub use Rattle.gh_replay.specs.Scheduled.{IsScheduled, NothingSaidIsInTurn, OthersTakeTurns, reached_in, stands_in}
pub use Rattle.gh_replay.specs.Standing.{ActorsSoFar, going, is_gone, is_over, is_over_by, moved, next_of, opening, passed, Standing, stands_behind, to_come, who, who_at, who_behind, who_by, who_of, with_actor_ended}
pub use Rattle.gh_replay.specs.Vocabulary.{acted_by, actor_after, actors_of, agrees_line, AllDone, Answer, answers_by, answers_given, ended_after, Entry, ever_of, filter, flat_map, has_line, is_done, IsExplained, IsInTurn, IsRunSoFar, Layout, layout_of, LaysOut, Lists, Marks, marks_at, marks_by, marks_of, Op, Outcome, outcome_lines, position_or_len, Program, range_with_len, script_of, setting_of, slice_split, State, Steps, Turn, turn_from, Until, WellFormed, Without}
pub use Rattle.gh_replay.specs.declared.list.TheConstants.{MOST_ITEMS}
pub use Rattle.gh_script.specs.Program.{Goroutine, no_goroutine, statement_as_op, statement_at, statements_of}
pub use Rattle.gh_script.specs.Words.{is_digit}
unfoldable pub use Rattle.gh_script.specs.Words.{digits_value_of, number_spelled, value_from}
pub use Rattle.gh_world.specs.After.{Appends, IsAfter}
pub use Rattle.gh_world.specs.Points.{answers_of, ever_along, op_at_point, ops_of, PointsAreStatements, statements_acted, StatementsAreEnough, with_ends}
pub use Rattle.gh_world.specs.Runs.{actors_in, drawn_of, EveryOrderHasOneRun, EveryRunIsExplained, IsRun, marked_by, outcome_by, RunsEndWhole, RunsGoOn, spent_after, swept_cycle}
pub use Rattle.gh_world.specs.Schedule.{first_going, has_ended, in_order_from, next_in}
pub use Rattle.gh_world.specs.Turns.{is_statement_of, its_goroutine, total_of}
unfoldable pub use Rattle.gh_world.specs.Turns.{turns_of}
pub use Rattle.gh_world.specs.Wishes.{most_cycles}
pub use Rattle.gh_world.specs.World.{actor_of, answer_in, answered_by, answered_in, answered_of, done_or, event_at, event_by, event_of, now_in, points_in, points_of, runner_or, told_event, turn_in, with_goroutine, worker_or}
pub use Rattle.gh_world.specs.declared.event.Event.{Event}
pub use Rattle.gh_world.specs.declared.runner.Runner.{Runner}
pub use Rattle.rand_xoshiro.specs.SplitMix64.{mix_u64}
