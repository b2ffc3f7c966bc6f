-- The names that several files of proofs/ share.
pub use Rattle.std.proofs.Math.ListN.{set}
pub use Rattle.std.proofs.lemmas.Bool.{cases_lt, eqb-false}
pub use Rattle.std.proofs.lemmas.Bool.Decides.{nat_tests}
pub use Rattle.std.proofs.lemmas.Grind.{reverse_onto}
pub use Rattle.std.proofs.lemmas.List.{append_cancel_left, at_drop_more, drop_all, get_or_past, map-append, reverse-append, take_more}
pub use Rattle.std.proofs.lemmas.List.Elements.{All-get_or, filter-append}
pub use Rattle.std.proofs.lemmas.List.FromFn.{get_or-map-range_with_len, length-map-range_with_len, length-range_with_len, map-range_with_len_more}
pub use Rattle.std.proofs.lemmas.List.Sums.{get_or-le-sum_by, sum_by-cons, sum_by-le-sum_by, sum_by-set, sum_by-take-le, sum_by_more_le}
pub use Rattle.std.proofs.lemmas.Option.{get_or_from_slice_get, slice_get-get_or, slice_get-map, slice_get_cases, slice_get_past, slice_get_read, slice_get_within}
pub use Rattle.std.specs.List.{sum_by}
pub use Rattle.std.specs.Option.{option_to_list}
pub use Rattle.std.specs.Vec.{vec_capacity}
pub use Rattle.gh_base.specs.Cells.{opening_words}
pub use Rattle.gh_base.specs.Lists.{Begins, Kind, MayFollow}
pub use Rattle.gh_base.specs.Reading.{read_after_set, read_replicate}
pub use Rattle.gh_base.specs.Steps.{cell_of, changed, IsShown, request, StepsAreShown, target}
pub use Rattle.gh_base.specs.declared.cell.Req.{Req}
pub use Rattle.gh_base.specs.declared.limits.TheConstants.{MOST_STATEMENTS}
pub use Rattle.gh_base.specs.declared.value.Answer.TheVariants.{Done}
pub use Rattle.gh_coord.specs.GoingOn.{GoesOnUntilDone}
pub use Rattle.gh_coord.specs.Sound.{SoundCoordinating}
pub use Rattle.gh_coord.specs.Stays.{cycle_room_stays, gives_nothing}
pub use Rattle.gh_heap.specs.Rights.{Arena}
pub use Rattle.gh_interp.specs.Working.{work_at}
pub use Rattle.gh_law.specs.Credit.{spent_among, spent_at}
pub use Rattle.gh_lists.specs.Order.{answered, ends, leaves, order_at}
pub use Rattle.gh_lists.specs.Processors.{all_ended, asked_by, asks_collector, FullOnlyThere}
pub use Rattle.gh_lists.specs.Wants.{AreFew, CyclesAreFew, ProcessorsBeginFew, total}
pub use Rattle.gh_mutator.specs.Acting.{ActsOnce, EachOperationActsOnce}
pub use Rattle.gh_mutator.specs.Deeds.{OnlyPointsChange, point_of}
pub use Rattle.gh_mutator.specs.Listing.{acting, acts_at, after_gc, after_leave, applied, begins, begins_at, follows, once_ended, takes_at}
pub use Rattle.gh_mutator.specs.Mutating.{asks, goes, Mutating}
pub use Rattle.gh_mutator.specs.PollRoom.{PollsMakeRoom}
pub use Rattle.gh_mutator.specs.Processor.{at_task, cache_span, keeping, opening_processor, register_of, taking}
pub use Rattle.gh_mutator.specs.Serving.{answer_at, answer_at as answer_at_task}
pub use Rattle.gh_mutator.specs.Sound.{has_names, has_room, most_objects, SoundMutating, SoundOp}
pub use Rattle.gh_script.specs.Program.{AreStatements, goroutine_at as goroutine_there, IsStatement, no_goroutine}
pub use Rattle.gh_script.specs.declared.statement.Settings.{Settings}
pub use Rattle.gh_script.specs.declared.statement.Stmt.{Stmt}
pub use Rattle.gh_worker.specs.Listing.{opening, Working}
pub use Rattle.gh_world.specs.After.{Appends, IsAfter, KeepsPlace}
pub use Rattle.gh_world.specs.Due.{EachKeepsItsPlace, FitsOwnEntries, WhatIsDueFits}
pub use Rattle.gh_world.specs.RunVocabulary.{after_poll, given_at, Polling}
pub use Rattle.gh_world.specs.Runs.{acted_by, actors_in, drawn_of, EveryOrderHasOneRun, EveryRunIsOne, IsRun, IsRunSoFar, NoneIsLonger}
pub use Rattle.gh_world.specs.Schedule.{ended_after, first_going, has_ended, in_order_from, IsInTurn, next_in, turn_from}
pub use Rattle.gh_world.specs.Turns.{answers_to, count_of, Follows, has_turn, HasTurn, is_leave, is_of_seat, is_poll_due, is_run_due, is_statement_of, is_unacted, IsPast, its_goroutine, later, leave_is_begun, MayBeOver, next_point, op_due, round_of, Stands, statement_count, statement_now, statements_among, to_come, total_by, total_of, turn_of}
unfoldable pub use Rattle.gh_world.specs.Turns.{turns_of}
pub use Rattle.gh_world.specs.Vocabulary.{acks_of, Act, acted, acted_at, acted_in, Actor, acts, Answer, Answered, arena_of, Ask, before_step, begun_in, bit, by, deeds, ended_in, Entry, Event, ever_of, filter, flat_map, gives_at, Goroutine, goroutine_is_over, goroutine_of, has_left, has_left_at, has_more, has_point, in_range, InRange, is_busy_at, is_last, is_leaving, is_of, is_point, is_serving, is_statement, IsFullFor, Layout, Legal, length_of, made_by, may_begin, may_leave, meaning, MOST_GOROUTINES, Next, Op, op_at, order_of, Processor, processor_kind, Program, Progress, range_with_len, Runner, Shape, ShowsCells, started, state_of, statement_answer, statement_as_op, statement_at, statements_in, statements_of, takes, Task, WellFormed, Words, words_after, work_of}
pub use Rattle.gh_world.specs.Wishes.{may_ask, most_cycles, wishes_among, wishes_in, wishes_of}
pub use Rattle.gh_world.specs.World.{actor_after, actor_of, actors_of, AllDone, answer_in, answered_by, answered_in, answered_of, AreOpening, AreTurns, begun_as, ComesNext, counts_after, done_or, event_at, event_by, event_of, found_by, found_for, given_for, is_done, IsOpening, IsStepOfCoordinator, IsStepOfProcessor, IsStepOfWorker, last_after, LaysOut, MadeAtMost, making, marks_at, marks_by, marks_of, now_by, now_in, now_of, op_at_turn, opening_progress, points_in, Polled, progress_after, Ran, runner_or, setting_of, setup_of, SoundOthers, SoundRunners, SoundState, SoundTurns, SoundWords, State, stated_after, stated_by, told_event, turn_in, with_goroutine, worker_or, workers_at}
pub use Rattle.gh_world.specs.declared.event.Event.TheVariants.{Moved}
