-- The names that several files of proofs/ share.
pub use Rattle.std.proofs.lemmas.Bool.{cases_lt}
pub use Rattle.std.proofs.lemmas.Bool.Decides.{nat_tests}
pub use Rattle.std.proofs.lemmas.List.{length-map, length-reverse}
pub use Rattle.std.specs.List.{filter}
pub use Rattle.std.specs.Option.{option_to_list}
pub use Rattle.gh_base.specs.Lists.{Kind}
pub use Rattle.gh_base.specs.Rows.{page_words, Row}
unfoldable pub use Rattle.gh_base.specs.Rows.{row_bit}
pub use Rattle.gh_base.specs.declared.cell.Ask.TheVariants.{Store}
pub use Rattle.gh_base.specs.declared.cell.Cell.{Cell}
pub use Rattle.gh_coord.specs.Listing.{lapsed_at}
pub use Rattle.gh_heap.specs.Objects.{size_for}
pub use Rattle.gh_law.proofs.Named.Listing.{are_apart, each_once, is_listed, listed, lists, many_are, no_more, Once, sum_is}
pub use Rattle.gh_law.proofs.Named.Slots.{AreNamed, Classes, in_arena, InArena, is_made, is_placed, name_at, same_or_not}
pub use Rattle.gh_law.specs.Actors.{Awaits}
pub use Rattle.gh_law.specs.Names.{IsAmong}
pub use Rattle.gh_lines.specs.Text.{Outcome}
pub use Rattle.gh_lists.specs.Changes.{begins, Change, ends, EveryListHasItsNumbers, EveryStepChangesNumbers, NoNumberFalls, Rises, same, Spares, tells}
pub use Rattle.gh_lists.specs.Counts.{stored_after, stored_in}
pub use Rattle.gh_lists.specs.Frames.{numbers_of}
pub use Rattle.gh_lists.specs.Handshake.{actor_takes, KeepsIt}
pub use Rattle.gh_lists.specs.LemmaVocabulary.{ProcessorWritesItsOwn}
pub use Rattle.gh_lists.specs.Numbers.{IsFew}
pub use Rattle.gh_lists.specs.Order.{acted_at, acted_in, Answered, begun_in, in_range, order_at, order_of}
pub use Rattle.gh_lists.specs.Parts.{At, own_counts}
pub use Rattle.gh_lists.specs.Processors.{IsPlacedAt, ListStands}
pub use Rattle.gh_lists.specs.Starts.{legal_start, start_of_start, whole}
pub use Rattle.gh_lists.specs.SumsBelow.{by_words, sum_same, sum_times}
pub use Rattle.gh_lists.specs.declared.handshake.Actor.{Actor}
pub use Rattle.gh_model.specs.Answers.{Answers, ever_after_all}
pub use Rattle.gh_model.specs.Ever.{from_field, from_global, from_register, names, with_end}
pub use Rattle.gh_model.specs.declared.EverValue.{EverValue}
pub use Rattle.gh_mutator.specs.Deeds.{given_at, point_of}
pub use Rattle.gh_mutator.specs.Listing.{gives}
pub use Rattle.gh_script.specs.Program.{statement_as_op}
pub use Rattle.gh_state.specs.Slots.{slot_row, SlotsAreRead}
pub use Rattle.gh_sweep.specs.Bits.{SetBitsAreCounted, sum_below}
pub use Rattle.gh_sweep.specs.Counts.{AreWords, count_below, is_set}
pub use Rattle.gh_worker.specs.Writing.{WorkersWriteTheirOwn}
pub use Rattle.gh_world.proofs.EachOnce.{acted_answers, acted_ops, none_beyond, turns_mine}
pub use Rattle.gh_world.proofs.Explained.Acted.{Acted, acted_all, acts_last, answers_in, begun_aside, ever_answers_by, ever_is, full_there, map-reverse, none_acts, ops_are, ops_by, ops_in, points_are, points_by, reverse_more}
pub use Rattle.gh_world.proofs.Explained.Seats.{acted_its, all_its, AreOf, its_seat, not_another}
pub use Rattle.gh_world.proofs.Explained.Steps.{full_pointed, given_is, is_pointed, IsAnothers, IsItsOwn, its_own, no_processors, statement_pointed, stays_pointed, who_steps}
pub use Rattle.gh_world.proofs.OfScripts.{all_stand, are_few as few_of_lists, few_in_all, shapes_good}
pub use Rattle.gh_world.proofs.OneRun.{before, begins_now, every_order_has_one_run, every_run_is_one, none_is_longer, one_more}
pub use Rattle.gh_world.proofs.Resting.{begun_is, is_processor}
pub use Rattle.gh_world.proofs.StepFacts.{begin_facts, BeginFacts, begins_busy, step_facts, StepFacts}
pub use Rattle.gh_world.proofs.Turning.{count-le, follows_run, has_one, later_after, later_here, later_none, none_from, opens_at, over_here, over_next, passed, total_by-le, turn_stands, turns_from, turns_say}
pub use Rattle.gh_world.proofs.Vocabulary.{Begins, begins_at, bit, cell_of, ended_in, gives_at, has_left, has_left_at, is_leaving, leaves, started, statements_among, takes, Task, total_of, turns_of}
pub use Rattle.gh_world.specs.Cycles.{by_field, by_global, bytes_of}
pub use Rattle.gh_world.specs.RunVocabulary.{ActedBehind, actor_after, after_tell, alloc_words, AllStands, AllWereCounted, answered, AreLive, arena_of, Ask, at_stage, before_step, count_of, cycles_in, Done, EachGcWaits, EachOperationActsOnce, effect, ended_by, EndsCycle, ever_after_list, ever_of, EveryListKeepsIt, EveryListOfAScriptStands, EveryRunIsExplained, FoundNoRoom, FoundSwept, FullMeansNoRoom, FullOnlyThere, generation_after, goes_at, has_ended, IsExplained, IsFullFor, IsHeldByGlobals, IsMade, IsMarkedObject, IsStartOf, LaysOut, LeavesTheReached, mark_words, marked_by, marked_objects, OnlyPointsChange, opened_in, outcome_by, Outside, pacing_of, Part, part_of, setting_of, swept_cycle, SweptCycle, Tell, unmarked_objects, WasCounted, wishes_of, words_in}
pub use Rattle.gh_world.specs.Runs.{acted_by, answers_at, answers_given, AreItsStatements, CreditIsTold, CyclesHaveRoom, GoesOnBy, has_ended_in, IsRun, IsRunSoFar, spent_after}
pub use Rattle.gh_world.specs.Schedule.{ended_after as ended_at}
pub use Rattle.gh_world.specs.Turns.{answers_to, Follows, has_turn, HasTurn, is_of_seat, is_poll_due, is_run_due, is_statement_of, IsPast, its_goroutine, later, leave_is_begun, MayBeOver, op_due, Stands, to_come}
pub use Rattle.gh_world.specs.Vocabulary.{acks_of, Act, acted, acts, AllAnswer, Answer, answer_at, answer_of, answered_by, AnsweredDeed, answers_by, by, Coordinating, CoordStage, Cycle, deeds, Entry, Ever, ever_after, given_by, has_point, is_busy_at, is_serving, is_statement, Layout, Legal, meaning, Name, Op, opening_ever, Processor, processor_kind, Program, Reach, Shape, state_of, statements_of, WellFormed, Words, words_after}
pub use Rattle.gh_world.specs.Wishes.{most_cycles}
pub use Rattle.gh_world.specs.World.{answer_in, given_for, MadeAtMost, now_in, Polled, setup_of, with_goroutine}
pub use Rattle.gh_world.specs.declared.turns.Next.{Next}
