-- The names of what is said of whole runs of a script, which the files of their proofs share.
pub use Rattle.gh_base.specs.Rows.{alloc_words, mark_words, page_words}
pub use Rattle.gh_base.specs.Steps.{effect}
pub use Rattle.gh_base.specs.declared.cell.Ask.{Ask}
pub use Rattle.gh_base.specs.declared.cell.Cell.{Cell}
pub use Rattle.gh_base.specs.declared.pack.TheConstants.{GONE}
pub use Rattle.gh_model.specs.Ever.{answer_of_value, fits, from_field, from_global, has_field, is_number, is_pointer_field, load_answer, store_answer}
pub use Rattle.gh_heap.specs.Objects.{IsMade}
pub use Rattle.gh_sweep.specs.Bits.{SetBitsAreCounted}
pub use Rattle.gh_sweep.specs.Counts.{AreWords, is_set, marked_objects, unmarked_objects}
pub use Rattle.gh_state.specs.Slots.{slot_row, SlotsAreRead}
pub use Rattle.gh_mutator.specs.Acting.{EachOperationActsOnce}
pub use Rattle.gh_mutator.specs.Deeds.{given_at, OnlyPointsChange}
pub use Rattle.gh_mutator.specs.Listing.{after_poll}
pub use Rattle.gh_poll.specs.Poll.{Polling}
pub use Rattle.gh_lists.specs.LemmaVocabulary.{ProcessorWritesItsOwn}
pub use Rattle.gh_worker.specs.Writing.{WorkersWriteTheirOwn}
pub use Rattle.gh_coord.specs.Keeping.{last_kept}
pub use Rattle.gh_coord.specs.Listing.{after_check, after_close, after_count, after_open, after_stop, after_stop_again, after_sweep, after_tell, after_watch, at_stage, goes_at}
pub use Rattle.gh_coord.specs.declared.coord.CoordStage.TheVariants.{Check, Close, Count, Done, LoadAck, LoadWant, MarkOn, Open, Stop, StopAgain, Sweep, Tell, Watch}
pub use Rattle.gh_coord.specs.declared.tell.TellStage.{TellStage}
pub use Rattle.gh_coord.specs.declared.watch.Watched.{Watched}
pub use Rattle.gh_coord.specs.declared.watch.Watched.TheVariants.{All, NotYet}
pub use Rattle.gh_script.specs.Program.{statement_as_op}
pub use Rattle.gh_lines.specs.Text.{SweptCycle}
pub use Rattle.gh_lists.specs.Handshake.{EveryListKeepsIt}
pub use Rattle.gh_lists.specs.Lists.{EndsCycle, IsEnding}
pub use Rattle.gh_lists.specs.Marking.{IsStartOf}
pub use Rattle.gh_coord.specs.Parts.{Outside, Part, part_of}
pub use Rattle.gh_lists.specs.Numbers.{generation_after, opened_in}
pub use Rattle.gh_lists.specs.Order.{answered, before_step, ever_of, order_of}
pub use Rattle.gh_lists.specs.Processors.{arena_of, ever_after_list, FullOnlyThere, IsFullFor, IsPlacedAt}
pub use Rattle.gh_lists.specs.Wants.{AreFew, CyclesAreFew, ProcessorsBeginFew}
pub use Rattle.gh_law.specs.Below.{AllWereCounted, IsMarkedObject, LeavesTheReached, WasCounted}
pub use Rattle.gh_law.specs.Actors.{AllStands}
pub use Rattle.gh_law.specs.Names.{IsAmong}
pub use Rattle.gh_world.specs.Cycles.{AreLive, by_field, by_global, cycles_in, ended_by, IsHeldByGlobals}
pub use Rattle.gh_world.specs.Runs.{ActedBehind, answers_given, EachGcWaits, EveryListOfAScriptStands, EveryRunIsExplained, FoundNoRoom, FoundSwept, FullMeansNoRoom, IsExplained, IsRun, marked_by, outcome_by, swept_cycle, words_in}
pub use Rattle.gh_world.specs.Schedule.{has_ended}
pub use Rattle.gh_world.specs.Turns.{count_of, is_statement_of, total_of}
pub use Rattle.gh_world.specs.Wishes.{wishes_of}
pub use Rattle.gh_world.specs.World.{actor_after, LaysOut, may_begin_of, pacing_of, setting_of}
