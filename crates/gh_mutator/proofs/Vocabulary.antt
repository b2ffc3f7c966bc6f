-- The names that several files of proofs/ share.
pub use Rattle.std.proofs.Math.ListN.{set}
pub use Rattle.std.proofs.lemmas.Bool.Decides.{nat_tests}
pub use Rattle.gh_alloc.specs.FindSound.{IsCached, IsSought}
pub use Rattle.gh_alloc.specs.PlaceSound.{FitsSpanHead}
pub use Rattle.gh_alloc.specs.Within.{LiesWithin, words_sought}
pub use Rattle.gh_barrier.specs.Ending.{write_left, WritingEnds}
pub use Rattle.gh_base.specs.Holding.{IsHeld}
pub use Rattle.gh_base.specs.Machines.{IsRoutine, Runs}
pub use Rattle.gh_base.specs.Packing.{page_of, slot_in}
pub use Rattle.gh_base.specs.Reading.{read_after_set, read_replicate, set_twice}
pub use Rattle.gh_class.specs.Classes.{IsClassOf, large_pages, pages_of}
pub use Rattle.gh_mutator.specs.Deeds.{acted, deeds, meaning, OnlyPointsChange, point_of, pointed, processor_kind, ProcessorsDeedsFit}
pub use Rattle.gh_mutator.specs.Fields.{has_field, is_pointer_by, value_of}
pub use Rattle.gh_mutator.specs.Global.{begins_store, held_behind, op_in, step}
pub use Rattle.gh_mutator.specs.Listing.{Act, acting, acts, acts_at, after_gc, after_leave, after_poll, applied, asks_at, begins, begins_at, follows, is_busy_at, is_made_further, op_at, takes, takes_at}
pub use Rattle.gh_mutator.specs.MarkVocabulary.{MarkingIsQuiet, ProcessorIsQuiet}
pub use Rattle.gh_mutator.specs.Mutating.{goes, is_busy, Mutating}
pub use Rattle.gh_mutator.specs.New.{after_assist, after_found, after_place, after_search, after_wait, assisting, assists, is_made, made_object, made_task, made_then, makes, next_of, op_of as new_op, own_span, placing, refuses_behind_wait, searches, seeking, unacted, waits, wanted_of, wants}
pub use Rattle.gh_mutator.specs.Processing.{Processor}
pub use Rattle.gh_mutator.specs.Processor.{at_poll, at_task, cache_span, keeping, made_by, opening_processor, register_of, set_register, taking}
pub use Rattle.gh_mutator.specs.ProcessorPlaces.{HoldsNothing, LeavesOn, party_at, party_of, ProcessorInHandshake, SoundAt, SoundPlace, stage_at}
pub use Rattle.gh_mutator.specs.Register.{read_of, value_of_source}
pub use Rattle.gh_mutator.specs.Serving.{has_left_at, is_making, is_point}
pub use Rattle.gh_mutator.specs.Sound.{GlobalRoom, has_room, IsFieldNumber, most_objects, Sound, SoundGlobal, SoundLoad, SoundLoadStage, SoundMutating, SoundRegister, SoundSearch, SoundStore, SoundStoreStage, SoundTask, SoundWanted, StoreRoom}
pub use Rattle.gh_mutator.specs.Stays.{search_wants}
pub use Rattle.gh_mutator.specs.Step.{answered, ends, goes_on}
pub use Rattle.gh_mutator.specs.Tasks.{as_global, direct, global_of, stage_of, task_kept, then_global}
pub use Rattle.gh_mutator.specs.Vocabulary.{Acts, Answer, Assist, Assisting, Awake, cache_with, CachedSpan, Cause, class_number, Ends, Fault, Found, Global, GlobalStage, GoesOn, has_two, Held, held_then, Idle, is_mark, IsNear, IsQuietInHandshake, IsRegister, Large, Layout, Leaving, Load, LoadStage, Local, marking_at, Name, NewStage, Op, Place, PlaceBegins, PlaceStage, Placing, PointerWrite, Polling, PollStage, resumed, Search, Seeking, Shape, shape_at, ShapesFit, slot_of, slot_words, slots_of, Small, Sought, span_index, StageGoes, Step, Store, StoreStage, Task, Then, Value, Wait, Waiting, Want, Wanted, with_cached, with_ended, with_held, with_register_value, written}
pub use Rattle.gh_mutator.specs.declared.new.New.{New}
pub use Rattle.gh_mutator.specs.declared.task.TaskAt.{TaskAt}
pub use Rattle.gh_phase.specs.declared.resume.Resumed.{Resumed}
pub use Rattle.gh_phase.specs.declared.view.RunPhase.{RunPhase}
pub use Rattle.gh_poll.proofs.Caching.{register_fits}
pub use Rattle.gh_poll.proofs.Waits.{wait_fits}
pub use Rattle.gh_poll.specs.Collecting.{phase_of}
pub use Rattle.gh_poll.specs.Local.{cached_in, register_in_stacks, stacks_with}
pub use Rattle.gh_poll.specs.Poll.{after_mark, after_resume, after_room, by_phase, counted, given, giving, goes_at, marks_then, scanned, stops_then}
pub use Rattle.gh_poll.specs.PollSound.{SoundPolling}
pub use Rattle.gh_poll.specs.Stays.{leaves_on, other_cycle_owes, poll_stacks, wait_stacks}
pub use Rattle.gh_poll.specs.WaitSound.{SoundWaiting}
pub use Rattle.gh_poll.specs.declared.wait.Wait.{Wait as WaitState}
