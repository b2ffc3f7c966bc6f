-- The names that several files of proofs/ share.
pub use Rattle.std.proofs.lemmas.Bool.{cases_order}
pub use Rattle.std.proofs.lemmas.Bool.Decides.{eqb_tells, nat_tests}
pub use Rattle.gh_alloc.specs.Find.{after_carve, after_give, after_pass, after_slots, after_unswept, asks, at_stage, begin, behind_for, carving, Finding, finds_none_at, first_page, given, given_head, gives, goes, locked_for, move_cursor, refuses_at, searched, span_at, span_for, spans_for, sweep_at, sweep_generation_at, taken_for, unlocked, word_at_cursor}
pub use Rattle.gh_alloc.specs.FindFacts.{cached_head, Caches, carve_at, Comes, Facts, FactsAt, FindsByItsRights, FindsNone, head_for, held, is_locked, IsCached, IsCachedFor, IsUsedUp, Lasts, laying, looks, LooksAgain, NoneIsTrue, NoneLeft, Opens, own, OwnsLarge, OwnStep, pass_at, Seeks, still, SweepsHere, SweepStep, unswept_at, with_span, Within}
pub use Rattle.gh_alloc.specs.FindSound.{IsSearched, IsSought, IsStage, Sound}
pub use Rattle.gh_alloc.specs.Locking.{holds, lock_after}
pub use Rattle.gh_alloc.specs.Place.{counted, filled, made, makes_its_object_at, opening, Placing}
pub use Rattle.gh_alloc.specs.PlaceSound.{FitsSpanHead}
pub use Rattle.gh_alloc.specs.Rounds.{FindsNoneFirst, Follows as FollowsLock, FreesSpans, GivesBack, HasFoundNoneTwice, Passed, Runs, Swept}
pub use Rattle.gh_alloc.specs.Search.{after_first, after_free, again, asks_at, frees_at, given_at, goes_at, listing, reclaiming, refuses, Seeking}
pub use Rattle.gh_alloc.specs.Stays.{Base, base, goes_base, search_base}
pub use Rattle.gh_alloc.specs.Vocabulary.{After, Again, Alloc, Arena, Ask, At, Birth, birth_word, Bits, CachedSpan, Carve, Cell, cell_of, Claims, Clear, Count, effect, End, Ended, EndsWith, FindStage, First, Free, Give, GoesOn, Good, GoroutineRuns, head_word, InRange, IsFull, IsSpan, IsVacant, KeepsObjects, Large, Layout, Leaves, LoadTrigger, Lock, Mark, NoRoom, Or, Others, owned_by, page_of, pages_of, Pass, placed_at, PlaceStage, Reclaiming, Right, SearchStage, Second, Shared, size_class_of, SizeClass, slot_words_of, Slots, slots_of, Small, Sought, SpanClass, SpanHead, Steps, steps_of, Store, Swap, Sweeping, SweepLeaves, TidyBefore, told, Unlock, Unswept, update, View, view}
pub use Rattle.gh_alloc.specs.Within.{LiesWithin, words_sought}
pub use Rattle.gh_base.specs.Cells.{put, Words}
pub use Rattle.gh_base.specs.Machines.{IsBusy, IsRoutine}
pub use Rattle.gh_base.specs.Packing.{bit}
pub use Rattle.gh_base.specs.Routines.{Listing}
pub use Rattle.gh_base.specs.Rows.{Row, row_bit, RowsAreWritten}
pub use Rattle.gh_cache.specs.declared.next_slot.SlotStage.{SlotStage}
pub use Rattle.gh_class.specs.Classes.{slot_of}
pub use Rattle.gh_heap.specs.Laws.{EachFactLasts, EachMoveKeeps, EachMoveKeepsItsOwn, EachRightFollows, TheHeapIsApart, WalksGoOn}
pub use Rattle.gh_heap.specs.Moves.{ClearField, landing, Lands, LeaveLock, Make, May, Move, moved, Quiet, SetBirth, TakeLock}
pub use Rattle.gh_heap.specs.Spans.{FitsClass, is_own_class, number_of_class, owner_at, owner_in, slot_count, slot_size}
pub use Rattle.gh_pages.specs.declared.carve.CarveStage.{CarveStage}
pub use Rattle.gh_sweep.specs.Listing.{is_busy}
