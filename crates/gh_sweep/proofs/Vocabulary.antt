-- The names that several files of proofs/ share.
pub use Rattle.std.proofs.Math.Nat.{add-mul, mod-eq_of_lt, mod-lt, mul-le-mul_right}
pub use Rattle.std.proofs.lemmas.Bool.Decides.{eqb_tells, nat_tests}
pub use Rattle.std.proofs.lemmas.Nat.{and_le_l, ones-le, ones_le_self, or_lt, pow_below}
pub use Rattle.std.proofs.lemmas.Nat.Bits.{bit_at-lt, bit_at-pow_other, bit_at-pow_same, bit_at-suc, bit_at-zero, bit_at_and, bit_at_lowest, bit_at_not, bit_at_or}
pub use Rattle.std.specs.Int.{w64}
pub use Rattle.gh_base.specs.Packing.{PackedWordsAreReadBack}
pub use Rattle.gh_base.specs.Rows.{CellsAreTold, RowsAreWritten}
pub use Rattle.gh_base.specs.Steps.{ChangesOneCell, left}
pub use Rattle.gh_heap.specs.Moves.{update}
pub use Rattle.gh_heap.specs.Spans.{body_at}
pub use Rattle.gh_sweep.specs.AtEnd.{at_end, BitsAreObjects, EndsWell, far_in, in_no_span, reaches, some_below, TheBitsAreObjects}
pub use Rattle.gh_sweep.specs.Bits.{BitsAreKeptOrFreed, freed_in, kept_in, SetBitsAreCounted}
unfoldable pub use Rattle.gh_sweep.specs.Bits.{sum_below}
pub use Rattle.gh_sweep.specs.Counts.{AreTold, AreWords, is_set, marked_objects, unmarked_objects}
pub use Rattle.gh_sweep.specs.Facts.{alloc_here, Facts, FactsAt, HasCleared, HasNotNumber, HasSwept, IsBehind, IsPlaced, IsSweptNow, marks_here, MayBegin, Others, OthersAt, OwnStep, SpansAreApart, SpanStays, SweepKeepsItsFacts}
pub use Rattle.gh_sweep.specs.Listing.{asks, asks_at, at_stage, bit_words, counted, given_at, gives, goes, in_sweep, is_busy, listing, negative, once_swept, opening, slot_bytes, slots_in, Sweeping, swept_span, word_at}
pub use Rattle.gh_sweep.specs.Moves.{ChangesNothing, Clears, Counts, Cuts, DoneStays, EachMoveKeeps, EachMoveLeaves, Ends, Frees, HasHead, HasNoAllocBit, IsBesideSweeps, IsNoHead, Lands, Lays, May, MayLay, MayPlace, moved, OthersLeave, Passes, Places, Quiet, slots_laid, SpanIsLeft, Starts, Sweeps, TellsHeap, TellsLive, TellsTally, Turns, with_word_cut}
pub use Rattle.gh_sweep.specs.Shared.{alloc_at, ApartGood, AreDisjoint, bit_words_of, By, cleared_at, CycleEnd, Done, Due, DueGood, Far, FewGood, freed_at, generation_of, Good, HasEnded, HeadsGood, HeapGood, in_all, InsideGood, InSpan, IsHeadIn, IsNumbered, kept_at, KnownGood, left_uncut, LeftGood, live_at, LiveGood, marks_at, nothing_due, NumbersGood, OrderGood, owed, placed, placed_behind, placed_in, SaysFar, Shared, SinceGood, SlotsGood, StandGood, TallyGood, UnclearedMarksStand, UncutGood, Unswept, UntouchedGood, View, view}
pub use Rattle.gh_sweep.specs.Sound.{FitsSweep, IsStage}
pub use Rattle.gh_sweep.specs.Steps.{after, alloc_told, EndsBy, freed, freed_told, GoesOn, IsBegun, IsInArena, kept, kept_told, marks_told, span_of, steps_on_bits, StepsOnCounts, StepsOnWord, SweepsAsTold, SweepTakesItsSteps}
pub use Rattle.gh_sweep.specs.Sweepers.{all_owed, has_span, HasReached, IsAtRest, IsOwn, move_at, move_of, SweepFacts, SweepsAmongOthers}
pub use Rattle.gh_sweep.specs.Vocabulary.{AddHeap, AddLive, AddTally, alloc_bit, alloc_words, And, Ask, Begin, bit, bit_at, Body, Cell, cell_of, ClearBits, ClearMarks, effect, Ended, EndsWithin, Finish, FitsHead, Free, Head, head_word, IsSpan, LaidOut, Laying, Layout, Leaves, Load, LoadMarks, Lost, mark_bit, mark_words, owned_by, page_of, page_words, pages_of, PageWord, put, Row, row_bit, seats_of, slot_of, slot_words_of, slots_of, SpanHead, steps_of, Store, SweepEnd, SweepStage, Swept, SweptSpan, tally_word, with_word, Words}
