-- The names that several files of proofs/ share.
pub use Rattle.std.proofs.lemmas.Bool.Decides.{eqb_tells}
pub use Rattle.std.proofs.lemmas.Nat.Bits.{bit_at-lt, bit_at-zero, bit_at_and, same_from_bits_below}
pub use Rattle.std.specs.Int.{bit_at}
pub use Rattle.gh_base.specs.Packing.{body_word, head_word, PackedWordsAreReadBack}
pub use Rattle.gh_base.specs.Rows.{RowsAreWritten}
pub use Rattle.gh_base.specs.Steps.{cell_of, effect}
pub use Rattle.gh_base.specs.declared.cell.Ask.{Ask}
pub use Rattle.gh_base.specs.declared.layout.Layout.{Layout}
pub use Rattle.gh_base.specs.declared.pack.PageWord.{PageWord}
pub use Rattle.gh_class.specs.Classes.{IsSizeClass, slot_of}
pub use Rattle.gh_heap.specs.Moves.{IsAside, IsQuiet}
pub use Rattle.gh_heap.specs.Rights.{Claims, IsKept}
pub use Rattle.gh_heap.specs.Spans.{body_at, Freeing, is_own_class, LaidOut, Laying, number_of_class, owner_at, owner_in, slot_size}
pub use Rattle.gh_model.specs.Ever.{field_count, next_name, same_name}
pub use Rattle.gh_state.specs.Cycles.{AllIsTold, AreSwept, CountsAreExact, CountsAreTold, cycle_ended, CyclesEnd, CyclesOpen, end_of, HeapsOpen, IsAsItEnded, IsOver, opening, opening_end, Opens, TheSweepIsTold}
pub use Rattle.gh_state.specs.Good.{Good, ReachedAreMarked}
pub use Rattle.gh_state.specs.Laws.{EachMoveKeeps, EachMoveLeaves}
pub use Rattle.gh_state.specs.Moves.{Count, CountsStay, Deed, IsOfSweep, May, MayDeed, MaySweep, Move, moved, Others, Sweep}
pub use Rattle.gh_state.specs.Routines.{GoesOn, SeatSweepsNothing, SweepKeeps, SweepRuns, SweepsByTheState, SweepsLeave}
pub use Rattle.gh_state.specs.Shared.{hushed, live_in, marks_in, seen_by_sweep, Shared, sweep_over, tally_in, Told}
pub use Rattle.gh_state.specs.Slots.{bytes_at, bytes_at_head, slot_row, SlotsAreRead}
pub use Rattle.gh_state.specs.Vocabulary.{alloc_at, alloc_words, Arena, asks, Body, Cell, CycleEnd, Done, Due, Far, Free, generation_of, goes, HasEnded, Head, InSpan, is_busy, IsSpan, Leaves, live_at, mark_words, marks_at, Name, numbered_by, opening_words, page_of, page_words, put, Reach, Row, row_bit, seats_of, SpanHead, StandGood, Sweeping, update, Words}
pub use Rattle.gh_sweep.specs.AtEnd.{BitsAreObjects, EndsWell, TheBitsAreObjects}
pub use Rattle.gh_sweep.specs.Joined.{AreWhole, SpansFit}
pub use Rattle.gh_sweep.specs.Listing.{in_sweep}
pub use Rattle.gh_sweep.specs.Moves.{OthersLeave}
pub use Rattle.gh_sweep.specs.Shared.{ApartGood, AreDisjoint, By, HeadsGood, HeapGood, InsideGood, IsNumbered, left_uncut, LeftGood, LiveGood, nothing_due, NumbersGood, owed, placed_in, SaysFar, Shared as Sweeps, SinceGood, SlotsGood, TallyGood, UncutGood, UntouchedGood, View}
