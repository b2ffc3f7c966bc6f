-- The names that several files of proofs/ share.
pub use Rattle.std.proofs.lemmas.Bool.{cases_Bool}
pub use Rattle.std.proofs.lemmas.Bool.Decides.{eqb_tells, nat_tests}
pub use Rattle.std.proofs.lemmas.Nat.Bits.{bit_at-zero}
pub use Rattle.gh_base.specs.Cells.{put, Words}
pub use Rattle.gh_base.specs.Packing.{birth_word, bit, page_noscan, page_of, slot_for, slot_in}
pub use Rattle.gh_base.specs.Rows.{bitmap_words, page_words, Row}
pub use Rattle.gh_base.specs.Shapes.{FitsShape, is_pointer, no_shape, shape_at, ShapesFit}
pub use Rattle.gh_base.specs.Steps.{effect}
pub use Rattle.gh_base.specs.declared.pack.PageWord.{PageWord}
pub use Rattle.gh_base.specs.declared.pack.SpanHead.{SpanHead}
pub use Rattle.gh_base.specs.declared.shape.Shape.{Shape}
pub use Rattle.gh_class.specs.Classes.{IsSizeClass, slot_of, slots_of}
pub use Rattle.gh_class.specs.declared.class.SizeClass.{SizeClass}
pub use Rattle.gh_cycle.specs.Beside.{ClaimedFieldsAreAside, ClaimsSlot, CyclesBeginBeside, FillsNone, IsBeside, IsKnownObject, IsOfCycle, MarkingAloneGoesBeside, MarksAlone, ObjectsAreKnownBeside, SlotsAreReserved, TheMarkedStand, TheReachedAreMarkedBeside}
pub use Rattle.gh_cycle.specs.Deeds.{ComesBy, Deed, DeedsGoBeside, from_nil, from_number, hand_behind, MeetsByDeed, StepsBeside, TakesFrom}
pub use Rattle.gh_cycle.specs.Known.{KnownOfMoves}
pub use Rattle.gh_cycle.specs.Marked.{OpenedRegistersFit, RegistersFit}
pub use Rattle.gh_cycle.specs.Opening.{CyclesOpen, IsCycleOf, IsOpened, OpenedHeapsAreAtRest, reference_of, register_for_marking, WordsAreAtRest}
pub use Rattle.gh_cycle.specs.Reached.{BoundsLast, Decided, IsBounded, IsInRange, IsReachedAt, PlacesAreDecided, ReachIsDecided, TheReachedWereMade}
pub use Rattle.gh_cycle.specs.Vocabulary.{alloc_words, answer_of, Arena, Ask, birth_words, Cell, Claims, Cycle, END, Ever, ever_after, EverValue, Good, HasMark, Heap, IsClean, IsMade, mark_words, Marking, MarkingGood, Name, names, next_name, opening_ever, Opens, Place, Placed, Placing, points, Reach, reference_to, REGISTERS, RowsAreWritten, seen_field, seen_global, seen_word, shape_for, size_for, View, view, with_end, with_field, with_global, with_object, with_register}
unfoldable pub use Rattle.gh_cycle.specs.Vocabulary.{row_bit}
pub use Rattle.gh_heap.specs.Laws.{name_made, TheHeapIsApart}
pub use Rattle.gh_heap.specs.Moves.{GoroutineRuns, IsAside, IsQuiet, IsReached, update, update_at}
pub use Rattle.gh_heap.specs.Objects.{Holds}
pub use Rattle.gh_heap.specs.Spans.{body_at, is_own_class, IsSlotOf, IsSpan, number_of_class, owner_at}
pub use Rattle.gh_marks.specs.Colours.{Black, Buffered, Colour, Extents, IsPointer, IsShaded, IsSince, Pending, Taken, Untouched, White}
pub use Rattle.gh_marks.specs.Ends.{from_field as path_field, from_global as path_global, from_register as path_register, Reached}
pub use Rattle.gh_marks.specs.Seats.{Hands, InHand}
pub use Rattle.gh_model.specs.Ever.{answer_of_value, field_count, first_value, fits, from_field, from_global, from_register, has_field, is_number, is_pointer_field, load_answer, same_name, sets_global, store_answer, stores_value, takes_answer}
