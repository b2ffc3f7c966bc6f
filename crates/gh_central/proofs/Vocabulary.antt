-- The names that several files of proofs/ share.
pub use Rattle.std.proofs.Math.Nat.{mod-eq_of_lt, mod-lt, mul-add-mod_self_right, mul-mod_left}
pub use Rattle.std.proofs.lemmas.Bool.{cases_lt, eqb-false}
pub use Rattle.std.proofs.lemmas.Bool.Decides.{eqb_tells, nat_tests}
pub use Rattle.std.proofs.lemmas.Nat.Bits.{bit_at-lt, bit_at-trailing_zeros, bit_at-zero, bit_at_and, bit_at_cat_high, bit_at_not}
pub use Rattle.std.specs.Int.{bit_at, bit_not, trailing_zeros, w64}
pub use Rattle.gh_base.specs.Cells.{put}
pub use Rattle.gh_base.specs.Machines.{IsRoutine}
pub use Rattle.gh_base.specs.Packing.{FitsPage, PackedWordsAreReadBack}
pub use Rattle.gh_base.specs.Rows.{CellsAreTold}
pub use Rattle.gh_central.specs.Owning.{ChangesTheOwner, FreesPage, WritesHead}
pub use Rattle.gh_central.specs.PassFacts.{FactsAt, HasPassed, IsSure, IsUnowned, LooksAt, LooksInto, Opens, OwnStep, Passes, PassesByItsRights, SlotsTakenBelow, sought, SpanIsTaken}
pub use Rattle.gh_central.specs.Reclaim.{after_sweep, after_wait, body_page, free_from, Reclaiming, sweep_at, unswept}
pub use Rattle.gh_central.specs.ReclaimFacts.{ClearBelow, Comes, Facts, freed_to, freeing_at, FreesFrom, IsIdleSpan, IsReadyToFree, Reclaims, ReclaimsByItsRights, SweepsIt, SweepStep, WaitsFor}
pub use Rattle.gh_central.specs.Slots.{IsClear, LacksSlot, slot_is_clear, TheTestSaysIt}
unfoldable pub use Rattle.gh_central.specs.Slots.{lacks_slot, slot_starts}
pub use Rattle.gh_central.specs.Sweeping.{SweepLeaves}
pub use Rattle.gh_central.specs.SweptPass.{after_bits, after_page, alloc_word, asks, asks_at, at_stage, found_at, given, given_at, goes, goes_at, is_wanted, IsStage, lacks_at, listing, look_from, opening, owned_by, pages_gone, Pass, take_from}
pub use Rattle.gh_central.specs.UnsweptPass.{is_unswept, Unswept}
pub use Rattle.gh_central.specs.Vocabulary.{Alloc, Arena, Ask, BeingFreed, Body, Cell, cell_of, effect, FitsHead, Free, freed_yet, Freeing, Good, Head, head_word, InRange, is_busy, IsEmpty, IsFull, IsSpan, KeepsObjects, Laying, Layout, Leaves, Load, Lost, numbered_by, once_swept, Others, Page, page_of, PageWord, PassStage, ReclaimStage, Right, Rights, Row, Shared, slot_words_of, slots_of, Small, SpanHead, Steps, steps_of, Store, Sweep, SweepEnd, Sweeping, Swept, TidyBefore, UnsweptStage, update, View, view, Wait, Words}
unfoldable pub use Rattle.gh_central.specs.Vocabulary.{row_bit}
pub use Rattle.gh_central.specs.declared.pass.PassStage.TheVariants.{Bits, Ended, Look, Take}
pub use Rattle.gh_class.specs.Classes.{slot_of}
pub use Rattle.gh_heap.specs.Laws.{EachFactLasts, EachFreeingFollows, EachMoveKeeps, EachOwnMoveLeaves, EachRightFollows, FactsLast, TheHeapIsApart, WalksGoOn}
pub use Rattle.gh_heap.specs.Moves.{Disown, FreeBody, FreeHead, May, MayFree, MayPass, moved, Own, Publish, Quiet}
pub use Rattle.gh_heap.specs.Spans.{is_own_class, IsInUse, number_of_class, owner_at, owner_in, slot_count, slot_size}
pub use Rattle.gh_sweep.specs.Listing.{gives}
