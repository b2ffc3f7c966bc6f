-- What is known of the heap, of packed words, of the size classes and of the routines that the processor runs, by what their laws say.
use Rattle.std.specs.Prelude.{ℕ, ◌<◌, ◌≤◌}
use Rattle.gh_mutator_heap.proofs.Vocabulary.{AllAreSwept, AssistsAreWithin, EachMoveKeepsItsOwn, EachRightFollows, LeavesByRights, PackedWordsAreReadBack, PollsByRights, RowsAreWritten, SeeksByItsRights, slot_of, slot_words, TheHeapIsApart, WaitsByRights, WhatIsWantedFits, WritesByMoves}
use Rattle.gh_assist.specs.Quiet.{AssistsAreQuiet}
use Rattle.gh_barrier.specs.Within.{WritingIsWithin}
use Rattle.gh_alloc.specs.PlaceFacts.{PlacesByItsRights}

pub record Known : Type 0 where
  pub apart : TheHeapIsApart
  pub follow : EachRightFollows
  pub own : EachMoveKeepsItsOwn
  pub swept : AllAreSwept
  pub rows : RowsAreWritten
  pub packed : PackedWordsAreReadBack
  pub least_slot : (c : ℕ) → c < 25 → 8 ≤ slot_of c
  pub holds : (words : ℕ) → words ≤ slot_words words
  pub wants : WhatIsWantedFits
  pub search : SeeksByItsRights
  pub place : PlacesByItsRights
  pub polls : PollsByRights
  pub waits : WaitsByRights
  pub leaves : LeavesByRights
  pub writes : WritesByMoves
  pub within : WritingIsWithin
  pub assists_quiet : AssistsAreQuiet
  pub assists_within : AssistsAreWithin
