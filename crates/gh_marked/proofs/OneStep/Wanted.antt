-- What is asked of packed words, of slots, of searches and of the moves of marking, beside what is known of steps and moves.
use Rattle.gh_marked.proofs.Vocabulary.{EachStepGoesByMoves, PackedWordsAreReadBack, TheCursorIsSmall}
use Rattle.gh_state.specs.Slots.{SlotsAreRead}
use Rattle.gh_marked.proofs.OneStep.Counting.{WholeWords}
use Rattle.gh_marked.proofs.OneStep.FreshPages.{WritesOfSearches}

pub record Wanted : Type 0 where
  -- what is packed is read back
  pub read : PackedWordsAreReadBack
  -- slots are whole words
  pub whole : WholeWords
  -- page words tell the bytes of slots
  pub slots : SlotsAreRead
  -- which pages a search writes
  pub pages : WritesOfSearches
  -- of the moves of marking that make up a step
  pub steps : EachStepGoesByMoves
  -- the word of the cursor of globals does not begin anew
  pub small : TheCursorIsSmall
