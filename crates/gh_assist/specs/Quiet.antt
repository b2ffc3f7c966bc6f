-- What an assist writes: mark bits, buffers and their entries, and the bank. So no word of the handshake, and none that a right guards.
use Rattle.gh_assist.specs.Vocabulary.{Ask, Cell, Layout}
use Rattle.gh_assist.specs.Listing.{asks, Assisting}
use Rattle.gh_heap.specs.Moves as rights
use Rattle.gh_phase.specs.Handshake as handshake

abbrev pub IsWritten : Cell → Type 0
IsWritten (Cell.Mark i) = Unit {0}
IsWritten (Cell.Buffer i) = Unit {0}
IsWritten (Cell.Entry i j) = Unit {0}
IsWritten _ = ⊥

-- the step loads, or is on one of these words, or is a swap on the bank
abbrev pub WritesSo : Ask → Type 0
WritesSo (Ask.Load c) = Unit {0}
WritesSo (Ask.Store c value) = IsWritten c
WritesSo (Ask.Or c bits) = IsWritten c
WritesSo (Ask.And c bits) = IsWritten c
WritesSo (Ask.Add c more) = IsWritten c
WritesSo (Ask.Swap Cell.Bank old new) = Unit {0}
WritesSo (Ask.Swap c old new) = IsWritten c

pub record AssistsAreQuiet : Type 0 where
  pub writes : (l : Layout) (x : Assisting) → WritesSo (asks l x)
  pub handshake : (l : Layout) (x : Assisting) → handshake.IsQuietInHandshake (asks l x)
  pub rights : (l : Layout) (x : Assisting) → rights.IsQuiet (asks l x)
