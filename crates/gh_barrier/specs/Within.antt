-- The writing of a pointer asks for words that there are, whatever it is told, also where it was begun without room. A caller knows this of it as long as it runs, and needs no more of its stages.
use Rattle.std.specs.Prelude.{ℕ, Option}
use Rattle.gh_barrier.specs.Vocabulary.{Held, InRange, IsHeld, Layout, PointerCell}
use Rattle.gh_base.specs.Steps.{cell_of}
use Rattle.gh_barrier.specs.Listing.{asks, cell_at, goes, held_at, opening, Writing}
use Rattle.gh_barrier.specs.Sound.{FitsPointer, SoundWriting}

pub record WritingIsWithin : Type 0 where
  pub begins : (l : Layout) (at : PointerCell) (pointer : Option ℕ) (held : Option Held) → InRange l (cell_at at) → FitsPointer l pointer → IsHeld l held → SoundWriting l (opening at pointer held)
  pub goes_on : (l : Layout) (w : Writing) (found : ℕ) → SoundWriting l w → SoundWriting l (goes l w found)
  -- its step is on a word that there is
  pub within : (l : Layout) (w : Writing) → SoundWriting l w → InRange l (cell_of (asks w))
  -- and what it holds is a buffer of this layout
  pub holds : (l : Layout) (w : Writing) → SoundWriting l w → IsHeld l (held_at w.held w.stage)
