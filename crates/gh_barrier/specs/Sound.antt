-- What the writing of a pointer knows of its own numbers, whatever it is told.
use Rattle.std.specs.Prelude.{ℕ, ◌+◌, ◌≤◌, Option, Some, None}
use Rattle.gh_barrier.specs.Vocabulary.{Cell, Field, Global, Held, InRange, IsHeld, IsReference, Layout, PointerCell, Runs, ShadeNew, ShadeOld, WritePointer, WriteStage}
use Rattle.gh_base.specs.declared.pack.TheConstants.{ENTRIES}
use Rattle.gh_shade.specs.Listing as shade

-- the cell of the pointer
abbrev pub cell_at : PointerCell → Cell
cell_at (Field x) = Cell.Field x
cell_at (Global i) = Cell.Global i

-- nil, or a reference
abbrev pub FitsPointer : Layout → (pointer : Option ℕ) → Type 0
FitsPointer l None = Unit {0}
FitsPointer l (Some reference) = IsReference l reference

-- a buffer is held, and two entries go into it
abbrev pub HasTwo : Option Held → Type 0
HasTwo None = ⊥
HasTwo (Some h) = h.count + 2 ≤ ENTRIES

abbrev pub SoundStage : Layout → WriteStage → Type 0
SoundStage l (ShadeOld sh) = Runs (shade.listing l) sh
SoundStage l (ShadeNew sh) = Runs (shade.listing l) sh
SoundStage l _ = Unit {0}

-- the cell, the object that it is to name and the buffer that is held are of this layout
pub record SoundWriting (l : Layout) (w : WritePointer) : Type 0 where
  pub cell : InRange l (cell_at w.at)
  pub pointer : FitsPointer l w.pointer
  pub held : IsHeld l w.held
  pub stage : SoundStage l w.stage
