-- The writing of a pointer behind the write barrier: what is asked for at each stage, where that leads, and what it has given.
use Rattle.std.specs.Prelude.{ℕ, ◌+◌, ◌-◌, ◌*◌, ◌%◌, Bool, true, ◌==◌, if◌then◌else◌, Option, Some, None, is_none}
use Rattle.gh_barrier.specs.Vocabulary.{Cell, Ended, Held, Layout, Listing, LoadOld, PointerCell, ShadeNew, ShadeOld, Store, WritePointer, WriteStage}
use Rattle.gh_base.specs.declared.cell.Ask.{Ask}
use Rattle.gh_base.specs.Footprints.{Footprint}
use Rattle.gh_base.specs.Footprints as row
pub use Rattle.gh_barrier.specs.Sound.{cell_at}
use Rattle.gh_barrier.specs.Sound.{SoundWriting}
use Rattle.gh_shade.specs.declared.shade.Shaded.{Shaded}
use Rattle.gh_shade.specs.Listing as shade

-- the word of a pointer: 0 is nil
abbrev pub pointer_word : (pointer : Option ℕ) → ℕ
pointer_word None = 0
pointer_word (Some reference) = reference

-- a found word as a pointer: a reference is taken modulo the heap's words
abbrev pub read_as : Layout → (found : ℕ) → Option ℕ
read_as l found = if found == 0 then None else Some ((found - 1) % (1024 * l.pages) + 1)

-- the writing of a pointer: the cell, what it is to hold, the buffer that is held between shadings, and its stage
abbrev pub Writing : Type 0
Writing = WritePointer

abbrev pub opening : PointerCell → (pointer : Option ℕ) → Option Held → Writing
opening at pointer held = record { at = at; pointer = pointer; held = held; stage = LoadOld }

abbrev pub at_stage : Writing → WriteStage → Writing
at_stage w stage = record w { stage = stage }

-- what is held at each stage
abbrev pub held_at : Option Held → WriteStage → Option Held
held_at held (ShadeOld sh) = sh.held
held_at held (ShadeNew sh) = sh.held
held_at held _ = held

module _ (w : Writing) where
  abbrev pub asks_at : WriteStage → Ask
  asks_at LoadOld = Ask.Load (cell_at w.at)
  asks_at (ShadeOld sh) = shade.asks sh
  asks_at (ShadeNew sh) = shade.asks sh
  asks_at Store = Ask.Store (cell_at w.at) (pointer_word w.pointer)
  asks_at Ended = Ask.Load Cell.Touch

  -- the shading of what is named; nil needs none
  abbrev pub shades_new : (pointer : Option ℕ) → Writing
  shades_new None = at_stage w Store
  shades_new (Some reference) = at_stage w (ShadeNew (shade.opening reference w.held))

-- it is done with the old value
abbrev pub behind_old : Writing → Writing
behind_old w = shades_new w w.pointer

abbrev pub shades_old : Writing → (old : Option ℕ) → Writing
shades_old w None = behind_old w
shades_old w (Some reference) = at_stage w (ShadeOld (shade.opening reference w.held))

-- the cell held this
abbrev pub with_old : Layout → Writing → (found : ℕ) → Writing
with_old l w found = shades_old w (read_as l found)

-- After a step of shading, by whether that ended. There is room for both objects, so neither waits for it.
abbrev pub after_old : Writing → shade.Shading → Option Shaded → Writing
after_old w sh None = at_stage w (ShadeOld sh)
after_old w sh (Some out) = behind_old (record w { held = sh.held })

abbrev pub after_new : Writing → shade.Shading → Option Shaded → Writing
after_new w sh None = at_stage w (ShadeNew sh)
after_new w sh (Some out) = record w { held = sh.held; stage = Store }

abbrev pub goes_at : Layout → Writing → WriteStage → ℕ → Writing
goes_at l w LoadOld found = with_old l w found
goes_at l w (ShadeOld sh) found = after_old w (shade.goes sh found) (shade.gives sh found)
goes_at l w (ShadeNew sh) found = after_new w (shade.goes sh found) (shade.gives sh found)
goes_at l w Store found = at_stage w Ended
goes_at l w Ended found = at_stage w Ended

-- it has ended behind the store
abbrev pub given_at : WriteStage → Option (Unit {0})
given_at Ended = Some tt
given_at _ = None

abbrev pub is_busy : WriteStage → Bool
is_busy stage = is_none (given_at stage)

abbrev pub asks : Writing → Ask
asks w = asks_at w w.stage

abbrev pub goes : Layout → Writing → ℕ → Writing
goes l w found = goes_at l w w.stage found

abbrev pub given : Writing → Option (Unit {0})
given w = given_at w.stage

abbrev pub gives : Layout → Writing → ℕ → Option (Unit {0})
gives l w found = given (goes l w found)

-- its cell is a field or a global; the other rows are those of shading
abbrev pub writes : Footprint
writes row.Field = true
writes row.Global = true
writes r = shade.writes r

abbrev pub listing : Layout → Listing Writing (Unit {0})
listing l = record { asks = asks; goes = goes l; given = given; sound = SoundWriting l; writes = writes }
