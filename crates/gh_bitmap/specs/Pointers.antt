-- What the routines do, run from their beginning to their end with no other actor's step between.
use Rattle.std.specs.Prelude.{◌≡◌, ◌≢◌, ℕ, ◌+◌, ◌*◌, ◌/◌, ◌<◌, ◌≤◌, ◌⊎◌, ◌==◌, Some}
use Rattle.gh_bitmap.specs.Vocabulary.{bit, Bitmap, cell_of, is_pointer, Layout, Load, pointer_bit, Shape, steps_of, Words}
use Rattle.gh_base.specs.declared.cell.Cell.{Cell}
use Rattle.gh_base.specs.Routines.{Leaves}
use Rattle.gh_bitmap.specs.ReadPointer as reading
use Rattle.gh_bitmap.specs.SetPointers as setting
use Rattle.gh_bitmap.specs.Stepping.{FitsSlot}

-- the bits of a slot of so many words at heap word `at` are those of the shape, and nothing else is changed
pub record AreSet (shape : Shape) (at slot : ℕ) (before after : Words) : Type 0 where
  -- a word of the slot has bit 1 exactly where the type says that it is a pointer field
  pub slot_bits : (i : ℕ) → i < slot → pointer_bit after (at + i) ≡ bit (is_pointer shape i)
  -- each other heap word's bit is as before
  pub other_bits : (x : ℕ) → (x < at) ⊎ (at + slot ≤ x) → pointer_bit after x ≡ pointer_bit before x
  -- and so is each cell that has no bit of the slot
  pub other_cells : (cell : Cell) → ((i : ℕ) → i < slot → cell ≢ Bitmap ((at + i) / 64)) → after cell ≡ before cell

abbrev pub PointersAreSet : Type 0
PointersAreSet = (l : Layout) (shape : Shape) (at slot : ℕ) (words : Words) → 1 ≤ slot → at + slot ≤ 1024 * l.pages → FitsSlot shape slot →
    Leaves (steps_of l (setting.listing l)) (record { routine = setting.opening shape at slot; words = words }) (AreSet shape at slot words)

-- the routine that reads loads the word that has the bit, and ends with that bit
pub record ReadsBit (l : Layout) (at : ℕ) (words : Words) : Type 0 where
  pub loads : reading.asks l (reading.opening at) ≡ Load (Bitmap (at / 64))
  pub gives : reading.given (reading.goes (reading.opening at) (words (cell_of (reading.asks l (reading.opening at))))) ≡ Some (pointer_bit words at == 1)

abbrev pub BitsAreRead : Type 0
BitsAreRead = (l : Layout) (at : ℕ) (words : Words) → at < 1024 * l.pages → ReadsBit l at words
