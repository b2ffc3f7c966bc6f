-- The pointer bits of a slot are set: what is asked for at each stage, where that leads, what it has given, and that it writes the bitmap.
use Rattle.std.specs.Prelude.{ℕ, ◌+◌, ◌-◌, ◌*◌, ◌/◌, ◌%◌, ◌^◌, true, false, nat_lt, ◌==◌, if◌then◌else◌, Option, Some, None}
use Rattle.gh_bitmap.specs.Vocabulary.{And, Ask, Bitmap, Clear, Ended, Layout, Listing, Load, Or, Set, SetStage, Shape, Touch}
use Rattle.gh_base.specs.Footprints.{Footprint}
use Rattle.gh_base.specs.Footprints as row
use Rattle.gh_bitmap.specs.Bits.{pointer_bits, slot_bits}
pub use Rattle.gh_bitmap.specs.Sound.{PointerSetting}
use Rattle.gh_bitmap.specs.Sound.{Sound}

abbrev pub at_stage : PointerSetting → SetStage → PointerSetting
at_stage s p = record s { stage = p }

-- it begins with the first word that has bits of the slot
abbrev pub opening : Shape → (at slot : ℕ) → PointerSetting
opening shape at slot = record { shape = shape; at = at; slot = slot; stage = Clear (at / 64) }

-- the word of the bitmap
abbrev pub word_at : Layout → ℕ → ℕ
word_at l i = i % (16 * l.pages)

abbrev pub asks_at : Layout → PointerSetting → SetStage → Ask
asks_at l s (Clear i) = And (Bitmap (word_at l i)) (2 ^ 64 - 1 - slot_bits s.at s.slot i)
asks_at l s (Set i) = Or (Bitmap (word_at l i)) (pointer_bits s.shape s.at i)
asks_at l s Ended = Load Touch

module _ (s : PointerSetting) where
  -- the next word that has bits of the slot, if there is one
  abbrev pub next_stage : ℕ → SetStage
  next_stage i = if nat_lt (64 * (i + 1)) (s.at + s.slot) then Clear (i + 1) else Ended

  abbrev pub goes_at : SetStage → SetStage
  goes_at (Clear i) = if pointer_bits s.shape s.at i == 0 then next_stage i else Set i
  goes_at (Set i) = next_stage i
  goes_at Ended = Ended

-- what it has given at a stage
abbrev pub given_at : SetStage → Option (Unit {0})
given_at Ended = Some tt
given_at _ = None

-- the step that it asks for, what it is after the step found this, and what it has given
abbrev pub asks : Layout → PointerSetting → Ask
asks l s = asks_at l s s.stage

abbrev pub goes : PointerSetting → ℕ → PointerSetting
goes s found = at_stage s (goes_at s s.stage)

abbrev pub given : PointerSetting → Option (Unit {0})
given s = given_at s.stage

abbrev pub writes : Footprint
writes row.Bitmap = true
writes _ = false

abbrev pub listing : Layout → Listing PointerSetting (Unit {0})
listing l = record { asks = asks l; goes = goes; given = given; sound = Sound l; writes = writes }
