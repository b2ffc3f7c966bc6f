-- What the routine that sets pointer bits knows of its own numbers, whatever it is told.
use Rattle.std.specs.Prelude.{ℕ, ◌+◌, ◌*◌, ◌/◌, ◌<◌, ◌≤◌}
use Rattle.gh_bitmap.specs.Vocabulary.{Clear, Ended, Layout, Set, SetStage, Shape}

-- a routine that sets pointer bits: of which shape, for the slot at which heap word and of how many words, and its stage
pub record PointerSetting : Type 0 where
  pub shape : Shape
  pub at : ℕ
  pub slot : ℕ
  pub stage : SetStage

-- word i of the bitmap has bits of a slot of one word at least
pub record Touches (at slot i : ℕ) : Type 0 where
  pub begins : at / 64 ≤ i
  pub ends : 64 * i < at + slot

abbrev pub IsStage : (at slot : ℕ) → SetStage → Type 0
IsStage at slot (Clear i) = Touches at slot i
IsStage at slot (Set i) = Touches at slot i
IsStage at slot Ended = Unit {0}

-- the slot has a word and lies in the arena, and the word that the routine is at has bits of it
pub record Sound (l : Layout) (s : PointerSetting) : Type 0 where
  pub some : 1 ≤ s.slot
  pub within : s.at + s.slot ≤ 1024 * l.pages
  pub stage : IsStage s.at s.slot s.stage
