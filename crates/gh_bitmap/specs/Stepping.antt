-- What single steps do to the bits.
use Rattle.std.specs.Prelude.{◌≡◌, ℕ, ◌+◌, ◌-◌, ◌*◌, ◌/◌, ◌^◌, ◌<◌, ◌≤◌, false}
use Rattle.gh_bitmap.specs.Vocabulary.{bit, bits_at, Clear, effect, is_pointer, Layout, pointer_bit, Set, Shape, Words}
use Rattle.gh_bitmap.specs.Bits.{pointer_bits}
use Rattle.gh_bitmap.specs.SetPointers.{PointerSetting, asks_at}
use Rattle.gh_bitmap.specs.Sound.{Touches}

-- the shape's words fit the slot, and none behind them is a pointer field
pub record FitsSlot (shape : Shape) (slot : ℕ) : Type 0 where
  pub narrow : (i : ℕ) → bits_at shape i < 2 ^ 64
  pub within : shape.words ≤ slot
  pub none : (k : ℕ) → shape.words ≤ k → is_pointer shape k ≡ false

module _ (s : PointerSetting) (i : ℕ) where
  -- heap word x is one of the slot's, and word i has its bit
  pub record IsHere (x : ℕ) : Type 0 where
    pub word : x / 64 ≡ i
    pub from : s.at ≤ x
    pub below : x < s.at + s.slot

  -- where word i has no bit of a pointer field, none of them is one
  abbrev pub HasNone : Type 0
  HasNone = pointer_bits s.shape s.at i ≡ 0 → (x : ℕ) → IsHere x → is_pointer s.shape (x - s.at) ≡ false

module _ (l : Layout) (s : PointerSetting) (i : ℕ) where
  -- the first step on word i clears the slot's bits in it, and leaves every other bit
  pub record ClearsBits (words : Words) : Type 0 where
    pub slot : (x : ℕ) → IsHere s i x → pointer_bit (effect words (asks_at l s (Clear i))) x ≡ 0
    pub others : (x : ℕ) → ¬ IsHere s i x → pointer_bit (effect words (asks_at l s (Clear i))) x ≡ pointer_bit words x

  -- the second one makes them those of the pointer fields, and leaves every other bit
  pub record SetsBits (words : Words) : Type 0 where
    pub slot : (x : ℕ) → IsHere s i x → pointer_bit words x ≡ 0 → pointer_bit (effect words (asks_at l s (Set i))) x ≡ bit (is_pointer s.shape (x - s.at))
    pub others : (x : ℕ) → ¬ IsHere s i x → pointer_bit (effect words (asks_at l s (Set i))) x ≡ pointer_bit words x

  pub record StepsOn (words : Words) : Type 0 where
    pub clears : ClearsBits words
    pub sets : SetsBits words
    pub none : HasNone s i

-- for a slot in the arena, and each word that has bits of it
abbrev pub EachStepIsOnItsBits : Type 0
EachStepIsOnItsBits = (l : Layout) (s : PointerSetting) (i : ℕ) (words : Words) → s.at + s.slot ≤ 1024 * l.pages → FitsSlot s.shape s.slot → Touches s.at s.slot i → StepsOn l s i words
