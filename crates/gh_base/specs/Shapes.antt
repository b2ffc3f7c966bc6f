-- The shapes of types.
use Rattle.std.specs.Prelude.{◌≡◌, ℕ, ◌/◌, ◌%◌, ◌<◌, ◌≤◌, ◌↔◌, Bool, true, false, List, [], ◌==◌, length, slice_index, slice_index_or}
use Rattle.gh_base.specs.Vocabulary.{bit_at}
use Rattle.gh_base.specs.declared.shape.Shape.{Shape}
use Rattle.gh_class.specs.declared.class.TheConstants.{MOST_TYPE_WORDS}

-- what stands where there is no type
abbrev pub no_shape : Shape
no_shape = record { words = 0; noscan = true; bits = [] }

-- the shape of type t
abbrev pub shape_at : List Shape → ℕ → Shape
shape_at shapes t = slice_index_or shapes t no_shape

-- 64 fields of a shape, a bit each, set where the field is a pointer
abbrev pub bits_at : Shape → ℕ → ℕ
bits_at shape i = slice_index shape.bits i

-- the field is a pointer; words past the type's length are numbers
abbrev pub is_pointer : Shape → ℕ → Bool
is_pointer shape k = bit_at (bits_at shape (k / 64)) (k % 64) == 1

-- a shape that a type may have
pub record FitsShape (shape : Shape) : Type 0 where
  -- it has 1 to MOST_TYPE_WORDS words
  pub some_word : 1 ≤ shape.words
  pub few_words : shape.words ≤ MOST_TYPE_WORDS
  -- no field from its length on is a pointer
  pub none_beyond : (k : ℕ) → shape.words ≤ k → is_pointer shape k ≡ false
  -- it is noscan exactly where no field is a pointer
  pub noscan : (shape.noscan ≡ true) ↔ ((k : ℕ) → is_pointer shape k ≡ false)

-- each of these types has such a shape
abbrev pub ShapesFit : List Shape → Type 0
ShapesFit shapes = (t : ℕ) → t < length shapes → FitsShape (shape_at shapes t)
