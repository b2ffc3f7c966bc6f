-- The bits of the bitmap: which are a slot's, and which a type's pointer fields are.
use Rattle.std.specs.Prelude.{ℕ, ◌+◌, ◌-◌, ◌*◌, ◌/◌, ◌%◌, ◌^◌, nat_lt, if◌then◌else◌, max, min}
use Rattle.gh_bitmap.specs.Vocabulary.{bits_at, Shape}
-- a row of words, and the bit of a heap word in it
pub use Rattle.gh_base.specs.Rows.{Row, pointer_bit, row_bit}

-- the bits from low to high - 1
abbrev pub bits_between : ℕ → ℕ → ℕ
bits_between low high = 2 ^ high - 2 ^ low

-- in word i those of the heap words from `at` on, `slot` of them
abbrev pub slot_bits : (at slot i : ℕ) → ℕ
slot_bits at slot i = bits_between (max at (64 * i) - 64 * i) (min (at + slot) (64 * i + 64) - 64 * i)

-- in word i those of the shape's pointer fields, for an object at heap word `at`: its bits are moved up to where it begins in a word
abbrev pub pointer_bits : Shape → (at i : ℕ) → ℕ
pointer_bits shape at i =
    bits_at shape (i - at / 64) * 2 ^ (at % 64) % 2 ^ 64 + (if nat_lt (at / 64) i then bits_at shape (i - at / 64 - 1) / 2 ^ (64 - at % 64) else 0)
