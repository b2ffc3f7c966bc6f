-- Rows of words by index, and rows that have a bit for each heap word.
use Rattle.std.specs.Prelude.{◌≡◌, ◌≢◌, ℕ, ◌/◌, ◌%◌, ◌^◌, true, false, ◌==◌, if◌then◌else◌, bit_or, ◌↔◌}
use Rattle.gh_base.specs.Vocabulary.{Alloc, Birth, bit_at, Bitmap, Buffer, Cell, Field, Global, Mark, Page}
use Rattle.gh_base.specs.Cells.{put, same_cell, Words}

-- what a row holds, by index
abbrev pub Row : Type 0
Row = ℕ → ℕ

-- The rows of the words. What is said of one of them alone stays when a step changes another.

abbrev pub page_words : Words → Row
page_words words p = words (Page p)

abbrev pub alloc_words : Words → Row
alloc_words words i = words (Alloc i)

abbrev pub mark_words : Words → Row
mark_words words i = words (Mark i)

abbrev pub bitmap_words : Words → Row
bitmap_words words i = words (Bitmap i)

abbrev pub birth_words : Words → Row
birth_words words a = words (Birth a)

abbrev pub field_words : Words → Row
field_words words x = words (Field x)

abbrev pub global_words : Words → Row
global_words words k = words (Global k)

abbrev pub buffer_words : Words → Row
buffer_words words i = words (Buffer i)

-- the bit of heap word x in a row that has a bit for each heap word, 64 to a word
unfoldable pub row_bit : Row → ℕ → ℕ
row_bit row x = bit_at (row (x / 64)) (x % 64)

-- an object begins at heap word x
abbrev pub alloc_bit : Words → ℕ → ℕ
alloc_bit words x = row_bit (alloc_words words) x

-- the object that begins there is marked
abbrev pub mark_bit : Words → ℕ → ℕ
mark_bit words x = row_bit (mark_words words) x

-- heap word x is a pointer field
abbrev pub pointer_bit : Words → ℕ → ℕ
pointer_bit words x = row_bit (bitmap_words words) x

-- the row once word i is v
abbrev pub with_word : Row → ℕ → ℕ → Row
with_word row i v x = if i == x then v else row x

-- What a write in a row leaves.

pub record RowsAreWritten : Type 0 where
  -- word i is what was written, and each other word is as it was
  pub here : (row : Row) (i v : ℕ) → with_word row i v i ≡ v
  pub elsewhere : (row : Row) (i v x : ℕ) → i ≢ x → with_word row i v x ≡ row x
  -- a heap word's bit is that of the word which has it
  pub bit_here : (row : Row) (i v x : ℕ) → x / 64 ≡ i → row_bit (with_word row i v) x ≡ bit_at v (x % 64)
  pub bit_elsewhere : (row : Row) (i v x : ℕ) → i ≢ x / 64 → row_bit (with_word row i v) x ≡ row_bit row x
  pub bit_of : (row : Row) (i x : ℕ) → x / 64 ≡ i → row_bit row x ≡ bit_at (row i) (x % 64)
  -- one bit is set, and all others stay
  pub sets_one : (row : Row) (a : ℕ) → row_bit (with_word row (a / 64) (bit_or (row (a / 64)) (2 ^ (a % 64)))) a ≡ 1
  pub sets_no_other : (row : Row) (a x : ℕ) → a ≢ x → row_bit (with_word row (a / 64) (bit_or (row (a / 64)) (2 ^ (a % 64)))) x ≡ row_bit row x

-- two cells are told apart, and a write is on one of them
pub record CellsAreTold : Type 0 where
  pub same : (c d : Cell) → (same_cell c d ≡ true) ↔ (c ≡ d)
  pub other : (c d : Cell) → c ≢ d → same_cell c d ≡ false
  pub put_here : (words : Words) (c : Cell) (v : ℕ) → put words c v c ≡ v
  pub put_elsewhere : (words : Words) (c d : Cell) (v : ℕ) → c ≢ d → put words c v d ≡ words d
