-- The bit that is read is the bitmap's.
use Rattle.std.proofs.Common.{◌≡◌, ℕ, ◌*◌, ◌/◌, ◌%◌, ◌<◌, ◌==◌, Some, ap, arith}
use Rattle.gh_bitmap.proofs.Vocabulary.{bit_at, Bitmap, Layout, mod-eq_of_lt, ReadsBit, row_bit, Words}
use Rattle.gh_base.specs.declared.cell.Ask.TheVariants.{Load}

word_is : (l : Layout) (at : ℕ) → at < 1024 * l.pages → at / 64 % (16 * l.pages) ≡ at / 64
word_is l at inside = mod-eq_of_lt (omega arith)

pub reads : (l : Layout) (at : ℕ) (words : Words) → at < 1024 * l.pages → ReadsBit l at words
unfolding row_bit
reads l at words inside = record {
  loads = ap (λ (i : ℕ). Load (Bitmap i)) (word_is l at inside);
  gives = ap (λ (i : ℕ). Some (bit_at (words (Bitmap i)) (at % 64) == 1)) (word_is l at inside);
}
