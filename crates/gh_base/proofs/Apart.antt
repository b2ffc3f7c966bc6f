-- A word of a layout is of one cell.
use Rattle.std.proofs.Common.{◌≡◌, ◌<◌, true, false, arith}
use Rattle.gh_base.proofs.Vocabulary.{Cell, InRange, Layout, length_of, same_cell, word_of}

-- each word number of the layout is below its length
pub word_below : (l : Layout) (c : Cell) → InRange l c → word_of l c < length_of l
word_below l c h = grind arith

-- one word, one cell
pub word_of-injective : (l : Layout) (c d : Cell) → InRange l c → InRange l d → word_of l c ≡ word_of l d → c ≡ d
word_of-injective l c d hc hd e = grind arith

-- what `same_cell` tells
pub same_cell_tells : (c d : Cell) → same_cell c d ≡ true → c ≡ d
same_cell_tells c d e = grind arith

-- the words of different cells are different
pub words_apart : (l : Layout) (c d : Cell) → InRange l c → InRange l d → same_cell c d ≡ false → word_of l c ≡ word_of l d → ⊥
words_apart l c d hc hd differ e = grind arith
