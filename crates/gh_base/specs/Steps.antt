-- The atomic step, on cells and on a list of words.
use Rattle.std.specs.Prelude.{◌≡◌, ℕ, ◌+◌, ◌^◌, ◌%◌, ◌==◌, if◌then◌else◌, List, slice_index, slice_set, bit_or, bit_and}
use Rattle.gh_base.specs.Vocabulary.{Ask, Cell}
use Rattle.gh_base.specs.declared.cell.Req.{Req}
use Rattle.gh_base.specs.declared.layout.Layout.{Layout}
use Rattle.gh_base.specs.Cells.{InRange, same_cell, ShowsCells, Words, put, word_of}

-- the cell that a step is on
abbrev pub cell_of : Ask → Cell
cell_of (Ask.Load cell) = cell
cell_of (Ask.Store cell value) = cell
cell_of (Ask.Or cell bits) = cell
cell_of (Ask.And cell bits) = cell
cell_of (Ask.Add cell more) = cell
cell_of (Ask.Swap cell old new) = cell

-- what it leaves where it finds this
abbrev pub left : Ask → ℕ → ℕ
left (Ask.Load cell) found = found
left (Ask.Store cell value) found = value
left (Ask.Or cell bits) found = bit_or found bits
left (Ask.And cell bits) found = bit_and found bits
left (Ask.Add cell more) found = (found + more) % 2 ^ 64
left (Ask.Swap cell old new) found = if found == old then new else found

-- the cells after it
abbrev pub effect : Words → Ask → Words
effect words (Ask.Load cell) = words
effect words (Ask.Store cell value) = put words cell value
effect words (Ask.Or cell bits) = put words cell (bit_or (words cell) bits)
effect words (Ask.And cell bits) = put words cell (bit_and (words cell) bits)
effect words (Ask.Add cell more) = put words cell ((words cell + more) % 2 ^ 64)
effect words (Ask.Swap cell old new) = if words cell == old then put words cell new else words

-- the same step by the number of the cell's word
abbrev pub request : Layout → Ask → Req
request l (Ask.Load cell) = Req.Load (word_of l cell)
request l (Ask.Store cell value) = Req.Store (word_of l cell) value
request l (Ask.Or cell bits) = Req.Or (word_of l cell) bits
request l (Ask.And cell bits) = Req.And (word_of l cell) bits
request l (Ask.Add cell more) = Req.Add (word_of l cell) more
request l (Ask.Swap cell old new) = Req.Swap (word_of l cell) old new

-- the number of the word that a step is on
abbrev pub target : Req → ℕ
target (Req.Load word) = word
target (Req.Store word value) = word
target (Req.Or word bits) = word
target (Req.And word bits) = word
target (Req.Add word more) = word
target (Req.Swap word old new) = word

-- what it leaves where it finds this
abbrev pub request_leaves : Req → ℕ → ℕ
request_leaves (Req.Load word) found = found
request_leaves (Req.Store word value) found = value
request_leaves (Req.Or word bits) found = bit_or found bits
request_leaves (Req.And word bits) found = bit_and found bits
request_leaves (Req.Add word more) found = (found + more) % 2 ^ 64
request_leaves (Req.Swap word old new) found = if found == old then new else found

-- the list of words after it: one word differs
abbrev pub changed : Req → List ℕ → List ℕ
changed r words = slice_set words (target r) (request_leaves r (slice_index words (target r)))

-- the request finds what the step finds, and leaves what it leaves
pub record IsShown (l : Layout) (list : List ℕ) (words : Words) (step : Ask) : Type 0 where
  pub found : slice_index list (target (request l step)) ≡ words (cell_of step)
  pub after : ShowsCells l (changed (request l step) list) (effect words step)

abbrev pub StepsAreShown : Layout → Type 0
StepsAreShown l = (list : List ℕ) (words : Words) (step : Ask) → InRange l (cell_of step) → ShowsCells l list words → IsShown l list words step

-- a step leaves its cell as it says, and every other cell as it is
abbrev pub ChangesOneCell : Type 0
ChangesOneCell = (words : Words) (step : Ask) (at : Cell) →
    effect words step at ≡ (if same_cell (cell_of step) at then left step (words (cell_of step)) else words at)
