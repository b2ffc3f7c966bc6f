-- A step that no right guards leaves what is said of the heap.
use Rattle.std.proofs.Common.{◌≡◌, ℕ, arith}
use Rattle.gh_cycle.proofs.Vocabulary.{Ask, Cell, effect, Heap, IsAside, IsQuiet, put, view, Words}

-- the heap with other words
abbrev pub with_words : Heap → Words → Heap
with_words h words = record h { words = words }

put_aside : (h : Heap) (c : Cell) (v : ℕ) → IsAside c → view (with_words h (put h.words c v)) ≡ view h
put_aside h c v q = grind arith

pub quiet_view : (h : Heap) (step : Ask) → IsQuiet step → view (with_words h (effect h.words step)) ≡ view h
quiet_view h step q = grind (arith, put_aside)
