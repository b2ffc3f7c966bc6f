-- A step that changes no word of which anything is said.
use Rattle.std.proofs.Common.{◌≡◌, ℕ, arith}
use Rattle.gh_sweep.proofs.Vocabulary.{Ask, Cell, ChangesNothing, effect, IsBesideSweeps, put, Shared, view, Words}

abbrev pub with_words : Shared → Words → Shared
with_words s w = record s { words = w }

put_beside : (s : Shared) (c : Cell) (v : ℕ) → IsBesideSweeps c → view (with_words s (put s.words c v)) ≡ view s
put_beside s c v q = grind arith

pub quiet_view : (s : Shared) (step : Ask) → ChangesNothing step → view (with_words s (effect s.words step)) ≡ view s
quiet_view s step q = grind (arith, put_beside)
