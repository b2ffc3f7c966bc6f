-- While a cycle is marked: a stack whose goroutine has ended stays so, whoever steps.
use Rattle.std.proofs.Common.{◌≡◌, ℕ, arith}
use Rattle.gh_marked.proofs.Vocabulary.{Cell, ChangesOneCell, Cycle, END, goes, Marking, stays, Went}
use Rattle.gh_marks.specs.Moves.{May, Move, moved}

module _ (one : ChangesOneCell) (z : Cycle) (a g : ℕ) where
  by_move : (v : Marking) (m : Move) → May z a v m → v.words (Cell.Scanned g) ≡ END → (moved z a v m).words (Cell.Scanned g) ≡ END
  by_move v m may is = grind arith

  pub ended_stays : (s t : Marking) → Went z a s t → s.words (Cell.Scanned g) ≡ END → t.words (Cell.Scanned g) ≡ END
  ended_stays s t stays is = is
  ended_stays s t (goes v m w may) is = by_move v m may (ended_stays s v w is)
