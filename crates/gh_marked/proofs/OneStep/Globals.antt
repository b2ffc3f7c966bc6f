-- A step within the heap is on no global beyond those that it has.
use Rattle.std.proofs.Common.{◌≡◌, ℕ, ◌≤◌, false, arith}
use Rattle.gh_marked.proofs.Vocabulary.{Cell, InRange, Layout, same_cell}

pub no_global : (l : Layout) (i : ℕ) → l.globals ≤ i → (c : Cell) → InRange l c → same_cell c (Cell.Global i) ≡ false
no_global l i le c within = grind arith
