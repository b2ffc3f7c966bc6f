-- The steps of a worker that does not sweep: they write no word of pages, slots and pointer bits.
use Rattle.std.proofs.Common.{◌≡◌, ℕ, refl, None}
use Rattle.gh_marked.specs.Vocabulary.{Ask, asks, Cell, effect, Layout, sweep_in, Words, WorkersAreRoutines, Working, WritesAlone}
use Rattle.gh_worker.specs.Sound.{marks}

-- no word of pages, slots and pointer bits is written
pub record LeavesHeap (ask : Ask) : Type 0 where
  pub page : (words : Words) (i : ℕ) → effect words ask (Cell.Page i) ≡ words (Cell.Page i)
  pub alloc : (words : Words) (i : ℕ) → effect words ask (Cell.Alloc i) ≡ words (Cell.Alloc i)
  pub bitmap : (words : Words) (i : ℕ) → effect words ask (Cell.Bitmap i) ≡ words (Cell.Bitmap i)

pub works_so : WorkersAreRoutines → (l : Layout) (w : Working) → sweep_in w ≡ None → LeavesHeap (asks l w)
works_so k l w none =
    let alone : WritesAlone marks (asks l w) = k.marks_alone l w none in
    record { page = λ words i. alone.leaves words (Cell.Page i) refl; alloc = λ words i. alone.leaves words (Cell.Alloc i) refl; bitmap = λ words i. alone.leaves words (Cell.Bitmap i) refl }
