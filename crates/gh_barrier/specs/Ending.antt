-- How many steps the writing of a pointer has left at the most, at each of its stages: also where it was begun without room.
use Rattle.std.specs.Prelude.{◌≡◌, ℕ, ◌+◌, ◌≤◌, true}
use Rattle.gh_barrier.specs.Vocabulary.{Ended, Layout, LoadOld, ShadeNew, ShadeOld, Store, WriteStage}
use Rattle.gh_barrier.specs.Listing.{goes, is_busy, Writing}
use Rattle.gh_shade.specs.declared.shade.ShadeStage.{ShadeStage}
use Rattle.gh_shade.specs.declared.shade.ShadeStage.TheVariants.{LoadPage, SetMark}

-- A shading loads the page word, sets the mark bit, and makes the entry. One that has ended is left with the next step.
abbrev pub shade_left : ShadeStage → ℕ
shade_left LoadPage = 3
shade_left (SetMark noscan) = 2
shade_left _ = 1

-- the load, two shadings and the store
abbrev pub write_left : WriteStage → ℕ
write_left LoadOld = 8
write_left (ShadeOld sh) = shade_left sh.stage + 4
write_left (ShadeNew sh) = shade_left sh.stage + 1
write_left Store = 1
write_left Ended = 0

pub record WritingEnds : Type 0 where
  pub some : (w : Writing) → is_busy w.stage ≡ true → 1 ≤ write_left w.stage
  -- each step leaves fewer
  pub fewer : (l : Layout) (w : Writing) (found : ℕ) → is_busy w.stage ≡ true → write_left (goes l w found).stage + 1 ≤ write_left w.stage
