-- What the freeing of empty spans knows of its own numbers, whatever it is told.
use Rattle.std.specs.Prelude.{ℕ, ◌*◌, ◌^◌, ◌<◌, ◌≤◌}
use Rattle.gh_central.specs.Vocabulary.{Bits, Body, Ended, Layout, Look, Reclaim, ReclaimStage, Runs, Sweep, Wait}
use Rattle.gh_central.specs.declared.reclaim.ReclaimStage.TheVariants.{Head}
use Rattle.gh_sweep.specs.Listing as sweep

-- the page is one of the arena, and a head word has room for the number of pages
pub record CanBeASpan (l : Layout) (page pages : ℕ) : Type 0 where
  pub there : page < l.pages
  pub some : 1 ≤ pages
  pub few : pages < 2 ^ 13

abbrev pub IsStage : Layout → ReclaimStage → Type 0
IsStage l (Look page) = page < l.pages
IsStage l (Sweep page pages sw) = CanBeASpan l page pages × Runs (sweep.listing l) sw
IsStage l (Wait page) = page < l.pages
IsStage l (Bits page pages i) = CanBeASpan l page pages × (i < 16 * pages)
IsStage l (Body page pages distance) = CanBeASpan l page pages × (distance < pages)
IsStage l (Head page pages) = CanBeASpan l page pages
IsStage l Ended = Unit {0}

pub record Sound (l : Layout) (m : Reclaim) : Type 0 where
  pub generation : m.generation < 2 ^ 34
  pub stage : IsStage l m.stage
