-- Which of the words that a worker counts are those of globals, and which global it has in hand.
use Rattle.std.specs.Prelude.{◌≡◌, ℕ, ◌+◌, nat_lt, ◌==◌, if◌then◌else◌, ◌⊎◌}
use Rattle.gh_worker.specs.Vocabulary.{Adds, Ask, Gcur, Layout, LoadGlobal, Scanning, Shading, WorkerStage}
use Rattle.gh_scan.specs.Listing as scan
use Rattle.gh_shade.specs.Listing as shade
use Rattle.gh_worker.specs.Handshake.{IsMarking}
use Rattle.gh_worker.specs.Listing.{asks, global_held, goes, Working}
use Rattle.gh_worker.specs.Works.{scan_words, shading_word, words_done}
use Rattle.gh_worker.specs.Writing.{IsCalm}

-- of the words that are done with a step, one where it is done with a global: it found none there, or the shading of what it names ends
abbrev pub global_done : WorkerStage → (found : ℕ) → ℕ
global_done (LoadGlobal i) found = if found == 0 then 1 else 0
global_done (Shading sh) found = shading_word (shade.gives sh found)
global_done _ found = 0

-- and the words of the object whose scan ends with it
abbrev pub object_done : Layout → WorkerStage → (found : ℕ) → ℕ
object_done l (Scanning s) found = scan_words (scan.gives l s found)
object_done l _ found = 0

-- the step moves the cursor past a global that there is: 1, or 0
abbrev pub claimed_by : Layout → Ask → (found : ℕ) → ℕ
claimed_by l (Adds Gcur more) found = if nat_lt found l.globals then 1 else 0
claimed_by l _ found = 0

pub record WorkersCountGlobals : Type 0 where
  pub parts : (l : Layout) (w : Working) (found : ℕ) → words_done l w.stage found ≡ global_done w.stage found + object_done l w.stage found
  -- with each step it has one in hand more where it has moved the cursor past one, and one less where it is done with one
  pub holds : (l : Layout) (w : Working) (found : ℕ) → global_held (goes l w found).stage + global_done w.stage found ≡ global_held w.stage + claimed_by l (asks l w) found
  -- it is done with something only while it marks, and not at rest
  pub marks : (l : Layout) (w : Working) (found : ℕ) → (words_done l w.stage found ≡ 0) ⊎ IsMarking w.stage
  pub rests : (l : Layout) (w : Working) (found : ℕ) → IsCalm w → words_done l w.stage found ≡ 0
