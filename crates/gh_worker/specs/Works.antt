-- What a worker counts: the words that it has scanned.
use Rattle.std.specs.Prelude.{◌≡◌, ℕ, zero, suc, ◌+◌, ◌-◌, ◌^◌, min, ◌==◌, if◌then◌else◌, Option, Some, None}
use Rattle.gh_worker.specs.Vocabulary.{Layout, LoadGlobal, Scanning, Shaded, Shading, steps_of, WorkerStage}
use Rattle.gh_scan.specs.Listing as scan
use Rattle.gh_shade.specs.Listing as shade
use Rattle.gh_worker.specs.Listing.{opening, Working}
use Rattle.gh_worker.specs.Sound.{listing}
use Rattle.gh_base.specs.Routines.{told}

-- the words that are done with a step: those of an object whose scan ends, and one for a global that is nil or whose shading ends
abbrev pub scan_words : Option ℕ → ℕ
scan_words None = 0
scan_words (Some words) = words

abbrev pub shading_word : Option Shaded → ℕ
shading_word (Some Shaded.Done) = 1
shading_word _ = 0

abbrev pub words_done : Layout → WorkerStage → (found : ℕ) → ℕ
words_done l (Scanning s) found = scan_words (scan.gives l s found)
words_done l (LoadGlobal i) found = if found == 0 then 1 else 0
words_done l (Shading sh) found = shading_word (shade.gives sh found)
words_done l _ found = 0

module _ (l : Layout) (seat : ℕ) (found : ℕ → ℕ) where
  abbrev pub from : Working
  from = opening seat

  abbrev pub after : (n : ℕ) → Working
  after n = told (steps_of l (listing l)) from found n

  -- the words that it has scanned in the first n steps
  abbrev pub scanned : (n : ℕ) → ℕ
  scanned zero = 0
  scanned (suc n) = scanned n + words_done l (after n).stage (found n)

  -- its count is that of the words which it has scanned, and stands still at its type's end
  pub record CountsWords : Type 0 where
    pub counts : (n : ℕ) → (after n).marks ≡ min (scanned n) (2 ^ 64 - 1)

abbrev pub WordsAreCounted : Type 0
WordsAreCounted = (l : Layout) (seat : ℕ) (found : ℕ → ℕ) → CountsWords l seat found
