-- The credit of a heap that is closed.
use Rattle.std.specs.Prelude.{◌≡◌, ℕ, ◌+◌, ◌*◌, ◌%◌, ◌^◌, ◌<◌, List, length}
use Rattle.gh_shared.specs.Vocabulary.{Coordinating, Entry, Op, Planned, setup_of}
use Rattle.gh_coord.specs.Listing.{lapsed_at}
use Rattle.gh_explained.specs.Lists.{objects_in, scanned_in}

-- the words that were earned and are no longer in the bank: those that processors have drawn, and those that have lapsed
abbrev pub earned_by : (drawn : ℕ) → Coordinating → ℕ
earned_by drawn c = (drawn + lapsed_at c.lapsed c.stage) % 2 ^ 64

-- All credit of the list is settled: what was earned is the words that workers have scanned, in each cycle one for each global, and else those of objects; and it was spent or has lapsed.
pub record CreditIsSettled (p : Planned) (es : List (Entry Op)) (c : Coordinating) (drawn : ℕ) : Type 0 where
  pub scanned : earned_by drawn c ≡ scanned_in (setup_of p.script p.layout) es
  pub globals : earned_by drawn c ≡ length c.cycles.items * p.layout.globals + objects_in (setup_of p.script p.layout) es
  pub balanced : earned_by drawn c ≡ drawn + lapsed_at c.lapsed c.stage
  pub few : earned_by drawn c < 2 ^ 48
