-- Which stack a poll scans, from its first step to its last, whatever its steps find.
use Rattle.std.specs.Prelude.{◌≡◌, ◌≢◌, ◌⊎◌, ℕ, suc, ◌+◌, ◌%◌, ◌^◌, ◌<◌, Bool, ◌==◌, if◌then◌else◌, List, length, slice_set}
use Rattle.gh_poll.specs.Vocabulary.{Layout, Local, Mark, MOST_GOROUTINES, View}
use Rattle.gh_base.specs.Routines.{EndsWith, told}
use Rattle.gh_poll.specs.Due.{IsUnscanned}
use Rattle.gh_poll.specs.Poll.{begins, Polling, transitions}

-- what the processor knows, and this of the phase
abbrev pub knowing : Local → View → Local
knowing local view = record local { view = view }

-- it is the lowest of the processor's goroutines whose stack is not scanned in the cycle
pub record IsLowestUnscanned (l : Layout) (seat : ℕ) (local : Local) (g : ℕ) : Type 0 where
  pub unscanned : IsUnscanned l seat local g
  pub lowest : (h : ℕ) → h < g → IsUnscanned l seat local h → ⊥

-- A poll from where it begins to where it has ended, by what the processor knows there. It may learn of another cycle at a stop, and scans by what it knows of the phase then.
module _ (l : Layout) (seat : ℕ) (first : Local) where
  module _ (view : View) where
    -- the polls of this cycle that were before it: none, if it has learned of the cycle
    abbrev pub polls_before : ℕ
    polls_before = if view.begun == first.view.begun then first.polls else 0

    -- it is the first poll of the cycle, or the fourth after such a one
    abbrev pub IsItsTurn : Type 0
    IsItsTurn = polls_before % 4 ≡ 0

    -- it has scanned the stack of this goroutine, and no other
    pub record ScansOne (scanned : List ℕ) (g : ℕ) : Type 0 where
      pub turn : IsItsTurn
      pub lowest : IsLowestUnscanned l seat (knowing first view) g
      pub scanned_is : scanned ≡ slice_set first.scanned g view.begun

    -- it has scanned none: it was not its turn, or none was unscanned
    pub record ScansNone (scanned : List ℕ) : Type 0 where
      pub none_due : IsItsTurn → (g : ℕ) → IsUnscanned l seat (knowing first view) g → ⊥
      pub scanned_is : scanned ≡ first.scanned

  pub record ScansInTurn (last : Local) : Type 0 where
    -- while marking is on the poll is counted, and scans one stack at its turn
    pub counts : last.view.phase ≡ Mark → last.polls ≡ (polls_before last.view + 1) % 2 ^ 64
    pub scans : last.view.phase ≡ Mark → ((g : ℕ) × ScansOne last.view last.scanned g) ⊎ ScansNone last.view last.scanned
    -- else it scans none
    pub off : last.view.phase ≢ Mark → last.scanned ≡ first.scanned

abbrev pub PollsScanInTurn : Type 0
PollsScanInTurn = (l : Layout) (first : Polling) (waits : Bool) (found : ℕ → ℕ) (n : ℕ) → length first.local.scanned ≡ MOST_GOROUTINES →
    EndsWith (transitions l) (begins first waits) found n tt → ScansInTurn l first.seat first.local (told (transitions l) (begins first waits) found (suc n)).local
