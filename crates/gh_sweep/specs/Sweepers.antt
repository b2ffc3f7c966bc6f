-- A sweep among other actors: what its stage stands for, what it relies on, and that its steps are moves that it may make.
use Rattle.std.specs.Prelude.{◌≡◌, ◌≢◌, ℕ, ◌+◌, ◌*◌, ◌<◌, ◌↔◌, Bool, true, false, if◌then◌else◌}
use Rattle.gh_sweep.specs.Vocabulary.{AddHeap, AddLive, AddTally, Begin, cell_of, ClearBits, ClearMarks, effect, Ended, Finish, Head, Load, LoadMarks, Page, page_of, seats_of, SpanHead, SweepStage, Touch}
use Rattle.gh_sweep.specs.Facts.{Facts, IsPlaced}
use Rattle.gh_sweep.specs.Listing.{asks, goes, is_busy, opening, slot_bytes, Sweeping, wrote}
use Rattle.gh_sweep.specs.Moves.{Clears, Cuts, Ends, Lands, Move, OthersLeave, Quiet, Starts, Sweeps, TellsHeap, TellsLive, TellsTally}
use Rattle.gh_sweep.specs.Shared.{By, CycleEnd, Due, generation_of, Good, HasEnded, nothing_due, Shared, view}
use Rattle.gh_sweep.specs.Sound.{reached}

-- it has its span: it has begun, and not ended
abbrev pub has_span : SweepStage → Bool
has_span Begin = false
has_span (Ended end) = false
has_span _ = true

-- the span at page p is the one that it has
abbrev pub IsOwn : Sweeping → (p : ℕ) → Type 0
IsOwn m p = (has_span m.stage ≡ true) × (m.page ≡ p)

-- how many words of the span's marks it has cleared
abbrev pub marks_cleared : SpanHead → SweepStage → ℕ
marks_cleared h (ClearMarks i) = i
marks_cleared h stage = reached h stage

-- what it has yet to tell
module _ (m : Sweeping) where
  abbrev pub bytes_owed : Due
  bytes_owed = record { kept = 0; freed = 0; live = m.kept * slot_bytes m.head; cleared = m.freed * slot_bytes m.head }

  abbrev pub all_owed : Due
  all_owed = record { kept = m.kept; freed = m.freed; live = m.kept * slot_bytes m.head; cleared = m.freed * slot_bytes m.head }

  abbrev pub owes_at : SweepStage → Due
  owes_at Begin = nothing_due
  owes_at (LoadMarks i) = all_owed
  owes_at (ClearBits i marks) = all_owed
  owes_at (ClearMarks i) = all_owed
  owes_at AddTally = all_owed
  owes_at AddLive = bytes_owed
  owes_at AddHeap = record { kept = 0; freed = 0; live = 0; cleared = m.freed * slot_bytes m.head }
  owes_at Finish = nothing_due
  owes_at (Ended end) = nothing_due

abbrev pub owes : Sweeping → Due
owes m = owes_at m m.stage

-- the move that its step is, where it finds this; a swap that is lost changes no more than a load
module _ (m : Sweeping) where
  abbrev pub move_at : SweepStage → (found : ℕ) → Move
  move_at Begin found = if wrote m found then Starts m.page m.head else Quiet (Load (Page m.page))
  move_at (LoadMarks i) found = Quiet (Load Touch)
  move_at (ClearBits i marks) found = Cuts m.page m.head i
  move_at (ClearMarks i) found = Clears m.page m.head i
  move_at AddTally found = TellsTally
  move_at AddLive found = TellsLive
  move_at AddHeap found = TellsHeap
  move_at Finish found = Ends m.page m.head
  move_at (Ended end) found = Quiet (Load Touch)

abbrev pub move_of : Sweeping → (found : ℕ) → Move
move_of m found = move_at m m.stage found

-- how far it is with its span: it has counted nothing, or it has cut and cleared the words that its stage says
abbrev pub HasReached : (a : ℕ) → Shared → Sweeping → SweepStage → Type 0
HasReached a s m Begin = (m.kept ≡ 0) × (m.freed ≡ 0)
HasReached a s m (Ended end) = Unit {0}
HasReached a s m stage = Sweeps a m.page m.head (reached m.head stage) (marks_cleared m.head stage) s

-- What holds of the sweep that an actor runs: the spans that are the actor's are those of its stage, which says too what it has yet to tell.
pub record SweepFacts (e : CycleEnd) (a : ℕ) (s : Shared) (m : Sweeping) : Type 0 where
  pub placed : IsPlaced e.layout m
  pub number : m.head.number + 2 ≡ generation_of e
  pub right : (p : ℕ) → (s.far p ≡ By a) ↔ IsOwn m p
  pub due : s.due a ≡ owes m
  pub facts : Facts m s.words
  pub is_at : HasReached a s m m.stage

-- the actor sweeps nothing, and has told all
pub record IsAtRest (a : ℕ) (s : Shared) : Type 0 where
  pub none : (p : ℕ) → s.far p ≢ By a
  pub told : s.due a ≡ nothing_due

pub record SweepsAmongOthers : Type 0 where
  -- a sweep may be begun where the page's word is found to have the head of an unswept span
  pub opens : (e : CycleEnd) (a : ℕ) (s : Shared) (p : ℕ) (h : SpanHead) → HasEnded e → Good e (view s) → IsAtRest a s → page_of (s.words (Page p)) ≡ Head h → h.number + 2 ≡ generation_of e → SweepFacts e a s (opening p h)
  -- each of its steps is its move, which it may make, and the same holds of it then
  pub own : (e : CycleEnd) (a : ℕ) (s : Shared) (m : Sweeping) → HasEnded e → Good e (view s) → a < seats_of e.layout → SweepFacts e a s m → is_busy m.stage ≡ true →
      Lands e a s (move_of m (s.words (cell_of (asks e.layout m)))) (effect s.words (asks e.layout m)) (λ t. SweepFacts e a t (goes m (s.words (cell_of (asks e.layout m)))))
  -- and that lasts under the moves of others
  pub last : (e : CycleEnd) (a : ℕ) (s t : Shared) (m : Sweeping) → OthersLeave e a s t → SweepFacts e a s m → SweepFacts e a t m
  -- once it has ended the actor is at rest
  pub rests : (e : CycleEnd) (a : ℕ) (s : Shared) (m : Sweeping) → SweepFacts e a s m → is_busy m.stage ≡ false → IsAtRest a s
