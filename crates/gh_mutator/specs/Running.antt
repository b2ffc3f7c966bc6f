-- What holds of what a processor runs, whatever it was told: its scan of a stack, its assist, and its place in the handshake of a stop.
use Rattle.std.specs.Prelude.{◌≡◌, ◌≢◌, ℕ, ◌%◌, ◌<◌, true, slice_index}
use Rattle.gh_mutator.specs.Vocabulary.{Assist, END, Layout, Mark, Marking, marking_at, NewStage, Polling, PollStage, Task}
use Rattle.gh_assist.specs.Sound as assisting
use Rattle.gh_stack.specs.Listing as stack
use Rattle.gh_mutator.specs.MarkVocabulary.{MarkStackStage, SoundPlace, StackMarking, StackStage}
use Rattle.gh_mutator.specs.Processing.{Processor}

-- What is to be shaded is what the scan wishes for; and where nothing is, the scan's own step is next.
abbrev pub ShadesByWish : StackStage → MarkStackStage → Type 0
ShadesByWish scan (MarkStackStage.Shading sh) = stack.is_waiting scan ≡ true
ShadesByWish scan (MarkStackStage.FindRoom sh r) = stack.is_waiting scan ≡ true
ShadesByWish scan MarkStackStage.Store = scan ≡ StackStage.Store
ShadesByWish scan MarkStackStage.Ended = ⊥

-- The stack that it scans is that of a goroutine of its own, and the scan is that of the cycle which it knows, while marking is on; and it has not noted yet that this stack was scanned in that cycle.
pub record ScansItsOwn (l : Layout) (p : Polling) (g : ℕ) (m : StackMarking) : Type 0 where
  pub there : g < l.goroutines
  pub own : g % l.procs ≡ p.seat
  pub marking : p.local.view.phase ≡ Mark
  pub of : m.scan.goroutine ≡ g
  pub cycle_is : m.scan.cycle ≡ p.local.view.begun
  pub unscanned : p.local.view.begun ≢ END → slice_index p.local.scanned g ≢ p.local.view.begun
  pub by_wish : ShadesByWish m.scan.stage m.stage

abbrev pub SoundScanAt : Layout → Polling → PollStage → Type 0
SoundScanAt l p (Marking g m) = ScansItsOwn l p g m
SoundScanAt l p _ = Unit {0}

-- an assist runs while marking is on alone, as the processor knows
abbrev pub SoundAssistAt : Polling → NewStage → Type 0
SoundAssistAt p (Assist n x) = (marking_at p ≡ true) × assisting.IsSound x
SoundAssistAt p _ = Unit {0}

abbrev pub SoundAssist : Polling → Task → Type 0
SoundAssist p (Task.New x) = SoundAssistAt p x.stage
SoundAssist p _ = Unit {0}

-- while it assists
abbrev pub IsAssistingAt : NewStage → Type 0
IsAssistingAt (Assist n x) = Unit {0}
IsAssistingAt _ = ⊥

abbrev pub IsAssisting : Task → Type 0
IsAssisting (Task.New x) = IsAssistingAt x.stage
IsAssisting _ = ⊥

-- what holds of a processor, whatever it was told
pub record IsSound (l : Layout) (m : Processor) : Type 0 where
  pub place : SoundPlace m
  pub scan : SoundScanAt l m.poll m.poll.stage
  pub assist : SoundAssist m.poll m.task
