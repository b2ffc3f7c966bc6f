-- Phases, in every legal list of steps of all actors: what each actor knows of them, who marks and when, and that nobody but the coordinator moves in a stopped world.
use Rattle.std.specs.Prelude.{◌≡◌, ◌≢◌, ◌↔◌, ℕ, ◌<◌, true, List, ◌∷◌, None}
use Rattle.gh_law.specs.Vocabulary.{acks_of, Actor, actors_after, answers_of, arena_of, Ask, Cell, Coordinating, Entry, first_words, given_of, GONE, IsExact, IsLedBy, IsStartOf, only_polls, Op, place_of, Processor, Setup, WaitsWithNone, Words, words_after}
use Rattle.gh_phase.specs.declared.resume.ResumeStage.{ResumeStage}
use Rattle.gh_phase.specs.declared.view.RunPhase.{RunPhase}
use Rattle.gh_phase.specs.declared.view.RunPhase.TheVariants.{Finished, Mark}
use Rattle.gh_phase.specs.Handshake.{Resumes, stop_word, Stopped}
use Rattle.gh_phase.specs.Shakes.{IsAwake, IsCurrent, IsParked, last_phase}
use Rattle.gh_coord.specs.Handshake as leading
use Rattle.gh_poll.specs.Give.{none_cached}
use Rattle.gh_mutator.specs.ProcessorPlaces.{party_of, stage_of}
use Rattle.gh_worker.specs.Handshake as working
use Rattle.gh_worker.specs.Listing.{Working}

-- The world is stopped: from where the coordinator has found the last acknowledgement of a stop until it stores a phase that is no stop.
abbrev pub IsStopped : Coordinating → Type 0
IsStopped c = (phase : RunPhase) × (leading.post_at c.stage ≡ Stopped phase)

-- the step marks: it sets a mark bit, or writes the word of a grey work buffer or an entry of one
abbrev pub IsMarkingStep : Ask → Type 0
IsMarkingStep (Ask.Or (Cell.Mark i) bits) = Unit {0}
IsMarkingStep (Ask.Store (Cell.Buffer b) value) = Unit {0}
IsMarkingStep (Ask.Swap (Cell.Buffer b) old new) = Unit {0}
IsMarkingStep (Ask.Store (Cell.Entry b j) value) = Unit {0}
IsMarkingStep _ = ⊥

-- From the acknowledgement of a stop until it has gone on after it a processor runs nothing but a poll, a wait or a leave, has cached no span and holds no buffer.
pub record StandsEmpty (m : Processor) : Type 0 where
  pub waits : only_polls m.task ≡ true
  pub no_span : m.poll.local.cache ≡ none_cached
  pub no_buffer : m.poll.local.held ≡ None

-- From there until it has gone on a worker holds no buffer, and has no words left that it has scanned and not handed over.
pub record WorkerStandsEmpty (w : Working) : Type 0 where
  pub no_buffer : w.held ≡ None
  pub none_left : w.scan_work ≡ 0

-- A heap that is set up so.
module _ (setup : Setup) where
  abbrev told : List (Entry Op) → Words
  told es = words_after (first_words setup) es

  abbrev IsLed : List (Entry Op) → Coordinating → Type 0
  IsLed es c = IsLedBy (arena_of setup.shapes setup.layout) setup.pacing setup.may es c

  abbrev at : List (Entry Op) → (a : ℕ) → Actor
  at es a = actors_after (arena_of setup.shapes setup.layout) setup.pacing setup.may es a

  -- the step behind the list finds the word of the coordinator's stop at the phase, and leaves its actor's place
  pub record FindsTheStop (e : Entry Op) (es : List (Entry Op)) (c : Coordinating) : Type 0 where
    pub asks : e.ask ≡ Ask.Load Cell.Phase
    pub found : e.found ≡ stop_word (leading.lead_of c).stops
    pub place : place_of (at (e ∷ es) e.actor) ≡ place_of (at es e.actor)

  module _ (es : List (Entry Op)) where
    -- What each knows. An actor is awake from its opening, or from where it has gone on after a stop, until it is to acknowledge the next.
    pub record PhasesAreKnown : Type 0 where
      -- a processor knows the last phase that was no stop, and the words of the sweep generation and of the cycle as they stand
      pub processors : (a : ℕ) (m : Processor) → at es a ≡ Actor.Runs m → IsAwake (stage_of m) → IsExact (last_phase es) (told es) (party_of m).view
      -- so does a worker, but once the last cycle is swept it may know still that marking is off
      pub workers : (a : ℕ) (w : Working) → at es a ≡ Actor.Marks w → IsAwake (working.stage_of w) → IsCurrent (last_phase es) (told es) (working.party_of w).view
      -- who is not awake stands empty until it has gone on; a processor has given each answer that its operations have had
      pub resuming : (a : ℕ) (m : Processor) (stops : ℕ) (stage : ResumeStage) → at es a ≡ Actor.Runs m → stage_of m ≡ Resumes stops stage → StandsEmpty m
      pub answered : (a : ℕ) (m : Processor) (stops : ℕ) (stage : ResumeStage) → at es a ≡ Actor.Runs m → stage_of m ≡ Resumes stops stage → answers_of (arena_of setup.shapes setup.layout) (first_words setup) a es ≡ given_of (arena_of setup.shapes setup.layout) (first_words setup) a es
      pub workers_resuming : (a : ℕ) (w : Working) (stops : ℕ) (stage : ResumeStage) → at es a ≡ Actor.Marks w → working.stage_of w ≡ Resumes stops stage → WorkerStandsEmpty w

    -- Who marks.
    pub record MarksInPhase (c : Coordinating) : Type 0 where
      -- who is awake knows that marking is on exactly while the coordinator marks a cycle
      pub processors : (a : ℕ) (m : Processor) → at es a ≡ Actor.Runs m → IsAwake (stage_of m) → (party_of m).view.phase ≡ Mark ↔ leading.Marks c.stage
      pub workers : (a : ℕ) (w : Working) → at es a ≡ Actor.Marks w → IsAwake (working.stage_of w) → (working.party_of w).view.phase ≡ Mark ↔ leading.Marks c.stage
      -- then alone a worker takes, scans or shades
      pub working : (a : ℕ) (w : Working) → at es a ≡ Actor.Marks w → working.IsMarking w.stage → leading.Marks c.stage

    -- The stopped world.
    pub record StandsStill (c : Coordinating) : Type 0 where
      -- each processor waits at that stop, or is gone; and each worker waits there, with no buffer held
      pub processors : (a : ℕ) (m : Processor) → at es a ≡ Actor.Runs m → IsParked (leading.lead_of c).stops (stage_of m)
      pub workers : (a : ℕ) (w : Working) → at es a ≡ Actor.Marks w → WaitsWithNone (leading.lead_of c).stops w

    -- The last cycle.
    pub record EndsInOrder (c : Coordinating) : Type 0 where
      -- it begins once each processor is gone
      pub begins : c.is_last ≡ true → (a : ℕ) → a < setup.layout.procs → told es (Cell.Ack a) ≡ GONE
      -- and no worker leaves before the last phase is stored
      pub workers_leave : (a : ℕ) (w : Working) → at es a ≡ Actor.Marks w → working.IsLeaving w.stage → last_phase es ≡ Finished

    pub record PhasesStand : Type 0 where
      pub known : PhasesAreKnown
      pub marking : (c : Coordinating) → IsLed es c → MarksInPhase c
      pub stopped : (c : Coordinating) → IsLed es c → IsStopped c → StandsStill c
      pub last : (c : Coordinating) → IsLed es c → EndsInOrder c
      -- while no cycle is marked no buffer has an entry, and nobody holds one
      pub buffers : (c : Coordinating) → IsLed es c → (leading.Marks c.stage → ⊥) → (b : ℕ) → told es (Cell.Buffer b) ≡ 0
      -- Of every start of the list: who marks with its newest entry does so while a cycle is marked;
      pub marks : (e : Entry Op) (before : List (Entry Op)) (c : Coordinating) → IsStartOf (e ∷ before) es → IsLed before c → IsMarkingStep e.ask → leading.Marks c.stage
      -- and in a stopped world that entry is the coordinator's, or a load of the phase that finds the stop
      pub still : (e : Entry Op) (before : List (Entry Op)) (c : Coordinating) → IsStartOf (e ∷ before) es → IsLed before c → IsStopped c → e.actor ≢ acks_of setup.layout → FindsTheStop e before c
      -- no phase follows the last
      pub finished : (start : List (Entry Op)) → IsStartOf start es → last_phase start ≡ Finished → last_phase es ≡ Finished
