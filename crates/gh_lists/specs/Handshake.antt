-- Processors, workers and the coordinator: their lists, and what every legal one keeps of the handshake of a stop.
use Rattle.std.specs.Prelude.{◌≡◌, ◌↔◌, ℕ, ◌<◌, Bool, true, nat_lt, if◌then◌else◌, List, ◌∷◌, None}
use Rattle.gh_lists.specs.Vocabulary.{acks_of, Actor, Acts, Ask, Cell, Entry, FinishedStays, GONE, GoneStay, HandshakePlace, IsAwake, IsCurrent, IsParked, IsSound, Kind, last_phase, Layout, Leads, Legal, NobodyMoves, Op, opening_processor, opening_words, party_of, Processor, processor_kind, RunPhase, seats_of, Setting, Shakes, Shape, stage_of, state_of, Stopped, Words, words_after}
use Rattle.gh_mutator.specs.Listing as mutator
use Rattle.gh_phase.specs.declared.resume.ResumeStage.TheVariants.{LoadPhase}
use Rattle.gh_phase.specs.declared.view.RunPhase.TheVariants.{Mark, Finished}
use Rattle.gh_phase.specs.declared.view.View.{View}
use Rattle.gh_phase.specs.Listing as resume
use Rattle.gh_coord.specs.Handshake as leading
use Rattle.gh_coord.specs.Listing as coord
use Rattle.gh_worker.specs.Handshake as working
use Rattle.gh_worker.specs.Listing as worker
use Rattle.gh_worker.specs.declared.worker.WorkerStage.TheVariants.{Resuming}

-- numbers of a coordinator that the handshake does not depend on
pub record Pacing : Type 0 where
  pub gogc : ℕ
  pub minheap : ℕ
  pub room : ℕ
  pub trigger : ℕ

-- what no step of a heap changes: the types of its objects, its layout, the coordinator's numbers, and what a processor may begin
pub record Setup : Type 0 where
  pub shapes : List Shape
  pub layout : Layout
  pub pacing : Pacing
  pub may : ℕ → List (Entry Op) → Op → Bool

-- the actor at each seat: the processors, the workers, the coordinator
abbrev pub start : (l : Layout) (pacing : Pacing) → (a : ℕ) → Actor
start l pacing a =
    if nat_lt a l.procs then Actor.Runs (opening_processor a)
    else if nat_lt a (acks_of l) then Actor.Marks (worker.opening a)
    else Actor.Leads (coord.opening l a pacing.gogc pacing.minheap pacing.room)

-- an operation is begun by a processor alone
abbrev pub begins : List Shape → Layout → Actor → Op → Actor
begins shapes l (Actor.Runs m) o = Actor.Runs ((processor_kind shapes l).begins m o)
begins shapes l (Actor.Marks w) o = Actor.Marks w
begins shapes l (Actor.Leads c) o = Actor.Leads c

abbrev pub asks : Layout → Actor → Ask
asks l (Actor.Runs m) = mutator.asks l m
asks l (Actor.Marks w) = worker.asks l w
asks l (Actor.Leads c) = coord.asks l c

abbrev pub actor_takes : List Shape → Layout → Actor → (found : ℕ) → Actor
actor_takes shapes l (Actor.Runs m) found = Actor.Runs (mutator.takes l shapes m found)
actor_takes shapes l (Actor.Marks w) found = Actor.Marks (worker.goes l w found)
actor_takes shapes l (Actor.Leads c) found = Actor.Leads (coord.goes l c found)

abbrev pub is_busy : Actor → Bool
is_busy (Actor.Runs m) = mutator.is_busy_at m.task
is_busy (Actor.Marks w) = worker.is_busy w.stage
is_busy (Actor.Leads c) = coord.is_busy c.stage

abbrev pub actors : Setup → Kind Actor Op
actors setup = record { start = start setup.layout setup.pacing; begins = begins setup.shapes setup.layout; asks = asks setup.layout; takes = actor_takes setup.shapes setup.layout; busy = is_busy }

-- what the words hold before the first step
abbrev pub first_words : Setup → Words
first_words setup = opening_words setup.layout setup.pacing.trigger

-- The lists of all actors of a heap, by what a processor may begin.
abbrev pub those : Setup → Setting Actor Op
those setup = record { kind = actors setup; layout = setup.layout; actors = seats_of setup.layout; opening = first_words setup; may_begin = setup.may }

-- where each stands
abbrev pub place_of : Actor → HandshakePlace
place_of (Actor.Runs m) = Acts (party_of m) (stage_of m)
place_of (Actor.Marks w) = Acts (working.party_of w) (working.stage_of w)
place_of (Actor.Leads c) = Leads (leading.lead_of c)

-- what holds of an actor of a heap of this layout, whatever it was told
abbrev pub Sound : Layout → Actor → Type 0
Sound l (Actor.Runs m) = IsSound l m
Sound l (Actor.Marks w) = working.Sound w
Sound l (Actor.Leads c) = leading.Sound c

-- a view is the last phase that was no stop, and the words as they stand
pub record IsExact (phase : RunPhase) (words : Words) (v : View) : Type 0 where
  pub phase_is : v.phase ≡ phase
  pub generation_is : v.generation ≡ words Cell.Gen
  pub begun_is : v.begun ≡ words Cell.Begun

-- the worker waits at this stop, with no buffer held
pub record WaitsWithNone (stops : ℕ) (w : worker.Working) : Type 0 where
  pub none : w.held ≡ None
  pub routine : resume.Resuming
  pub is_at : w.stage ≡ Resuming routine
  pub loads : routine.stage ≡ LoadPhase
  pub stop_is : routine.stops ≡ stops

-- what every legal list keeps
pub record KeepsIt (s : Setting Actor Op) (es : List (Entry Op)) : Type 0 where
  pub shakes : Shakes s (acks_of s.layout) (Sound s.layout) place_of es
  -- what a processor knows of the phase while it is awake, and what a worker does
  pub processors_know : (a : ℕ) (m : Processor) → a < acks_of s.layout → state_of s.kind a es ≡ Actor.Runs m → IsAwake (stage_of m) → IsExact (last_phase es) (words_after s.opening es) (party_of m).view
  pub workers_know : (a : ℕ) (w : worker.Working) → a < acks_of s.layout → state_of s.kind a es ≡ Actor.Marks w → IsAwake (working.stage_of w) → IsCurrent (last_phase es) (words_after s.opening es) (working.party_of w).view
  -- which is that of marking exactly while a cycle is marked; so a worker takes, scans and shades then alone
  pub processors_mark : (c : coord.Coordinating) (a : ℕ) (m : Processor) → state_of s.kind (acks_of s.layout) es ≡ Actor.Leads c → a < acks_of s.layout → state_of s.kind a es ≡ Actor.Runs m → IsAwake (stage_of m) → (party_of m).view.phase ≡ Mark ↔ leading.Marks c.stage
  pub workers_mark : (c : coord.Coordinating) (a : ℕ) (w : worker.Working) → state_of s.kind (acks_of s.layout) es ≡ Actor.Leads c → a < acks_of s.layout → state_of s.kind a es ≡ Actor.Marks w → IsAwake (working.stage_of w) → (working.party_of w).view.phase ≡ Mark ↔ leading.Marks c.stage
  pub marking : (c : coord.Coordinating) (a : ℕ) (w : worker.Working) → state_of s.kind (acks_of s.layout) es ≡ Actor.Leads c → a < acks_of s.layout → state_of s.kind a es ≡ Actor.Marks w → working.IsMarking w.stage → leading.Marks c.stage
  -- where the world is stopped each waits at that stop, or is gone; no worker is gone yet, and none holds a buffer
  pub processors_wait : (c : coord.Coordinating) (phase : RunPhase) (a : ℕ) (m : Processor) → state_of s.kind (acks_of s.layout) es ≡ Actor.Leads c → leading.post_at c.stage ≡ Stopped phase → a < acks_of s.layout → state_of s.kind a es ≡ Actor.Runs m → IsParked (leading.lead_of c).stops (stage_of m)
  pub workers_wait : (c : coord.Coordinating) (phase : RunPhase) (a : ℕ) (w : worker.Working) → state_of s.kind (acks_of s.layout) es ≡ Actor.Leads c → leading.post_at c.stage ≡ Stopped phase → a < acks_of s.layout → state_of s.kind a es ≡ Actor.Marks w → WaitsWithNone (leading.lead_of c).stops w
  -- no worker leaves before the last cycle is swept, and every processor has left by then
  pub workers_leave : (a : ℕ) (w : worker.Working) → a < acks_of s.layout → state_of s.kind a es ≡ Actor.Marks w → working.IsLeaving w.stage → last_phase es ≡ Finished
  pub processors_left : (a : ℕ) → a < s.layout.procs → last_phase es ≡ Finished → words_after s.opening es (Cell.Ack a) ≡ GONE
  -- and by when the last cycle begins
  pub processors_gone : (c : coord.Coordinating) → state_of s.kind (acks_of s.layout) es ≡ Actor.Leads c → c.is_last ≡ true → (a : ℕ) → a < s.layout.procs → words_after s.opening es (Cell.Ack a) ≡ GONE

abbrev pub EveryListKeepsIt : Type 0
EveryListKeepsIt = (setup : Setup) (es : List (Entry Op)) → Legal (those setup) es → KeepsIt (those setup) es

-- what one entry more leaves: who is gone, the last phase, and in a stopped world every place but the coordinator's
pub record StepKeepsIt (s : Setting Actor Op) (e : Entry Op) (es : List (Entry Op)) : Type 0 where
  pub gone : GoneStay s (acks_of s.layout) place_of e es
  pub finished : FinishedStays e es
  pub still : NobodyMoves s (acks_of s.layout) place_of e es

abbrev pub EveryStepKeepsIt : Type 0
EveryStepKeepsIt = (setup : Setup) (e : Entry Op) (es : List (Entry Op)) → Legal (those setup) (e ∷ es) → StepKeepsIt (those setup) e es
