-- Who asks for a cycle, and where one is opened: over lists of steps of all actors, the newest first.
use Rattle.std.specs.Prelude.{◌≡◌, ℕ, ◌<◌, ◌⊎◌, true, false, List, ◌∷◌}
use Rattle.gh_law.specs.Vocabulary.{acks_of, arena_of, before_step, Cell, Coordinating, Entry, GONE, IsLedBy, IsStartOf, Layout, Op, Open, Or, own, Setup, those, words_after}
use Rattle.gh_coord.specs.declared.open.OpenStage.TheVariants.{ClearWant}
use Rattle.gh_mutator_writes.specs.Writing.{BeginsToWait}
use Rattle.gh_mutator.specs.Asking.{CountsUpTo, SeesReached}
use Rattle.gh_lists.specs.Numbers.{opens_one}
use Rattle.gh_coord.specs.declared.coord.CoordStage.{CoordStage}
use Rattle.gh_base.specs.declared.shape.Shape.{Shape}

-- the coordinator's next step clears the word of the request: with that a cycle is opened
abbrev pub IsClearing : CoordStage → Type 0
IsClearing (Open o) = o.stage ≡ ClearWant
IsClearing _ = ⊥

-- no entry of the list behind this start of it clears that word
abbrev pub NoneOpensSince : (start : List (Entry Op)) → List (Entry Op) → Type 0
NoneOpensSince start es = (e : Entry Op) (before : List (Entry Op)) → IsStartOf (e ∷ before) es → IsStartOf start before → opens_one e.ask ≡ false

module _ (shapes : List Shape) (l : Layout) where
  -- Processor a has seen the trigger reached. It has made an object while it knew that marking was off: with the last but one of its entries it added the bytes of that to those of the heap, which it found; and with its last it loaded the trigger, and found it no greater than the sum.
  pub record SawTriggerReached (a : ℕ) (es : List (Entry Op)) : Type 0 where
    pub bytes : ℕ
    pub looks : Entry Op
    pub between : List (Entry Op)
    pub looks_start : IsStartOf (looks ∷ between) es
    pub sees : SeesReached (before_step shapes l between looks).task looks.found bytes
    pub counts : Entry Op
    pub before : List (Entry Op)
    pub counts_start : IsStartOf (counts ∷ before) between
    pub counted : CountsUpTo (before_step shapes l before counts).task counts.found bytes
    pub its_last : own a es ≡ looks ∷ counts ∷ own a before

module _ (setup : Setup) where
  abbrev Led : List (Entry Op) → Coordinating → Type 0
  Led es c = IsLedBy (arena_of setup.shapes setup.layout) setup.pacing setup.may es c

  -- With this entry behind the list a processor asks for a cycle: in a `gc`, or in a `new` whose first search has found nothing, where it begins to wait; or in a `new` that saw the trigger reached, as marking was off.
  pub record AsksForCycle (e : Entry Op) (es : List (Entry Op)) : Type 0 where
    pub by : e.actor < setup.layout.procs
    pub where_it_may : BeginsToWait (before_step setup.shapes setup.layout es e).task ⊎ SawTriggerReached setup.shapes setup.layout e.actor es
    pub asks : e.ask ≡ Or Cell.Want 1

  -- With an entry of the list a processor has asked for a cycle, and none was opened since.
  pub record WasAsked (es : List (Entry Op)) : Type 0 where
    pub entry : Entry Op
    pub earlier : List (Entry Op)
    pub start : IsStartOf (entry ∷ earlier) es
    pub asks : AsksForCycle entry earlier
    pub since : NoneOpensSince (entry ∷ earlier) es

  -- the cycle is the last: each processor has left
  pub record IsLast (es : List (Entry Op)) (c : Coordinating) : Type 0 where
    pub is_last : c.is_last ≡ true
    pub left : (a : ℕ) → a < setup.layout.procs → words_after (those setup).opening es (Cell.Ack a) ≡ GONE

  -- With this entry behind the list the coordinator clears the word of the request: cycle k is opened. It was asked for, or is the last.
  pub record OpensCycle (k : ℕ) (e : Entry Op) (es : List (Entry Op)) : Type 0 where
    pub lead : Coordinating
    pub led : Led es lead
    pub by : e.actor ≡ acks_of setup.layout
    pub clears : IsClearing lead.stage
    pub cycle : lead.begun ≡ k
    pub asked : IsLast es lead ⊎ WasAsked es

  -- whichever entry clears that word, with it such a cycle is opened
  abbrev pub AllWereAsked : List (Entry Op) → Type 0
  AllWereAsked es = (e : Entry Op) (before : List (Entry Op)) → IsStartOf (e ∷ before) es → opens_one e.ask ≡ true → (k : ℕ) × OpensCycle k e before

  -- With an entry of the list cycle k was opened, and no other since.
  pub record WasOpened (k : ℕ) (es : List (Entry Op)) : Type 0 where
    pub entry : Entry Op
    pub earlier : List (Entry Op)
    pub start : IsStartOf (entry ∷ earlier) es
    pub opens : OpensCycle k entry earlier
    pub since : NoneOpensSince (entry ∷ earlier) es
