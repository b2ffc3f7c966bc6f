-- Lists of steps of all actors of a heap, the newest first: processors, workers and the coordinator. Which are legal, and what every legal one keeps: the words stand for the heap that never frees, each cycle frees what no script reached where it began, and who waits for a cycle goes on once one that began later is swept.
use Rattle.std.specs.Prelude.{◌≡◌, ℕ, ◌<◌, ◌≤◌, true, List, [], ◌∷◌, ◌++◌, Option, Some}
use Rattle.gh_law.specs.Vocabulary.{Actor, actors, actors_after, arena_of, asks, before_step, Begins, begun_in, by, Coordinating, Done, Entry, Ever, FewAreScanned, first_words, Given, GlobalsAreCounted, InRange, is_busy, IsInLimits, IsStartOf, Legal, ListStands, MOST_STATEMENTS, Op, seats_of, Setup, setup_for, ShapesAreGood, started, those, total, Words}
use Rattle.gh_mutator.specs.Listing.{Act, gives}
use Rattle.gh_base.specs.Steps.{cell_of}
use Rattle.gh_mutator.specs.Deeds.{deeds, processor_kind}
use Rattle.gh_base.specs.declared.value.Answer.{Answer}
use Rattle.gh_base.specs.Orders.{done_at}
use Rattle.gh_coord.specs.Handshake as leading
use Rattle.gh_heap.specs.Rights.{Arena}
use Rattle.gh_law.specs.Asked.{AllWereAsked, WasOpened}
use Rattle.gh_lists.specs.Counts.{CountsPlainly}
use Rattle.gh_holds.specs.Below.{CycleIsDrawn, HeapIsCounted, SpansStand}
use Rattle.gh_law.specs.Phases.{PhasesStand}
use Rattle.gh_law.specs.Scans.{ScansOnce}
use Rattle.gh_law.specs.Searches.{NoneMeansNoRoom}
use Rattle.gh_law.specs.SweepMarks.{SweepsStand}
use Rattle.gh_lists.specs.Lists as lists
use Rattle.gh_holds.specs.Objects.{AreNamed}
use Rattle.gh_holds.specs.Objects as objects
use Rattle.gh_marked.specs.Tied.{ShowsWhatThereIs}

-- A heap that is set up so.
module _ (setup : Setup) where
  abbrev arena : Arena
  arena = arena_of setup.shapes setup.layout

  abbrev words : List (Entry Op) → Words
  words es = lists.words setup es

  abbrev ever : List (Entry Op) → Ever
  ever es = lists.ever setup es

  abbrev IsLed : List (Entry Op) → Coordinating → Type 0
  IsLed es c = lists.IsLed setup es c

  abbrev BeginsCycle : (k : ℕ) → List (Entry Op) → Type 0
  BeginsCycle k es = lists.BeginsCycle setup k es

  abbrev SweepsCycle : (k : ℕ) → List (Entry Op) → Type 0
  SweepsCycle k es = lists.SweepsCycle setup k es

  abbrev FreesTheUnreached : List (Entry Op) → Type 0
  FreesTheUnreached es = objects.FreesTheUnreached setup es

  abbrev FreesWithinTwo : List (Entry Op) → Type 0
  FreesWithinTwo es = objects.FreesWithinTwo setup es

  abbrev EndsAllMarked : List (Entry Op) → Type 0
  EndsAllMarked es = objects.EndsAllMarked setup es

  abbrev StandsUntilItsEnd : List (Entry Op) → Type 0
  StandsUntilItsEnd es = objects.StandsUntilItsEnd setup es

  abbrev StandsSoFar : List (Entry Op) → Coordinating → Type 0
  StandsSoFar es c = objects.StandsSoFar setup es c

  abbrev StandApart : List (Entry Op) → Type 0
  StandApart es = objects.StandApart setup es

  abbrev AllWereCounted : List (Entry Op) → Coordinating → Type 0
  AllWereCounted es c = objects.AllWereCounted setup es c

  abbrev CountsAreSaid : List (Entry Op) → Coordinating → Type 0
  CountsAreSaid es c = objects.CountsAreSaid setup es c

  abbrev LeavesTheReached : List (Entry Op) → Coordinating → Type 0
  LeavesTheReached es c = objects.LeavesTheReached setup es c

  -- Of an operation that waits for a cycle.

  -- Behind this start of the list a cycle began, and in the list it is swept.
  pub record SweptSince (earlier es : List (Entry Op)) : Type 0 where
    pub k : ℕ
    -- with this entry it begins
    pub entry : Entry Op
    pub before : List (Entry Op)
    pub behind : IsStartOf earlier before
    pub begins : BeginsCycle k (entry ∷ before)
    -- and with the newest entry of this start of the list it is swept
    pub swept : List (Entry Op)
    pub later : IsStartOf (entry ∷ before) swept
    pub sweeps : SweepsCycle k swept
    pub within : IsStartOf swept es

  -- The operation is the last that the actor began in the list; and behind the entry with which it did, a cycle began that is swept.
  pub record AwaitedCycle (a : ℕ) (es : List (Entry Op)) (o : Op) : Type 0 where
    pub earlier : List (Entry Op)
    pub first : Entry Op
    pub since : List (Entry Op)
    pub there : es ≡ since ++ first ∷ earlier
    pub by_it : first.actor ≡ a
    pub began : first.begun ≡ Some o
    pub none_since : begun_in (by a since) ≡ []
    pub cycle : SweptSince (first ∷ earlier) es

  -- Where a `gc` acts with this entry it is answered `swept` with it, and has waited for a cycle; and so has a `new` that acts where it finds no room.
  pub record HasAwaited (e : Entry Op) (before : List (Entry Op)) (x : Act) : Type 0 where
    pub gc : (g : ℕ) → x.op ≡ Op.Gc g → AwaitedCycle e.actor before x.op
    pub answered : (g : ℕ) → x.op ≡ Op.Gc g → gives setup.layout (before_step setup.shapes setup.layout before e) e.found ≡ Some Answer.Swept
    pub full : x.full ≡ true → AwaitedCycle e.actor before x.op

  abbrev pub Awaits : List (Entry Op) → Type 0
  Awaits es = (e : Entry Op) (before : List (Entry Op)) (x : Act) → IsStartOf (e ∷ before) es → done_at (processor_kind setup.shapes setup.layout) (deeds setup.layout setup.shapes) before e ≡ Some x → HasAwaited e before x

  -- each cycle that begins was opened, and no other since; so each was asked for, but the last
  abbrev pub AllWereOpened : List (Entry Op) → Type 0
  AllWereOpened es = (k : ℕ) (begun : List (Entry Op)) → IsStartOf begun es → BeginsCycle k begun → WasOpened setup k begun

  -- Of the next step of an actor: of a processor, a worker or the coordinator.

  -- the actor behind the list, where this operation begins, or none does
  abbrev pub next_of : List (Entry Op) → (a : ℕ) → Option Op → Actor
  next_of es a o = started (actors setup) o (actors_after arena setup.pacing setup.may es a)

  -- the actor may step so: all that a legal entry of it needs, but that the word that it asks for is there
  pub record MayStep (es : List (Entry Op)) (a : ℕ) (o : Option Op) : Type 0 where
    pub seat : a < seats_of setup.layout
    pub begins : Begins (those setup) a es o
    pub runs : is_busy (next_of es a o) ≡ true

  -- each step that an actor may make is on a word that there is; so that condition is always met
  abbrev pub StepsWithin : List (Entry Op) → Type 0
  StepsWithin es = (a : ℕ) (o : Option Op) → MayStep es a o → InRange setup.layout (cell_of (asks setup.layout (next_of es a o)))

  pub record AllStands (es : List (Entry Op)) : Type 0 where
    pub stands : ListStands arena (first_words setup) es
    -- whichever search for a slot ends without room, the first of a `new` or the one after its wait, there was none
    pub no_room : NoneMeansNoRoom setup es
    pub awaits : Awaits es
    pub within : StepsWithin es
    pub objects : AreNamed (ever es).made (words es)
    pub apart : StandApart es
    pub asked : AllWereAsked setup es
    pub opened : AllWereOpened es
    pub numbers : (c : Coordinating) → IsLed es c → CountsPlainly (those setup) setup.pacing.room es c
    pub frees : FreesTheUnreached es
    pub frees_within_two : FreesWithinTwo es
    pub ends : EndsAllMarked es
    pub until : StandsUntilItsEnd es
    pub standing : (c : Coordinating) → IsLed es c → leading.Marks c.stage → StandsSoFar es c
    -- a stack is scanned once in a cycle; what the numbers of spans say, and what a sweep has left; who knows of a phase, and who marks
    pub scans : ScansOnce setup es
    -- in each cycle workers scan no more words than there are
    pub scanned : FewAreScanned setup es
    -- and they count each global exactly once
    pub globals : (c : Coordinating) → IsLed es c → GlobalsAreCounted setup es c
    pub sweeps : SweepsStand setup es
    -- which spans there are, and who owns how many
    pub spans : SpansStand setup.shapes setup.layout (words es)
    pub phases : PhasesStand setup es
    pub drawn : (c : Coordinating) → IsLed es c → leading.Marks c.stage → CycleIsDrawn setup es c
    -- and its state of marking has what there is, so it is no empty one
    pub shows : (c : Coordinating) (led : IsLed es c) (on : leading.Marks c.stage) → ShowsWhatThereIs setup es (drawn c led on).shared
    pub counts : (c : Coordinating) → IsLed es c → AllWereCounted es c
    pub said : (c : Coordinating) → IsLed es c → CountsAreSaid es c
    -- at every moment the heap's word is the bytes of the slots of all objects that stand, less those that are placed and not counted yet, and with those that sweeps have cleared and not taken off yet
    pub heap_bytes : HeapIsCounted setup es
    pub last : (c : Coordinating) → IsLed es c → c.stage ≡ Done → LeavesTheReached es c

-- Whatever the types' shapes, the heap's layout, its pacing, how many objects and cycles each goroutine may ask for, and however many processors and workers there are: after every legal list of their steps, in every order, also while a cycle is marked.
abbrev pub EveryListOfActorsStands : Type 0
EveryListOfActorsStands = (given : Given) (es : List (Entry Op)) → ShapesAreGood given.shapes → IsInLimits given.layout → total given.counts given.layout.goroutines ≤ MOST_STATEMENTS →
    Legal (those (setup_for given)) es → AllStands (setup_for given) es
