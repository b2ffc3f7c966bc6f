-- An actor with the layout of its heap, as a machine at a seat of a table.
use Rattle.std.specs.Prelude.{◌≡◌, ℕ, Bool, Option}
use Rattle.gh_actor.specs.Vocabulary.{Actor, Answer, Ask, HeapActor, Layout, Leads, Marks, Op, Runs, SoundMutating}
use Rattle.gh_base.specs.Routines.{Listing}
use Rattle.gh_coord.specs.Sound.{SoundCoordinating}
use Rattle.gh_worker.specs.Sound.{SoundWorking}
use Rattle.gh_actor.specs.Machines as actor
use Rattle.gh_actor.specs.Machines.{HasShapes, machine_actor, machine_marks, MachineMayBegin}
use Rattle.gh_actor.specs.Plans.{Planned}

pub record Acting : Type 0 where
  pub layout : Layout
  pub actor : HeapActor

-- what is known of the actor's numbers, whatever it found
abbrev pub IsSoundIn : Layout → HeapActor → Type 0
IsSoundIn l (Runs m) = SoundMutating l m.shapes m.processor
IsSoundIn l (Marks w) = SoundWorking l w
IsSoundIn l (Leads c) = SoundCoordinating l c

-- its steps are the actor's
abbrev pub layout_of : Acting → Layout
layout_of x = x.layout

abbrev pub is_busy : Acting → Bool
is_busy x = actor.is_busy x.actor

abbrev pub asks : Acting → Ask
asks x = actor.asks x.layout x.actor

abbrev pub goes : Acting → ℕ → Acting
goes x found = record x { actor = actor.goes x.layout x.actor found }

abbrev pub gives : Acting → ℕ → Option (Option Answer)
gives x found = actor.gives x.layout x.actor found

abbrev pub listing : Listing Acting (Option Answer)
listing = record { layout = layout_of; busy = is_busy; asks = asks; goes = goes; gives = gives }

abbrev pub marked : Acting → ℕ
marked x = machine_marks x.actor

-- which actor of the lists it is, and that it is one of this heap
abbrev pub acts_as : Acting → Actor
acts_as x = machine_actor x.actor

abbrev pub BelongsTo : Planned → Layout → HeapActor → Type 0
BelongsTo p l x = (l ≡ p.layout) × HasShapes p x

abbrev pub Belongs : Planned → Acting → Type 0
Belongs p x = BelongsTo p x.layout x.actor

-- operations
abbrev pub MayBegin : Acting → Op → Type 0
MayBegin x o = MachineMayBegin x.layout x.actor o

abbrev pub begins : Acting → Op → Acting
begins x o = record x { actor = actor.begins x.actor o }
