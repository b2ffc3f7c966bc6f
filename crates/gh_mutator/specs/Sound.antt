-- What the processor knows of its own state, whatever words it finds: its numbers are in their ranges.
use Rattle.std.specs.Prelude.{◌≡◌, ℕ, ◌*◌, ◌^◌, ◌<◌, ◌≤◌, nat_lt, Bool, true, false, List, length, slice_index}
use Rattle.gh_mutator.specs.Vocabulary.{cache_with, Global, GlobalStage, has_entries, IsNear, IsRegister, Layout, Load, LoadStage, MOST_STATEMENTS, NewStage, Op, Polling, Register, REGISTERS, Seeking, Shape, Store, StoreStage, Task, Wanted}
use Rattle.gh_mutator.specs.Processing.{Processor}
use Rattle.gh_base.specs.Machines.{Runs}
use Rattle.gh_alloc.specs.Place as place
use Rattle.gh_assist.specs.Listing as assist
use Rattle.gh_alloc.specs.Search as search
use Rattle.gh_alloc.specs.FindSound.{IsSought}
use Rattle.gh_alloc.specs.Within.{words_sought}
use Rattle.gh_barrier.specs.Listing as write
use Rattle.gh_poll.specs.Leave as leave
use Rattle.gh_mutator.specs.New.{is_made}
use Rattle.gh_poll.specs.Poll as poll
use Rattle.gh_mutator.specs.Processor.{made_by, register_of}
use Rattle.gh_mutator.specs.Register.{read_of}
use Rattle.gh_poll.specs.PollSound.{SoundPolling}
use Rattle.gh_poll.specs.WaitSound.{SoundWaiting}

-- a goroutine makes at most so many objects
abbrev pub most_objects : ℕ
most_objects = MOST_STATEMENTS

abbrev pub has_names : Processor → Op → Bool
has_names m (Op.New g d t) = nat_lt (made_by m g) most_objects
has_names m _ = true

-- the operation's registers, type and global are there
abbrev pub SoundOp : List Shape → Layout → Op → Type 0
SoundOp shapes l (Op.New g d t) = IsRegister g d × (t < length shapes)
SoundOp shapes l (Op.Load g d b k) = IsRegister g d × (b < REGISTERS)
SoundOp shapes l (Op.Store g b k v) = IsRegister g b × (v < REGISTERS)
SoundOp shapes l (Op.GetGlobal g d k) = IsRegister g d × (k < l.globals)
SoundOp shapes l (Op.SetGlobal g k v) = IsRegister g v × (k < l.globals)
SoundOp shapes l (Op.Int g d n) = IsRegister g d
SoundOp shapes l (Op.Move g d s) = IsRegister g d × (s < REGISTERS)
SoundOp shapes l (Op.Nil g d) = IsRegister g d
SoundOp shapes l (Op.Gc g) = Unit {0}
SoundOp shapes l Op.Poll = Unit {0}
SoundOp shapes l (Op.End g) = g < l.goroutines
SoundOp shapes l Op.Leave = Unit {0}

-- the words of a slot are at most those of 8191 pages
abbrev pub IsFieldNumber : (k : ℕ) → Type 0
IsFieldNumber k = k < 2 ^ 23

-- a store of a pointer makes two entries at the most, while marking is on
abbrev pub has_room : Processor → Op → Bool
has_room m (Op.Store g b k v) = has_entries m.poll
has_room m (Op.SetGlobal g k v) = has_entries m.poll
has_room m _ = true

-- Statement by statement.

-- behind the page word the field is known to be there
abbrev pub SoundLoadStage : (k : ℕ) → LoadStage → Type 0
SoundLoadStage k LoadStage.Bits = IsFieldNumber k
SoundLoadStage k (LoadStage.Field pointer) = IsFieldNumber k
SoundLoadStage k _ = Unit {0}

pub record SoundLoad (pages : ℕ) (x : Load) : Type 0 where
  pub register : IsRegister x.g x.d
  pub within : x.at < 1024 * pages
  pub stage : SoundLoadStage x.k x.stage

abbrev pub SoundStoreStage : (k : ℕ) → StoreStage → Type 0
SoundStoreStage k StoreStage.Bits = IsFieldNumber k
SoundStoreStage k StoreStage.Field = IsFieldNumber k
SoundStoreStage k _ = Unit {0}

pub record SoundStore (pages : ℕ) (x : Store) : Type 0 where
  pub register : IsRegister x.g x.v
  pub within : x.at < 1024 * pages
  pub stage : SoundStoreStage x.k x.stage

-- there is room for its write, until that is begun; the write is sound, and it is not over
abbrev pub StoreRoom : Layout → Polling → StoreStage → Type 0
StoreRoom l p StoreStage.Page = has_entries p ≡ true
StoreRoom l p StoreStage.Bits = has_entries p ≡ true
StoreRoom l p (StoreStage.Writing w) = Runs (write.listing l) w
StoreRoom l p _ = Unit {0}

pub record SoundGlobal (globals : ℕ) (x : Global) : Type 0 where
  pub register : IsRegister x.g x.r
  pub global : x.k < globals

abbrev pub GlobalRoom : Layout → GlobalStage → Type 0
GlobalRoom l (GlobalStage.Writing w) = Runs (write.listing l) w
GlobalRoom l _ = Unit {0}

pub record SoundRegister (x : Register) : Type 0 where
  pub register : IsRegister x.g x.d
  pub read : read_of x < REGISTERS

-- an object that is to be made: of a span class, or of a span of its own, and of the words of its slot
pub record SoundWanted (shapes : List Shape) (w : Wanted) : Type 0 where
  pub register : IsRegister w.g w.d
  pub type : w.t < length shapes
  pub sought : IsSought w.sought
  pub slot : 1 ≤ w.slot
  pub words : w.slot ≡ words_sought w.sought

-- the search is for this object, it is sound, and it is not over; the span that it has cached is cached with the poll, where to cache it changes nothing
pub record SoundSearch (l : Layout) (p : Polling) (w : Wanted) (s : Seeking) : Type 0 where
  pub runs : Runs (search.listing l) s
  pub wanted : s.find.wanted ≡ w.sought
  pub cached : cache_with p.local.cache w.sought s.find.cached ≡ p.local.cache

abbrev pub SoundNewStage : Layout → Polling → Wanted → NewStage → Type 0
SoundNewStage l p w (NewStage.Search waited s) = SoundSearch l p w s
SoundNewStage l p w (NewStage.Wait x) = SoundWaiting p x
SoundNewStage l p w (NewStage.Place x) = Runs (place.listing l) x
SoundNewStage l p w (NewStage.Want n) = Unit {0}
SoundNewStage l p w (NewStage.Assist n x) = Runs (assist.listing l) x

-- there is a further name for the object that is being made
abbrev pub HasName : (made : ℕ) → NewStage → Type 0
HasName made (NewStage.Place p) = is_made p.stage ≡ false → made < most_objects
HasName made (NewStage.Want n) = Unit {0}
HasName made (NewStage.Assist n x) = Unit {0}
HasName made _ = made < most_objects

-- The processor.

abbrev pub SoundTask : Layout → List Shape → Polling → (made : List ℕ) → Task → Type 0
SoundTask l shapes p made Task.Idle = Unit {0}
SoundTask l shapes p made Task.Left = Unit {0}
SoundTask l shapes p made (Task.Load x) = SoundLoad l.pages x
SoundTask l shapes p made (Task.Store x) = SoundStore l.pages x × StoreRoom l p x.stage
SoundTask l shapes p made (Task.Global x) = SoundGlobal l.globals x × GlobalRoom l x.stage
SoundTask l shapes p made (Task.Register x) = SoundRegister x
SoundTask l shapes p made (Task.New x) = SoundWanted shapes x.wanted × SoundNewStage l p x.wanted x.stage × HasName (slice_index made x.wanted.g) x.stage
SoundTask l shapes p made (Task.Gc g x) = SoundWaiting p x
SoundTask l shapes p made Task.Poll = poll.is_busy p.stage ≡ true
SoundTask l shapes p made (Task.End g) = g < l.goroutines
SoundTask l shapes p made (Task.Leave x) = Runs (leave.listing l) x

-- beside what is known of its poll
pub record Sound (l : Layout) (shapes : List Shape) (m : Processor) : Type 0 where
  pub registers : (g d : ℕ) → IsNear l.pages (register_of m g d)
  pub few : (g : ℕ) → made_by m g ≤ most_objects
  pub task : SoundTask l shapes m.poll m.made m.task

-- the whole processor, in a heap of this layout
pub record SoundMutating (l : Layout) (shapes : List Shape) (m : Processor) : Type 0 where
  pub polls : SoundPolling l m.poll
  pub sound : Sound l shapes m
