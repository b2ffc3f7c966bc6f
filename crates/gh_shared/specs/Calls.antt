-- What the calls of a heap ask for, and what they do.
use Rattle.std.specs.Prelude.{◌≡◌, ℕ, ◌+◌, ◌-◌, ◌%◌, ◌^◌, ◌<◌, ◌≤◌, true, false, not, ◌&&◌, if◌then◌else◌, List, length, Option, Some, None, ◌||◌, ◌++◌}
use Rattle.gh_shared.specs.Vocabulary.{acks_of, Actor, Answer, answers_of, AnswersAsEver, arena_of, asks, asks_collector, at_seat, BeganAsEach, begins, by, Carries, Coordinating, ends, Entry, Gave, given_of, gives, goes, goroutine_of, has, HeapActor, IsProcessor, LaysOut, leaves, Legal, Op, Planned, Ran, SawLegalList, seats_of, setting, setup_of, ShowsCells, spent_among, state_of, View, words_after}
use Rattle.gh_base.specs.declared.limits.TheConstants.{REGISTERS}
use Rattle.gh_coord.specs.Listing.{is_done_at}
use Rattle.gh_explained.specs.Lists.{CreditStands, RoomStands}
use Rattle.gh_script.specs.Program.{WellFormed}
use Rattle.gh_world.specs.Below.{AllStands}
use Rattle.gh_mutator.specs.Listing.{is_busy_at}
use Rattle.gh_shared.specs.declared.handle.Handle.{Handle}
use Rattle.gh_shared.specs.declared.heap.Heap.{Heap}
use Rattle.gh_shared.specs.Credit.{CreditIsSettled}
use Rattle.gh_shared.specs.Handles.{carries_of, ended_of, IsHandleOf, layout_of, left_of, machine_of, number_of, own_of, room_at, runs_in, view_of}
use Rattle.gh_shared.specs.Shown.{left_by, runs_by}

-- the handle of a processor of this heap that has not ended
pub record IsGoing (heap : Heap) (h : Handle) : Type 0 where
  pub of : IsHandleOf heap h
  pub processor : IsProcessor (machine_of h)
  pub going : ended_of h ≡ false

module _ (p : Planned) (a : ℕ) (x : HeapActor) (own : List (Entry Op)) where
  -- the goroutine, if one is named, is one of the processor that has not ended
  abbrev pub RunsIt : Option ℕ → Type 0
  RunsIt None = Unit {0}
  RunsIt (Some g) = runs_by p a own g ≡ true

  -- the operation's registers, type and global are there; a further `new` or `gc` is left; a store has room for its entries; and who leaves has no goroutine left
  abbrev pub Fits : Op → Type 0
  Fits (Op.New g d t) = (d < REGISTERS) × (t < length p.script.shapes) × (1 ≤ left_by p own g)
  Fits (Op.Load g d b k) = (d < REGISTERS) × (b < REGISTERS)
  Fits (Op.Store g b k v) = (b < REGISTERS) × (v < REGISTERS) × (2 ≤ room_at x)
  Fits (Op.GetGlobal g d k) = (d < REGISTERS) × (k < p.layout.globals)
  Fits (Op.SetGlobal g k v) = (v < REGISTERS) × (k < p.layout.globals) × (2 ≤ room_at x)
  Fits (Op.Int g d n) = d < REGISTERS
  Fits (Op.Move g d s) = (d < REGISTERS) × (s < REGISTERS)
  Fits (Op.Nil g d) = d < REGISTERS
  Fits (Op.Gc g) = 1 ≤ left_by p own g
  Fits Op.Poll = Unit {0}
  Fits (Op.End g) = Unit {0}
  Fits Op.Leave = (g : ℕ) → runs_by p a own g ≡ false

-- the processor may begin the operation
pub record May (heap : Heap) (h : Handle) (o : Op) : Type 0 where
  pub going : IsGoing heap h
  pub runs : RunsIt (view_of h).plan (number_of h) (machine_of h) (own_of h) (goroutine_of o)
  pub fits : Fits (view_of h).plan (number_of h) (machine_of h) (own_of h) o

-- what the handle of a processor shows once this was begun, where nothing had ended
pub record ShowsAfter (o : Op) (h h' : Handle) : Type 0 where
  pub processor : IsProcessor (machine_of h')
  pub left : (g : ℕ) → left_of h' g ≡ left_of h g - (if asks_collector g (Some o) then 1 else 0)
  pub runs : (g : ℕ) → runs_in h' g ≡ (runs_in h g && not (ends (Some o) g))
  pub ended : ended_of h' ≡ leaves (Some o)

-- The operation was begun and ran to its end. The actor's entries are as before, followed by exactly its own; the answer is what the machine answers after them; and the seat has seen a legal list with them, which stands now.
pub record Operated (heap : Heap) (o : Op) (h h' : Handle) (answer : Answer) (founds : List ℕ) : Type 0 where
  pub of : IsHandleOf heap h'
  pub number : number_of h' ≡ number_of h
  pub ran : Ran (asks (layout_of h)) (goes (layout_of h)) (number_of h) (Some o) (begins (machine_of h) o) h.hand.seat.me (machine_of h') h'.hand.seat.me founds
  pub gave : Gave (goes (layout_of h)) (gives (layout_of h)) (begins (machine_of h) o) founds (Some answer)
  pub saw : SawLegalList setting (number_of h') h.hand.seat.me h'.hand.seat.me
  pub shows : ShowsAfter o h h'

-- and so it did within so many steps
pub record OperatedWithin (heap : Heap) (o : Op) (most : ℕ) (h h' : Handle) (answer : Answer) : Type 0 where
  pub founds : List ℕ
  pub few : length founds ≤ most
  pub did : Operated heap o h h' answer founds

-- ---- what lists of a heap's steps keep

-- all stands that stands after each legal list of a script
abbrev pub EveryListStands : Planned → Type 0
EveryListStands p = (es : List (Entry Op)) → Legal (setting p) es → AllStands (setup_of p.script p.layout) es

-- The processor was answered as the heap that never frees answers it; and where it rests behind the list, exactly what that heap answers it was given.
pub record WasAnswered (p : Planned) (a : ℕ) (es : List (Entry Op)) : Type 0 where
  pub as_ever : AnswersAsEver (arena_of p.script.shapes p.layout) (setting p).opening a es
  pub resting : is_busy_at (at_seat (arena_of p.script.shapes p.layout) (setting p).opening es a).task ≡ false → answers_of (arena_of p.script.shapes p.layout) (setting p).opening a es ≡ given_of (arena_of p.script.shapes p.layout) (setting p).opening a es

-- so it is after each legal list, of each processor
abbrev pub AnswersAreEvers : Planned → Type 0
AnswersAreEvers p = (es : List (Entry Op)) (a : ℕ) → Legal (setting p) es → a < p.layout.procs → WasAnswered p a es

-- and credit balances: what workers have earned was spent, has lapsed, or is in the bank
abbrev pub EveryListBalances : Planned → Type 0
EveryListBalances p = (es : List (Entry Op)) → Legal (setting p) es → CreditStands (setup_of p.script p.layout) es

-- and there is a grey work buffer that nobody holds and into which two entries more go
abbrev pub EveryListHasRoom : Planned → Type 0
EveryListHasRoom p = (es : List (Entry Op)) → Legal (setting p) es → RoomStands p.layout (words_after (setting p).opening es)

-- ---- other actors

-- The actor has made these steps and no others, and is done by them
pub record RanToItsEnd (heap : Heap) (h h' : Handle) (founds : List ℕ) : Type 0 where
  pub of : IsHandleOf heap h'
  pub number : number_of h' ≡ number_of h
  pub ran : Ran (asks (layout_of h)) (goes (layout_of h)) (number_of h) None (machine_of h) h.hand.seat.me (machine_of h') h'.hand.seat.me founds
  pub saw : SawLegalList setting (number_of h') h.hand.seat.me h'.hand.seat.me
  pub ended : ended_of h' ≡ true

-- ---- handles that are gathered

-- the handle carries what both carried: of its own actors the entries that it had, of the others those of the other handle
pub record Gathered (h other h' : Handle) : Type 0 where
  pub carries : (a : ℕ) → has (view_of h').actors a ≡ (has (view_of h).actors a || has (view_of other).actors a)
  pub own : (a : ℕ) → Carries (view_of h) a → by a (view_of h').log ≡ by a (view_of h).log
  pub others : (a : ℕ) → has (view_of h).actors a ≡ false → by a (view_of h').log ≡ by a (view_of other).log
  pub seen : (view_of h').seen ≡ (view_of h).seen ++ (view_of other).seen
  pub many : carries_of h' ≡ carries_of h + carries_of other

-- ---- the close

-- The words are those after one legal list, which has of each actor exactly the entries of the handle, and began as all that the handle has seen; this is the coordinator after its entries in that list, and so much all processors have drawn by theirs; and where the coordinator is done all credit of the list is settled
pub record IsClosedAfter (p : Planned) (v : View Planned Op) (c : Coordinating) (drawn : ℕ) (ws : List ℕ) : Type 0 where
  pub list : List (Entry Op)
  pub legal : Legal (setting p) list
  pub words : ShowsCells p.layout ws (words_after (setting p).opening list)
  pub entries : (a : ℕ) → a < seats_of p.layout → by a list ≡ by a v.log
  pub seen : BeganAsEach v.seen list
  pub coordinator : Actor.Leads c ≡ state_of (setting p).kind (acks_of p.layout) list
  pub spent : drawn ≡ spent_among (λ a. state_of (setting p).kind a list) (seats_of p.layout) % 2 ^ 64
  pub settled : WellFormed p.script → LaysOut p.script p.layout → is_done_at c.stage ≡ true → CreditIsSettled p list c drawn
