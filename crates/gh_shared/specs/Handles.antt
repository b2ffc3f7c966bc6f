-- What a handle is, and which handles a heap opens with.
use Rattle.std.specs.Prelude.{◌≡◌, ℕ, Bool, not, List, length, slice_get, Some}
use Rattle.gh_shared.specs.Vocabulary.{by, Entry, has_left, HeapActor, Layout, LaysOut, Leads, length_of, Marks, one_carried, Op, opening, Planned, Runs, seats_of, View}
use Rattle.gh_coord.specs.Listing as coord
use Rattle.gh_poll.specs.Room.{room_in}
use Rattle.gh_script.specs.Program.{Program}
use Rattle.gh_worker.specs.Listing as worker
use Rattle.gh_shared.specs.declared.handle.Handle.{Handle}
use Rattle.gh_shared.specs.declared.heap.Heap.{Heap}
use Rattle.gh_shared.specs.Shown.{count_among, left_by, runs_by}

-- what the heap is of
abbrev pub plan_of : Heap → Planned
plan_of heap = heap.table.shared.key

-- the actor's number, the actor, what its seat knows, and the layout of its heap
abbrev pub number_of : Handle → ℕ
number_of h = h.hand.actor

abbrev pub machine_of : Handle → HeapActor
machine_of h = h.hand.machine.actor

abbrev pub view_of : Handle → View Planned Op
view_of h = h.hand.seat.me.0

abbrev pub layout_of : Handle → Layout
layout_of h = (view_of h).plan.layout

-- its own entries
abbrev pub own_of : Handle → List (Entry Op)
own_of h = by (number_of h) (view_of h).log

-- goroutine g is one of its processor, and has not ended
abbrev pub runs_in : Handle → (g : ℕ) → Bool
runs_in h g = runs_by (view_of h).plan (number_of h) (own_of h) g

-- how many `new` and `gc` of goroutine g have not begun
abbrev pub left_of : Handle → (g : ℕ) → ℕ
left_of h g = left_by (view_of h).plan (own_of h) g

-- how many entries more a processor has room for, as it knows
abbrev pub room_at : HeapActor → ℕ
room_at (Runs m) = room_in m.processor.poll
room_at _ = 0

abbrev pub room_of : Handle → ℕ
room_of h = room_at (machine_of h)

-- how many actors its seat carries
abbrev pub carries_of : Handle → ℕ
carries_of h = count_among (view_of h).actors (seats_of (view_of h).plan.layout)

-- a processor has ended where it has begun to leave, and each other actor where it is done
abbrev pub ended_at : HeapActor → List (Entry Op) → Bool
ended_at (Runs m) own = has_left own
ended_at (Marks w) own = not (worker.is_busy w.stage)
ended_at (Leads c) own = coord.is_done_at c.stage

abbrev pub ended_of : Handle → Bool
ended_of h = ended_at (machine_of h) (own_of h)

-- the handle is one of this heap
pub record IsHandleOf (heap : Heap) (h : Handle) : Type 0 where
  pub table : h.hand.seat.table_id ≡ heap.table.shared.table_id
  pub plan : (view_of h).plan ≡ plan_of heap

-- the heap runs this script, in the words of the layout that it has
pub record IsHeapOf (p : Program) (heap : Heap) : Type 0 where
  pub script : (plan_of heap).script ≡ p
  pub layout : LaysOut p (plan_of heap).layout
  pub words : heap.table.shared.table_id.words ≡ length_of (plan_of heap).layout

-- the actor of this number, before its first step, whom this handle carries and no other
pub record IsFresh (heap : Heap) (a : ℕ) (h : Handle) : Type 0 where
  pub of : IsHandleOf heap h
  pub number : number_of h ≡ a
  pub machine : machine_of h ≡ opening (plan_of heap) a
  pub view : view_of h ≡ one_carried (plan_of heap) a

-- one for each actor, in the order of their numbers
pub record AreFresh (heap : Heap) (handles : List Handle) : Type 0 where
  pub many : length handles ≡ seats_of (plan_of heap).layout
  pub each : (a : ℕ) (h : Handle) → slice_get handles a ≡ Some h → IsFresh heap a h
