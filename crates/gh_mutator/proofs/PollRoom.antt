-- A poll of a turn's own makes room for the store behind it, whatever words it is told.
use Rattle.std.proofs.Common.{◌≡◌, ℕ, Bool, true, false, cond, List, Option, Some, None, refl, arith}
use Rattle.gh_mutator.proofs.Vocabulary.{after_mark, after_poll, after_resume, after_room, by_phase, counted, given, giving, goes_at, has_room, has_two, Held, is_busy_at, is_mark, Layout, Local, marks_then, nat_tests, Op, phase_of, Polling, PollStage, Processor, Resumed, resumed, RunPhase, scanned, Shape, stops_then, takes_at, Task}
use Rattle.gh_phase.specs.Listing as resume
use Rattle.gh_wbuf.specs.declared.find_room.RoomStage.{RoomStage}
use Rattle.gh_wbuf.specs.RoomFinding as room
use Rattle.gh_poll.specs.Collecting.{run_phase}
use Rattle.gh_poll.specs.Give as give
use Rattle.gh_poll.specs.MarkStack as mark
use Rattle.gh_mutator.specs.PollRoom.{HasRoomToStore, LooksForRoom, MakesRoom, PollsMakeRoom, RoomAt, RoomBehind, TriesForRoom}

-- The search.

searched : (l : Layout) (r : room.RoomFinding) (p : RoomStage) (found : ℕ) → TriesForRoom p → TriesForRoom (room.goes_at l r p found).stage
searched l r p found k = grind (arith, nat_tests)

found_two : (q : RoomStage) (h : Held) → TriesForRoom q → room.given_at q ≡ Some h → has_two (Some h) ≡ true
found_two q h k e = grind arith

-- The poll.

entries_if : (own : Local) (b : Bool) → has_two own.held ≡ true → cond b (has_two own.held) true ≡ true
entries_if own b two = grind arith

counts : (p : Polling) → p.waits ≡ false → MakesRoom (counted p)
counts p turn = grind arith

marks : (l : Layout) (p : Polling) (phase : RunPhase) → p.local.view.phase ≡ phase → p.waits ≡ false → MakesRoom (marks_then l p phase)
marks l p phase is turn = record { no_wait = grind arith; stage = grind arith }

stops : (p : Polling) (g : give.Giving) (number : ℕ) → p.waits ≡ false → MakesRoom (stops_then p g number)
stops p g number turn = grind arith

goes_so : (l : Layout) (p : Polling) (q : PollStage) (found : ℕ) → p.waits ≡ false → p.stage ≡ q → RoomAt p q → MakesRoom (goes_at l p q found)
goes_so l p PollStage.LoadPhase found turn is k = by (run_phase (phase_of found).phase) where
  by : (phase : Option RunPhase) → MakesRoom (by_phase l p (phase_of found).stops phase)
  by None = stops p (giving p) (phase_of found).stops turn
  by (Some phase) = marks l p p.local.view.phase refl turn
goes_so l p (PollStage.Giving g number) found turn is k = stops p (give.goes g found) number turn
goes_so l p (PollStage.Resuming r) found turn is k = by (resume.gives r found) where
  by : (out : Option Resumed) → MakesRoom (after_resume l p (resume.goes r found) out)
  by None = record { no_wait = turn; stage = tt }
  by (Some out) = marks l (resumed p out) out.view.phase refl turn
goes_so l p (PollStage.Marking g m) found turn is k = by (mark.gives l m found) where
  by : (out : Option (Unit {0})) → MakesRoom (after_mark p g (mark.goes l m found) out)
  by None = record { no_wait = turn; stage = tt }
  by (Some x) = counts (scanned p g (mark.goes l m found).held) turn
goes_so l p (PollStage.FindRoom r) found turn is k = by (room.gives l r found) refl where
  then : TriesForRoom (room.goes l r found).stage
  then = searched l r r.stage found k

  by : (out : Option Held) → room.gives l r found ≡ out → MakesRoom (after_room p (room.goes l r found) out)
  by None e = record { no_wait = turn; stage = then }
  by (Some own) e = record { no_wait = turn; stage = entries_if (record (p.local) { held = Some own }) (is_mark p.local.view.phase) (found_two (room.goes l r found).stage own then e) }
goes_so l p PollStage.Ended found turn is k = record { no_wait = turn; stage = k }

takes_none : (l : Layout) (p : Polling) (q : PollStage) (found : ℕ) → p.stage ≡ q → p.waits ≡ true → LooksForRoom (goes_at l p q found).stage → LooksForRoom q
takes_none l p q found is waits x = grind arith

-- The processor.

polled : (m : Processor) (p : Polling) (q : PollStage) → p.stage ≡ q → MakesRoom p → HasRoomToStore (after_poll m p (given q))
polled m p q is k = grind arith

goes_on : (l : Layout) (shapes : List Shape) (m : Processor) (found : ℕ) (t : Task) → m.task ≡ t → RoomBehind m.poll t → HasRoomToStore (takes_at l shapes m t found)
goes_on l shapes m found t is k = grind (arith, goes_so, polled)

idle_room : (m : Processor) (o : Op) (t : Task) → is_busy_at t ≡ false → RoomBehind m.poll t → has_room m o ≡ true
idle_room m o t idle k = grind arith

pub polls_make_room : PollsMakeRoom
polls_make_room = grind (arith, goes_on, idle_room, takes_none)
