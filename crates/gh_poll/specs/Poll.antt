-- The poll of a processor: what is asked for at each stage, where that leads, and what it has given there.
use Rattle.std.specs.Prelude.{ℕ, ◌+◌, ◌%◌, ◌^◌, Bool, true, false, not, nat_lt, nat_le, ◌==◌, ◌&&◌, if◌then◌else◌, List, [], ◌∷◌, slice_index_or, slice_set, Option, Some, None, is_none}
use Rattle.gh_poll.specs.Vocabulary.{Ask, Cell, END, Ended, ENTRIES, Footprint, Held, Layout, Listing, Load, LoadPhase, Local, Marking, phase_of, PollStage, Resumed, Resuming, run_phase, RunPhase, steps_of}
use Rattle.gh_base.specs.Footprints as row
use Rattle.gh_base.specs.Routines as routine
use Rattle.gh_phase.specs.Listing as resume
use Rattle.gh_wbuf.specs.RoomFinding as room
use Rattle.gh_poll.specs.declared.poll.PollStage.TheVariants.{Giving, FindRoom}
use Rattle.gh_poll.specs.Give as give
use Rattle.gh_poll.specs.MarkStack as mark
use Rattle.gh_poll.specs.PollSound.{SoundPolling}
pub use Rattle.gh_poll.specs.Polling.{Polling}

abbrev pub opening : (seat : ℕ) → Local → (waits : Bool) → Polling
opening seat local waits = record { seat = seat; waits = waits; local = local; stage = LoadPhase }

-- the processor is at no poll
abbrev pub resting : (seat : ℕ) → Local → Polling
resting seat local = record { seat = seat; waits = false; local = local; stage = Ended }

-- it polls, with what it knows
abbrev pub begins : Polling → (waits : Bool) → Polling
begins p waits = record p { waits = waits; stage = LoadPhase }

abbrev pub at_stage : Polling → PollStage → Polling
at_stage p stage = record p { stage = stage }

-- the stack of goroutine g, which was scanned last in this cycle, is to be scanned in that one
abbrev pub is_due : Layout → (seat cycle g last : ℕ) → Bool
is_due l seat cycle g last = nat_lt g l.goroutines && (g % l.procs == seat) && not (last == END) && not (last == cycle)

-- the lowest of these goroutines, numbered from this one, whose stack is to be scanned
abbrev pub first_due : Layout → (seat cycle g : ℕ) → List ℕ → Option ℕ
first_due l seat cycle g [] = None
first_due l seat cycle g (last ∷ others) = if is_due l seat cycle g last then Some g else first_due l seat cycle (g + 1) others

-- after so many polls of its cycle the next scans a stack: it is the first, or the fourth after such a one
abbrev pub is_turn : (polls : ℕ) → Bool
is_turn polls = polls % 4 == 0

abbrev pub due : Layout → Polling → Option ℕ
due l p = if is_turn p.local.polls then first_due l p.seat p.local.view.begun 0 p.local.scanned else None

-- a buffer is held, and two entries go into it
abbrev pub has_two : Option Held → Bool
has_two None = false
has_two (Some h) = nat_le (h.count + 2) ENTRIES

-- a processor that does not wait is to have such a buffer
abbrev pub room_stage : (seat : ℕ) → (waits : Bool) → Option Held → PollStage
room_stage seat true held = Ended
room_stage seat false held = if has_two held then Ended else FindRoom (room.opening seat held)

-- the poll is counted
abbrev pub counted : Polling → Polling
counted p = record p { local = record (p.local) { polls = (p.local.polls + 1) % 2 ^ 64 }; stage = room_stage p.seat p.waits p.local.held }

abbrev pub begins_stack : Layout → Polling → (g : ℕ) → Polling
begins_stack l p g = at_stage p (Marking g (mark.opening l p.seat g p.local.view.begun (slice_index_or p.local.stacks g []) p.local.held))

abbrev pub scans : Layout → Polling → Option ℕ → Polling
scans l p None = counted p
scans l p (Some g) = begins_stack l p g

-- where the world runs: by what the processor knows of the phase
abbrev pub marks_then : Layout → Polling → RunPhase → Polling
marks_then l p RunPhase.Mark = scans l p (due l p)
marks_then l p RunPhase.Off = at_stage p Ended
marks_then l p RunPhase.Finished = at_stage p Ended

-- at the stop of this number it gives back; where nothing is left it acknowledges the stop
abbrev pub stops_then : Polling → give.Giving → (stops : ℕ) → Polling
stops_then p g stops =
    if give.is_busy g.stage then at_stage p (Giving g stops)
    else record p { local = record (p.local) { cache = g.cache; held = g.held }; stage = Resuming (resume.opening p.seat stops p.local.view) }

abbrev pub giving : Polling → give.Giving
giving p = give.opening p.seat p.local.view.generation p.local.cache p.local.held

abbrev pub by_phase : Layout → Polling → (stops : ℕ) → Option RunPhase → Polling
by_phase l p stops None = stops_then p (giving p) stops
by_phase l p stops (Some phase) = marks_then l p p.local.view.phase

-- what is owed behind a stop: where marking is off, or another cycle is marked, it is dropped
abbrev pub owed_in : (another_cycle : Bool) → RunPhase → (owed : ℕ) → ℕ
owed_in false RunPhase.Mark owed = owed
owed_in another_cycle phase owed = 0

abbrev pub owed_then : Resumed → (owed : ℕ) → ℕ
owed_then out owed = owed_in out.another_cycle out.view.phase owed

-- it knows this of the phase from now on; the polls are counted anew in another cycle
abbrev pub resumed : Polling → Resumed → Polling
resumed p out = record p { local = record (p.local) { view = out.view; polls = (if out.another_cycle then 0 else p.local.polls); owed = owed_then out p.local.owed } }

abbrev pub after_resume : Layout → Polling → resume.Resuming → Option Resumed → Polling
after_resume l p r None = at_stage p (Resuming r)
after_resume l p r (Some out) = marks_then l (resumed p out) out.view.phase

-- the stack was scanned in this cycle
abbrev pub scanned : Polling → (g : ℕ) → Option Held → Polling
scanned p g held = record p { local = record (p.local) { held = held; scanned = slice_set p.local.scanned g p.local.view.begun } }

abbrev pub after_mark : Polling → (g : ℕ) → mark.StackMarking → Option (Unit {0}) → Polling
after_mark p g m None = at_stage p (Marking g m)
after_mark p g m (Some x) = counted (scanned p g m.held)

abbrev pub after_room : Polling → room.RoomFinding → Option Held → Polling
after_room p r None = at_stage p (FindRoom r)
after_room p r (Some h) = record p { local = record (p.local) { held = Some h }; stage = Ended }

abbrev pub asks_at : PollStage → Ask
asks_at LoadPhase = Load Cell.Phase
asks_at (Giving g stops) = give.asks g
asks_at (Resuming r) = resume.asks r
asks_at (Marking g m) = mark.asks m
asks_at (FindRoom r) = room.asks r
asks_at Ended = Load Cell.Touch

abbrev pub goes_at : Layout → Polling → PollStage → ℕ → Polling
goes_at l p LoadPhase found = by_phase l p (phase_of found).stops (run_phase (phase_of found).phase)
goes_at l p (Giving g stops) found = stops_then p (give.goes g found) stops
goes_at l p (Resuming r) found = after_resume l p (resume.goes r found) (resume.gives r found)
goes_at l p (Marking g m) found = after_mark p g (mark.goes l m found) (mark.gives l m found)
goes_at l p (FindRoom r) found = after_room p (room.goes l r found) (room.gives l r found)
goes_at l p Ended found = at_stage p Ended

-- what it has given at this stage; it is busy where that is nothing
abbrev pub given : PollStage → Option (Unit {0})
given Ended = Some tt
given _ = None

abbrev pub is_busy : PollStage → Bool
is_busy stage = is_none (given stage)

-- the step that it asks for, what it is after the step found this, and what it ends with if that step is its last
abbrev pub asks : Polling → Ask
asks p = asks_at p.stage

abbrev pub goes : Layout → Polling → ℕ → Polling
goes l p found = goes_at l p p.stage found

abbrev pub gives : Layout → Polling → ℕ → Option (Unit {0})
gives l p found = given (goes l p found).stage

-- its acknowledgement, what the giving back writes, and what the scan of a stack does
abbrev pub writes : Footprint
writes row.Ack = true
writes row.Lock = true
writes row.Page = true
writes r = mark.writes r

abbrev pub listing : Layout → Listing Polling (Unit {0})
listing l = record { asks = asks; goes = goes l; given = λ p. given p.stage; sound = SoundPolling l; writes = writes }

abbrev pub transitions : Layout → routine.Listing Polling (Unit {0})
transitions l = steps_of l (listing l)
