-- The worker: what it asks for at each stage, where that leads, and when it is done.
use Rattle.std.specs.Prelude.{ℕ, ◌+◌, ◌-◌, ◌^◌, Bool, true, false, min, nat_lt, ◌==◌, if◌then◌else◌, Option, Some, None, is_none}
use Rattle.gh_worker.specs.Vocabulary.{Add, Ask, Cell, Claim, Done, Earning, EarningAtStop, FindRoom, first_view, GiveBack, Held, Layout, Leave, Load, LoadCursor, LoadGlobal, LoadPage, LoadPhase, Off, page_of, phase_of, Resuming, Scanning, Shaded, Shading, SpanSweep, Stop, Store, Sweeping, Taking, WorkerStage}
use Rattle.gh_credit.specs.Earning as earn
use Rattle.gh_phase.specs.declared.view.View.{View}
use Rattle.gh_phase.specs.Listing as resume
use Rattle.gh_scan.specs.Listing as scan
use Rattle.gh_shade.specs.Listing as shade
use Rattle.gh_sweep.specs.declared.sweep.SweepEnd.{SweepEnd}
use Rattle.gh_sweep.specs.Listing as sweep
use Rattle.gh_wbuf.specs.BufferGiving as give
use Rattle.gh_wbuf.specs.EntryTaking as take
use Rattle.gh_wbuf.specs.RoomFinding as room
use Rattle.gh_credit.specs.declared.earn.TheConstants.{CREDIT_SLACK}
use Rattle.gh_base.specs.declared.pack.Phase.TheVariants.{Finished, Mark}
use Rattle.gh_base.specs.declared.pack.TheConstants.{GONE}
use Rattle.gh_base.specs.declared.pack.PageWord.TheVariants.{Free, Body, Head}
use Rattle.gh_base.specs.declared.pack.PageWord.{PageWord}
use Rattle.gh_base.specs.declared.pack.Phase.{Phase}
use Rattle.gh_scan.specs.Listing.{reference_in}
use Rattle.gh_phase.specs.declared.resume.Resumed.{Resumed}

-- a worker: the buffer that it holds between its routines, what it knows of the phase, the words that it has scanned, those of them that it has not handed over to the bank of credit yet and those that it has, the page that it looks at next with marking off, and its stage
pub record Working : Type 0 where
  pub seat : ℕ
  pub held : Option Held
  pub view : View
  pub marks : ℕ
  pub scan_work : ℕ
  pub earned : ℕ
  pub page : ℕ
  pub stage : WorkerStage

abbrev pub opening : (seat : ℕ) → Working
opening seat = record { seat = seat; held = None; view = first_view; marks = 0; scan_work = 0; earned = 0; page = 0; stage = LoadPhase }

abbrev pub at_stage : Working → WorkerStage → Working
at_stage w stage = record w { stage = stage }

-- what is held at each stage
abbrev pub held_at : Option Held → WorkerStage → Option Held
held_at held (GiveBack g stops) = give.held_at g.stage
held_at held (Taking t) = take.held_at t.stage
held_at held (Scanning s) = scan.held_at s.held s.stage
held_at held (Shading sh) = sh.held
held_at held (FindRoom sh r) = room.held_at r.stage
held_at held _ = held

-- it has a global in hand from where it has moved the cursor past it until it is done with it: 1, or 0
abbrev pub global_held : WorkerStage → ℕ
global_held (LoadGlobal i) = 1
global_held (Shading sh) = 1
global_held (FindRoom sh r) = 1
global_held _ = 0

-- a count of words with so many more; it stands still at its type's end
abbrev pub counted : (count words : ℕ) → ℕ
counted count words = min (count + words) (2 ^ 64 - 1)

abbrev pub asks_at : Layout → Working → WorkerStage → Ask
asks_at l w LoadPhase = Load Cell.Phase
asks_at l w LoadPage = Load (Cell.Page w.page)
asks_at l w (Sweeping sw) = sweep.asks l sw
asks_at l w (EarningAtStop e stops) = earn.asks e
asks_at l w (GiveBack g stops) = give.asks g
asks_at l w (Resuming r) = resume.asks r
asks_at l w (Taking t) = take.asks t
asks_at l w (Scanning s) = scan.asks l s
asks_at l w (Earning e) = earn.asks e
asks_at l w LoadCursor = Load Cell.Gcur
asks_at l w Claim = Add Cell.Gcur 1
asks_at l w (LoadGlobal i) = Load (Cell.Global i)
asks_at l w (Shading sh) = shade.asks sh
asks_at l w (FindRoom sh r) = room.asks r
asks_at l w Leave = Store (Cell.Ack w.seat) GONE
asks_at l w Done = Load Cell.Touch

-- it acknowledges the stop of this number and goes on
abbrev pub resuming : Working → (stops : ℕ) → WorkerStage
resuming w stops = Resuming (resume.opening w.seat stops w.view)

-- before that it gives the buffer that it holds back
abbrev pub gives_back : Working → (stops : ℕ) → Option Held → WorkerStage
gives_back w stops None = resuming w stops
gives_back w stops (Some h) = GiveBack (give.opening h) stops

-- and first, at a stop, it hands over what it has scanned
abbrev pub stops_at : Working → (stops : ℕ) → Option Held → WorkerStage
stops_at w stops held = if w.scan_work == 0 then gives_back w stops held else EarningAtStop (earn.opening w.scan_work) stops

-- by the phase that was found, with the number of stops
abbrev pub by_phase : Working → (stops : ℕ) → Phase → WorkerStage
by_phase w stops Off = LoadPage
by_phase w stops Mark = Taking (take.opening w.seat w.held)
by_phase w stops Stop = stops_at w stops w.held
by_phase w stops Finished = Leave

-- the page behind this one, and behind the last the first
abbrev pub page_past : Layout → ℕ → ℕ
page_past l page = if nat_lt (page + 1) l.pages then page + 1 else 0

-- it is done with the page at its cursor
abbrev pub page_done : Layout → Working → Working
page_done l w = record w { page = page_past l w.page; stage = LoadPhase }

-- where the page's word is the head of a span that is not swept, it sweeps the span
abbrev pub after_page : Layout → Working → PageWord → Working
after_page l w (Head h) = if h.number + 2 == w.view.generation then at_stage w (Sweeping (sweep.opening w.page h)) else page_done l w
after_page l w Free = page_done l w
after_page l w (Body b) = page_done l w

-- a sweep that is lost another has begun
abbrev pub after_sweep : Layout → Working → SpanSweep → Option SweepEnd → Working
after_sweep l w sw None = at_stage w (Sweeping sw)
after_sweep l w sw (Some end) = page_done l w

-- what it has scanned is handed over, and nothing is left of that
abbrev pub handed_over : Working → WorkerStage → Working
handed_over w stage = record w { scan_work = 0; earned = counted w.earned w.scan_work; stage = stage }

abbrev pub after_earn : Working → earn.Earning → Option (Unit {0}) → Working
after_earn w e None = at_stage w (Earning e)
after_earn w e (Some x) = handed_over w LoadPhase

abbrev pub after_earn_at_stop : Working → earn.Earning → (stops : ℕ) → Option (Unit {0}) → Working
after_earn_at_stop w e stops None = at_stage w (EarningAtStop e stops)
after_earn_at_stop w e stops (Some x) = handed_over w (gives_back w stops w.held)

-- after the buffer is given back none is held
abbrev pub after_give : Working → give.BufferGiving → (stops : ℕ) → Option (Unit {0}) → Working
after_give w g stops None = at_stage w (GiveBack g stops)
after_give w g stops (Some x) = record w { held = None; stage = resuming w stops }

abbrev pub after_resume : Working → resume.Resuming → Option Resumed → Working
after_resume w r None = at_stage w (Resuming r)
after_resume w r (Some out) = record w { view = out.view; stage = LoadPhase }

-- an object that was taken is scanned; with none the next global is looked for
abbrev pub after_take : Working → take.EntryTaking → Option (Option ℕ) → Working
after_take w t None = at_stage w (Taking t)
after_take w t (Some None) = record w { held = take.held_at t.stage; stage = LoadCursor }
after_take w t (Some (Some reference)) = record w { held = take.held_at t.stage; stage = Scanning (scan.opening w.seat reference (take.held_at t.stage)) }

-- where the words that are not handed over are enough, it hands them over
abbrev pub with_work : (scan_work : ℕ) → WorkerStage
with_work scan_work = if nat_lt scan_work CREDIT_SLACK then LoadPhase else Earning (earn.opening scan_work)

-- so many words are scanned, and this is held then
abbrev pub done_with : Working → Option Held → (words : ℕ) → Working
done_with w held words = record w { held = held; marks = counted w.marks words; scan_work = counted w.scan_work words; stage = with_work (counted w.scan_work words) }

abbrev pub after_scan : Working → scan.Scanning → Option ℕ → Working
after_scan w s None = at_stage w (Scanning s)
after_scan w s (Some words) = done_with w (scan.held_at s.held s.stage) words

-- a global that is nil needs no step more; any other is taken modulo the heap's words
abbrev pub after_global : Layout → Working → (found : ℕ) → Working
after_global l w found = if found == 0 then done_with w w.held 1 else at_stage w (Shading (shade.opening (reference_in l found) w.held))

abbrev pub after_shade : Working → shade.Shading → Option Shaded → Working
after_shade w sh None = at_stage w (Shading sh)
after_shade w sh (Some Shaded.Done) = done_with w sh.held 1
after_shade w sh (Some Shaded.WantsRoom) = at_stage w (FindRoom sh (room.opening w.seat sh.held))

abbrev pub after_room : Working → shade.Shading → room.RoomFinding → Option Held → Working
after_room w sh r None = at_stage w (FindRoom sh r)
after_room w sh r (Some h) = at_stage w (Shading (shade.told_room sh h))

abbrev pub goes_at : Layout → Working → WorkerStage → ℕ → Working
goes_at l w LoadPhase found = at_stage w (by_phase w (phase_of found).stops (phase_of found).phase)
goes_at l w LoadPage found = after_page l w (page_of found)
goes_at l w (Sweeping sw) found = after_sweep l w (sweep.goes sw found) (sweep.gives sw found)
goes_at l w (EarningAtStop e stops) found = after_earn_at_stop w (earn.goes e found) stops (earn.gives e found)
goes_at l w (GiveBack g stops) found = after_give w (give.goes g found) stops (give.gives g found)
goes_at l w (Resuming r) found = after_resume w (resume.goes r found) (resume.gives r found)
goes_at l w (Taking t) found = after_take w (take.goes l t found) (take.gives l t found)
goes_at l w (Scanning s) found = after_scan w (scan.goes l s found) (scan.gives l s found)
goes_at l w (Earning e) found = after_earn w (earn.goes e found) (earn.gives e found)
goes_at l w LoadCursor found = at_stage w (if nat_lt found l.globals then Claim else LoadPhase)
goes_at l w Claim found = at_stage w (if nat_lt found l.globals then LoadGlobal found else LoadPhase)
goes_at l w (LoadGlobal i) found = after_global l w found
goes_at l w (Shading sh) found = after_shade w (shade.goes sh found) (shade.gives sh found)
goes_at l w (FindRoom sh r) found = after_room w sh (room.goes l r found) (room.gives l r found)
goes_at l w Leave found = at_stage w Done
goes_at l w Done found = at_stage w Done

-- its next step loads the phase or a page's word
abbrev pub loads_phase_or_page : WorkerStage → Bool
loads_phase_or_page LoadPhase = true
loads_phase_or_page LoadPage = true
loads_phase_or_page _ = false

-- it ends where it is done
abbrev pub given_at : WorkerStage → Option (Unit {0})
given_at Done = Some tt
given_at _ = None

abbrev pub is_busy : WorkerStage → Bool
is_busy stage = is_none (given_at stage)

abbrev pub asks : Layout → Working → Ask
asks l w = asks_at l w w.stage

abbrev pub goes : Layout → Working → ℕ → Working
goes l w found = goes_at l w w.stage found

abbrev pub given : Working → Option (Unit {0})
given w = given_at w.stage

-- the sweep that it runs, if it runs one
abbrev pub sweep_at : WorkerStage → Option SpanSweep
sweep_at (Sweeping sw) = Some sw
sweep_at _ = None

abbrev pub sweep_in : Working → Option SpanSweep
sweep_in w = sweep_at w.stage
