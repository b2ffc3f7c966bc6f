-- The coordinator: what it asks for at each stage, where that leads, and what it gives.
use Rattle.std.specs.Prelude.{ℕ, ◌+◌, ◌-◌, ◌%◌, ◌^◌, Bool, true, false, min, nat_lt, ◌==◌, if◌then◌else◌, [], Option, Some, None}
use Rattle.gh_coord.specs.Vocabulary.{ack_row, All, Ask, bit, Cell, Check, Close, CoordStage, Count, Counted, Cycle, Done, GONE, Layout, Load, LoadAck, LoadWant, MarkOn, NotYet, Open, Phase, phase_word, Stop, StopAgain, Store, Sweep, Sweeping, Tell, Watch, Watched}
use Rattle.gh_coord.specs.Closing as close
use Rattle.gh_coord.specs.Counting as count
use Rattle.gh_coord.specs.Keeping.{Kept, kept_with_cycle, last_kept}
use Rattle.gh_coord.specs.Opening as open_
use Rattle.gh_coord.specs.Pacing.{next_goal, next_trigger, next_work}
use Rattle.gh_coord.specs.Stopping as stop
use Rattle.gh_coord.specs.SweepingAll as sweep
use Rattle.gh_coord.specs.Telling as tell
use Rattle.gh_coord.specs.Watching as watch
use Rattle.gh_base.specs.declared.pack.TallyWord.{TallyWord}

-- What the coordinator knows: its seat and pacing, and where the acknowledgements begin; the numbers of the stops and of the cycle, and the sweep generation; the bytes marked of the last swept cycle; the credit that had lapsed by the last cycle; that each processor is done; how often it has stored the phase word; the cycles that it keeps; and its stage.
pub record Coordinating : Type 0 where
  pub seat : ℕ
  pub gogc : ℕ
  pub minheap : ℕ
  pub first_ack : ℕ
  pub stops : ℕ
  pub begun : ℕ
  pub generation : ℕ
  pub live : ℕ
  pub lapsed : ℕ
  pub is_last : Bool
  pub marks : ℕ
  pub cycles : Kept
  pub stage : CoordStage

abbrev pub opening : Layout → (seat gogc minheap room : ℕ) → Coordinating
opening l seat gogc minheap room = record {
  seat = seat;
  gogc = gogc;
  minheap = minheap;
  first_ack = ack_row l;
  stops = 0;
  begun = 0;
  generation = 2;
  live = 0;
  lapsed = 0;
  is_last = false;
  marks = 0;
  cycles = record { items = []; room = room };
  stage = LoadAck 0;
}

abbrev pub at_stage : Coordinating → CoordStage → Coordinating
at_stage s stage = record s { stage = stage }

-- the next number of a stop, that of a cycle, and the next sweep generation: each begins anew where its word ends
abbrev pub next_stop : ℕ → ℕ
next_stop stops = (stops + 1) % 2 ^ 62

abbrev pub next_cycle : ℕ → ℕ
next_cycle begun = (begun + 1) % 2 ^ 64

abbrev pub next_generation : ℕ → ℕ
next_generation generation = (generation + 2) % 2 ^ 34

-- the cycle as it is kept
abbrev pub cycle_of : (k : ℕ) → TallyWord → Cycle
cycle_of k t = record { k = k; marked = t.marked; freed = t.freed }

abbrev pub asks_at : Layout → Coordinating → CoordStage → Ask
asks_at l s (LoadAck i) = Load (Cell.Ack i)
asks_at l s LoadWant = Load Cell.Want
asks_at l s (Stop st) = stop.asks st
asks_at l s (Open o) = open_.asks o
asks_at l s (Watch w) = watch.asks l w
asks_at l s (StopAgain st) = stop.asks st
asks_at l s (Check w) = watch.asks l w
asks_at l s MarkOn = Store Cell.Phase (phase_word (record { stops = s.stops; phase = Phase.Mark }))
asks_at l s (Close c) = close.asks c
asks_at l s (Sweep w) = sweep.asks l w
asks_at l s (Count c) = count.asks c
asks_at l s (Tell t) = tell.asks t
asks_at l s Done = Load Cell.Touch

module _ (s : Coordinating) where
  -- it begins to stop the world, for a cycle that is to be opened or for the check that marking is over
  abbrev pub stops_world : Coordinating
  stops_world = record s { stops = next_stop s.stops; stage = Stop (stop.opening (next_stop s.stops)) }

  abbrev pub stops_again : Coordinating
  stops_again = record s { stops = next_stop s.stops; stage = StopAgain (stop.opening (next_stop s.stops)) }

  abbrev pub watches : Coordinating
  watches = at_stage s (Watch (watch.opening s.begun))

  abbrev pub checks : Coordinating
  checks = at_stage s (Check (watch.opening s.begun))

  abbrev pub closes : Coordinating
  closes = record s { generation = next_generation s.generation; stage = Close (close.opening s.lapsed (next_generation s.generation) s.stops) }

  -- where so much credit has lapsed by now
  abbrev pub sweeps : (lapsed : ℕ) → Coordinating
  sweeps lapsed = record s { lapsed = lapsed; stage = Sweep (sweep.opening s.generation) }

  abbrev pub counts : Coordinating
  counts = at_stage s (Count count.opening)

module _ (l : Layout) (s : Coordinating) where
  -- it opens a cycle, with the work and the goal by what the last left live
  abbrev pub opens : Coordinating
  opens = record s { begun = next_cycle s.begun; stage = Open (open_.opening s.stops (next_cycle s.begun) (next_work l s.gogc s.minheap s.live) (next_goal l s.gogc s.minheap s.live)) }

  -- the cycle is kept, by what was counted, and the trigger is that of the next
  abbrev pub tells : Counted → Coordinating
  tells c = record s { live = c.live; cycles = kept_with_cycle s.cycles (cycle_of s.begun c.tally); stage = Tell (tell.opening (next_trigger l s.gogc s.minheap c.live) s.begun s.stops s.is_last) }

  -- a processor is found to be done, or not
  abbrev pub after_ack : (i found : ℕ) → Coordinating
  after_ack i found = if found == GONE then (if nat_lt (i + 1) l.procs then at_stage s (LoadAck (i + 1)) else stops_world (record s { is_last = true })) else at_stage s LoadWant

  -- after a step of a part, by what that gave
  abbrev pub after_stop : Option (Unit {0}) → Coordinating
  after_stop None = s
  after_stop (Some u) = opens

  abbrev pub after_count : Option Counted → Coordinating
  after_count None = s
  after_count (Some c) = tells c

module _ (s : Coordinating) where
  abbrev pub after_want : (found : ℕ) → Coordinating
  after_want found = if found == 0 then at_stage s (LoadAck 0) else stops_world s

  abbrev pub after_open : Option (Unit {0}) → Coordinating
  after_open None = s
  after_open (Some u) = watches s

  abbrev pub after_watch : Option Watched → Coordinating
  after_watch None = s
  after_watch (Some All) = stops_again s
  after_watch (Some NotYet) = watches s

  abbrev pub after_stop_again : Option (Unit {0}) → Coordinating
  after_stop_again None = s
  after_stop_again (Some u) = checks s

  abbrev pub after_check : Option Watched → Coordinating
  after_check None = s
  after_check (Some All) = closes s
  after_check (Some NotYet) = at_stage s MarkOn

  abbrev pub after_close : Option ℕ → Coordinating
  after_close None = s
  after_close (Some lapsed) = sweeps s lapsed

  abbrev pub after_sweep : Option (Unit {0}) → Coordinating
  after_sweep None = s
  after_sweep (Some u) = counts s

  abbrev pub after_tell : Option (Unit {0}) → Coordinating
  after_tell None = s
  after_tell (Some u) = at_stage s (if s.is_last then Done else LoadAck 0)

abbrev pub goes_at : Layout → Coordinating → CoordStage → ℕ → Coordinating
goes_at l s (LoadAck i) found = after_ack l s i found
goes_at l s LoadWant found = after_want s found
goes_at l s (Stop st) found = after_stop l (at_stage s (Stop (stop.goes l st found))) (stop.given (stop.goes l st found))
goes_at l s (Open o) found = after_open (at_stage s (Open (open_.goes o found))) (open_.given (open_.goes o found))
goes_at l s (Watch w) found = after_watch (at_stage s (Watch (watch.goes l w found))) (watch.given (watch.goes l w found))
goes_at l s (StopAgain st) found = after_stop_again (at_stage s (StopAgain (stop.goes l st found))) (stop.given (stop.goes l st found))
goes_at l s (Check w) found = after_check (at_stage s (Check (watch.goes l w found))) (watch.given (watch.goes l w found))
goes_at l s MarkOn found = watches s
goes_at l s (Close c) found = after_close (at_stage s (Close (close.goes c found))) (close.given (close.goes c found))
goes_at l s (Sweep w) found = after_sweep (at_stage s (Sweep (sweep.goes l w found))) (sweep.given (sweep.goes l w found))
goes_at l s (Count c) found = after_count l (at_stage s (Count (count.goes c found))) (count.given (count.goes c found))
goes_at l s (Tell t) found = after_tell (at_stage s (Tell (tell.goes t found))) (tell.given (tell.goes t found))
goes_at l s Done found = s

-- it waits until each processor is done, or a cycle is asked for
abbrev pub is_idle : CoordStage → Bool
is_idle (LoadAck i) = true
is_idle LoadWant = true
is_idle _ = false

abbrev pub is_busy : CoordStage → Bool
is_busy (Stop st) = stop.is_busy st.stage
is_busy (Open o) = open_.is_busy o.stage
is_busy (Watch w) = watch.is_busy w.stage
is_busy (StopAgain st) = stop.is_busy st.stage
is_busy (Check w) = watch.is_busy w.stage
is_busy (Close c) = close.is_busy c.stage
is_busy (Sweep w) = sweep.is_busy w.stage
is_busy (Count c) = count.is_busy c.stage
is_busy (Tell t) = tell.is_busy t.stage
is_busy Done = false
is_busy _ = true

-- its marking has ended, or is being ended
abbrev pub is_ending : CoordStage → Bool
is_ending (Close c) = true
is_ending (Sweep w) = true
is_ending (Count c) = true
is_ending (Tell t) = true
is_ending Done = true
is_ending _ = false

-- its next step stores the phase word
abbrev pub stores_phase : CoordStage → Bool
stores_phase (Stop st) = stop.stores_phase st.stage
stores_phase (StopAgain st) = stop.stores_phase st.stage
stores_phase (Open o) = open_.stores_phase o.stage
stores_phase MarkOn = true
stores_phase (Close c) = close.stores_phase c.stage
stores_phase (Tell t) = tell.stores_phase t.stage
stores_phase _ = false

-- the cycle that its next step tells to be swept, if it does: the one that it has kept last
abbrev pub told_at : Kept → CoordStage → Option Cycle
told_at cycles (Tell t) = if tell.stores_swept t.stage then last_kept cycles else None
told_at cycles _ = None

-- its marks are how often it has stored the phase word, and stand still at the end of their type
abbrev pub phase_marks_after : (marks : ℕ) → CoordStage → ℕ
phase_marks_after marks stage = min (marks + bit (stores_phase stage)) (2 ^ 64 - 1)

-- the credit that has lapsed by now
abbrev pub lapsed_at : (lapsed : ℕ) → CoordStage → ℕ
lapsed_at lapsed (Close c) = c.lapsed
lapsed_at lapsed _ = lapsed

abbrev pub is_done_at : CoordStage → Bool
is_done_at Done = true
is_done_at _ = false

abbrev pub given_at : CoordStage → Option (Unit {0})
given_at Done = Some tt
given_at _ = None

abbrev pub asks : Layout → Coordinating → Ask
asks l s = asks_at l s s.stage

abbrev pub counted : Coordinating → Coordinating
counted s = record s { marks = phase_marks_after s.marks s.stage }

abbrev pub goes : Layout → Coordinating → ℕ → Coordinating
goes l s found = goes_at l (counted s) s.stage found

abbrev pub given : Coordinating → Option (Unit {0})
given s = given_at s.stage

-- the sweep of a span that it runs, if it runs one
abbrev pub sweep_at : CoordStage → Option Sweeping
sweep_at (Sweep w) = sweep.sweep_at w.stage
sweep_at _ = None

abbrev pub sweep_in : Coordinating → Option Sweeping
sweep_in s = sweep_at s.stage
