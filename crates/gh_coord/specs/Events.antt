-- What a step of the coordinator comes to: its part goes on, or one of these events, each with the stage that follows. What is said of a step is said of the event, by the stage at which it happens; how a part goes on is that part's own.
use Rattle.std.proofs.Common.{◌≡◌, ◌≢◌, ℕ, ◌+◌, ◌<◌, ◌≤◌, ◌==◌, Bool, true, false, cond, ltb, refl, sym, ap, subst, ◌∙◌, arith, Option, Some, None, is_none}
use Rattle.std.proofs.lemmas.Bool.Decides.{nat_tests}
use Rattle.gh_coord.specs.Vocabulary.{All, Check, Close, CloseStage, CoordStage, Count, Counted, Done, GONE, Layout, LoadAck, LoadWant, MarkOn, NotYet, Open, Stop, StopAgain, Sweep, Tell, Watch, Watched}
use Rattle.gh_coord.specs.Closing as close
use Rattle.gh_coord.specs.Counting as count
use Rattle.gh_coord.specs.Listing.{after_check, after_close, after_count, after_open, after_stop, after_stop_again, after_sweep, after_tell, after_watch, at_stage, checks, closes, Coordinating, counts, goes_at, is_busy, opens, stops_again, stops_world, sweeps, tells, watches}
use Rattle.gh_coord.specs.Opening as open_
use Rattle.gh_coord.specs.Stopping as stop
use Rattle.gh_coord.specs.SweepingAll as sweep
use Rattle.gh_coord.specs.Telling as tell
use Rattle.gh_coord.specs.Watching as watch

pub data Event : Type 0 where
  -- its part goes on, and is at this stage then
  GoesOn : CoordStage → Event
  -- idle, it looks at the acknowledgement of this processor next, or at the request
  LooksAt : (proc : ℕ) → Event
  LooksForWant : Event
  -- all are gone, or a cycle is asked for: it begins to stop the world
  StopsForLast : Event
  StopsForNext : Event
  -- the world is stopped: a cycle is opened
  Opens : Event
  -- it looks whether marking is over
  Watches : Event
  -- it seems to be: it begins to stop the world again
  StopsAgain : Event
  -- the world is stopped: what was seen is checked
  Checks : Event
  -- something is found: marking goes on
  MarksOn : Event
  -- nothing is: marking is ended
  Closes : Event
  -- marking has ended, and so much credit has lapsed: each span is to be swept
  Sweeps : (lapsed : ℕ) → Event
  -- each is: what was counted is read
  Counts : Event
  -- which was this: the cycle is kept, and is to be told
  Tells : Counted → Event
  -- it is told: the coordinator is idle, or behind the last cycle done
  Rests : Event
  Ends : Event
  -- it is done, and stays so
  Stays : Event

-- where an event leads
abbrev pub led : Layout → Coordinating → Event → Coordinating
led l u (GoesOn p) = at_stage u p
led l u (LooksAt i) = at_stage u (LoadAck i)
led l u LooksForWant = at_stage u LoadWant
led l u StopsForLast = stops_world (record u { is_last = true })
led l u StopsForNext = stops_world u
led l u Opens = opens l u
led l u Watches = watches u
led l u StopsAgain = stops_again u
led l u Checks = checks u
led l u MarksOn = at_stage u MarkOn
led l u Closes = closes u
led l u (Sweeps lapsed) = sweeps u lapsed
led l u Counts = counts u
led l u (Tells c) = tells l u c
led l u Rests = at_stage u (LoadAck 0)
led l u Ends = at_stage u Done
led l u Stays = u

-- how its part goes on, where it does
abbrev pub GoesOnTo : Layout → (found : ℕ) → CoordStage → CoordStage → Type 0
GoesOnTo l found (Stop st) p = p ≡ Stop (stop.goes l st found)
GoesOnTo l found (Open o) p = p ≡ Open (open_.goes o found)
GoesOnTo l found (Watch w) p = p ≡ Watch (watch.goes l w found)
GoesOnTo l found (StopAgain st) p = p ≡ StopAgain (stop.goes l st found)
GoesOnTo l found (Check w) p = p ≡ Check (watch.goes l w found)
GoesOnTo l found (Close c) p = p ≡ Close (close.goes c found)
GoesOnTo l found (Sweep w) p = p ≡ Sweep (sweep.goes l w found)
GoesOnTo l found (Count c) p = p ≡ Count (count.goes c found)
GoesOnTo l found (Tell t) p = p ≡ Tell (tell.goes t found)
GoesOnTo l found _ p = ⊥

-- which events a step may come to, by the stage at which it is made
abbrev pub MayCome : Layout → Coordinating → (found : ℕ) → CoordStage → Event → Type 0
MayCome l u found p (GoesOn q) = GoesOnTo l found p q × (is_busy q ≡ true)
MayCome l u found (LoadAck i) (LooksAt j) = (found ≡ GONE) × (j ≡ i + 1) × (j < l.procs)
MayCome l u found (LoadAck i) LooksForWant = found ≢ GONE
MayCome l u found (LoadAck i) StopsForLast = (found ≡ GONE) × (l.procs ≤ i + 1)
MayCome l u found LoadWant (LooksAt j) = (found ≡ 0) × (j ≡ 0)
MayCome l u found LoadWant StopsForNext = found ≢ 0
MayCome l u found (Stop st) Opens = Unit {0}
MayCome l u found (Open o) Watches = Unit {0}
MayCome l u found (Watch w) Watches = Unit {0}
MayCome l u found (Watch w) StopsAgain = Unit {0}
MayCome l u found (StopAgain st) Checks = Unit {0}
MayCome l u found (Check w) MarksOn = Unit {0}
MayCome l u found (Check w) Closes = Unit {0}
MayCome l u found MarkOn Watches = Unit {0}
MayCome l u found (Close c) (Sweeps lapsed) = Unit {0}
MayCome l u found (Sweep w) Counts = Unit {0}
MayCome l u found (Count c) (Tells x) = Unit {0}
MayCome l u found (Tell t) Rests = u.is_last ≡ false
MayCome l u found (Tell t) Ends = u.is_last ≡ true
MayCome l u found Done Stays = Unit {0}
MayCome l u found _ _ = ⊥

-- a step at this stage comes to such an event, and so leads here
record Comes (l : Layout) (u : Coordinating) (found : ℕ) (p : CoordStage) (to : Coordinating) : Type 0 where
  event : Event
  may : MayCome l u found p event
  leads : to ≡ led l u event

-- marking is being ended exactly where the end of marking has given nothing
close_busy : (c : close.Closing) (p : CloseStage) → is_none (close.given_at c p) ≡ close.is_busy p
close_busy c p = grind arith

module _ (l : Layout) (u : Coordinating) (found : ℕ) where
  acks : (i : ℕ) (gone more : Bool) → (found == GONE) ≡ gone → ltb (i + 1) l.procs ≡ more → Comes l u found (LoadAck i) (cond gone (cond more (at_stage u (LoadAck (i + 1))) (stops_world (record u { is_last = true }))) (at_stage u LoadWant))
  acks i true true is e = record { event = LooksAt (i + 1); may = grind (arith, nat_tests); leads = refl }
  acks i true false is e = record { event = StopsForLast; may = grind (arith, nat_tests); leads = refl }
  acks i false more is e = record { event = LooksForWant; may = grind (arith, nat_tests); leads = refl }

  wants : (none : Bool) → (found == 0) ≡ none → Comes l u found LoadWant (cond none (at_stage u (LoadAck 0)) (stops_world u))
  wants true is = record { event = LooksAt 0; may = grind (arith, nat_tests); leads = refl }
  wants false is = record { event = StopsForNext; may = grind (arith, nat_tests); leads = refl }

  stopped : (st : stop.Stopping) (out : Option (Unit {0})) → stop.given (stop.goes l st found) ≡ out → Comes l u found (Stop st) (after_stop l (at_stage u (Stop (stop.goes l st found))) out)
  stopped st None e = record { event = GoesOn (Stop (stop.goes l st found)); may = (refl, ap is_none e); leads = refl }
  stopped st (Some x) e = record { event = Opens; may = tt; leads = refl }

  opened : (o : open_.CycleOpening) (out : Option (Unit {0})) → open_.given (open_.goes o found) ≡ out → Comes l u found (Open o) (after_open (at_stage u (Open (open_.goes o found))) out)
  opened o None e = record { event = GoesOn (Open (open_.goes o found)); may = (refl, ap is_none e); leads = refl }
  opened o (Some x) e = record { event = Watches; may = tt; leads = refl }

  watched : (w : watch.Watching) (out : Option Watched) → watch.given (watch.goes l w found) ≡ out → Comes l u found (Watch w) (after_watch (at_stage u (Watch (watch.goes l w found))) out)
  watched w None e = record { event = GoesOn (Watch (watch.goes l w found)); may = (refl, ap is_none e); leads = refl }
  watched w (Some All) e = record { event = StopsAgain; may = tt; leads = refl }
  watched w (Some NotYet) e = record { event = Watches; may = tt; leads = refl }

  stopped_again : (st : stop.Stopping) (out : Option (Unit {0})) → stop.given (stop.goes l st found) ≡ out → Comes l u found (StopAgain st) (after_stop_again (at_stage u (StopAgain (stop.goes l st found))) out)
  stopped_again st None e = record { event = GoesOn (StopAgain (stop.goes l st found)); may = (refl, ap is_none e); leads = refl }
  stopped_again st (Some x) e = record { event = Checks; may = tt; leads = refl }

  checked : (w : watch.Watching) (out : Option Watched) → watch.given (watch.goes l w found) ≡ out → Comes l u found (Check w) (after_check (at_stage u (Check (watch.goes l w found))) out)
  checked w None e = record { event = GoesOn (Check (watch.goes l w found)); may = (refl, ap is_none e); leads = refl }
  checked w (Some All) e = record { event = Closes; may = tt; leads = refl }
  checked w (Some NotYet) e = record { event = MarksOn; may = tt; leads = refl }

  closed : (c : close.Closing) (out : Option ℕ) → close.given (close.goes c found) ≡ out → Comes l u found (Close c) (after_close (at_stage u (Close (close.goes c found))) out)
  closed c None e = record { event = GoesOn (Close (close.goes c found)); may = (refl, sym (close_busy (close.goes c found) (close.goes c found).stage) ∙ ap is_none e); leads = refl }
  closed c (Some lapsed) e = record { event = Sweeps lapsed; may = tt; leads = refl }

  swept : (w : sweep.SweepingAll) (out : Option (Unit {0})) → sweep.given (sweep.goes l w found) ≡ out → Comes l u found (Sweep w) (after_sweep (at_stage u (Sweep (sweep.goes l w found))) out)
  swept w None e = record { event = GoesOn (Sweep (sweep.goes l w found)); may = (refl, ap is_none e); leads = refl }
  swept w (Some x) e = record { event = Counts; may = tt; leads = refl }

  counted : (c : count.Counting) (out : Option Counted) → count.given (count.goes c found) ≡ out → Comes l u found (Count c) (after_count l (at_stage u (Count (count.goes c found))) out)
  counted c None e = record { event = GoesOn (Count (count.goes c found)); may = (refl, ap is_none e); leads = refl }
  counted c (Some x) e = record { event = Tells x; may = tt; leads = refl }

  told_so : (t : tell.Telling) (last : Bool) → u.is_last ≡ last → Comes l u found (Tell t) (at_stage u (cond last Done (LoadAck 0)))
  told_so t true e = record { event = Ends; may = e; leads = refl }
  told_so t false e = record { event = Rests; may = e; leads = refl }

  told : (t : tell.Telling) (out : Option (Unit {0})) → tell.given (tell.goes t found) ≡ out → Comes l u found (Tell t) (after_tell (at_stage u (Tell (tell.goes t found))) out)
  told t None e = record { event = GoesOn (Tell (tell.goes t found)); may = (refl, ap is_none e); leads = refl }
  told t (Some x) e = told_so t u.is_last refl

  comes : (p : CoordStage) → Comes l u found p (goes_at l u p found)
  comes (LoadAck i) = acks i (found == GONE) (ltb (i + 1) l.procs) refl refl
  comes LoadWant = wants (found == 0) refl
  comes (Stop st) = stopped st (stop.given (stop.goes l st found)) refl
  comes (Open o) = opened o (open_.given (open_.goes o found)) refl
  comes (Watch w) = watched w (watch.given (watch.goes l w found)) refl
  comes (StopAgain st) = stopped_again st (stop.given (stop.goes l st found)) refl
  comes (Check w) = checked w (watch.given (watch.goes l w found)) refl
  comes MarkOn = record { event = Watches; may = tt; leads = refl }
  comes (Close c) = closed c (close.given (close.goes c found)) refl
  comes (Sweep w) = swept w (sweep.given (sweep.goes l w found)) refl
  comes (Count c) = counted c (count.given (count.goes c found)) refl
  comes (Tell t) = told t (tell.given (tell.goes t found)) refl
  comes Done = record { event = Stays; may = tt; leads = refl }

  -- what holds behind each event that a step at a stage may come to holds behind the step
  pub by_event : (Holds : Coordinating → Type 0) (p : CoordStage) → ((e : Event) → MayCome l u found p e → Holds (led l u e)) → Holds (goes_at l u p found)
  by_event Holds p each = subst Holds (sym (comes p).leads) (each (comes p).event (comes p).may)
