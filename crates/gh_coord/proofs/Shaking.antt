-- Each step of the coordinator is one of the handshake of a stop: by its stages.
use Rattle.std.proofs.Common.{◌≡◌, ℕ, ◌+◌, ◌^◌, ◌<◌, Bool, true, false, cond, ltb, refl, sym, ap, subst, ◌∙◌, arith, Option, Some, None}
use Rattle.gh_coord.proofs.Vocabulary.{after_ack, after_check, after_count, after_stop, after_stop_again, after_sweep, after_want, after_watch, All, asks, asks_at, at_stage, begins, by_event, Calm, Cell, Check, Close, CloseStage, Coordinating, CoordStage, Count, counted, cycle_before, Done, ends, FitsNumbers, generation_before, goes_at, is_busy, IsAcked, IsQuietInHandshake, Layout, lead_at, lead_of, LeadGoes, LeadsHandshake, LoadAck, LoadWant, Looks, MarkOn, next_cycle, next_generation, next_stop, Open, PartsAreRoutines, quiet, RunPhase, sees, Sound, SoundAt, Stop, stop_before, stop_word, StopAgain, Stopped, stops, StopsFor, StopStage, Store, Sweep, Tell, Watch}
use Rattle.gh_phase.specs.Handshake.{goes}
use Rattle.gh_coord.specs.Closing as close
use Rattle.gh_coord.specs.Counting as count
use Rattle.gh_coord.specs.Opening as opens_by
use Rattle.gh_coord.specs.Stopping as stop
use Rattle.gh_coord.specs.SweepingAll as all
use Rattle.gh_coord.specs.Telling as tell
use Rattle.gh_coord.specs.Watching as watch
use Rattle.gh_coord.specs.Stopping.{acks_of, is_acknowledged}
use Rattle.gh_coord.specs.Vocabulary.{Counted, OpenStage, TellStage, Watched}
use Rattle.gh_coord.proofs.LastCycle.{finds_gone, finishes_at, marks_at, stops_go_on}
use Rattle.gh_coord.proofs.QuietParts.{quiet_by}
use Rattle.gh_coord.proofs.Stepping.{same_ask}

-- numbers that go round
stop_behind : (s : ℕ) → s < 2 ^ 62 → stop_before (next_stop s) ≡ s
stop_behind s h = omega arith

stop_ahead : (s : ℕ) → s < 2 ^ 62 → next_stop (stop_before s) ≡ s
stop_ahead s h = omega arith

cycle_behind : (k : ℕ) → k < 2 ^ 64 → cycle_before (next_cycle k) ≡ k
cycle_behind k h = omega arith

cycle_ahead : (k : ℕ) → k < 2 ^ 64 → next_cycle (cycle_before k) ≡ k
cycle_ahead k h = omega arith

generation_behind : (g : ℕ) → g < 2 ^ 34 → generation_before (next_generation g) ≡ g
generation_behind g h = omega arith

generation_ahead : (g : ℕ) → g < 2 ^ 34 → next_generation (generation_before g) ≡ g
generation_ahead g h = omega arith

raised_stop : (number begun generation : ℕ) → FitsNumbers number begun generation → FitsNumbers (next_stop number) begun generation
raised_stop number begun generation f = record { stops_fit = omega arith; begun_fits = f.begun_fits; generation_fits = f.generation_fits }

raised_cycle : (number begun generation : ℕ) → FitsNumbers number begun generation → FitsNumbers number (next_cycle begun) generation
raised_cycle number begun generation f = record { stops_fit = f.stops_fit; begun_fits = omega arith; generation_fits = f.generation_fits }

raised_generation : (number begun generation : ℕ) → FitsNumbers number begun generation → FitsNumbers number begun (next_generation generation)
raised_generation number begun generation f = record { stops_fit = f.stops_fit; begun_fits = f.begun_fits; generation_fits = omega arith }

-- a step at this stage leads here
abbrev Goes : Layout → (found : ℕ) → Coordinating → CoordStage → (to : Coordinating) → Type 0
Goes l found s stage to = Sound to × LeadGoes (acks_of l) found (lead_at s stage) (asks_at l s stage) (lead_of to)

acked : (number found : ℕ) → is_acknowledged number found ≡ true → IsAcked number found
acked number found e = grind arith

module _ (l : Layout) (found : ℕ) (s : Coordinating) (f : FitsNumbers s.stops s.begun s.generation) where
  fits_raised : FitsNumbers (next_stop s.stops) s.begun s.generation
  fits_raised = raised_stop s.stops s.begun s.generation f

  acks : (i : ℕ) → Goes l found s (LoadAck i) (after_ack l s i found)
  acks i = grind arith

  wants : Goes l found s LoadWant (after_want s found)
  wants = grind arith

  -- a stop
  abbrev stopping : StopStage → stop.Stopping
  stopping stage = record { stops = s.stops; stage = stage }

  -- what a load of this acknowledgement leads to
  abbrev seeing : (ack : ℕ) → (there more : Bool) → stop.Stopping
  seeing ack there more = stopping (cond there (cond more (StopStage.Await (ack + 1)) StopStage.Ended) (StopStage.Await ack))

  first_stop : (stage : StopStage) → stop.is_busy stage ≡ true → Goes l found s (Stop (stopping stage)) (goes_at l s (Stop (stopping stage)) found)
  first_stop StopStage.StorePhase busy =
      let is : next_stop (stop_before s.stops) ≡ s.stops = stop_ahead s.stops f.stops_fit in
      ((f, refl), stops RunPhase.Off (λ e. cc) refl (ap (λ (n : ℕ). Store Cell.Phase (stop_word n)) (sym is)) (ap (λ (n : ℕ). record { stops = n; begun = s.begun; generation = s.generation; post = Looks RunPhase.Off 0 }) (sym is)))
  first_stop (StopStage.Await ack) busy = go (is_acknowledged s.stops found) (ltb (ack + 1) (acks_of l)) refl refl where
    go : (there more : Bool) → is_acknowledged s.stops found ≡ there → ltb (ack + 1) (acks_of l) ≡ more → Goes l found s (Stop (stopping (StopStage.Await ack))) (after_stop l (at_stage s (Stop (seeing ack there more))) (stop.given (seeing ack there more)))
    go true true e m = ((f, refl), sees RunPhase.Off ack refl refl (acked s.stops found e) (rw m refl))
    go true false e m = ((raised_cycle s.stops s.begun s.generation f, (refl, refl)), sees RunPhase.Off ack refl refl (acked s.stops found e) (rw (m, cycle_behind s.begun f.begun_fits) refl))
    go false more e m = ((f, refl), quiet tt refl)
  first_stop StopStage.Ended busy = absurd cc

  second_stop : (stage : StopStage) → stop.is_busy stage ≡ true → Goes l found s (StopAgain (stopping stage)) (goes_at l s (StopAgain (stopping stage)) found)
  second_stop StopStage.StorePhase busy =
      let is : next_stop (stop_before s.stops) ≡ s.stops = stop_ahead s.stops f.stops_fit in
      ((f, refl), stops RunPhase.Mark (λ e. cc) refl (ap (λ (n : ℕ). Store Cell.Phase (stop_word n)) (sym is)) (ap (λ (n : ℕ). record { stops = n; begun = s.begun; generation = s.generation; post = Looks RunPhase.Mark 0 }) (sym is)))
  second_stop (StopStage.Await ack) busy = go (is_acknowledged s.stops found) (ltb (ack + 1) (acks_of l)) refl refl where
    go : (there more : Bool) → is_acknowledged s.stops found ≡ there → ltb (ack + 1) (acks_of l) ≡ more → Goes l found s (StopAgain (stopping (StopStage.Await ack))) (after_stop_again (at_stage s (StopAgain (seeing ack there more))) (stop.given (seeing ack there more)))
    go true true e m = ((f, refl), sees RunPhase.Mark ack refl refl (acked s.stops found e) (rw m refl))
    go true false e m = ((f, tt), sees RunPhase.Mark ack refl refl (acked s.stops found e) (rw m refl))
    go false more e m = ((f, refl), quiet tt refl)
  second_stop StopStage.Ended busy = absurd cc

  -- a cycle is opened
  abbrev open_at : opens_by.CycleOpening → OpenStage → opens_by.CycleOpening
  open_at o stage = record o { stops = s.stops; cycle = s.begun; stage = stage }

  opening : (o : opens_by.CycleOpening) (stage : OpenStage) → opens_by.is_busy stage ≡ true → Goes l found s (Open (open_at o stage)) (goes_at l s (Open (open_at o stage)) found)
  opening o OpenStage.StoreBegun busy =
      let is : next_cycle (cycle_before s.begun) ≡ s.begun = cycle_ahead s.begun f.begun_fits in
      ((f, (refl, refl)), begins RunPhase.Off refl (ap (λ (n : ℕ). Store Cell.Begun n) (sym is)) (ap (λ (n : ℕ). record { stops = s.stops; begun = n; generation = s.generation; post = Stopped RunPhase.Off }) (sym is)))
  opening o OpenStage.StorePhase busy = ((f, tt), goes RunPhase.Off RunPhase.Mark (λ e. cc) refl refl refl)
  opening o OpenStage.Ended busy = absurd cc
  opening o _ busy = ((f, (refl, refl)), quiet tt refl)

  -- the look and the check
  watching : (w v : watch.Watching) (out : Option Watched) → IsQuietInHandshake (watch.asks l w) → Goes l found s (Watch w) (after_watch (at_stage s (Watch v)) out)
  watching w v (Some All) q = ((fits_raised, refl), quiet q (ap (λ (n : ℕ). record { stops = n; begun = s.begun; generation = s.generation; post = Calm RunPhase.Mark }) (stop_behind s.stops f.stops_fit)))
  watching w v _ q = ((f, tt), quiet q refl)

  checking : (w v : watch.Watching) (out : Option Watched) → IsQuietInHandshake (watch.asks l w) → Goes l found s (Check w) (after_check (at_stage s (Check v)) out)
  checking w v (Some All) q = ((raised_generation s.stops s.begun s.generation f, refl), quiet q (ap (λ (n : ℕ). record { stops = s.stops; begun = s.begun; generation = n; post = Stopped RunPhase.Mark }) (generation_behind s.generation f.generation_fits)))
  checking w v _ q = ((f, tt), quiet q refl)

  -- marking is ended
  abbrev close_at : (lapsed : ℕ) → CloseStage → close.Closing
  close_at lapsed stage = record { lapsed = lapsed; generation = s.generation; stops = s.stops; stage = stage }

  closing : (lapsed : ℕ) (stage : CloseStage) → close.is_busy stage ≡ true → Goes l found s (Close (close_at lapsed stage)) (goes_at l s (Close (close_at lapsed stage)) found)
  closing lapsed CloseStage.StoreGen busy =
      let is : next_generation (generation_before s.generation) ≡ s.generation = generation_ahead s.generation f.generation_fits in
      ((f, refl), ends RunPhase.Mark refl (ap (λ (n : ℕ). Store Cell.Gen n) (sym is)) (ap (λ (n : ℕ). record { stops = s.stops; begun = s.begun; generation = n; post = Stopped RunPhase.Mark }) (sym is)))
  closing lapsed CloseStage.StorePhase busy = ((f, refl), goes RunPhase.Mark RunPhase.Off (λ e. cc) refl refl refl)
  closing lapsed CloseStage.Ended busy = absurd cc
  closing lapsed _ busy = ((f, refl), quiet tt refl)

  -- the sweep, and what it has counted
  sweeping : (w v : all.SweepingAll) (out : Option (Unit {0})) → v.generation ≡ s.generation → IsQuietInHandshake (all.asks l w) → Goes l found s (Sweep w) (after_sweep (at_stage s (Sweep v)) out)
  sweeping w v None e q = ((f, e), quiet q refl)
  sweeping w v (Some u) e q = ((f, tt), quiet q refl)

  counting : (w v : count.Counting) (out : Option Counted) → IsQuietInHandshake (count.asks w) → Goes l found s (Count w) (after_count l (at_stage s (Count v)) out)
  counting w v None q = ((f, tt), quiet q refl)
  counting w v (Some read) q = ((f, (refl, λ e. absurd (cc))), quiet q refl)

  -- the cycle is told
  abbrev tell_at : (trigger cycle : ℕ) → TellStage → tell.Telling
  tell_at trigger cycle stage = record { trigger = trigger; cycle = cycle; stops = s.stops; is_last = s.is_last; stage = stage }

  tells : (trigger cycle : ℕ) (stage : TellStage) → (tell.stores_phase stage ≡ true → s.is_last ≡ true) → tell.is_busy stage ≡ true → Goes l found s (Tell (tell_at trigger cycle stage)) (goes_at l s (Tell (tell_at trigger cycle stage)) found)
  tells trigger cycle stage last busy = grind arith

module _ (l : Layout) (found : ℕ) (s : Coordinating) (is : PartsAreRoutines l) where
  sweep_number : (w : all.SweepingAll) → (all.goes l w found).generation ≡ w.generation
  sweep_number w = grind arith

  goes_so : (stage : CoordStage) → FitsNumbers s.stops s.begun s.generation → SoundAt s stage → is_busy stage ≡ true → Goes l found s stage (goes_at l s stage found)
  goes_so (LoadAck i) f e busy = acks l found s f i
  goes_so LoadWant f e busy = wants l found s f
  goes_so (Stop st) f e busy = subst (λ (x : stop.Stopping). Goes l found s (Stop x) (goes_at l s (Stop x) found)) (sym e) (first_stop l found s f st.stage busy)
  goes_so (Open o) f e busy = subst (λ (x : opens_by.CycleOpening). Goes l found s (Open x) (goes_at l s (Open x) found)) (sym e.0) (opening l found s f o o.stage busy)
  goes_so (Watch w) f e busy = watching l found s f w (watch.goes l w found) (watch.given (watch.goes l w found)) (quiet_by watch.writes _ (is.watch.writes w) refl refl refl refl)
  goes_so (StopAgain st) f e busy = subst (λ (x : stop.Stopping). Goes l found s (StopAgain x) (goes_at l s (StopAgain x) found)) (sym e) (second_stop l found s f st.stage busy)
  goes_so (Check w) f e busy = checking l found s f w (watch.goes l w found) (watch.given (watch.goes l w found)) (quiet_by watch.writes _ (is.watch.writes w) refl refl refl refl)
  goes_so MarkOn f e busy = ((f, tt), goes RunPhase.Mark RunPhase.Mark (λ x. cc) refl refl refl)
  goes_so (Close c) f e busy = subst (λ (x : close.Closing). Goes l found s (Close x) (goes_at l s (Close x) found)) (sym e) (closing l found s f c.lapsed c.stage busy)
  goes_so (Sweep w) f e busy = sweeping l found s f w (all.goes l w found) (all.given (all.goes l w found)) (sweep_number w ∙ e) (quiet_by all.writes _ (is.sweep.writes w) refl refl refl refl)
  goes_so (Count c) f e busy = counting l found s f c (count.goes c found) (count.given (count.goes c found)) (quiet_by count.writes _ (is.count.writes c) refl refl refl refl)
  goes_so (Tell t) f e busy = subst (λ (x : tell.Telling). Goes l found s (Tell x) (goes_at l s (Tell x) found)) (sym e.0) (tells l found s f t.trigger t.cycle t.stage e.1 busy)
  goes_so Done f e busy = absurd cc

-- counting the steps that store the phase word leaves the place
counted_sound : (s : Coordinating) (stage : CoordStage) → SoundAt s stage → SoundAt (counted s) stage
counted_sound s (Stop st) e = e
counted_sound s _ e = e

-- why it stops the world
module _ (l : Layout) (s m : Coordinating) (found : ℕ) where
  abbrev HasReason : Coordinating → Type 0
  HasReason to = (stop : ℕ) → asks l to ≡ Store Cell.Phase (stop_word stop) → StopsFor l found s to

  stops_so : (stage : CoordStage) → s.stage ≡ stage → m.stage ≡ stage → HasReason (goes_at l m stage found)
  stops_so stage is stays = by_event l m found HasReason stage (λ e may. grind arith)

pub leads_handshake : ((l : Layout) → PartsAreRoutines l) → LeadsHandshake
leads_handshake parts = record {
  sound = λ l seat gogc minheap room. (record { stops_fit = omega arith; begun_fits = omega arith; generation_fits = omega arith }, tt);
  leads = λ l seat gogc minheap room. refl;
  stays_sound = λ l s found sound busy. (goes_so l found (counted s) (parts l) s.stage sound.0 (counted_sound s s.stage sound.1) busy).0;
  finds_gone = finds_gone;
  stops_for = λ l s found. stops_so l s (counted s) found s.stage refl refl;
  stops_at_first = λ l seat gogc minheap room stop e. cc;
  stops_go_on = stops_go_on;
  marks_on = λ s sound runs. marks_at s s.stage sound.1 runs;
  finishes = λ s sound e. finishes_at s s.stage sound.1 e;
  goes = λ l s found sound busy. rw (← same_ask l s s.stage) (goes_so l found (counted s) (parts l) s.stage sound.0 (counted_sound s s.stage sound.1) busy).1;
}
