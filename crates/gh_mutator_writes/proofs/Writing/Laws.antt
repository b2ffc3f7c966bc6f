-- A processor writes its own words, and notes those of its stacks.
use Rattle.std.proofs.Common.{◌≡◌, ◌≢◌, ℕ, zero, suc, Bool, true, false, cond, ltb, List, Option, Some, None, refl, ap, arith, replicate, slice_index}
use Rattle.gh_mutator_writes.proofs.Vocabulary.{after_gc, after_leave, after_poll, asks, asks_at, AssistsAreQuiet, AssistsPay, BeginsToWait, CellsAreTold, follows, has_left_at, IsWritten, Layout, Leaving, NewStage, Op, Polling, Processor, processor_kind, ProcessorInHandshake, ProcessorWritesItsOwn, Shape, SoundScanAt, StacksAreNoted, takes_at, Task, Then, Waiting, WaitStage, Wanted}
use Rattle.gh_mutator.specs.New as new
use Rattle.gh_poll.specs.Poll as poll
use Rattle.gh_mutator.specs.Vocabulary.{MOST_GOROUTINES}
use Rattle.gh_poll.specs.Wait as wait
use Rattle.gh_mutator.specs.Asking.{ProcessorsAskAtTheTrigger}
use Rattle.gh_mutator.specs.Sweeping.{IsSearching, SearchesAt}
use Rattle.gh_mutator.specs.Listing.{begins}
use Rattle.gh_mutator_writes.proofs.Writing.Assisting.{assist_begins, assist_takes}
use Rattle.gh_mutator_writes.proofs.Writing.Polls.{Stays, stays_so}
use Rattle.gh_mutator_writes.proofs.Writing.Processor.{writes_at}
use Rattle.gh_mutator_writes.proofs.Writing.Rows.{leaves_others}
use Rattle.gh_mutator_writes.proofs.Writing.Steps.{begun_stays, goes_at}

begun : (shapes : List Shape) (l : Layout) (m : Processor) (o : Op) → SoundScanAt l m.poll m.poll.stage → Stays l m.poll ((processor_kind shapes l).begins m o).poll
begun shapes l m o s = by (has_left_at m.task) where
  by : (left : Bool) → Stays l m.poll (cond left m (begins shapes m o)).poll
  by true = stays_so l m.poll s
  by false = begun_stays l m.poll o s

-- no step of a wait comes back to the step that asks for a cycle
waits_on : (l : Layout) (w : Waiting) (q : WaitStage) (found : ℕ) → (wait.goes_at l w q found).wait.stage ≢ WaitStage.Want
waits_on l w WaitStage.Want found e = cc
waits_on l w WaitStage.Polling found e = by (poll.goes l w.poll found) (poll.gives l w.poll found) e where
  by : (p : Polling) (out : Option (Unit {0})) → (wait.after_poll w p out).wait.stage ≢ WaitStage.Want
  by p None e = cc
  by p (Some u) e = cc
waits_on l w WaitStage.LoadSwept found e = by (ltb w.wait.known found) e where
  by : (later : Bool) → (cond later (wait.at_stage w WaitStage.Ended) (wait.polling w)).wait.stage ≢ WaitStage.Want
  by true e = cc
  by false e = cc
waits_on l w WaitStage.Ended found e = cc

gc_on : (m : Processor) (g : ℕ) (w : Waiting) (out : Option (Unit {0})) → w.wait.stage ≢ WaitStage.Want → BeginsToWait (after_gc m g w out).task → ⊥
gc_on m g w out spared wants = grind arith

-- nor one of a statement
into_on : {S : Type 0} (into : S → Task) (then : Then S) → ((y : S) → BeginsToWait (into y) → ⊥) → BeginsToWait (follows into then) → ⊥
into_on into then spared wants = grind arith

polled_on : (m : Processor) (p : Polling) (out : Option (Unit {0})) → BeginsToWait (after_poll m p out).task → ⊥
polled_on m p out wants = grind arith

left_on : (m : Processor) (x : Leaving) (out : Option (Unit {0})) → BeginsToWait (after_leave m x out).task → ⊥
left_on m x out wants = grind arith

module _ (l : Layout) (shapes : List Shape) (m : Processor) (found : ℕ) where
  making_once : (n : Wanted) (q : NewStage) → BeginsToWait (new.takes_at l shapes m n q found).task → SearchesAt q
  making_once n q wants = grind arith

  once_at : (t : Task) → t ≡ m.task → BeginsToWait (takes_at l shapes m t found).task → IsSearching t
  once_at t is wants = grind (arith, gc_on, into_on, left_on, making_once, polled_on, waits_on)

pub writes_its_own : CellsAreTold → ProcessorsAskAtTheTrigger → AssistsAreQuiet → AssistsPay → ProcessorInHandshake → ProcessorWritesItsOwn
writes_its_own k asking quiet pay h = record {
  sound_first = λ l seat. record { place = h.sound_first seat; scan = tt; assist = tt };
  sound_begins = λ shapes l m o s rests. record { place = h.sound_begins shapes l m o s.place rests; scan = (begun shapes l m o s.scan).scan; assist = assist_begins shapes l m o s.assist };
  sound_takes = λ l shapes m found s busy. record { place = h.sound_takes l shapes m found s.place busy; scan = (goes_at l quiet shapes m found s.scan m.task).scan; assist = assist_takes l pay shapes m found m.task refl s.assist };
  begins_there = λ shapes l m o s. (begun shapes l m o s.scan).seat;
  stays_there = λ l shapes m found s. (goes_at l quiet shapes m found s.scan m.task).seat;
  writes = λ l m s. writes_at l quiet m.poll m.made s.scan m.task s.place.1;
  leaves = λ l m words c s spared. leaves_others k (IsWritten l m) (asks l m) words c (writes_at l quiet m.poll m.made s.scan m.task s.place.1) spared;
  once = λ l shapes m found wants. once_at l shapes m found m.task refl wants;
  saw = asking.saw;
  sees = asking.sees;
  compares = asking.compares;
}

-- The notes.
zeros : (n g : ℕ) → slice_index (replicate n 0) g ≡ 0
zeros zero zero = refl
zeros zero (suc g) = refl
zeros (suc n) zero = refl
zeros (suc n) (suc g) = zeros n g

pub stacks_are_noted : AssistsAreQuiet → StacksAreNoted
stacks_are_noted quiet = record {
  first = λ seat g. zeros MOST_GOROUTINES g;
  places = λ seat. refl;
  begins = λ shapes l m o s. (begun shapes l m o s.scan).scanned;
  as_many = λ l shapes m found s. (goes_at l quiet shapes m found s.scan m.task).noted.as_many;
  notes = λ l shapes m found g number s is lt. (goes_at l quiet shapes m found s.scan m.task).noted.notes g number is lt;
  keeps = λ l shapes m found g s spared. (goes_at l quiet shapes m found s.scan m.task).noted.keeps g spared;
  ends = λ l m g e. ap (λ (t : Task). asks_at l m t) e;
}
