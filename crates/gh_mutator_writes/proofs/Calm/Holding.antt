-- A processor that holds no buffer, and does not know that marking is on, holds none behind its step; and an object that it then makes is not marked.
use Rattle.std.proofs.Common.{◌≡◌, ◌≢◌, ℕ, ◌+◌, Bool, true, false, cond, ltb, List, [], ◌∷◌, Option, Some, None, subst, arith}
use Rattle.gh_mutator_writes.proofs.Vocabulary.{after_gc, after_leave, after_poll, AnObjectIsMarkedBeforeItIsMade, applied, Assist, cache_span, CachedSpan, follows, Found, GivesNoBuffer, GiveStage, Global, GlobalStage, Held, HoldsNoBuffer, is_mark, IsMadeUnmarked, IsNoBuffer, keeping, KnowsNoMarking, Layout, LeaveStage, LeavesWithNone, Leaving, Load, Local, MakesWithNone, marking_at, NewStage, party_at, Place, Placing, poller_at, Polling, polls_at, PollStage, PollsWithNone, Processor, register_of, ResumeStage, RunPhase, RunsWithNone, Search, Seeking, SetsWithNone, Shape, stage_at, Step, Store, StoreStage, StoresWithNone, takes_at, taking, Task, Then, Value, Wait, waiter_at, Waiting, waits_at, WaitStage, WaitsWithNone, Want, Wanted}
use Rattle.gh_alloc.specs.Place as place
use Rattle.gh_alloc.specs.Search as search
use Rattle.gh_phase.specs.Listing as resume
use Rattle.gh_phase.specs.ResumePlaces as resumes
use Rattle.gh_poll.specs.Give as give
use Rattle.gh_mutator.specs.Global as global
use Rattle.gh_poll.specs.Leave as leave
use Rattle.gh_mutator.specs.Load as load
use Rattle.gh_mutator.specs.New as new
use Rattle.gh_poll.specs.Poll as poll
use Rattle.gh_mutator.specs.Register as register
use Rattle.gh_mutator.specs.Store as store
use Rattle.gh_mutator.specs.declared.register.Register.{Register}
use Rattle.gh_poll.specs.Wait as wait
use Rattle.gh_mutator.specs.declared.step.Then.TheVariants.{Ends, GoesOn}

-- The giving back.
first_none : (class : ℕ) (spans : List (Option CachedSpan)) → IsNoBuffer (give.first_cached class spans)
first_none class [] = tt
first_none class (Some s ∷ spans) = tt
first_none class (None ∷ spans) = first_none (class + 1) spans

buffer_none : (held : Option Held) → held ≡ None → IsNoBuffer (give.giving_buffer held)
buffer_none held e = grind arith

gives_none : (g : give.Giving) (q : GiveStage) (found : ℕ) → g.held ≡ None → IsNoBuffer q → GivesNoBuffer (give.goes_at g q found)
gives_none g q found e x = grind (arith, buffer_none, first_none)

-- A poll.
abbrev PollHoldsNone : Polling → Type 0
PollHoldsNone p = (p.local.held ≡ None) × PollsWithNone p.stage

stops_none : (p : Polling) (g : give.Giving) (stops : ℕ) → p.local.held ≡ None → GivesNoBuffer g → PollHoldsNone (poll.stops_then p g stops)
stops_none p g stops e x = grind arith

phases_none : (l : Layout) (p : Polling) (stops : ℕ) (phase : Option RunPhase) → p.local.view.phase ≢ RunPhase.Mark → p.local.held ≡ None → PollHoldsNone (poll.by_phase l p stops phase)
phases_none l p stops phase off e = grind arith

resume_none : (l : Layout) (p : Polling) (r : resume.Resuming) (q : ResumeStage) (found : ℕ) → p.local.held ≡ None → KnowsNoMarking (resumes.party_of r) (resumes.stands_at r.stops q) → PollHoldsNone (poll.after_resume l p (resume.goes_at r q found) (resume.given (resume.goes_at r q found)))
resume_none l p r q found e off = grind arith

poll_none : (l : Layout) (p : Polling) (q : PollStage) (found : ℕ) → p.local.held ≡ None → PollsWithNone q → KnowsNoMarking (poller_at p q) (polls_at p q) → PollHoldsNone (poll.goes_at l p q found)
poll_none l p q found e x off = grind (arith, gives_none, phases_none, resume_none, stops_none)

-- A wait.
abbrev WaitHoldsNone : Waiting → Type 0
WaitHoldsNone w = (w.poll.local.held ≡ None) × WaitsWithNone w.poll w.wait.stage

wait_none : (l : Layout) (w : Waiting) (q : WaitStage) (found : ℕ) → w.poll.local.held ≡ None → WaitsWithNone w.poll q → KnowsNoMarking (waiter_at w q) (waits_at w q) → WaitHoldsNone (wait.goes_at l w q found)
wait_none l w WaitStage.Want found e x off = (e, tt)
wait_none l w WaitStage.Polling found e x off = by (poll.goes l w.poll found) (poll.gives l w.poll found) (poll_none l w.poll w.poll.stage found e x off) where
  by : (p : Polling) (out : Option (Unit {0})) → PollHoldsNone p → WaitHoldsNone (wait.after_poll w p out)
  by p None h = h
  by p (Some u) h = (h.0, tt)
wait_none l w WaitStage.LoadSwept found e x off = by (ltb w.wait.known found) where
  by : (later : Bool) → WaitHoldsNone (cond later (wait.at_stage w WaitStage.Ended) (wait.polling w))
  by true = (e, tt)
  by false = (e, tt)
wait_none l w WaitStage.Ended found e x off = (e, tt)

-- Leaving.
left_none : (g : give.Giving) → GivesNoBuffer g → LeavesWithNone (leave.stage_of g)
left_none g x = grind arith

leave_none : (x : Leaving) (q : LeaveStage) (found : ℕ) → LeavesWithNone q → LeavesWithNone (leave.goes_at x q found).stage
leave_none x q found h = grind (arith, gives_none, left_none)

-- By its tasks.
pub not_mark : (phase : RunPhase) → phase ≢ RunPhase.Mark → is_mark phase ≡ false
not_mark phase off = grind arith

taking_none : (m : Processor) (g d : ℕ) (v : Option Value) → m.poll.local.held ≡ None → (taking m g d v).poll.local.held ≡ None
taking_none m g d v e = grind arith

-- no part of the task holds one
abbrev RunsNone : Task → Type 0
RunsNone t = (p : Polling) → RunsWithNone p t

abbrev GoesNone : {S : Type 0} (into : S → Task) → Then S → Type 0
GoesNone into (GoesOn y) = RunsNone (into y)
GoesNone into (Ends a) = Unit {0}

applied_none : {S : Type 0} (into : S → Task) (m : Processor) (g d : ℕ) (step : Step S) → GoesNone into step.then → m.poll.local.held ≡ None → HoldsNoBuffer (applied into m g d step)
applied_none {S} into m g d step plain e = record { none = taking_none m g d step.sets e; runs = by step.then plain (taking m g d step.sets).poll } where
  by : (then : Then S) → GoesNone into then → RunsNone (follows into then)
  by (GoesOn y) plain = plain
  by (Ends a) plain = λ p. tt

load_goes : (then : Then Load) → GoesNone Task.Load then
load_goes then = grind arith

register_goes : (then : Then Register) → GoesNone Task.Register then
register_goes then = grind arith

-- while marking is off a store leads to no write
module _ (l : Layout) (own : Local) (off : is_mark own.view.phase ≡ false) (held : Value) where
  store_goes : (x : Store) (q : StoreStage) (found : ℕ) → StoresWithNone q → GoesNone Task.Store (store.step_at l own held x q found).then
  store_goes x q found h = grind arith

global_goes : (l : Layout) (held : Value) (x : Global) (q : GlobalStage) (found : ℕ) → SetsWithNone q → GoesNone Task.Global (global.step_at l held x q found).then
global_goes l held x q found h = grind arith

-- and the buffer stays
store_keeps : (l : Layout) (held : Option Held) (q : StoreStage) (found : ℕ) → StoresWithNone q → held ≡ None → store.held_behind l held q found ≡ None
store_keeps l held q found h e = grind arith

global_keeps : (l : Layout) (held : Option Held) (q : GlobalStage) (found : ℕ) → SetsWithNone q → held ≡ None → global.held_behind l held q found ≡ None
global_keeps l held q found h e = grind arith

found_none : (shapes : List Shape) (m : Processor) (w : Wanted) (waited : Bool) (c : Option CachedSpan) (s : Seeking) (out : Option Found) → m.poll.local.view.phase ≢ RunPhase.Mark → m.poll.local.held ≡ None → HoldsNoBuffer (new.after_search shapes (cache_span m w.sought c) w waited s out)
found_none shapes m w waited c s out off e = grind arith

made_none : (m : Processor) (w : Wanted) (made : Bool) (a : ℕ) (y : Placing) → marking_at m.poll ≡ false → IsMadeUnmarked y → m.poll.local.held ≡ None → HoldsNoBuffer (new.after_place m w made a y)
made_none m w made a y is off e = grind arith

module _ (l : Layout) (marks : AnObjectIsMarkedBeforeItIsMade) (shapes : List Shape) (m : Processor) (found : ℕ) (e : m.poll.local.held ≡ None) where
  gc_none : (g : ℕ) (w : Waiting) (out : Option (Unit {0})) → WaitHoldsNone w → HoldsNoBuffer (after_gc m g w out)
  gc_none g w out h = grind arith

  waited_none : (n : Wanted) (w : Waiting) (out : Option (Unit {0})) → WaitHoldsNone w → HoldsNoBuffer (new.after_wait m n w out)
  waited_none n w out h = grind arith

  polled_none : (p : Polling) (out : Option (Unit {0})) → PollHoldsNone p → HoldsNoBuffer (after_poll m p out)
  polled_none p out h = grind arith

  gone_none : (x : Leaving) (out : Option (Unit {0})) → LeavesWithNone x.stage → HoldsNoBuffer (after_leave m x out)
  gone_none x out h = grind arith

  new_none : (n : Wanted) (q : NewStage) → MakesWithNone m.poll q → KnowsNoMarking (party_at m.poll (Task.New (record { wanted = n; stage = q }))) (stage_at m.poll (Task.New (record { wanted = n; stage = q }))) → HoldsNoBuffer (new.takes_at l shapes m n q found)
  new_none n (Search waited y) x off = found_none shapes m n waited (search.goes l y found).find.cached (search.goes l y found) (search.gives l y found) off e
  new_none n (Wait y) x off = let w : Waiting = wait.waiting y m.poll in waited_none n (wait.goes l w found) (wait.gives l w found) (wait_none l w y.stage found e x off)
  new_none n (Place y) x off = made_none m n (place.makes_its_object y) y.at (place.goes y found) (not_mark m.poll.local.view.phase off) (marks.stays_off y found x) e
  new_none n (Want u) x off = record { none = e; runs = tt }
  new_none n (Assist u y) x off = absurd x

  pub holds_at : (t : Task) → RunsWithNone m.poll t → KnowsNoMarking (party_at m.poll t) (stage_at m.poll t) → t ≡ m.task → HoldsNoBuffer (takes_at l shapes m t found)
  holds_at Task.Idle x off is = record { none = e; runs = subst (λ (t : Task). RunsWithNone m.poll t) is tt }
  holds_at Task.Left x off is = record { none = e; runs = subst (λ (t : Task). RunsWithNone m.poll t) is tt }
  holds_at (Task.Load y) x off is = applied_none Task.Load m y.g y.d (load.step l y found) (load_goes _) e
  holds_at (Task.Store y) x off is = applied_none Task.Store (keeping m (store.held_behind l m.poll.local.held y.stage found)) y.g y.v (store.step l m.poll.local (register_of m y.g y.v) y found) (store_goes l m.poll.local (not_mark m.poll.local.view.phase off) (register_of m y.g y.v) y y.stage found x) (store_keeps l m.poll.local.held y.stage found x e)
  holds_at (Task.Global y) x off is = applied_none Task.Global (keeping m (global.held_behind l m.poll.local.held y.stage found)) y.g y.r (global.step l (register_of m y.g y.r) y found) (global_goes l (register_of m y.g y.r) y y.stage found x) (global_keeps l m.poll.local.held y.stage found x e)
  holds_at (Task.Register y) x off is = applied_none Task.Register m y.g y.d (register.step (register_of m y.g (register.read_of y)) y) (register_goes (register.step (register_of m y.g (register.read_of y)) y).then) e
  holds_at (Task.New y) x off is = new_none y.wanted y.stage x off
  holds_at (Task.Gc g y) x off is = let w : Waiting = wait.waiting y m.poll in gc_none g (wait.goes l w found) (wait.gives l w found) (wait_none l w y.stage found e x off)
  holds_at Task.Poll x off is = polled_none (poll.goes l m.poll found) (poll.gives l m.poll found) (poll_none l m.poll m.poll.stage found e x off)
  holds_at (Task.End g) x off is = record { none = e; runs = tt }
  holds_at (Task.Leave y) x off is = gone_none (leave.goes y found) (leave.gives y found) (leave_none y y.stage found x)
