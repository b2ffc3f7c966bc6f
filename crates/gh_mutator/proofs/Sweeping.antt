-- A processor runs the sweeps of its search for a slot, and no others.
use Rattle.std.proofs.Common.{◌≡◌, ℕ, Bool, true, false, cond, List, Option, Some, None, refl, ap, ◌∙◌, arith}
use Rattle.gh_mutator.proofs.Vocabulary.{after_gc, after_leave, after_poll, after_search, asks_at, Assist, begins, cache_span, follows, Found, has_left_at, Layout, Leaving, NewStage, Op, Place, Polling, Processor, processor_kind, register_of, Search, Seeking, seeking, Shape, takes_at, Task, Then, Wait, Waiting, Want, Wanted, wanted_of}
use Rattle.gh_alloc.specs.Search as search
use Rattle.gh_sweep.specs.Listing.{is_busy, Sweeping}
use Rattle.gh_sweep.specs.Listing as sweep
use Rattle.gh_sweep.specs.Running.{on_from, RunsSweeps}
use Rattle.gh_mutator.specs.Global as global
use Rattle.gh_poll.specs.Leave as leave
use Rattle.gh_mutator.specs.Load as load
use Rattle.gh_mutator.specs.New as new
use Rattle.gh_poll.specs.Poll as poll
use Rattle.gh_mutator.specs.Register as register
use Rattle.gh_mutator.specs.Store as store
use Rattle.gh_mutator.specs.Sweeping.{IsSearching, SearchesAt, SweepsAreRunOn, sweep_at, sweep_in, sweep_new}
use Rattle.gh_poll.specs.Wait as wait

seeking_none : (m : Processor) (w : Wanted) → search.sweep_in (seeking m w) ≡ None
seeking_none m w = grind arith

search_then : (shapes : List Shape) (m : Processor) (w : Wanted) (waited : Bool) (q : Seeking) (out : Option Found) → search.given q ≡ out → sweep_in (after_search shapes m w waited q out) ≡ search.sweep_in q
search_then shapes m w waited q out e = grind arith

-- While it sweeps.
on_at : (l : Layout) → ((z : Layout) → RunsSweeps (search.asks z) (search.goes z) (λ (q : Seeking). z) search.sweep_generation search.sweep_in) → (shapes : List Shape) (m : Processor) (sw : Sweeping) (q : Task) → sweep_at q ≡ Some sw → is_busy sw.stage ≡ true → (asks_at l m q ≡ sweep.asks l sw) × ((found : ℕ) → sweep_in (takes_at l shapes m q found) ≡ on_from sw found)
on_at l k shapes m sw (Task.New x) is busy = by x.stage is where
  by : (n : NewStage) → sweep_new n ≡ Some sw → (new.asks_at l m n ≡ sweep.asks l sw) × ((found : ℕ) → sweep_in (new.takes_at l shapes m x.wanted n found) ≡ on_from sw found)
  by (Search waited y) is =
      let o = (k l).on y sw is busy in
      (o.asks_so, λ found. search_then shapes (cache_span m x.wanted.sought (search.goes l y found).find.cached) x.wanted waited (search.goes l y found) (search.gives l y found) refl ∙ o.goes_so found)
  by (Wait y) is = absurd (cc)
  by (Place y) is = absurd (cc)
  by (Want n) is = absurd (cc)
  by (Assist n y) is = absurd (cc)
on_at l k shapes m sw _ is busy = absurd (cc)

-- A step that is none of a search leads to none.

follows_none : {S : Type 0} → (goes : S → Task) → ((s : S) → sweep_at (goes s) ≡ None) → (t : Then S) → sweep_at (follows goes t) ≡ None
follows_none goes none t = grind arith

gc_none : (m : Processor) (g : ℕ) (x : Waiting) (out : Option (Unit {0})) → sweep_in (after_gc m g x out) ≡ None
gc_none m g x out = grind arith

poll_none : (m : Processor) (p : Polling) (out : Option (Unit {0})) → sweep_in (after_poll m p out) ≡ None
poll_none m p out = grind arith

leave_none : (m : Processor) (x : Leaving) (out : Option (Unit {0})) → sweep_in (after_leave m x out) ≡ None
leave_none m x out = grind arith

module _ (l : Layout) (shapes : List Shape) (m : Processor) (found : ℕ) where
  others_at : (q : Task) → m.task ≡ q → sweep_at q ≡ None → (IsSearching q → ⊥) → sweep_in (takes_at l shapes m q found) ≡ None
  others_at Task.Idle is none not = ap sweep_at is
  others_at Task.Left is none not = ap sweep_at is
  others_at (Task.Load x) is none not = follows_none Task.Load (λ s. refl) (load.step l x found).then
  others_at (Task.Store x) is none not = follows_none Task.Store (λ s. refl) (store.step l m.poll.local (register_of m x.g x.v) x found).then
  others_at (Task.Global x) is none not = follows_none Task.Global (λ s. refl) (global.step l (register_of m x.g x.r) x found).then
  others_at (Task.Register x) is none not = follows_none Task.Register (λ s. refl) (register.step (register_of m x.g (register.read_of x)) x).then
  others_at (Task.New x) is none not = by x.stage not where
    by : (n : NewStage) → (SearchesAt n → ⊥) → sweep_in (new.takes_at l shapes m x.wanted n found) ≡ None
    by n not = grind arith
  others_at (Task.Gc g x) is none not = gc_none m g (wait.goes l (wait.waiting x m.poll) found) (wait.gives l (wait.waiting x m.poll) found)
  others_at Task.Poll is none not = poll_none m (poll.goes l m.poll found) (poll.gives l m.poll found)
  others_at (Task.End g) is none not = refl
  others_at (Task.Leave x) is none not = leave_none m (leave.goes x found) (leave.gives x found)

-- And where it begins an operation it begins none.
begun_none : (shapes : List Shape) (z : Layout) (m : Processor) (o : Op) → sweep_in m ≡ None → sweep_in ((processor_kind shapes z).begins m o) ≡ None
begun_none shapes z m o none = by (has_left_at m.task) where
  op_none : (o : Op) → sweep_in (begins shapes m o) ≡ None
  op_none (Op.New g d t) = seeking_none m (wanted_of shapes g d t)
  op_none _ = refl

  by : (b : Bool) → sweep_in (cond b m (begins shapes m o)) ≡ None
  by true = none
  by false = op_none o

pub sweeps_run_on : ((z : Layout) → RunsSweeps (search.asks z) (search.goes z) (λ (q : Seeking). z) search.sweep_generation search.sweep_in) → SweepsAreRunOn
sweeps_run_on k = record {
  at_first = λ seat. refl;
  begun = begun_none;
  on = λ l shapes m sw is busy. let o = on_at l k shapes m sw m.task is busy in record { asks_so = o.0; goes_so = o.1 };
  searches = λ l shapes m w waited q found. search_then shapes (cache_span m w.sought (search.goes l q found).find.cached) w waited (search.goes l q found) (search.gives l q found) refl;
  others = λ l shapes m found none not. others_at l shapes m found m.task refl none not;
}
