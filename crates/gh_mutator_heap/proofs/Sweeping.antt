-- Where a processor begins a sweep it has found the head of an unswept span.
use Rattle.std.proofs.Common.{subst, ◌≡◌, ℕ, Bool, Option, Some, None, sym, ap, ◌∙◌, arith}
use Rattle.gh_mutator_heap.proofs.Vocabulary.{Answer, Arena, asks_at, Assist, FactsAt, IsSearching, Layout, NewStage, Processor, rest, Search, searches, Seeking, sweep_at, sweep_in, Sweeping, SweepsAreRunOn, SweepsHere, takes, takes_at, Task, View, Wait, Want, Wanted}
use Rattle.gh_alloc.specs.Search as search
use Rattle.gh_sweep.specs.Running.{BeginsSweep, RunsSweeps}
use Rattle.gh_mutator_heap.specs.Sweeping.{ProcessorsRunSweeps}
use Rattle.gh_mutator.specs.declared.new.NewStage.TheVariants.{Place}

-- what is known of the search and of the processor by their laws
pub record Known : Type 0 where
  pub runs : (l : Layout) → RunsSweeps (search.asks l) (search.goes l) (λ (q : Seeking). l) search.sweep_generation search.sweep_in
  pub here : SweepsHere
  pub run_on : SweepsAreRunOn

module _ (k : Known) (z : Arena) (a : ℕ) (v : View) (m : Processor) (pending : Option Answer) (found : ℕ) (sw : Sweeping) where
  abbrev Begins : Task → Type 0
  Begins q = FactsAt z a v m pending q → sweep_at q ≡ None → sweep_in (takes_at z.layout z.shapes m q found) ≡ Some sw → BeginsSweep v.generation (asks_at z.layout m q) found sw

  none_so : (o : Option Sweeping) → o ≡ None → o ≡ Some sw → ⊥
  none_so o none some = cc

  searched : (x : Wanted) (waited : Bool) (y : Seeking) → Begins (searches x waited y)
  searched x waited y f none some =
      let there : search.sweep_in (search.goes z.layout y found) ≡ Some sw = sym (k.run_on.searches z.layout z.shapes m x waited y found) ∙ some in
      let b = (k.runs z.layout).begins y found sw none there in
      let here = k.here z a v (rest m x) y f.facts in
      record {
        page = b.page;
        head = b.head;
        step_is = b.step_is;
        head_is = b.head_is;
        number = b.number ∙ here;
        sweep_is = b.sweep_is;
      }

  other : (q : Task) → m.task ≡ q → (IsSearching q → ⊥) → Begins q
  other q is not f none some = absurd (none_so (sweep_in (takes z.layout z.shapes m found)) (k.run_on.others z.layout z.shapes m found (ap sweep_at is ∙ none) (λ e. not (subst IsSearching is e))) (ap (λ (t : Task). sweep_in (takes_at z.layout z.shapes m t found)) is ∙ some))

  begins_at : (q : Task) → m.task ≡ q → Begins q
  begins_at Task.Idle is = other Task.Idle is (λ e. e)
  begins_at Task.Left is = other Task.Left is (λ e. e)
  begins_at (Task.Load x) is = other (Task.Load x) is (λ e. e)
  begins_at (Task.Store x) is = other (Task.Store x) is (λ e. e)
  begins_at (Task.Global x) is = other (Task.Global x) is (λ e. e)
  begins_at (Task.Register x) is = other (Task.Register x) is (λ e. e)
  begins_at (Task.New x) is = by x.stage is where
    by : (n : NewStage) → m.task ≡ Task.New (record { wanted = x.wanted; stage = n }) → Begins (Task.New (record { wanted = x.wanted; stage = n }))
    by (Search waited y) is = searched x.wanted waited y
    by (Wait y) is = other (Task.New (record { wanted = x.wanted; stage = Wait y })) is (λ e. e)
    by (Place y) is = other (Task.New (record { wanted = x.wanted; stage = Place y })) is (λ e. e)
    by (Want n) is = other (Task.New (record { wanted = x.wanted; stage = Want n })) is (λ e. e)
    by (Assist n y) is = other (Task.New (record { wanted = x.wanted; stage = Assist n y })) is (λ e. e)
  begins_at (Task.Gc g x) is = other (Task.Gc g x) is (λ e. e)
  begins_at Task.Poll is = other Task.Poll is (λ e. e)
  begins_at (Task.End g) is = other (Task.End g) is (λ e. e)
  begins_at (Task.Leave x) is = other (Task.Leave x) is (λ e. e)

pub runs_sweeps : Known → ProcessorsRunSweeps
runs_sweeps k = grind (arith, begins_at)
