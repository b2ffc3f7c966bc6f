-- A processor sweeps a span where its search for a slot does.
use Rattle.std.specs.Prelude.{◌≡◌, ℕ, Bool, true, List, Option, Some, None, is_some}
use Rattle.gh_mutator.specs.Vocabulary.{Layout, NewStage, Op, Search, Seeking, Shape, Task, Wanted}
use Rattle.gh_alloc.specs.Search as search
use Rattle.gh_sweep.specs.Listing.{is_busy, Sweeping}
use Rattle.gh_sweep.specs.Running.{SweepsOn}
use Rattle.gh_mutator.specs.Deeds.{processor_kind}
use Rattle.gh_mutator.specs.Listing.{asks, takes, takes_at}
use Rattle.gh_mutator.specs.New.{searches as looks}
use Rattle.gh_mutator.specs.Processor.{opening_processor}
use Rattle.gh_mutator.specs.Processing.{Processor}

-- the sweep that it runs, if it runs one
abbrev pub sweep_new : NewStage → Option Sweeping
sweep_new (Search waited q) = search.sweep_in q
sweep_new _ = None

abbrev pub sweep_at : Task → Option Sweeping
sweep_at (Task.New x) = sweep_new x.stage
sweep_at _ = None

abbrev pub sweep_in : Processor → Option Sweeping
sweep_in m = sweep_at m.task

abbrev pub IsSweeping : Processor → Type 0
IsSweeping m = is_some (sweep_in m) ≡ true

-- a slot is looked for
abbrev pub SearchesAt : NewStage → Type 0
SearchesAt (Search waited y) = Unit {0}
SearchesAt _ = ⊥

abbrev pub IsSearching : Task → Type 0
IsSearching (Task.New x) = SearchesAt x.stage
IsSearching _ = ⊥

-- While it runs a sweep it goes on with it, and nothing but a search begins one.
pub record SweepsAreRunOn : Type 0 where
  -- before its first step it runs none, and no operation begins with one
  pub at_first : (seat : ℕ) → sweep_in (opening_processor seat) ≡ None
  pub begun : (shapes : List Shape) (l : Layout) (m : Processor) (o : Op) → sweep_in m ≡ None → sweep_in ((processor_kind shapes l).begins m o) ≡ None
  -- while it runs a sweep its step is the sweep's, and it runs that on until it has ended
  pub on : (l : Layout) (shapes : List Shape) (m : Processor) (sw : Sweeping) → sweep_in m ≡ Some sw → is_busy sw.stage ≡ true → SweepsOn l (asks l) (takes l shapes) sweep_in m sw
  -- a step of a search leads to the sweep that the search runs then
  pub searches : (l : Layout) (shapes : List Shape) (m : Processor) (w : Wanted) (waited : Bool) (q : Seeking) (found : ℕ) → sweep_in (takes_at l shapes m (looks w waited q) found) ≡ search.sweep_in (search.goes l q found)
  -- and any other to none
  pub others : (l : Layout) (shapes : List Shape) (m : Processor) (found : ℕ) → sweep_in m ≡ None → (IsSearching m.task → ⊥) → sweep_in (takes l shapes m found) ≡ None
