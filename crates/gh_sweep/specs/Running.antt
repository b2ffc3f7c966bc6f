-- A routine that runs sweeps of spans: that its steps are theirs meanwhile, and where one begins.
use Rattle.std.specs.Prelude.{◌≡◌, ℕ, ◌+◌, true, if◌then◌else◌, Option, Some, None}
use Rattle.gh_sweep.specs.Vocabulary.{Ask, Head, Layout, Load, Page, page_of, SpanHead}
use Rattle.gh_sweep.specs.Listing.{asks, goes, is_busy, opening, Sweeping}

-- the sweep after a step that found this, as long as it goes on
abbrev pub on_from : Sweeping → ℕ → Option Sweeping
on_from sw found = if is_busy (goes sw found).stage then Some (goes sw found) else None

-- while it runs a sweep, its step is the sweep's, and it runs that on until it has ended
pub record SweepsOn {M : Type 0} (l : Layout) (asks_of : M → Ask) (goes_of : M → ℕ → M) (sweep_in : M → Option Sweeping) (m : M) (sw : Sweeping) : Type 0 where
  pub asks_so : asks_of m ≡ asks l sw
  pub goes_so : (found : ℕ) → sweep_in (goes_of m found) ≡ on_from sw found

-- it begins one where a page's word is found to be a head with the number before the sweep generation
pub record BeginsSweep (generation : ℕ) (step : Ask) (found : ℕ) (sw : Sweeping) : Type 0 where
  pub page : ℕ
  pub head : SpanHead
  pub step_is : step ≡ Load (Page page)
  pub head_is : page_of found ≡ Head head
  pub number : head.number + 2 ≡ generation
  pub sweep_is : sw ≡ opening page head

-- so it is with each sweep that a routine of this listing runs
pub record RunsSweeps {M : Type 0} (asks_of : M → Ask) (goes_of : M → ℕ → M) (layout : M → Layout) (generation : M → ℕ) (sweep_in : M → Option Sweeping) : Type 0 where
  pub on : (m : M) (sw : Sweeping) → sweep_in m ≡ Some sw → is_busy sw.stage ≡ true → SweepsOn (layout m) asks_of goes_of sweep_in m sw
  pub begins : (m : M) (found : ℕ) (sw : Sweeping) → sweep_in m ≡ None → sweep_in (goes_of m found) ≡ Some sw → BeginsSweep (generation m) (asks_of m) found sw
