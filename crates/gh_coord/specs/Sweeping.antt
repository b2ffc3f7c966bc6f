-- The coordinator runs the steps of sweeps, one span after the other, and tells that a cycle is swept once each span is.
use Rattle.std.specs.Prelude.{◌≡◌, ℕ, true, Some, None}
use Rattle.gh_coord.specs.Vocabulary.{is_busy, Layout, Sweeping}
use Rattle.gh_sweep.specs.Running.{BeginsSweep, SweepsOn}
use Rattle.gh_coord.specs.Handshake.{Sound}
use Rattle.gh_coord.specs.Listing.{asks, Coordinating, goes, opening, sweep_in}
use Rattle.gh_coord.specs.SweptPages.{TellsOnceAllAreSwept}

pub record TheCoordinatorRunsSweeps : Type 0 where
  -- before its first step it runs none
  pub at_first : (l : Layout) (seat gogc minheap room : ℕ) → sweep_in (opening l seat gogc minheap room) ≡ None
  -- while it runs a sweep its step is the sweep's, and it runs that on until it has ended
  pub on : (l : Layout) (s : Coordinating) (sw : Sweeping) → sweep_in s ≡ Some sw → is_busy sw.stage ≡ true → SweepsOn l (asks l) (goes l) sweep_in s sw
  -- it begins one where it finds the head of a span with the number before its sweep generation
  pub begins : (l : Layout) (s : Coordinating) (found : ℕ) (sw : Sweeping) → Sound s → sweep_in s ≡ None → sweep_in (goes l s found) ≡ Some sw → BeginsSweep s.generation (asks l s) found sw
  -- where it tells that a cycle is swept it has swept each span itself, or has waited until nobody sweeps it
  pub tells : TellsOnceAllAreSwept
