-- A worker that sweeps runs the steps of sweeps, one span after the other, and begins each where it has found that marking is off.
use Rattle.std.specs.Prelude.{◌≡◌, ℕ, Some, None}
use Rattle.gh_worker.specs.Vocabulary.{Layout, Load, LoadPage, Off, phase_of}
use Rattle.gh_base.specs.declared.cell.Cell.TheVariants.{Phase}
use Rattle.gh_sweep.specs.Listing.{Sweeping}
use Rattle.gh_sweep.specs.Running.{RunsSweeps}
use Rattle.gh_worker.specs.Listing.{asks, goes, opening, sweep_in, Working}

pub record WorkersRunSweeps : Type 0 where
  -- before its first step it runs none
  pub at_first : (seat : ℕ) → sweep_in (opening seat) ≡ None
  -- it begins one where it finds the head of a span with the number before the sweep generation, as it knows that
  pub runs : (l : Layout) → RunsSweeps (asks l) (goes l) (λ (w : Working). l) (λ (w : Working). w.view.generation) sweep_in
  -- the page's word in which it finds that it loads for this alone
  pub behind : (l : Layout) (w : Working) (found : ℕ) (sw : Sweeping) → sweep_in w ≡ None → sweep_in (goes l w found) ≡ Some sw → w.stage ≡ LoadPage
  -- and it comes there only by a load of the phase that finds marking off
  pub looks : (l : Layout) (w : Working) (found : ℕ) → (goes l w found).stage ≡ LoadPage → (asks l w ≡ Load Phase) × ((phase_of found).phase ≡ Off)
