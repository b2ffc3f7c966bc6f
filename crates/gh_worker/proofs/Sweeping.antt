-- A worker runs the steps of sweeps, and begins one where it finds the head of an unswept span with marking off.
use Rattle.std.proofs.Common.{◌≡◌, ℕ, Some, None, refl, sym, subst, arith}
use Rattle.gh_worker.proofs.Vocabulary.{after_page, asks_at, goes_at, Layout, LoadPage, Looks, page_of, PageWord, sweep_at, sweep_in, WorkerStage, Working}
use Rattle.gh_sweep.specs.Listing as sweep
use Rattle.gh_sweep.specs.Running.{BeginsSweep, on_from}
use Rattle.gh_worker.specs.Sweeping.{WorkersRunSweeps}
use Rattle.gh_worker.proofs.Places.{begins_at, looks_at}

on_at : (l : Layout) (w : Working) (sw : sweep.Sweeping) (p : WorkerStage) → sweep_at p ≡ Some sw → (asks_at l w p ≡ sweep.asks l sw) × ((found : ℕ) → sweep_in (goes_at l w p found) ≡ on_from sw found)
on_at l w sw p is = grind arith

-- Where it begins one: behind a load of a page alone.
only_looks : (p : WorkerStage) → sweep_at p ≡ None → Looks p → p ≡ LoadPage
only_looks p none x = grind arith

module _ (l : Layout) (w : Working) (found : ℕ) (sw : sweep.Sweeping) where
  abbrev Begins : WorkerStage → Type 0
  Begins p = BeginsSweep w.view.generation (asks_at l w p) found sw

  paged : (word : PageWord) → page_of found ≡ word → sweep_in (after_page l w word) ≡ Some sw → Begins LoadPage
  paged word is some = grind arith

  begins : (p : WorkerStage) → p ≡ LoadPage → sweep_in (goes_at l w p found) ≡ Some sw → Begins p
  begins p at some = subst (λ (q : WorkerStage). sweep_in (goes_at l w q found) ≡ Some sw → Begins q) (sym at) (paged (page_of found) refl) some

  behind : (p : WorkerStage) → sweep_at p ≡ None → sweep_in (goes_at l w p found) ≡ Some sw → p ≡ LoadPage
  behind p none some = only_looks p none (begins_at l found w sw p some)

pub runs_sweeps : WorkersRunSweeps
runs_sweeps = record {
  at_first = λ seat. refl;
  runs = λ l. record {
    on = λ w sw is busy. let o = on_at l w sw w.stage is in record { asks_so = o.0; goes_so = o.1 };
    begins = λ w found sw none some. begins l w found sw w.stage (behind l w found sw w.stage none some) some;
  };
  behind = λ l w found sw none some. behind l w found sw w.stage none some;
  looks = λ l w found e. looks_at l found w w.stage e;
}
