-- The routine that a worker runs has a step to make, after every list: where an object's scan or a shading ends, the worker goes on.
use Rattle.std.proofs.Common.{◌≡◌, ℕ, ◌==◌, Bool, true, false, cond, Option, refl, List, [], ◌∷◌, arith}
use Rattle.gh_marked.proofs.Vocabulary.{Actor, actor_takes, actors, Entry, Kind, Layout, Op, Setup, Shaded, start, started, state_of, WorkerStage, Working}
use Rattle.gh_scan.specs.Listing as scan
use Rattle.gh_shade.specs.Listing as shade
use Rattle.gh_worker.specs.Listing as worker

abbrev pub HasStep : WorkerStage → Type 0
HasStep (WorkerStage.Scanning s) = scan.is_busy s.stage ≡ true
HasStep (WorkerStage.Shading sh) = shade.is_busy sh.stage ≡ true
HasStep _ = Unit {0}

module _ (l : Layout) (w : Working) where
  after_scan : (s : scan.Scanning) (out : Option ℕ) → scan.given s ≡ out → HasStep (worker.after_scan w s out).stage
  after_scan s out is = grind arith

  after_shade : (sh : shade.Shading) (out : Option Shaded) → shade.given sh ≡ out → HasStep (worker.after_shade w sh out).stage
  after_shade sh out is = grind arith

  goes_at : (p : WorkerStage) (found : ℕ) → HasStep (worker.goes_at l w p found).stage
  goes_at (WorkerStage.Scanning s) found = after_scan (scan.goes l s found) (scan.gives l s found) refl
  goes_at (WorkerStage.Shading sh) found = after_shade (shade.goes sh found) (shade.gives sh found) refl
  goes_at p found = grind arith

abbrev Fits : Actor → Type 0
Fits (Actor.Marks w) = HasStep w.stage
Fits _ = Unit {0}

module _ (setup : Setup) where
  abbrev all : Kind Actor Op
  all = actors setup

  opens : (a : ℕ) → Fits (start setup.layout setup.pacing a)
  opens a = grind arith

  taken : (found : ℕ) (m : Actor) → Fits (actor_takes setup.shapes setup.layout m found)
  taken found (Actor.Runs m) = tt
  taken found (Actor.Marks w) = goes_at setup.layout w w.stage found
  taken found (Actor.Leads c) = tt

  fits : (es : List (Entry Op)) (a : ℕ) → Fits (state_of all a es)
  fits [] a = opens a
  fits (e ∷ es) a = go (e.actor == a) (fits es a) where
    go : (b : Bool) → Fits (state_of all a es) → Fits (cond b (actor_takes setup.shapes setup.layout (started all e.begun (state_of all a es)) e.found) (state_of all a es))
    go true f = taken e.found (started all e.begun (state_of all a es))
    go false f = f

  pub has_step : (es : List (Entry Op)) (a : ℕ) (w : Working) → state_of all a es ≡ Actor.Marks w → HasStep w.stage
  has_step es a w is = grind (arith, fits)
