-- After every list each worker and the coordinator knows its numbers, so each step of theirs is on a word that there is, whatever was found.
use Rattle.std.proofs.Common.{◌≡◌, ℕ, ◌==◌, Bool, cond, Option, subst, arith, List, [], ◌∷◌}
use Rattle.gh_law.proofs.Vocabulary.{Actor, actor_takes, actors, cell_of, Entry, InRange, IsInLimits, Kind, Layout, Op, Setup, start, started, state_of}
use Rattle.gh_coord.specs.Listing as coord
use Rattle.gh_coord.specs.Within.{StandsWithin, TheCoordinatorStaysWithin}
use Rattle.gh_worker.specs.Listing as worker
use Rattle.gh_worker.specs.Routine.{WorkersStayWithin}
use Rattle.gh_worker.specs.Sound.{StandsWithin as WorkerWithin}

abbrev FitsIn : Layout → Actor → Type 0
FitsIn l (Actor.Runs m) = Unit {0}
FitsIn l (Actor.Marks w) = WorkerWithin l w
FitsIn l (Actor.Leads c) = StandsWithin l c

module _ (works : WorkersStayWithin) (leads : TheCoordinatorStaysWithin) (setup : Setup) (limits : IsInLimits setup.layout) where
  abbrev all : Kind Actor Op
  all = actors setup

  abbrev IsFit : Actor → Type 0
  IsFit m = FitsIn setup.layout m

  first_lead : (a : ℕ) → StandsWithin setup.layout (coord.opening setup.layout a setup.pacing.gogc setup.pacing.minheap setup.pacing.room)
  first_lead a = leads.at_first setup.layout a setup.pacing.gogc setup.pacing.minheap setup.pacing.room (let some = limits.procs_fit.0 in omega (arith, some)) (let some = limits.pages_fit.0 in omega (arith, some))

  opens : (a : ℕ) → IsFit (start setup.layout setup.pacing a)
  opens a = let some = limits.pages_fit.0 in grind (arith, first_lead, some)

  begun : (o : Option Op) (m : Actor) → IsFit m → IsFit (started all o m)
  begun o m f = grind arith

  taken : (found : ℕ) (m : Actor) → IsFit m → IsFit (actor_takes setup.shapes setup.layout m found)
  taken found (Actor.Runs m) f = tt
  taken found (Actor.Marks w) f = works.stays setup.layout w found f
  taken found (Actor.Leads c) f = leads.stays setup.layout c found f

  next : (e : Entry Op) (m : Actor) (b : Bool) → IsFit m → IsFit (cond b (actor_takes setup.shapes setup.layout (started all e.begun m) e.found) m)
  next e m b f = grind (arith, begun, taken)

  fits : (es : List (Entry Op)) (a : ℕ) → IsFit (state_of all a es)
  fits [] a = opens a
  fits (e ∷ es) a = next e (state_of all a es) (e.actor == a) (fits es a)

  pub worker_asks : (es : List (Entry Op)) (a : ℕ) (w : worker.Working) → state_of all a es ≡ Actor.Marks w → InRange setup.layout (cell_of (worker.asks setup.layout w))
  worker_asks es a w is = works.within setup.layout w (subst IsFit is (fits es a))

  pub lead_asks : (es : List (Entry Op)) (a : ℕ) (c : coord.Coordinating) → state_of all a es ≡ Actor.Leads c → InRange setup.layout (cell_of (coord.asks setup.layout c))
  lead_asks es a c is = leads.within setup.layout c (subst IsFit is (fits es a))
