-- The next step of each actor is on a word that there is: a processor's by its rights, a worker's and the coordinator's whatever was found.
use Rattle.std.proofs.Common.{◌≡◌, ◌<◌, refl, sym, ap, subst, ◌∙◌, List}
use Rattle.gh_law.proofs.Vocabulary.{Actor, actors, cell_of, Entry, Given, HasState, InRange, IsInLimits, IsSeated, Kind, Known, lead_started, Op, processor_at, run_started, runs_are, seated, setup_for, ShapesAreGood, started, state_of, StepsWithin, worker_started}
use Rattle.gh_lists.specs.Handshake as handshake
use Rattle.gh_law.proofs.Within.Lists.{lead_asks, worker_asks}
use Rattle.gh_law.proofs.Within.Processors.{by_rights}

module _ (given : Given) (good : ShapesAreGood given.shapes) (limits : IsInLimits given.layout) (known : Known) where
  abbrev all : Kind Actor Op
  all = actors (setup_for given)

  abbrev IsWithin : Actor → Type 0
  IsWithin m = InRange given.layout (cell_of (handshake.asks given.layout m))

  pub steps_within : (es : List (Entry Op)) → HasState (setup_for given) es → StepsWithin (setup_for given) es
  steps_within es has a o step = go (state_of all a es) refl where
    go : (m : Actor) → state_of all a es ≡ m → IsWithin (started all o (state_of all a es))
    go (Actor.Runs m) is =
        let seat : a < given.layout.procs = subst (IsSeated given.layout a) is (seated (setup_for given) es a) in
        let own = ap (started all o) (runs_are (setup_for given) es a seat) ∙ run_started (setup_for given) o (processor_at (setup_for given) es a) in
        subst IsWithin (sym own) (by_rights given good known es a o seat step.begins has)
    go (Actor.Marks w) is = subst IsWithin (sym (ap (started all o) is ∙ worker_started (setup_for given) o w)) (worker_asks known.workers_within known.coordinator_within (setup_for given) limits es a w is)
    go (Actor.Leads c) is = subst IsWithin (sym (ap (started all o) is ∙ lead_started (setup_for given) o c)) (lead_asks known.workers_within known.coordinator_within (setup_for given) limits es a c is)
