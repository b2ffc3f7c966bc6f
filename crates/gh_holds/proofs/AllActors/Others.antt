-- What was said of the starts of a list, behind an entry of another than the coordinator.
use Rattle.std.proofs.Common.{◌≡◌, ℕ, ◌<◌, ◌≤◌, true, sym, ap, ◌∙◌, arith, List, ◌∷◌, Some, None}
use Rattle.gh_holds.proofs.Vocabulary.{acks_of, Act, arena, CoordStage, deeds, done_at, Entry, IsBeginning, IsEnding, IsFullFor, IsStepIn, IsTelling, Known, Legal, Op, Processor, processor_kind, rests, rests_on, Setup, those, WasSo, words}
use Rattle.gh_holds.proofs.AllActors.Starts.{ends_on, frees_on, FreesNow}

module _ (setup : Setup) (known : Known)
    (e : Entry Op) (es : List (Entry Op)) (legal : Legal (those setup) (e ∷ es)) where
  -- of another than the coordinator
  module _ (among : e.actor < acks_of setup.layout) where
    no_step : (at : CoordStage → Type 0) (k : ℕ) → IsStepIn setup at k e es → ⊥
    no_step at k step = absurd (let is : e.actor ≡ acks_of setup.layout = step.by in omega (arith, is, among))

    frees_now : FreesNow setup e es
    frees_now = record { frees = λ k begun of begins step. absurd (no_step IsTelling k step); fresh = λ k swept step of sweeps. no_step IsBeginning k step }

    -- where it does not act with `full`
    pub was_by_others : ((x : Act) → done_at (processor_kind setup.shapes setup.layout) (deeds setup.layout setup.shapes) es e ≡ Some x → x.full ≡ true → IsFullFor (arena setup) e.actor (words setup es) x.op) → WasSo setup es → WasSo setup (e ∷ es)
    was_by_others full was = record {
      full = (was.full, full);
      frees = frees_on setup e es frees_now was.frees;
      ends = ends_on setup e es (λ k step. absurd (no_step IsEnding k step)) was.ends;
    }

  -- of another than a processor
  module _ (ge : setup.layout.procs ≤ e.actor) where
    acts_none : done_at (processor_kind setup.shapes setup.layout) (deeds setup.layout setup.shapes) es e ≡ None
    acts_none = ap (λ (m : Processor). (deeds setup.layout setup.shapes).acts m e.found) (rests_on setup e es legal ge (rests setup es legal.0 e.actor ge))

    pub no_full : (x : Act) → done_at (processor_kind setup.shapes setup.layout) (deeds setup.layout setup.shapes) es e ≡ Some x → x.full ≡ true → IsFullFor (arena setup) e.actor (words setup es) x.op
    no_full x done full = absurd (let no : None ≡ Some x = sym acts_none ∙ done in cc)
