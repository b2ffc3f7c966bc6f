-- What was said of the starts of a list goes on to be so behind the coordinator's step: where it tells that a cycle is swept, what was not reached is freed; and where it ends one, what a script reaches is marked.
use Rattle.std.proofs.Common.{◌≡◌, inr, ℕ, refl, sym, ap, subst, ◌∙◌, List, ◌∷◌, arith}
use Rattle.gh_holds.proofs.Vocabulary.{Arena, arena, BeginsCycle, Close, Coordinating, CoordStage, EndsAllMarked, EndsMarked, Entry, HoldsAt, IsEnding, IsLed, IsStartOf, IsStepIn, IsTelling, ListsKnown, Op, Setup, Tell, WasMarked, WasSo, whole}
use Rattle.gh_coord.specs.Closing as close
use Rattle.gh_coord.specs.Handshake as leading
use Rattle.gh_holds.proofs.AllActors.LeadingEnds.{ends_marked}
use Rattle.gh_holds.proofs.AllActors.LeadingLast.{marked_were}
use Rattle.gh_holds.proofs.AllActors.LeadingNumbers.{fresh}
use Rattle.gh_holds.proofs.AllActors.LeadingSeat.{ByLead, from}
use Rattle.gh_holds.proofs.AllActors.LeadingTold.{Told, told_at, told_then}
use Rattle.gh_holds.proofs.AllActors.Others.{no_full}
use Rattle.gh_holds.proofs.AllActors.Starts.{ends_on, Frees, frees_on}

-- it does not both end a cycle's marking and tell that one is swept
not_ending : (p : CoordStage) → IsEnding p → IsTelling p → ⊥
not_ending p x y = grind arith

module _ (setup : Setup) (lists : ListsKnown setup) where
  abbrev z : Arena
  z = arena setup

  abbrev pub Was : List (Entry Op) → Type 0
  Was es = WasMarked z setup.pacing setup.may es

  one_led : (es : List (Entry Op)) (c d : Coordinating) → IsLed setup es c → IsLed setup es d → c ≡ d
  one_led es c d x y = let both = sym x ∙ y in cc

  module _ (e : Entry Op) (es : List (Entry Op)) (was : Was es) (by : ByLead setup e es) (at : HoldsAt setup es by.lead by.lead.stage) where
    -- where the cycle is told, what stands then was marked where it ended, so it was reached where it began, or made since
    module _ (before : EndsAllMarked setup es) (j : Told setup lists (e ∷ es) by.lead) (begun : List (Entry Op)) (start : IsStartOf begun es) (begins : BeginsCycle setup by.lead.begun begun) (step : IsStepIn setup IsTelling by.lead.begun e es) where
      no_ending : EndsAllMarked setup (e ∷ es)
      no_ending = ends_on setup e es (λ k x. absurd (not_ending step.lead.stage (subst (λ (d : Coordinating). IsEnding d.stage) (one_led es x.lead step.lead x.led step.led) x.stage) step.stage)) before

      frees_them : Frees setup begun (e ∷ es)
      frees_them n made unreached b placed_then = unreached (marked_were setup lists (e ∷ es) by.legal by.lead j no_ending begun (inr start) begins n made b placed_then)

    told_now : (p : CoordStage) → by.lead.stage ≡ p → IsTelling p → Told setup lists (e ∷ es) by.lead
    told_now (Tell t) is x = told_then setup lists e es by t is (told_at setup lists es by.lead t.stage (subst (HoldsAt setup es by.lead) is at))
    told_now _ is x = absurd x

    frees_now : EndsAllMarked setup es → (k : ℕ) (begun : List (Entry Op)) → IsStartOf begun es → BeginsCycle setup k begun → IsStepIn setup IsTelling k e es → Frees setup begun (e ∷ es)
    frees_now before k begun start begins step =
        let same : step.lead ≡ by.lead = one_led es step.lead by.lead step.led by.led in
        let number : by.lead.begun ≡ k = sym (ap (λ (d : Coordinating). d.begun) same) ∙ step.cycle in
        let telling_it : IsTelling by.lead.stage = subst (λ (d : Coordinating). IsTelling d.stage) same step.stage in
        frees_them before (told_now by.lead.stage refl telling_it) begun start (subst (λ (i : ℕ). BeginsCycle setup i begun) (sym number) begins) (record { lead = step.lead; led = step.led; by = step.by; stage = step.stage; cycle = step.cycle ∙ sym number })

    ends_at : (p : CoordStage) → by.lead.stage ≡ p → IsEnding p → EndsMarked setup es by.lead
    ends_at (Close y) is x = ends_marked setup lists es by.legal.0 by.lead by.led y is (subst leading.Marks (sym is) (ap close.is_marking x)) (was es by.lead (whole es) by.led (subst leading.Marks (sym is) (ap close.is_marking x)))
    ends_at _ is x = absurd x

    ends_now : (k : ℕ) (step : IsStepIn setup IsEnding k e es) → EndsMarked setup es step.lead
    ends_now k step =
        let same : step.lead ≡ by.lead = one_led es step.lead by.lead step.led by.led in
        subst (EndsMarked setup es) (sym same) (ends_at by.lead.stage refl (subst (λ (d : Coordinating). IsEnding d.stage) same step.stage))

    pub was_on : WasSo setup es → WasSo setup (e ∷ es)
    was_on before = record {
      full = (before.full, no_full setup lists.known e es by.legal (from setup lists e es by));
      frees = frees_on setup e es (record { frees = frees_now before.ends; fresh = λ k swept step start sweeps. fresh setup lists k es swept step.lead by.legal.0 step.led step.stage step.cycle start sweeps }) before.frees;
      ends = ends_on setup e es ends_now before.ends;
    }
