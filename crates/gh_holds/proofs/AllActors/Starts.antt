-- What was said of a list's starts is said of them still behind one entry more; and what has to be said of the entry.
use Rattle.std.proofs.Common.{◌≡◌, ℕ, sym, ap, subst, ◌∙◌, inl, inr, List, ◌∷◌, arith}
use Rattle.gh_holds.proofs.Vocabulary.{AllWereCounted, BeginsCycle, Coordinating, EndsAllMarked, EndsMarked, Entry, ever, FreesTheUnreached, IsBeginning, IsEnding, IsLed, IsMade, IsPlacedAt, IsStartOf, IsStepIn, IsTelling, Name, Op, Reach, Setup, SweepsCycle, words}

module _ (setup : Setup) where
  abbrev pub Frees : List (Entry Op) → List (Entry Op) → Type 0
  Frees begun swept = (n : Name) → IsMade (ever setup begun).made n → (Reach (ever setup begun) n → ⊥) → (a : ℕ) → IsPlacedAt (words setup swept) n a → ⊥

  module _ (e : Entry Op) (es : List (Entry Op)) where
    -- where the entry tells that a cycle is swept, what was not reached where it began is freed; and where it begins one, no cycle of this number is swept yet
    pub record FreesNow : Type 0 where
      pub frees : (k : ℕ) (begun : List (Entry Op)) → IsStartOf begun es → BeginsCycle setup k begun → IsStepIn setup IsTelling k e es → Frees begun (e ∷ es)
      pub fresh : (k : ℕ) (swept : List (Entry Op)) → IsStepIn setup IsBeginning k e es → IsStartOf swept es → SweepsCycle setup k swept → ⊥

    pub frees_on : FreesNow → FreesTheUnreached setup es → FreesTheUnreached setup (e ∷ es)
    frees_on now before k begun swept of_begun of_swept begins sweeps = go of_begun of_swept where
      go : IsStartOf begun (e ∷ es) → IsStartOf swept (e ∷ es) → Frees begun swept
      go h h2 = grind arith

    -- where the entry ends a cycle's marking
    pub ends_on : ((k : ℕ) (step : IsStepIn setup IsEnding k e es) → EndsMarked setup es step.lead) → EndsAllMarked setup es → EndsAllMarked setup (e ∷ es)
    ends_on now before d ds k of step = go of where
      here : d ∷ ds ≡ e ∷ es → EndsMarked setup ds step.lead
      here is =
          let first : d ≡ e = cc in
          let rest : ds ≡ es = cc in
          let moved : IsStepIn setup IsEnding k e es = record {
            lead = step.lead;
            led = subst (λ (x : List (Entry Op)). IsLed setup x step.lead) rest step.led;
            by = sym (ap (λ (x : Entry Op). x.actor) first) ∙ step.by;
            stage = step.stage;
            cycle = step.cycle;
          } in
          subst (λ (x : List (Entry Op)). EndsMarked setup x step.lead) (sym rest) (now k moved)

      go : IsStartOf (d ∷ ds) (e ∷ es) → EndsMarked setup ds step.lead
      go (inl is) = here is
      go (inr is) = before d ds k is step

    -- the cycles that were counted
    pub counted_on : (c : Coordinating) → AllWereCounted setup es c → AllWereCounted setup (e ∷ es) c
    counted_on c before i y is = let w = before i y is in record { ended = w.ended; start = inr w.start; ends = w.ends; marked = w.marked; freed = w.freed; all = w.all }
