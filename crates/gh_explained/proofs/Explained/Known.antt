-- What the laws of the actors say of a script's run, as its proofs take it.
use Rattle.std.proofs.Common.{◌≡◌, ◌≤◌, List, ◌∷◌}
use Rattle.gh_explained.proofs.Vocabulary.{acks_of, Actor, actor_after, At, Change, Coordinating, EachOperationActsOnce, Entry, EveryListHasItsNumbers, EveryStepChangesNumbers, IsFew, KeepsIt, Layout, Legal, most_cycles, NoNumberFalls, numbers_of, OnlyPointsChange, Op, opened_in, own_counts, pacing_of, part_of, ProcessorWritesItsOwn, Program, Rises, setting_of, setup_of, words_after, WorkersWriteTheirOwn}

pub record Known (p : Program) (l : Layout) : Type 0 where
  pub each : EachOperationActsOnce
  pub points : OnlyPointsChange
  pub writes : ProcessorWritesItsOwn
  pub works : WorkersWriteTheirOwn
  pub keeps : (es : List (Entry Op)) → Legal (setting_of p l) es → KeepsIt (setting_of p l) es
  pub few : (es : List (Entry Op)) → Legal (setting_of p l) es → IsFew es
  -- what each step is to the numbers of cycles
  pub changes : EveryStepChangesNumbers
  pub rises : NoNumberFalls
  pub numbers : EveryListHasItsNumbers
  -- there is room for each cycle
  pub roomy : (es : List (Entry Op)) → Legal (setting_of p l) es → opened_in es ≤ most_cycles p

module _ (p : Program) (l : Layout) (k : Known p l) (e : Entry Op) (es : List (Entry Op)) (legal : Legal (setting_of p l) (e ∷ es)) where
  -- what the step is to the numbers of cycles
  abbrev pub Changes : Type 0
  Changes = Change (setup_of p l) e es

  pub changes : Changes
  changes = k.changes (setup_of p l) e es legal (k.few es legal.0)

  pub rises : Rises (setup_of p l) e es
  rises = k.rises (setup_of p l) e es legal (k.few es legal.0)

-- the numbers of cycles, by the part of the cycle that the coordinator is in
pub counted : (p : Program) (l : Layout) (k : Known p l) (es : List (Entry Op)) (c : Coordinating) → Legal (setting_of p l) es → actor_after p l es (acks_of l) ≡ Actor.Leads c →
    At (pacing_of p).room (opened_in es) (numbers_of (words_after (setting_of p l).opening es)) (own_counts c) (part_of c.stage)
counted p l k es c legal led = k.numbers (setup_of p l) es c legal (k.few es legal) led
