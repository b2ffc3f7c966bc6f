-- What the laws of lists say of the lists of this heap.
use Rattle.std.proofs.Common.{◌∷◌, ◌≤◌, List}
use Rattle.gh_holds.specs.Vocabulary.{Entry, EveryListCountsWants, EveryListKeepsIt, EveryListOpensFew, EveryStepKeepsIt, Given, IsInLimits, Known, Legal, ListsKnown, MOST_STATEMENTS, Op, setup_for, ShapesAreGood, those, total}
use Rattle.gh_lists.specs.Counts.{EveryListCountsPlainly}
use Rattle.gh_lists.specs.Numbers.{EveryListCountsCycles, IsFew}
use Rattle.gh_lists.specs.Waits.{EveryListNumbersStacks, EveryListRestsWorkers, EveryStepNumbersStacks}
use Rattle.gh_lists.specs.Changes.{EveryStepChangesNumbers, NoNumberFalls}

pub record LawsOfLists : Type 0 where
  pub keeps : EveryListKeepsIt
  pub steps : EveryStepKeepsIt
  pub counts : EveryListCountsCycles
  pub numbers : EveryListNumbersStacks
  pub changes : EveryStepChangesNumbers
  pub rises : NoNumberFalls
  pub stacks : EveryStepNumbersStacks
  pub rests : EveryListRestsWorkers
  pub plainly : EveryListCountsPlainly
  pub wants : EveryListCountsWants
  pub few : EveryListOpensFew

module _ (laws : LawsOfLists) (given : Given) (good : ShapesAreGood given.shapes) (limits : IsInLimits given.layout) (known : Known) (fit : total given.counts given.layout.goroutines ≤ MOST_STATEMENTS) where
  few : (es : List (Entry Op)) → Legal (those (setup_for given)) es → IsFew es
  few es legal = (laws.few given es fit legal).few

  pub lists_known : ListsKnown (setup_for given)
  lists_known = record {
    good = good;
    limits = limits;
    known = known;
    keeps = λ es legal. laws.keeps (setup_for given) es legal;
    steps = λ e es legal. laws.steps (setup_for given) e es legal;
    few = few;
    counts = λ es c legal led. laws.counts (setup_for given) es c legal (few es legal) led;
    plainly = λ es c legal led. laws.plainly (setup_for given) es c legal (few es legal) led;
    wants = λ es c legal led. laws.wants (setup_for given) es c legal led;
    numbers = λ es legal. laws.numbers (setup_for given) es legal (few es legal);
    changes = λ e es legal. laws.changes (setup_for given) e es legal (few es legal.0);
    rises = λ e es legal. laws.rises (setup_for given) e es legal (few es legal.0);
    stacks = λ e es legal. laws.stacks (setup_for given) e es legal (few (e ∷ es) legal);
    rests = λ es legal. laws.rests (setup_for given) es legal;
  }
