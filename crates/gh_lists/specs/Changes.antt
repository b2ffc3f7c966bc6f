-- What a step is to the numbers of cycles: each leaves them, or it is the coordinator's that begins a cycle, ends its marking or tells that it is swept, and one number is one cycle later.
use Rattle.std.proofs.Common.{◌≡◌, suc, ◌+◌, ◌≤◌, List, ◌∷◌}
use Rattle.gh_lists.specs.Vocabulary.{acks_of, Actor, Ask, Cell, Close, effect, Entry, Legal, Op, part_of, state_of, Store, Words, words_after}
use Rattle.gh_coord.specs.declared.close.CloseStage.{CloseStage}
use Rattle.gh_coord.specs.Closing as close
use Rattle.gh_coord.specs.Listing as coord
use Rattle.gh_lists.specs.Lists.{IsTelling}
use Rattle.gh_lists.specs.LemmaVocabulary.{generation_after, IsFew, opened_in}
use Rattle.gh_lists.specs.Frames.{numbers_of}
use Rattle.gh_lists.specs.Parts.{At, own_counts}
use Rattle.gh_lists.specs.Handshake.{those, Setup}

-- whatever the words are, these three stay
pub record Spares (ask : Ask) : Type 0 where
  pub gen : (w : Words) → effect w ask Cell.Gen ≡ w Cell.Gen
  pub begun : (w : Words) → effect w ask Cell.Begun ≡ w Cell.Begun
  pub swept : (w : Words) → effect w ask Cell.Swept ≡ w Cell.Swept

module _ (setup : Setup) where
  abbrev words : List (Entry Op) → Words
  words es = words_after (those setup).opening es

  -- the coordinator ends the marking of a cycle that has begun
  pub record Ends (e : Entry Op) (es : List (Entry Op)) : Type 0 where
    pub lead : coord.Coordinating
    pub led : state_of (those setup).kind (acks_of setup.layout) es ≡ Actor.Leads lead
    pub closing_it : close.Closing
    pub at : lead.stage ≡ Close closing_it
    pub stores : closing_it.stage ≡ CloseStage.StoreGen
    pub actor_is : e.actor ≡ acks_of setup.layout
    pub ask_is : e.ask ≡ Store Cell.Gen (words es Cell.Gen + 2)
    pub number : words es Cell.Begun ≡ lead.begun
    pub gen : words es Cell.Gen + 2 ≡ generation_after lead.begun

  -- it tells that a cycle is swept
  pub record Tells (e : Entry Op) (es : List (Entry Op)) : Type 0 where
    pub lead : coord.Coordinating
    pub led : state_of (those setup).kind (acks_of setup.layout) es ≡ Actor.Leads lead
    pub telling_it : IsTelling lead.stage
    pub actor_is : e.actor ≡ acks_of setup.layout
    pub ask_is : e.ask ≡ Store Cell.Swept (suc (words es Cell.Swept))
    pub number : lead.begun ≡ suc (words es Cell.Swept)

  -- what a step is to the numbers
  pub data Change (e : Entry Op) (es : List (Entry Op)) : Type 0 where
    same : Spares e.ask → Change e es
    begins : e.ask ≡ Store Cell.Begun (suc (words es Cell.Begun)) → Change e es
    ends : Ends e es → Change e es
    tells : Tells e es → Change e es

  -- no number is ever less
  pub record Rises (e : Entry Op) (es : List (Entry Op)) : Type 0 where
    pub begun : words es Cell.Begun ≤ words (e ∷ es) Cell.Begun
    pub swept : words es Cell.Swept ≤ words (e ∷ es) Cell.Swept

-- In every legal list each step is one of these, and no number is ever less.

abbrev pub EveryStepChangesNumbers : Type 0
EveryStepChangesNumbers = (setup : Setup) (e : Entry Op) (es : List (Entry Op)) → Legal (those setup) (e ∷ es) → IsFew es → Change setup e es

abbrev pub NoNumberFalls : Type 0
NoNumberFalls = (setup : Setup) (e : Entry Op) (es : List (Entry Op)) → Legal (those setup) (e ∷ es) → IsFew es → Rises setup e es

-- The numbers after the list, and the coordinator's own, are those of the part of the cycle that it is in.
abbrev pub EveryListHasItsNumbers : Type 0
EveryListHasItsNumbers = (setup : Setup) (es : List (Entry Op)) (c : coord.Coordinating) → Legal (those setup) es → IsFew es → state_of (those setup).kind (acks_of setup.layout) es ≡ Actor.Leads c →
    At setup.pacing.room (opened_in es) (numbers_of (words_after (those setup).opening es)) (own_counts c) (part_of c.stage)
