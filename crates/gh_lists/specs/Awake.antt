-- A processor that is awake knows the cycle that has begun last, once it has begun an operation or not.
use Rattle.std.proofs.Common.{◌≡◌, ℕ, ◌<◌, arith, List, Option}
use Rattle.gh_lists.specs.Vocabulary.{Actor, Begins, Cell, Entry, IsAwake, IsSound, Kind, Legal, Op, party_of, Processor, processor_kind, ProcessorInHandshake, ProcessorWritesItsOwn, stage_of, started}
use Rattle.gh_lists.specs.LemmaVocabulary.{KeepsIt}
use Rattle.gh_lists.specs.Steps as seats
use Rattle.gh_lists.specs.Handshake.{Setup}

module _ (setup : Setup) (places : ProcessorInHandshake) (writes : ProcessorWritesItsOwn)
    (keeps : (es : List (Entry Op)) → Legal (seats.it setup) es → KeepsIt (seats.it setup) es) where
  abbrev k : Kind Processor Op
  k = processor_kind setup.shapes setup.layout

  -- One that is awake, once it has begun an operation or not, was so before, with what it knows of the phase.
  module _ (a : ℕ) (m : Processor) where
    pub was_awake : (o : Option Op) (es : List (Entry Op)) → seats.at setup es a ≡ Actor.Runs m → IsSound setup.layout m → Begins (seats.it setup) a es o → IsAwake (stage_of (started k o m)) → (party_of (started k o m) ≡ party_of m) × IsAwake (stage_of m)
    was_awake o es is s b y = grind arith

  -- so it knows the cycle that has begun last
  pub knows_begun : (a : ℕ) (m : Processor) (o : Option Op) (es : List (Entry Op)) → Legal (seats.it setup) es → a < setup.layout.procs → seats.at setup es a ≡ Actor.Runs m → IsSound setup.layout m → Begins (seats.it setup) a es o → IsAwake (stage_of (started k o m)) →
      (party_of (started k o m)).view.begun ≡ seats.words setup es Cell.Begun
  knows_begun a m o es legal lt is s b awake = grind (arith, was_awake)
