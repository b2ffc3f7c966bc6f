-- The processor acknowledges a stop with nothing held: by its tasks.
use Rattle.std.proofs.Common.{◌≡◌, ℕ, arith}
use Rattle.gh_mutator.proofs.Vocabulary.{asks_at, HoldsNothing, Layout, MarkingIsQuiet, Processor, ProcessorIsQuiet, SoundAt, Task}
use Rattle.gh_base.specs.declared.cell.Cell.TheVariants.{Ack}
use Rattle.gh_base.specs.declared.cell.Ask.TheVariants.{Store}

module _ (l : Layout) (q : ProcessorIsQuiet) (k : MarkingIsQuiet) (i number : ℕ) where
  pub acks : (m : Processor) (t : Task) → SoundAt m.poll t → asks_at l m t ≡ Store (Ack i) number → HoldsNothing m.poll i
  acks m t s e = grind arith
