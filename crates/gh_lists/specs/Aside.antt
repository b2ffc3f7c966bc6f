-- What each step of the coordinator leaves: the requests, and the words of stacks.
use Rattle.std.proofs.Common.{◌≡◌, ℕ, ◌⊎◌, arith}
use Rattle.gh_lists.specs.Vocabulary.{Ask, asks_at, Cell, Coordinating, CoordStage, effect, Layout, SoundAt, Store, Words}
use Rattle.gh_lists.specs.LemmaVocabulary.{asked_after}

-- No cycle is asked for, and no stack's word is written. Where the number of cycles begun is written, it is this; and where that of those swept is, it is stored.
pub record Aside (w : Words) (number : ℕ) (ask : Ask) : Type 0 where
  pub asks_none : (before : ℕ) → asked_after ask before ≡ before
  pub scanned : (g : ℕ) → effect w ask (Cell.Scanned g) ≡ w (Cell.Scanned g)
  pub begun : (effect w ask Cell.Begun ≡ w Cell.Begun) ⊎ (ask ≡ Store Cell.Begun number)
  pub swept : (effect w ask Cell.Swept ≡ w Cell.Swept) ⊎ ((value : ℕ) × (ask ≡ Store Cell.Swept value))

module _ (w : Words) (l : Layout) (s : Coordinating) where
  pub aside : (p : CoordStage) → SoundAt s p → Aside w s.begun (asks_at l s p)
  aside p e = record { asks_none = grind arith; scanned = grind arith; begun = grind arith; swept = grind arith }
