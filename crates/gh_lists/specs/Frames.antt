-- The steps of processors, and what they leave of the words of cycles.
use Rattle.std.proofs.Common.{◌≡◌, ℕ, suc, ◌⊎◌, arith, bit_or}
use Rattle.gh_lists.specs.Vocabulary.{Add, And, Ask, Cell, effect, Load, Or, Store, Swap, Words}
use Rattle.gh_lists.specs.Numbers.{asked_after, opened_after}

-- none of the words of a cycle: its phase, its numbers and the request for one, the cursor, and the pacing
abbrev pub IsNoNumber : Cell → Type 0
IsNoNumber Cell.Phase = ⊥
IsNoNumber Cell.Gen = ⊥
IsNoNumber Cell.Begun = ⊥
IsNoNumber Cell.Swept = ⊥
IsNoNumber Cell.Want = ⊥
IsNoNumber Cell.Gcur = ⊥
IsNoNumber Cell.Trigger = ⊥
IsNoNumber Cell.Work = ⊥
IsNoNumber Cell.Slack = ⊥
IsNoNumber _ = Unit {0}

-- a step that writes none of them, but that it may ask for a cycle
abbrev pub LeavesNumbers : Ask → Type 0
LeavesNumbers (Load c) = Unit {0}
LeavesNumbers (Store c value) = IsNoNumber c
LeavesNumbers (Or c bits) = IsNoNumber c ⊎ ((c ≡ Cell.Want) × (bits ≡ 1))
LeavesNumbers (And c bits) = IsNoNumber c
LeavesNumbers (Add c more) = IsNoNumber c
LeavesNumbers (Swap c old new) = IsNoNumber c

-- the words of cycles
pub record CycleWords : Type 0 where
  pub gen : ℕ
  pub begun : ℕ
  pub swept : ℕ

abbrev pub numbers_of : Words → CycleWords
numbers_of w = record { gen = w Cell.Gen; begun = w Cell.Begun; swept = w Cell.Swept }

-- these stay, and the request stays or is made
pub record LeavesCycleWords (words : Words) (ask : Ask) : Type 0 where
  pub numbers : numbers_of (effect words ask) ≡ numbers_of words
  pub opens_none : (before : ℕ) → opened_after ask before ≡ before
  pub want : (((before : ℕ) → asked_after ask before ≡ before) × (effect words ask Cell.Want ≡ words Cell.Want)) ⊎ (((before : ℕ) → asked_after ask before ≡ suc before) × (effect words ask Cell.Want ≡ bit_or (words Cell.Want) 1))

module _ (words : Words) where
  pub leaves : (ask : Ask) → LeavesNumbers ask → LeavesCycleWords words ask
  leaves ask h = record { numbers = grind arith; opens_none = grind arith; want = grind arith }
