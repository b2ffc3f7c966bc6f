-- A processor counts as spent what it takes out of the bank of credit.
use Rattle.std.specs.Prelude.{◌≡◌, ℕ, ◌+◌, ◌^◌, ◌<◌, false, true, List}
use Rattle.gh_mutator_writes.specs.Vocabulary.{asks, is_busy_at, IsAssisting, IsSound, Layout, marking_at, Op, opening_processor, Processor, processor_kind, Shape, takes}
use Rattle.gh_credit.specs.Drawing.{drawn_by, LeavesOrDraws}
use Rattle.gh_mutator.specs.Spending.{spent_of}

pub record ProcessorsSpend : Type 0 where
  pub at_first : (seat : ℕ) → spent_of (opening_processor seat) ≡ 0
  pub begins : (shapes : List Shape) (l : Layout) (m : Processor) (o : Op) → is_busy_at m.task ≡ false → spent_of ((processor_kind shapes l).begins m o) ≡ spent_of m
  -- it counts what a step of its own takes out of the bank, as long as the count is within its type
  pub spends : (l : Layout) (shapes : List Shape) (m : Processor) (found : ℕ) → IsSound l m → is_busy_at m.task ≡ true → spent_of m + drawn_by (asks l m) found < 2 ^ 64 → spent_of (takes l shapes m found) ≡ spent_of m + drawn_by (asks l m) found
  -- it writes the bank by swaps alone that take words out
  pub draws : (l : Layout) (m : Processor) → IsSound l m → is_busy_at m.task ≡ true → LeavesOrDraws (asks l m)
  -- and it assists only while marking is on, as it knows
  pub marking : (l : Layout) (m : Processor) → IsSound l m → IsAssisting m.task → marking_at m.poll ≡ true
