use Rattle.std.proofs.Common.{ℕ, ◌<◌, ◌≤◌}
use Rattle.gh_central.proofs.Vocabulary.{IsClear}
use Rattle.gh_central.proofs.slots.some_clear.Given as goal

abbrev pub invariant-loop-i : goal.invariant-loop-i
invariant-loop-i l = (j : ℕ) → l.from ≤ j → j < l.i → ¬ IsClear l.slot l.first l.word l.found j
