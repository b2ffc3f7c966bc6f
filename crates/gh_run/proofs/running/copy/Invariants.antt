use Rattle.std.proofs.Common.{◌≡◌, ◌+◌, ◌++◌, ◌≤◌, length, take}
use Rattle.gh_run.proofs.Vocabulary.{vec_capacity}
use Rattle.gh_run.proofs.running.copy.Given as goal

abbrev pub invariant-loop-cycle : goal.invariant-loop-cycle
invariant-loop-cycle l = record {
  within : l.cycle-index ≤ length l.cycles;
  so_far : l.copies.items ≡ l.initial.copies.items ++ take l.cycle-index l.cycles;
  long : length l.copies.items ≡ length l.initial.copies.items + l.cycle-index;
  capacity : vec_capacity l.copies ≡ vec_capacity l.initial.copies;
}
