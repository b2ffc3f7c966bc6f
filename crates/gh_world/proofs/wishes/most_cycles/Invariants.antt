use Rattle.std.proofs.Common.{◌≡◌, ◌≤◌, length, take}
use Rattle.gh_world.proofs.Vocabulary.{sum_by, wishes_in}
use Rattle.gh_world.proofs.wishes.most_cycles.Given as goal

abbrev pub invariant-loop-g : goal.invariant-loop-g
invariant-loop-g l = record {
  within : l.g ≤ length l.script.goroutines;
  so_far : l.wishes ≡ sum_by wishes_in (take l.g l.script.goroutines);
}
