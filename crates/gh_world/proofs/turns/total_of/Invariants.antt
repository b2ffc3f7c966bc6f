use Rattle.std.proofs.Common.{◌≡◌, ◌≤◌, length, take}
use Rattle.gh_world.proofs.Vocabulary.{statements_in, sum_by}
use Rattle.gh_world.proofs.turns.total_of.Given as goal

abbrev pub invariant-loop-g : goal.invariant-loop-g
invariant-loop-g l = record {
  within : l.g ≤ length l.script.goroutines;
  so_far : l.total ≡ sum_by statements_in (take l.g l.script.goroutines);
}
