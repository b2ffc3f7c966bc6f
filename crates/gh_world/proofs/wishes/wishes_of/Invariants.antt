use Rattle.std.proofs.Common.{◌≡◌, ◌≤◌, take}
use Rattle.gh_world.proofs.Vocabulary.{count_of, statements_of, wishes_among}
use Rattle.gh_world.proofs.wishes.wishes_of.Given as goal

abbrev pub invariant-loop-n : goal.invariant-loop-n
invariant-loop-n l = record {
  within : l.n ≤ count_of l.script l.g;
  so_far : l.wishes ≡ wishes_among (take l.n (statements_of l.script l.g));
  few : l.wishes ≤ l.n;
}
