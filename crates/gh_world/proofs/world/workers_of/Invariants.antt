use Rattle.std.proofs.Common.{◌≡◌, ◌≤◌, map}
use Rattle.gh_world.proofs.Vocabulary.{opening, range_with_len, vec_capacity}
use Rattle.gh_world.proofs.world.workers_of.Given as goal

abbrev pub invariant-loop-i : goal.invariant-loop-i
invariant-loop-i l = record {
  first : l.first ≡ l.layout.procs;
  many : l.many ≡ l.layout.workers;
  within : l.i ≤ l.many;
  room : l.many ≤ vec_capacity l.workers;
  so_far : l.workers.items ≡ map opening (range_with_len l.layout.procs l.i);
}
