use Rattle.std.proofs.Common.{◌≡◌, ◌++◌, ◌≤◌, length}
use Rattle.gh_replay.proofs.Vocabulary.{actors_of, going, seen_of, vec_capacity}
use Rattle.gh_replay.proofs.Going.{going_from}
use Rattle.gh_replay.proofs.place.add_going.Given as goal

abbrev pub invariant-loop-a : goal.invariant-loop-a
invariant-loop-a l = record {
  few : length l.kept.items ≤ l.a;
  kept : l.kept.items ++ going_from (seen_of l.world) l.a ≡ going (seen_of l.world);
  room : actors_of l.world ≤ vec_capacity l.kept;
}
