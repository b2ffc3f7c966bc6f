use Rattle.std.proofs.Common.{◌≡◌, ◌+◌, ◌≤◌, drop, length}
use Rattle.gh_replay.proofs.Others.{but}
use Rattle.gh_replay.proofs.place.count_others.Given as goal

abbrev pub invariant-loop-a : goal.invariant-loop-a
invariant-loop-a l = record {
  few : l.count ≤ l.a-index;
  all : l.count + length (but l.actor (drop l.a-index l.kept)) ≡ length (but l.actor l.kept);
}
