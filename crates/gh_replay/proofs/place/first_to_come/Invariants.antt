use Rattle.std.proofs.Common.{◌≡◌, drop}
use Rattle.gh_replay.proofs.Vocabulary.{seen_of, to_come}
use Rattle.gh_replay.proofs.place.first_to_come.Given as goal

abbrev pub invariant-loop-i : goal.invariant-loop-i
invariant-loop-i l = to_come (seen_of l.world) (drop l.i l.list) ≡ to_come (seen_of l.world) (drop l.at l.list)
