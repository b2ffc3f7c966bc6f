use Rattle.std.proofs.Common.{◌≡◌, length}
use Rattle.gh_replay.proofs.Vocabulary.{ever_of, with_ends}
use Rattle.gh_replay.proofs.check.end_all.Given as goal

abbrev pub invariant-loop-g : goal.invariant-loop-g
invariant-loop-g l = record {
  ended : ever_of l.ever ≡ with_ends (ever_of l.initial.ever) l.g;
  many : length l.ever.left ≡ l.goroutines;
}
