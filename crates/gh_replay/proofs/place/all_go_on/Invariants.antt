use Rattle.std.proofs.Common.{◌≡◌, ℕ, ◌<◌, false}
use Rattle.gh_replay.proofs.Vocabulary.{is_done}
use Rattle.gh_replay.proofs.place.all_go_on.Given as goal

abbrev pub invariant-loop-a : goal.invariant-loop-a
invariant-loop-a l = (b : ℕ) → b < l.a → is_done l.world b ≡ false
