use Rattle.std.proofs.Common.{◌≡◌, ℕ, ◌<◌, false, get_or}
use Rattle.gh_replay.proofs.Vocabulary.{is_sign}
use Rattle.gh_replay.proofs.list.sign_index.Given as goal

abbrev pub invariant-loop-i : goal.invariant-loop-i
invariant-loop-i l = (k : ℕ) → k < l.i → is_sign (get_or l.piece k 0) ≡ false
