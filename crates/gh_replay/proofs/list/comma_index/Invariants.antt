use Rattle.std.proofs.Common.{◌≡◌, ℕ, ◌<◌, false, get_or}
use Rattle.gh_replay.proofs.Vocabulary.{is_comma}
use Rattle.gh_replay.proofs.list.comma_index.Given as goal

abbrev pub invariant-loop-i : goal.invariant-loop-i
invariant-loop-i l = (k : ℕ) → k < l.i → is_comma (get_or l.text k 0) ≡ false
