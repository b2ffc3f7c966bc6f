use Rattle.std.proofs.Common.{◌≡◌, ℕ, ◌<◌, false, get_or}
use Rattle.gh_script.proofs.Vocabulary.{is_feed}
use Rattle.gh_script.proofs.line.feed_index.Given as goal

abbrev pub invariant-loop-i : goal.invariant-loop-i
invariant-loop-i l = (k : ℕ) → k < l.i → is_feed (get_or l.text k 0) ≡ false
