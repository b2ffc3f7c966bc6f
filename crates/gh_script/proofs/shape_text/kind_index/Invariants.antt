use Rattle.std.proofs.Common.{◌≡◌, ℕ, ◌<◌, false, get_or}
use Rattle.gh_script.proofs.Vocabulary.{is_kind}
use Rattle.gh_script.proofs.shape_text.kind_index.Given as goal

abbrev pub invariant-loop-i : goal.invariant-loop-i
invariant-loop-i l = (k : ℕ) → k < l.i → is_kind (get_or l.word k 0) ≡ false
