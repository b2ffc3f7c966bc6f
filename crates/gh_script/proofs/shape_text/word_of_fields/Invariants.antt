use Rattle.std.proofs.Common.{◌≡◌, ◌≤◌, drop, length}
use Rattle.gh_script.proofs.Vocabulary.{bits_as_number}
use Rattle.gh_script.proofs.shape_text.word_of_fields.Given as goal

abbrev pub invariant-loop-i : goal.invariant-loop-i
invariant-loop-i l = (l.i ≤ length l.fields) × (l.word ≡ bits_as_number (drop l.i l.fields))

abbrev pub decreases-loop-i : goal.decreases-loop-i
decreases-loop-i l = l.i
