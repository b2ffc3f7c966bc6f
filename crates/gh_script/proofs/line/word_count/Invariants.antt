use Rattle.std.proofs.Common.{◌≡◌, ◌+◌, ◌≤◌, length}
use Rattle.gh_script.proofs.Vocabulary.{words_of}
use Rattle.gh_script.proofs.line.word_count.Given as goal

abbrev pub invariant-words : goal.invariant-words
invariant-words l = (l.count + length (words_of l.rest) ≡ length (words_of l.line)) × (l.count + length l.rest ≤ length l.line)

abbrev pub decreases-words : goal.decreases-words
decreases-words l = length l.rest
