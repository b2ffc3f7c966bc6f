use Rattle.std.proofs.Common.{◌≡◌, ◌*◌, map, take, drop}
use Rattle.gh_script.proofs.Vocabulary.{bits_as_number, range_with_len}
use Rattle.gh_script.proofs.shape_text.packed.Given as goal

abbrev pub invariant-loop-i : goal.invariant-loop-i
invariant-loop-i l = l.words.items ≡ map (λ k. bits_as_number (take 64 (drop (64 * k) l.fields))) (range_with_len 0 l.i)
