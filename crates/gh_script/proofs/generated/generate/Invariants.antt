use Rattle.std.proofs.Common.{◌≡◌, ◌*◌, ◌/◌}
use Rattle.gh_script.proofs.Vocabulary.{state_behind, text_of}
use Rattle.gh_script.proofs.Writing.{lines_before}
use Rattle.gh_script.proofs.generated.generate.Given as goal

-- the head and the goroutines before this one are written, and their words are drawn
abbrev pub invariant-loop-g : goal.invariant-loop-g
invariant-loop-g l = record {
  text : l.text.items ≡ text_of (lines_before l.seed l.size l.g);
  draws : l.draws ≡ state_behind l.seed (l.g * (l.size / 4));
}
