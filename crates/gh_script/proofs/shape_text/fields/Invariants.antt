use Rattle.std.proofs.Common.{◌≡◌, ◌++◌, drop}
use Rattle.gh_script.proofs.Vocabulary.{items_of, spread}
use Rattle.gh_script.proofs.shape_text.fields.Given as goal

abbrev pub invariant-loop-i : goal.invariant-loop-i
invariant-loop-i l = l.fields.items ++ spread (items_of (drop l.i l.word)) ≡ spread (items_of l.word)
