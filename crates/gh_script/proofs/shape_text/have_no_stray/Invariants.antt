use Rattle.std.proofs.Common.{◌≡◌, drop}
use Rattle.gh_script.proofs.Vocabulary.{has_no_stray, items_of, list_all}
use Rattle.gh_script.proofs.shape_text.have_no_stray.Given as goal

abbrev pub invariant-loop-i : goal.invariant-loop-i
invariant-loop-i l = list_all has_no_stray (items_of (drop l.i l.word)) ≡ list_all has_no_stray (items_of l.word)
