use Rattle.std.proofs.Common.{◌≡◌, ◌≤◌, drop}
use Rattle.gh_script.proofs.Vocabulary.{fits_behind, items_of, MOST_TYPE_WORDS}
use Rattle.gh_script.proofs.shape_text.fits_limits.Given as goal

abbrev pub invariant-loop-i : goal.invariant-loop-i
invariant-loop-i l = (l.total ≤ MOST_TYPE_WORDS) × (fits_behind l.total (items_of (drop l.i l.word)) ≡ fits_behind 0 (items_of l.word))
