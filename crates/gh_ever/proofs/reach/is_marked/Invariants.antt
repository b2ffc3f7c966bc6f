use Rattle.std.proofs.Common.{◌≡◌, drop}
use Rattle.gh_ever.proofs.Vocabulary.{marked}
use Rattle.gh_ever.proofs.reach.is_marked.Given as goal

abbrev pub invariant-loop-i : goal.invariant-loop-i
invariant-loop-i l = marked (drop l.i l.objects.items) (drop l.i l.marks.items) l.n ≡ marked l.objects.items l.marks.items l.n
