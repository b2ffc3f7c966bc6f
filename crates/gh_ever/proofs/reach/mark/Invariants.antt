use Rattle.std.proofs.Common.{◌≡◌, ◌++◌, take, drop}
use Rattle.gh_ever.proofs.Vocabulary.{with_mark}
use Rattle.gh_ever.proofs.reach.mark.Given as goal

abbrev pub invariant-loop-i : goal.invariant-loop-i
invariant-loop-i l = (l.marks ≡ l.initial.marks) × (take l.i l.marks.items ++ with_mark (drop l.i l.objects.items) (drop l.i l.marks.items) l.n ≡ with_mark l.objects.items l.marks.items l.n)
