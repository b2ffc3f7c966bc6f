use Rattle.std.proofs.Common.{◌≡◌, vec_len}
use Rattle.gh_ever.proofs.Vocabulary.{IsSoundMarks, unmarked}
use Rattle.gh_ever.proofs.reach.reaches.Given as goal

abbrev pub invariant-passes : goal.invariant-passes
invariant-passes l = (vec_len l.marks ≡ vec_len l.initial.marks) × IsSoundMarks l.kept l.marks.items

abbrev pub decreases-passes : goal.decreases-passes
decreases-passes l = unmarked l.marks.items
