use Rattle.std.proofs.Common.{◌≡◌, ◌<◌, true, false, vec_len}
use Rattle.gh_ever.proofs.Vocabulary.{AllWithin, IsFollowed, IsSoundMarks, unmarked}
use Rattle.gh_ever.proofs.reach.pass.Given as goal

abbrev pub invariant-loop-cell : goal.invariant-loop-cell
invariant-loop-cell l = record {
  len : vec_len l.marks ≡ vec_len l.initial.marks;
  sound : IsSoundMarks l.kept l.initial.marks.items → IsSoundMarks l.kept l.marks.items;
  fewer : l.changed ≡ true → unmarked l.marks.items < unmarked l.initial.marks.items;
  same : l.changed ≡ false → l.marks.items ≡ l.initial.marks.items;
  followed : l.changed ≡ false → AllWithin (IsFollowed l.kept l.marks.items) l.kept.cells 0 l.cell-index;
}
