use Rattle.std.proofs.Common.{None, ap, ◌∙◌, arith}
use Rattle.gh_tri.proofs.Vocabulary.{by_three, cells, picture_of, Store}
use Rattle.gh_tri.proofs.Cells.{three-put}
use Rattle.gh_tri.proofs.Showing.{put2-made, put2-empty, keeps-shown, stored}
use Rattle.gh_tri.proofs.moves.Picture.store.Goals as goal

pub invariant_of-self-clause-empty : goal.invariant_of-self-clause-empty
unfolding picture_of
invariant_of-self-clause-empty c = put2-empty _ _ _ _ _ _ (c.set-2.ensures.cells None) c.requires.into.made c.args.self.now.empty

pub invariant_of-self-clause-values_made : goal.invariant_of-self-clause-values_made
unfolding picture_of
invariant_of-self-clause-values_made c = put2-made _ _ _ _ _ _ (c.set-2.ensures.cells None) c.args.self.now.values_made c.requires.made

pub returns-clause-moved : goal.returns-clause-moved
unfolding picture_of
returns-clause-moved c =
    stored (picture_of c.args.self.now) c.args.stack c.args.o c.args.f c.args.new _ _
    (c.set-2.ensures.cells None)
    (ap (by_three None c.args.self.now.limit) (c.set.ensures.cells None)
    ∙ three-put None c.args.self.now.limit (cells None c.args.self.now.reads.columns c.args.self.now.reads.items.items) c.args.stack c.args.o c.args.f None (omega arith))

pub returns-clause-invariants : goal.returns-clause-invariants
returns-clause-invariants c = keeps-shown _ _ (Store c.args.stack c.args.o c.args.f c.args.new) (returns-clause-moved c) c.requires
