use Rattle.std.proofs.Common.{ℕ, Option, Some, None, ap, ◌∙◌, sym, arith}
use Rattle.gh_tri.proofs.Vocabulary.{by_three, cells, picture_of, put3, ReadOld}
use Rattle.gh_tri.proofs.Cells.{three-put}
use Rattle.gh_tri.proofs.Showing.{keeps-shown}
use Rattle.gh_tri.proofs.moves.Picture.read_old.Goals as goal

pub returns-clause-moved : goal.returns-clause-moved
unfolding picture_of
returns-clause-moved c =
    ap (λ (t : ℕ → ℕ → ℕ → Option (Option ℕ)). record (picture_of c.args.self.now) { read = t })
    (ap (by_three None c.args.self.now.limit) (c.set.ensures.cells None)
    ∙ (three-put None c.args.self.now.limit (cells None c.args.self.now.reads.columns c.args.self.now.reads.items.items) c.args.stack c.args.o c.args.f (Some c.get-value.result) (omega arith)
    ∙ ap (λ v. put3 (picture_of c.args.self.now).read c.args.stack c.args.o c.args.f (Some v)) (c.get-value.ensures None)))

pub returns-clause-invariants : goal.returns-clause-invariants
returns-clause-invariants c = keeps-shown _ _ (ReadOld c.args.stack c.args.o c.args.f) (returns-clause-moved c) c.requires

pub returns-clause-made : goal.returns-clause-made
unfolding picture_of
returns-clause-made c = λ w e. c.args.self.now.values_made c.args.o c.args.f w (sym (c.get-value.ensures None) ∙ e)
