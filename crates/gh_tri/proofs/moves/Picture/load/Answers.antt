use Rattle.std.proofs.Common.{ℕ, Option, None, ap, ◌∙◌, sym}
use Rattle.gh_tri.proofs.Vocabulary.{Load, picture_of, put2}
use Rattle.gh_tri.proofs.Showing.{put2-made, keeps-shown}
use Rattle.gh_tri.proofs.moves.Picture.load.Goals as goal

pub invariant_of-self-clause-registers_made : goal.invariant_of-self-clause-registers_made
invariant_of-self-clause-registers_made c =
    put2-made _ _ _ _ _ _ (c.set.ensures.cells None) c.args.self.now.registers_made
    (λ w e. c.args.self.now.values_made c.args.o c.args.f w (sym (c.get-loaded.ensures None) ∙ e))

pub returns-clause-moved : goal.returns-clause-moved
unfolding picture_of
returns-clause-moved c =
    ap (λ (t : ℕ → ℕ → Option ℕ). record (picture_of c.args.self.now) { register = t })
    (c.set.ensures.cells None ∙ ap (put2 (picture_of c.args.self.now).register c.args.stack c.args.reg) (c.get-loaded.ensures None))

pub returns-clause-invariants : goal.returns-clause-invariants
returns-clause-invariants c = keeps-shown _ _ (Load c.args.stack c.args.reg c.args.o c.args.f) (returns-clause-moved c) c.requires
