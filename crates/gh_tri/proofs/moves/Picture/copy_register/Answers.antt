use Rattle.std.proofs.Common.{ℕ, Option, None, ap, ◌∙◌, sym}
use Rattle.gh_tri.proofs.Vocabulary.{Copy, picture_of, put2}
use Rattle.gh_tri.proofs.Showing.{put2-made, keeps-changed-shown}
use Rattle.gh_tri.proofs.moves.Picture.copy_register.Goals as goal

pub invariant_of-self-clause-registers_made : goal.invariant_of-self-clause-registers_made
invariant_of-self-clause-registers_made c =
    put2-made _ _ _ _ _ _ (c.set.ensures.cells None) c.args.self.now.registers_made
    (λ w e. c.args.self.now.registers_made c.args.stack c.args.from w (sym (c.get-held.ensures None) ∙ e))

pub returns-clause-changed : goal.returns-clause-changed
unfolding picture_of
returns-clause-changed c =
    ap (λ (t : ℕ → ℕ → Option ℕ). record (picture_of c.args.self.now) { register = t })
    (c.set.ensures.cells None ∙ ap (put2 (picture_of c.args.self.now).register c.args.stack c.args.into) (c.get-held.ensures None))

pub returns-clause-invariants : goal.returns-clause-invariants
returns-clause-invariants c = keeps-changed-shown _ _ (Copy c.args.stack c.args.into c.args.from) (returns-clause-changed c) c.requires
