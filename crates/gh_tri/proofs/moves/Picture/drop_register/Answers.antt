use Rattle.std.proofs.Common.{ℕ, Option, None, ap}
use Rattle.gh_tri.proofs.Vocabulary.{Drop, picture_of}
use Rattle.gh_tri.proofs.Showing.{put2-made, keeps-changed-shown}
use Rattle.gh_tri.proofs.moves.Picture.drop_register.Goals as goal

pub invariant_of-self-clause-registers_made : goal.invariant_of-self-clause-registers_made
invariant_of-self-clause-registers_made c = put2-made _ _ _ _ _ _ (c.set.ensures.cells None) c.args.self.now.registers_made (λ w e. cc)

pub returns-clause-changed : goal.returns-clause-changed
unfolding picture_of
returns-clause-changed c = ap (λ (t : ℕ → ℕ → Option ℕ). record (picture_of c.args.self.now) { register = t }) (c.set.ensures.cells None)

pub returns-clause-invariants : goal.returns-clause-invariants
returns-clause-invariants c = keeps-changed-shown _ _ (Drop c.args.stack c.args.reg) (returns-clause-changed c) c.requires
