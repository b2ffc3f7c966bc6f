use Rattle.std.proofs.Common.{sym, subst}
use Rattle.gh_world.proofs.Vocabulary.{Ask, cell_of, InRange}
use Rattle.gh_world.proofs.world.work_on.Goals as goal

pub returns-then-goes_on-clause-within : goal.returns-then-goes_on-clause-within
returns-then-goes_on-clause-within c = subst (λ (a : Ask). InRange c.args.layout.now (cell_of a)) (sym (c.in-Some.ensures.asks c.args.layout.now)) (c.in-Some.ensures.within c.args.layout.now c.requires.sound)

pub returns-in-Some-clause-within : goal.returns-in-Some-clause-within
returns-in-Some-clause-within c = subst (λ (a : Ask). InRange c.args.layout.now (cell_of a)) (sym (c.in-Some.ensures.asks c.args.layout.now)) (c.in-Some.ensures.within c.args.layout.now c.requires.sound)
