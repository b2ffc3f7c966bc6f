use Rattle.std.proofs.Common.{IfSome, ap, subst, sym, ◌∙◌}
use Rattle.gh_alloc.proofs.Vocabulary.{Base, base, LiesWithin, search_base, Seeking}
use Rattle.gh_alloc.specs.SearchSound.{Sound}
use Rattle.gh_alloc.proofs.search.SearchRoutine.take.Goals as goal

pub returns-clause-sound : goal.returns-clause-sound
returns-clause-sound c = subst (Sound c.args.layout.now) (sym c.go.ensures) ((c.searching_is_a_routine.ensures c.args.layout.now).keeps c.args.self.now c.args.found c.ranges.found.fits c.requires.sound c.requires.busy)

pub returns-clause-within : goal.returns-clause-within
returns-clause-within c = subst (λ (b : Base). IfSome c.given.result (LiesWithin c.args.layout.now b.wanted)) (ap (λ (t : Seeking). base t.find) c.go.ensures ∙ search_base c.args.layout.now c.args.self.now.find c.args.self.now.stage c.args.found) (c.given.ensures.within c.args.layout.now (returns-clause-sound c))
