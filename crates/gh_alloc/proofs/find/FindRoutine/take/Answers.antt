use Rattle.std.proofs.Common.{IfSome, ap, subst, sym, ◌∙◌}
use Rattle.gh_alloc.proofs.Vocabulary.{Base, base, Finding, goes, goes_base, LiesWithin, Sound}
use Rattle.gh_alloc.proofs.find.FindRoutine.take.Goals as goal

pub returns-then-goes_on-clause-sound : goal.returns-then-goes_on-clause-sound
returns-then-goes_on-clause-sound c = subst (Sound c.args.layout.now) (sym (c.goes_on.ensures.goes c.if-goes_on.true)) ((c.finding_is_a_routine.ensures c.args.layout.now).keeps c.args.self.now c.args.found c.ranges.found.fits c.requires.sound c.requires.busy)

pub returns-clause-sound : goal.returns-clause-sound
returns-clause-sound c =
    let new = c.take_step.ensures ∙ ap (λ (f : Finding). goes c.args.layout.now f c.args.found) (c.goes_on.ensures.stays c.if-goes_on.false) in
    subst (Sound c.args.layout.now) (sym new) ((c.finding_is_a_routine.ensures c.args.layout.now).keeps c.args.self.now c.args.found c.ranges.found.fits c.requires.sound c.requires.busy)

pub returns-clause-within : goal.returns-clause-within
returns-clause-within c =
    let new = c.take_step.ensures ∙ ap (λ (f : Finding). goes c.args.layout.now f c.args.found) (c.goes_on.ensures.stays c.if-goes_on.false) in
    subst (λ (b : Base). IfSome c.given.result (LiesWithin c.args.layout.now b.wanted)) (ap base new ∙ goes_base c.args.layout.now c.args.self.now c.args.self.now.stage c.args.found) (c.given.ensures.within c.args.layout.now (returns-clause-sound c))
