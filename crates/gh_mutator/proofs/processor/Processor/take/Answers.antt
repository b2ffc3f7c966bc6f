use Rattle.std.proofs.Common.{◌≡◌, false, ap, sym, ◌∙◌, rules}
use Rattle.gh_mutator.proofs.Vocabulary.{is_making, Processor, takes, takes_at, Task}
use Rattle.gh_mutator.proofs.Soundness.{plain_next, PlainLaws}
use Rattle.gh_mutator.proofs.Tasks.{direct_is}
use Rattle.gh_mutator.proofs.processor.Processor.take.Goals as goal

pub returns-in-Load-clause-sound : goal.returns-in-Load-clause-sound
returns-in-Load-clause-sound c =
    let laws : PlainLaws = record { classes = search rules; writes = c.writing_is_a_routine.ensures; leaves = c.leaving_is_a_routine.ensures } in
    let plain : is_making c.args.self.now.task ≡ false = search rules in
    let goes : c.take_load.new.self ≡ takes c.args.layout.now c.args.shapes.now c.args.self.now c.args.found = search rules in
    plain_next c.args.layout.now c.args.shapes.now laws c.args.self.now c.args.found c.take_load.new.self c.ranges.found.fits c.requires.polls plain c.requires.sound goes

pub returns-in-Register-clause-sound : goal.returns-in-Register-clause-sound
returns-in-Register-clause-sound c =
    let laws : PlainLaws = record { classes = search rules; writes = c.writing_is_a_routine.ensures; leaves = c.leaving_is_a_routine.ensures } in
    let plain : is_making c.args.self.now.task ≡ false = search rules in
    let goes : c.take_register.new.self ≡ takes c.args.layout.now c.args.shapes.now c.args.self.now c.args.found = search rules in
    plain_next c.args.layout.now c.args.shapes.now laws c.args.self.now c.args.found c.take_register.new.self c.ranges.found.fits c.requires.polls plain c.requires.sound goes

pub returns-in-Gc-clause-sound : goal.returns-in-Gc-clause-sound
returns-in-Gc-clause-sound c =
    let laws : PlainLaws = record { classes = search rules; writes = c.writing_is_a_routine.ensures; leaves = c.leaving_is_a_routine.ensures } in
    let plain : is_making c.args.self.now.task ≡ false = search rules in
    let goes : c.take_gc.new.self ≡ takes c.args.layout.now c.args.shapes.now c.args.self.now c.args.found = search rules in
    plain_next c.args.layout.now c.args.shapes.now laws c.args.self.now c.args.found c.take_gc.new.self c.ranges.found.fits c.requires.polls plain c.requires.sound goes

pub returns-in-Poll-clause-sound : goal.returns-in-Poll-clause-sound
returns-in-Poll-clause-sound c =
    let laws : PlainLaws = record { classes = search rules; writes = c.writing_is_a_routine.ensures; leaves = c.leaving_is_a_routine.ensures } in
    let plain : is_making c.args.self.now.task ≡ false = search rules in
    let goes : c.take_poll.new.self ≡ takes c.args.layout.now c.args.shapes.now c.args.self.now c.args.found = search rules in
    plain_next c.args.layout.now c.args.shapes.now laws c.args.self.now c.args.found c.take_poll.new.self c.ranges.found.fits c.requires.polls plain c.requires.sound goes

pub returns-in-Direct-clause-goes : goal.returns-in-Direct-clause-goes
returns-in-Direct-clause-goes c = c.take_direct.ensures.goes c.args.shapes.now ∙ ap (λ (t : Task). takes_at c.args.layout.now c.args.shapes.now c.args.self.now t c.args.found) (sym (direct_is c.args.self.now c.self.inside.at c.self.inside.large c.in-Direct.x (ap (λ (p : Processor). p.task) c.self.view_is) c.in-Direct.is))

pub returns-in-Direct-clause-sound : goal.returns-in-Direct-clause-sound
returns-in-Direct-clause-sound c =
    let laws : PlainLaws = record { classes = search rules; writes = c.writing_is_a_routine.ensures; leaves = c.leaving_is_a_routine.ensures } in
    let is = direct_is c.args.self.now c.self.inside.at c.self.inside.large c.in-Direct.x (ap (λ (p : Processor). p.task) c.self.view_is) c.in-Direct.is in
    let plain : is_making c.args.self.now.task ≡ false = ap is_making is in
    plain_next c.args.layout.now c.args.shapes.now laws c.args.self.now c.args.found c.take_direct.new.self c.ranges.found.fits c.requires.polls plain c.requires.sound
    (c.take_direct.ensures.goes c.args.shapes.now ∙ ap (λ (t : Task). takes_at c.args.layout.now c.args.shapes.now c.args.self.now t c.args.found) (sym is))
