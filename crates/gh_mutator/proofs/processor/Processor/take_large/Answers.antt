use Rattle.std.proofs.Common.{◌≡◌, false, rules}
use Rattle.gh_mutator.proofs.Vocabulary.{is_making, takes}
use Rattle.gh_mutator.proofs.Soundness.{plain_next, PlainLaws}
use Rattle.gh_mutator.proofs.processor.Processor.take_large.Goals as goal

pub returns-in-Store-clause-sound : goal.returns-in-Store-clause-sound
returns-in-Store-clause-sound c =
    let laws : PlainLaws = record { classes = search rules; writes = c.writing_is_a_routine.ensures; leaves = c.leaving_is_a_routine.ensures } in
    let plain : is_making c.args.self.now.task ≡ false = search rules in
    let goes : c.take_store.new.self ≡ takes c.args.layout.now c.args.shapes.now c.args.self.now c.args.found = search rules in
    plain_next c.args.layout.now c.args.shapes.now laws c.args.self.now c.args.found c.take_store.new.self c.ranges.found.fits c.requires.polls plain c.requires.sound goes

pub returns-in_err-take_write-in-Write-clause-sound : goal.returns-in_err-take_write-in-Write-clause-sound
returns-in_err-take_write-in-Write-clause-sound c =
    let plain : is_making c.args.self.now.task ≡ false = search rules in
    let laws : PlainLaws = record { classes = search rules; writes = c.writing_is_a_routine.ensures; leaves = c.leaving_is_a_routine.ensures } in
    plain_next c.args.layout.now c.args.shapes.now laws c.args.self.now c.args.found _ c.ranges.found.fits c.requires.polls plain c.requires.sound (search rules)
