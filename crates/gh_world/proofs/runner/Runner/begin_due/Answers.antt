use Rattle.std.proofs.Common.{◌≡◌, Some, sym, subst, ◌∙◌}
use Rattle.gh_world.proofs.Vocabulary.{op_due, Progress, SoundTurns}
use Rattle.gh_mutator.specs.Mutating.{begins}
use Rattle.gh_world.proofs.Fitting.{due_room, due_sound, due_named, fit_begun}
use Rattle.gh_world.proofs.runner.Runner.begin_due.Goals as goal

pub begin-requires-clause-op : goal.begin-requires-clause-op
begin-requires-clause-op c = due_sound _ _ c.is_well_formed.ensures c.requires.layout _ _ _ c.requires.fits c.in-Some.op (sym c.due.ensures.due ∙ c.in-Some.is)

pub begin-requires-clause-names : goal.begin-requires-clause-names
begin-requires-clause-names c = due_named _ _ c.is_well_formed.ensures c.requires.layout _ _ _ c.requires.fits c.in-Some.op (sym c.due.ensures.due ∙ c.in-Some.is)

pub begin-requires-clause-room : goal.begin-requires-clause-room
begin-requires-clause-room c = due_room c.polls_make_room.ensures c.args.script.now c.args.self.now.mutator.processor c.args.self.now.progress.next c.in-Some.op c.requires.idle (sym c.due.ensures.due ∙ c.in-Some.is) c.requires.fits.polled

pub returns-in-Some-clause-fits : goal.returns-in-Some-clause-fits
returns-in-Some-clause-fits c =
    let due : op_due c.args.script.now c.args.self.now.progress.next ≡ Some c.in-Some.op = sym c.due.ensures.due ∙ c.in-Some.is in
    let p = c.args.script.now in
    let l = c.args.layout.now in
    let old = c.args.self.now in
    let new = c.advance.new.self in
    let fits = fit_begun p l c.is_well_formed.ensures c.requires.layout c.args.seat old.mutator old.progress c.requires.fits c.polls_make_room.ensures c.in-Some.op new.next due c.advance.ensures.polled c.advance.ensures.follows in
    rw c.begin.ensures.begins (subst (λ (t : Progress). SoundTurns p c.args.seat (begins old.mutator c.in-Some.op) t) (sym c.advance.ensures.counted) fits)
