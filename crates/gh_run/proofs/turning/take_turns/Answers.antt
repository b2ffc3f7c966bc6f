use Rattle.std.proofs.Common.{◌∙◌, refl, sym}
use Rattle.gh_run.proofs.Vocabulary.{number_of}
use Rattle.gh_run.proofs.Starting.{between_first, ended_then}
use Rattle.gh_run.proofs.turning.take_turns.Goals as goal

pub loop-init : goal.loop-init
loop-init g c = (between_first c.args.script.now c.args.heap.now c.args.h.now c.args.progress.now c.args.answers.now.items _ c.what_is_due_fits.ensures.kept c.requires.start c.requires.processor, refl)

pub due-requires : goal.due-requires
due-requires g c = (number_of c.loop.h, c.loop.invariant.0.turns)

pub take_turn-requires-clause-due : goal.take_turn-requires-clause-due
take_turn-requires-clause-due g c = sym c.due.ensures.due ∙ c.in-Some-due.is

pub loop-preserved : goal.loop-preserved
loop-preserved g c = (c.take_turn.ensures.between, c.take_turn.ensures.number ∙ c.loop.invariant.1)

pub returns-in-None-due-clause-end : goal.returns-in-None-due-clause-end
returns-in-None-due-clause-end g c = ended_then c.args.script.now c.args.heap.now c.loop.h c.loop.progress c.loop.answers.items _ c.loop.invariant.0 (sym c.due.ensures.due ∙ c.in-None-due.is)

pub returns-in-None-due-clause-number : goal.returns-in-None-due-clause-number
returns-in-None-due-clause-number g c = c.loop.invariant.1
