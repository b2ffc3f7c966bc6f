use Rattle.std.proofs.Common.{◌∙◌, ◌++◌, ℕ, List, ap, subst, sym}
use Rattle.gh_run.proofs.Vocabulary.{Answer, AreTurns, Follows}
use Rattle.gh_run.proofs.Fitting.{due_may}
use Rattle.gh_run.proofs.Turns.{between_then, has_room}
use Rattle.gh_run.proofs.turning.take_turn.Goals as goal

pub operate-answer-requires : goal.operate-answer-requires
operate-answer-requires g c = due_may c.args.script.now c.args.heap.now c.args.h.now c.args.progress.now c.args.answers.now.items _ c.args.op c.what_is_due_fits.ensures.fits c.is_well_formed.ensures c.requires.between c.requires.due

pub advance-requires-clause-turns : goal.advance-requires-clause-turns
advance-requires-clause-turns g c = subst (λ (n : ℕ). AreTurns c.args.script.now n c.args.progress.now) (sym (c.actor.ensures ∙ c.operate-answer.ensures.2.number)) c.requires.between.turns

pub keep-requires : goal.keep-requires
keep-requires g c = has_room c.args.script.now c.args.heap.now c.args.h.now c.args.progress.now c.args.answers.now.items _ c.args.op c.requires.between c.advance.new.self.next (subst (λ (n : ℕ). Follows c.args.script.now n c.args.progress.now.next c.args.op c.advance.new.self.next) (c.actor.ensures ∙ c.operate-answer.ensures.2.number) c.advance.ensures.follows)

pub returns-clause-between : goal.returns-clause-between
returns-clause-between g c =
    let p = c.args.script.now in
    let t = c.args.progress.now in
    let new = c.advance.new.self in
    let items = c.args.answers.now.items in
    let did = c.operate-answer.ensures in
    let seat = c.actor.ensures ∙ did.2.number in
    between_then p c.args.heap.now c.args.h.now t items _ c.args.op c.requires.between c.operate-answer.new.h new c.keep.new.answers.items _ did.0 did.1
    c.a_state_is_of_its_own_entries.ensures c.what_is_due_fits.ensures.kept c.polls_make_room.ensures c.is_well_formed.ensures c.requires.due did.2
    (subst (λ (n : ℕ). AreTurns p n new) seat c.advance.ensures.turns) (subst (λ (n : ℕ). Follows p n t.next c.args.op new.next) seat c.advance.ensures.follows)
    c.advance.ensures.polled c.advance.ensures.counted (c.keep.ensures.kept ∙ ap (λ (xs : List (ℕ × Answer)). items ++ xs) did.3) c.keep.ensures.reserved

pub returns-clause-number : goal.returns-clause-number
returns-clause-number g c = c.operate-answer.ensures.2.number
