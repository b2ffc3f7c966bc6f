use Rattle.std.proofs.Common.{◌≡◌, ℕ, refl, sym, ap, ◌∙◌, Some, arith, slice_index}
use Rattle.gh_world.proofs.Vocabulary.{changed, found_for, goes, Mutating, op_due, progress_after, Req, Runner, target}
use Rattle.gh_base.specs.declared.operation.Op.TheVariants.{Poll}
use Rattle.gh_mutator.specs.Mutating.{begins}
use Rattle.gh_world.proofs.AtOnce.{at_once, polls_no_point}
use Rattle.gh_world.proofs.runner.Runner.passes.Goals as goal

pub returns-clause-ran : goal.returns-clause-ran
returns-clause-ran c t =
    let due : op_due c.args.script.now c.args.self.now.progress.next ≡ Some Poll = ap (op_due c.args.script.now) c.in-Poll.is in
    let word = c.word_at.ensures ∙ ap (slice_index c.args.words.now) (c.word.ensures ∙ ap target c.request-request.ensures.same) in
    let after = c.if-not-polls.ensures.polled t ∙ ap (goes c.args.layout.now (begins c.args.self.now.mutator Poll)) word in
    let now = c.args.self.now.progress in
    let begun : Runner = record { mutator = begins c.args.self.now.mutator Poll; progress = progress_after now (Some Poll) c.following-self.result } in
    let mutator = goes c.args.layout.now begun.mutator (found_for c.args.layout.now c.args.words.now begun) in
    at_once _ _ c.is_well_formed.ensures c.requires.layout _ c.args.self.now c.requires.fits c.polls_make_room.ensures Poll c.following-self.result _ _ _ _ _ (sym c.is_busy.ensures ∙ c.if-is_busy.false) c.requires.going due c.following-self.ensures.polled (c.following-self.ensures.follows Poll due) tt
    (c.step.ensures.left ∙ ap (λ (r : Req). changed r c.args.words.now) c.request-request.ensures.same)
    (ap {B = Runner} (λ (m : Mutating). record { mutator = m; progress = record { next = c.following-self.result; begun = now.begun; stated = now.stated; last = now.last } }) after
    ∙ ap {B = Runner} (λ (n : ℕ). record { mutator = mutator; progress = record { next = c.following-self.result; begun = now.begun; stated = n; last = now.last } }) (omega (arith))) refl (polls_no_point _)

pub returns-clause-sound : goal.returns-clause-sound
returns-clause-sound c = c.polls.ensures.sound
