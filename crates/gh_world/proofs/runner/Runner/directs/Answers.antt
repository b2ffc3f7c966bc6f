use Rattle.std.proofs.Common.{◌≡◌, ℕ, Bool, false, sym, ap, subst, ◌∙◌, Option, Some, slice_index}
use Rattle.gh_world.proofs.Vocabulary.{acts, Answer, Ask, asks, cell_of, changed, event_at, found_for, goes, InRange, is_point, Mutating, now_of, Progress, progress_after, Req, request, Runner, statement_answer, target}
use Rattle.gh_mutator.specs.Mutating.{begins}
use Rattle.gh_world.proofs.AtOnce.{at_once}
use Rattle.gh_world.proofs.Fitting.{due_sound}
use Rattle.gh_world.proofs.runner.Runner.directs.Goals as goal

pub direct-requires-clause-op : goal.direct-requires-clause-op
direct-requires-clause-op c = due_sound _ _ c.is_well_formed.ensures c.requires.layout _ _ _ c.requires.fits c.args.op c.requires.due

pub directly-answer-requires-clause-op : goal.directly-answer-requires-clause-op
directly-answer-requires-clause-op c = due_sound _ _ c.is_well_formed.ensures c.requires.layout _ _ _ c.requires.fits c.args.op c.requires.due

pub returns-clause-ran : goal.returns-clause-ran
returns-clause-ran c =
    let l = c.args.layout.now in
    let b = begins c.args.self.now.mutator c.args.op in
    let asked : asks l b ≡ c.in-Some.ask = c.in-Some.ensures.asks in
    let within : InRange l (cell_of (asks l b)) = subst (λ (k : Ask). InRange l (cell_of k)) (sym asked) c.in-Some.ensures.within in
    let requested = c.request.ensures.same ∙ ap (request l) (sym asked) in
    let words = c.step-found.ensures.left ∙ ap (λ (r : Req). changed r c.args.words.now) requested in
    let begun : Runner = record { mutator = b; progress = progress_after c.args.self.now.progress (Some c.args.op) c.advance.new.self.next } in
    let found = found_for l c.args.words.now begun in
    let told : c.step-found.result ≡ found = c.step-found.ensures.found ∙ ap (λ (r : Req). slice_index c.args.words.now (target r)) requested in
    let now = now_of begun.progress in
    let answer = statement_answer l b.processor found in
    let made = c.directly-answer.ensures.made in
    let event = ap (λ (x : Bool). event_at now x answer) made.last in
    at_once _ _ c.is_well_formed.ensures c.requires.layout _ c.args.self.now c.requires.fits c.polls_make_room.ensures c.args.op c.advance.new.self.next _ _ _ _ _ c.requires.idle c.requires.going c.requires.due c.advance.ensures.polled c.advance.ensures.follows within words
    (ap {B = Runner} (λ (m : Mutating). record { mutator = m; progress = c.advance.new.self }) (made.goes_so ∙ ap (goes l b) told) ∙ ap {B = Runner} (λ (n : Progress). record { mutator = goes l b found; progress = n }) c.advance.ensures.counted)
    (c.event_at.ensures ∙ ap (λ (x : Option Answer). event_at c.now-g.result false x) (sym made.answers ∙ ap (statement_answer l b.processor) told) ∙ ap (λ (n : ℕ × ℕ). event_at n false answer) (c.now-g.ensures ∙ ap now_of c.advance.ensures.counted) ∙ sym event)
    (sym (ap (λ (n : ℕ). is_point (acts l b.processor n)) (sym told) ∙ made.point))
