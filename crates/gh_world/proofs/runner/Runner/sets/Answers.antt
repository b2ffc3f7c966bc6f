use Rattle.std.proofs.Common.{◌≡◌, Bool, false, sym, ap, subst, ◌∙◌, Some, slice_index}
use Rattle.gh_world.proofs.Vocabulary.{Ask, asks, cell_of, changed, Done, event_at, found_for, goes, InRange, Mutating, now_of, Progress, progress_after, Req, request, Runner, statement_answer}
use Rattle.gh_base.specs.declared.cell.Ask.TheVariants.{Load}
use Rattle.gh_base.specs.declared.cell.Cell.TheVariants.{Touch}
use Rattle.gh_mutator.specs.Mutating.{begins}
use Rattle.gh_world.specs.declared.event.Event.TheVariants.{Answered}
use Rattle.gh_world.proofs.AtOnce.{at_once}
use Rattle.gh_world.proofs.Fitting.{due_sound}
use Rattle.gh_world.proofs.runner.Runner.sets.Goals as goal

pub sets-requires-clause-op : goal.sets-requires-clause-op
sets-requires-clause-op c = due_sound _ _ c.is_well_formed.ensures c.requires.layout _ _ _ c.requires.fits c.args.op c.requires.due

pub returns-clause-ran : goal.returns-clause-ran
returns-clause-ran c t =
    let b = begins c.args.self.now.mutator c.args.op in
    let asked : asks c.args.layout.now b ≡ Load Touch = c.if-not-sets.ensures.asks t in
    let within : InRange c.args.layout.now (cell_of (asks c.args.layout.now b)) = subst (λ (k : Ask). InRange c.args.layout.now (cell_of k)) (sym asked) tt in
    let words = c.step.ensures.left ∙ ap (λ (r : Req). changed r c.args.words.now) (c.request.ensures.same ∙ ap (request c.args.layout.now) (sym asked)) in
    let begun : Runner = record { mutator = b; progress = progress_after c.args.self.now.progress (Some c.args.op) c.advance.new.self.next } in
    let found = found_for c.args.layout.now c.args.words.now begun in
    let now = now_of begun.progress in
    let answer = statement_answer c.args.layout.now b.processor found in
    let made = c.if-not-sets.ensures.made t found in
    let event = ap (λ (x : Bool). event_at now x answer) made.last ∙ ap (event_at now false) made.answers in
    at_once _ _ c.is_well_formed.ensures c.requires.layout _ c.args.self.now c.requires.fits c.polls_make_room.ensures c.args.op c.advance.new.self.next _ _ _ _ _ c.requires.idle c.requires.going c.requires.due c.advance.ensures.polled c.advance.ensures.follows within words
    (ap {B = Runner} (λ (m : Mutating). record { mutator = m; progress = c.advance.new.self }) made.goes_so ∙ ap {B = Runner} (λ (n : Progress). record { mutator = goes c.args.layout.now b found; progress = n }) c.advance.ensures.counted)
    (ap (λ (n : Progress). Answered n.last (slice_index n.begun n.last) Done) c.advance.ensures.counted ∙ sym event) (sym made.point)
