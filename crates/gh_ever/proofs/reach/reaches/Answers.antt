use Rattle.std.proofs.Common.{◌≡◌, refl, sym, ◌∙◌, ap}
use Rattle.std.proofs.lemmas.Bool.{true≢false}
use Rattle.gh_ever.proofs.Vocabulary.{Lists, lists_of, marked}
use Rattle.gh_ever.proofs.Reaching.{marked_none, reach_marked}
use Rattle.gh_ever.proofs.reach.reaches.Goals as goal

pub passes-init : goal.passes-init
passes-init c = (refl, λ n m. absurd (true≢false (sym m ∙ marked_none c.args.kept.now.objects c.clear.new.marks.items n c.clear.ensures.clear)))

pub returns-clause-reach : goal.returns-clause-reach
returns-clause-reach c =
    let same : marked (lists_of c.kept.inside).objects c.pass.new.marks.items c.args.n ≡ marked c.args.kept.now.objects c.pass.new.marks.items c.args.n = ap (λ (l : Lists). marked l.objects c.pass.new.marks.items c.args.n) c.kept.view_is in
    let is : c.is_marked.result ≡ marked c.args.kept.now.objects c.pass.new.marks.items c.args.n = c.is_marked.ensures ∙ same in (
      λ m. c.pass.ensures.sound c.passes.invariant.1 c.args.n (sym is ∙ m),
      λ r. is ∙ reach_marked c.args.kept.now c.pass.new.marks.items (c.pass.ensures.complete c.passes-test.false) c.args.n r,
    )
