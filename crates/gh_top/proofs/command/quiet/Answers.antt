use Rattle.std.proofs.Common.{◌≡◌, inl, inr, Some, None, sym, ap, subst, ◌∙◌}
use Rattle.gh_top.proofs.Vocabulary.{IsSilent, NoMemory, status_of, streams, texts}
use Rattle.gh_top.proofs.Ends.{cut-ends, told-ends}
use Rattle.gh_top.proofs.command.quiet.Goals as goal

pub returns-clause-ends : goal.returns-clause-ends
returns-clause-ends g c =
    let words = texts c.args.words.now in
    let before = streams (g.S.Source.left c.args.src.now) (g.S.Source.faults c.args.src.now) (g.K.Sink.taken c.args.out.now) (g.K.Sink.faults c.args.out.now) in
    let after = streams (g.S.Source.left c.find.new.src) (g.S.Source.faults c.find.new.src) (g.K.Sink.taken c.tell.new.out) (g.K.Sink.faults c.tell.new.out) in
    elim c.tell.ensures [
      | inl told ↦ told-ends c.one_reading.ensures.not_both c.one_reading.ensures.one_script c.one_outcome.ensures.not_both c.one_verdict.ensures.not_both c.accepted_texts_certify.ensures words before after c.in_ok-found.found c.tell.result c.in_ok-found.ensures.found told
      | inr cut ↦ cut-ends c.one_reading.ensures.not_both c.one_reading.ensures.one_script c.one_outcome.ensures.not_both c.one_verdict.ensures.not_both c.accepted_texts_certify.ensures words before after c.in_ok-found.found c.tell.result c.in_ok-found.ensures.found cut
    ]

-- where memory ran out nothing is written, and so no write of it failed
pub returns-clause-none_exactly : goal.returns-clause-none_exactly
returns-clause-none_exactly g c for_threads = elim (c.in_ok-found.ensures.none_exactly for_threads) [
  | inl none ↦ absurd (let no : Some c.in_ok-found.found ≡ None = none in cc)
  | inr is ↦
      let both : Some c.in_ok-found.found ≡ Some NoMemory = is in
      let same : c.in_ok-found.found ≡ NoMemory = cc in
      elim c.tell.ensures [
        | inl told ↦ inr (ap Some (told.so ∙ ap status_of same))
        | inr cut ↦ absurd (cut.loud (subst IsSilent (sym same) tt))
      ]
]
