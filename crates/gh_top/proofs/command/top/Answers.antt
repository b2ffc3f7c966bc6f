use Rattle.std.proofs.Common.{◌≡◌, inl, inr, rules, subst}
use Rattle.gh_top.proofs.Vocabulary.{Ends, IsForThreads, streams, texts}
use Rattle.gh_top.proofs.Ends.{cut-ends, told-ends}
use Rattle.gh_top.proofs.Soaking.{soak_told}
use Rattle.gh_top.proofs.command.top.Goals as goal

-- where the words ask for threads the streams are as they were when the run begins
pub returns-clause-ends : goal.returns-clause-ends
returns-clause-ends g c =
    let words = texts c.args.words.now in
    let none : IsForThreads (texts c.args.words.now) × (c.quiet.new.src ≡ c.args.src.now) × (c.quiet.new.out ≡ c.args.out.now) = search rules in
    let before = streams (g.S.Source.left c.quiet.new.src) (g.S.Source.faults c.quiet.new.src) (g.K.Sink.taken c.quiet.new.out) (g.K.Sink.faults c.quiet.new.out) in
    let after = streams (g.S.Source.left c.find_by_threads-found.new.src) (g.S.Source.faults c.find_by_threads-found.new.src) (g.K.Sink.taken c.tell.new.out) (g.K.Sink.faults c.tell.new.out) in
    let ends : Ends (texts c.args.words.now) before after c.tell.result =
    elim c.tell.ensures [
      | inl told ↦ told-ends c.one_reading.ensures.not_both c.one_reading.ensures.one_script c.one_outcome.ensures.not_both c.one_verdict.ensures.not_both c.accepted_texts_certify.ensures words before after c.find_by_threads-found.result c.tell.result c.find_by_threads-found.ensures.found told
      | inr cut ↦ cut-ends c.one_reading.ensures.not_both c.one_reading.ensures.one_script c.one_outcome.ensures.not_both c.one_verdict.ensures.not_both c.accepted_texts_certify.ensures words before after c.find_by_threads-found.result c.tell.result c.find_by_threads-found.ensures.found cut
    ] in
    subst (λ out. Ends words (streams (g.S.Source.left c.args.src.now) (g.S.Source.faults c.args.src.now) (g.K.Sink.taken out) (g.K.Sink.faults out)) after c.tell.result) none.2
    (subst (λ src. Ends words (streams (g.S.Source.left src) (g.S.Source.faults src) (g.K.Sink.taken c.quiet.new.out) (g.K.Sink.faults c.quiet.new.out)) after c.tell.result) none.1 ends)

-- what was written is what any run of this seed and this size comes to
pub returns-clause-soak_is_one : goal.returns-clause-soak_is_one
returns-clause-soak_is_one g c = λ seed size text written soak ok comes.
    soak_told c.what_is_live_is_one.ensures (texts c.args.words.now) seed size soak
    (streams (g.S.Source.left c.args.src.now) (g.S.Source.faults c.args.src.now) (g.K.Sink.taken c.args.out.now) (g.K.Sink.faults c.args.out.now))
    (streams (g.S.Source.left c.find_by_threads-found.new.src) (g.S.Source.faults c.find_by_threads-found.new.src) (g.K.Sink.taken c.tell.new.out) (g.K.Sink.faults c.tell.new.out))
    c.tell.result (returns-clause-ends g c) ok text written comes
