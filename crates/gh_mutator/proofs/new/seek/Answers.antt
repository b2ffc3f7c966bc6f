use Rattle.std.proofs.Common.{◌≡◌, IfSome, ap, subst, ◌∙◌}
use Rattle.gh_mutator.proofs.Vocabulary.{IsCached, LiesWithin, search_wants, Seeking, Sought}
use Rattle.gh_mutator.proofs.new.seek.Goals as goal

pub cache_span-requires-clause-cached : goal.cache_span-requires-clause-cached
cache_span-requires-clause-cached c =
    let wants : c.take-out.new.self.find.wanted ≡ c.args.wanted.now.sought = ap (λ (q : Seeking). q.find.wanted) c.take-out.ensures.state ∙ search_wants c.args.layout.now c.args.search.now c.args.found ∙ c.requires.searches.wanted in
    subst (λ (w : Sought). IsCached c.args.layout.now w c.cached.result) wants (c.cached.ensures.within c.args.layout.now c.take-out.ensures.sound)

pub returns-clause-within : goal.returns-clause-within
returns-clause-within c = subst (λ (w : Sought). IfSome c.take-out.result (LiesWithin c.args.layout.now w)) c.requires.searches.wanted c.take-out.ensures.within
