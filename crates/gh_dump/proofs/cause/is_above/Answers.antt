use Rattle.std.proofs.Common.{◌≡◌, ℕ, Option, Some, None, sym, ap, ◌∙◌}
use Rattle.gh_dump.specs.Causes.{is_above}
use Rattle.gh_dump.specs.Kept.{first_of}
use Rattle.gh_dump.specs.Listing.{rank_of}
use Rattle.gh_dump.proofs.Firsts.{above_by, rank_first, rank_in}
use Rattle.gh_dump.proofs.cause.is_above.Goals as goal

pub returns-in-None : goal.returns-in-None
returns-in-None g c =
    let at : first_of 0 g.items c.args.parent ≡ None = sym (c.first.ensures ∙ c.requires.firsts c.args.parent) ∙ c.in-None.is in
    let rank : rank_of g.items c.args.parent ≡ None = rank_first 0 g.items c.args.parent ∙ ap rank_in at in
    sym (ap (λ (m : Option ℕ). is_above m c.args.rank) rank)

pub returns-then-rank-gt0 : goal.returns-then-rank-gt0
returns-then-rank-gt0 g c =
    let at : first_of 0 g.items c.args.parent ≡ Some c.in-Some.first = sym (c.first.ensures ∙ c.requires.firsts c.args.parent) ∙ c.in-Some.is in
    let rank : rank_of g.items c.args.parent ≡ Some c.in-Some.first.rank = rank_first 0 g.items c.args.parent ∙ ap rank_in at in
    above_by c.in-Some.first.rank c.args.rank c.if-rank-gt0.true ∙ sym (ap (λ (m : Option ℕ). is_above m c.args.rank) rank)
