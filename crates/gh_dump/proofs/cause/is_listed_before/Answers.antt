use Rattle.std.proofs.Common.{◌≡◌, Some, None, sym, ap, ◌∙◌}
use Rattle.gh_dump.specs.Kept.{first_of}
use Rattle.gh_dump.proofs.Firsts.{listed_before, stands_before}
use Rattle.gh_dump.proofs.cause.is_listed_before.Goals as goal

pub returns-in-Some : goal.returns-in-Some
returns-in-Some g c =
    let at : first_of 0 g.items c.args.object ≡ Some c.in-Some.first = sym (c.first.ensures ∙ c.requires.0.firsts c.args.object) ∙ c.in-Some.is in
    sym (listed_before g.items c.args.object c.args.before.now.lines ∙ ap (stands_before c.args.before.now.lines) at)

pub returns-in-None : goal.returns-in-None
returns-in-None g c =
    let at : first_of 0 g.items c.args.object ≡ None = sym (c.first.ensures ∙ c.requires.0.firsts c.args.object) ∙ c.in-None.is in
    sym (listed_before g.items c.args.object c.args.before.now.lines ∙ ap (stands_before c.args.before.now.lines) at)
