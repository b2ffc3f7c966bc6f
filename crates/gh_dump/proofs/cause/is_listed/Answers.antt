use Rattle.std.proofs.Common.{Option, ap, ◌∙◌}
use Rattle.gh_dump.specs.Vocabulary.{is_some}
use Rattle.gh_dump.specs.declared.index.Listing.{Listing}
use Rattle.gh_dump.proofs.Growing.{first_listed}
use Rattle.gh_dump.proofs.cause.is_listed.Goals as goal

pub returns : goal.returns
returns g c = c.is_some.ensures ∙ ap (λ (m : Option Listing). is_some m) (c.first.ensures ∙ c.requires.firsts c.args.object) ∙ first_listed 0 g.items c.args.object
