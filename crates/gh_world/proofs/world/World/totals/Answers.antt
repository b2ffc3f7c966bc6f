use Rattle.std.proofs.Common.{ap, ◌∙◌, arith}
use Rattle.gh_world.proofs.Vocabulary.{State}
use Rattle.gh_coord.specs.Listing.{lapsed_at}
use Rattle.gh_world.proofs.OneStep.{lapsed_last}
use Rattle.gh_world.proofs.world.World.totals.Goals as goal

pub returns-clause-credit : goal.returns-clause-credit
returns-clause-credit c =
    let lapsed = c.lapsed-lapsed.ensures ∙ ap (λ (w : State). lapsed_at w.coord.lapsed w.coord.stage) c.self.view_is ∙ lapsed_last c.args.self.now c.requires in
    let spent = c.spent-spent.ensures in
    (omega (arith, spent, lapsed), spent, lapsed)
