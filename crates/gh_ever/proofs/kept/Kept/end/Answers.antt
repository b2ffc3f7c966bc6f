use Rattle.std.proofs.Common.{◌<◌, length, arith, ap, ◌∙◌}
use Rattle.gh_ever.proofs.Vocabulary.{ever_of, Lists, lists_of, with_end}
use Rattle.gh_ever.proofs.Ending.{end_after}
use Rattle.gh_ever.proofs.kept.Kept.end.Goals as goal

pub returns-clause-after : goal.returns-clause-after
returns-clause-after c =
    let within : c.args.g < length c.self.inside.ended.items = grind (arith, c.self.view_is, c.self.invariant.sound.told, c.requires) in
    end_after (lists_of c.self.inside) c.args.g within ∙ ap (λ (l : Lists). with_end (ever_of l) c.args.g) c.self.view_is
