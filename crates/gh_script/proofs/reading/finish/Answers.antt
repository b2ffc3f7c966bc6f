use Rattle.std.proofs.Common.{◌≤◌, subst, sym, ◌∙◌, arith, unwrap_or}
use Rattle.gh_script.proofs.Vocabulary.{Draft}
use Rattle.gh_script.proofs.Formed.{finished}
use Rattle.gh_script.proofs.Readings.{arena-le}
use Rattle.gh_script.proofs.reading.finish.Goals as goal

pub settings-settings-requires : goal.settings-settings-requires
settings-settings-requires c = subst (λ (d : Draft). unwrap_or d.given.arena 256 ≤ 1024) (sym c.draft.view_is) (arena-le c.args.draft c.requires)

pub invariant_of-result : goal.invariant_of-result
invariant_of-result c = finished c.args.draft _ c.settings-settings.result _ (sym c.draft.view_is) c.settings-settings.ensures c.requires (omega arith) (sym c.is_empty.ensures ∙ c.if-is_empty.false)
