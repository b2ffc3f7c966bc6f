use Rattle.std.proofs.Common.{sym, ◌∙◌}
use Rattle.gh_dump.proofs.Letters.{short_name}
use Rattle.gh_dump.proofs.spelled.named.Goals as goal

pub letters-requires : goal.letters-requires
letters-requires c = short_name c.args.goroutine.now (sym c.is_name.ensures ∙ c.if-is_name.true)
