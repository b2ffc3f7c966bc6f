use Rattle.gh_table.proofs.Keeping.{opens}
use Rattle.gh_table.proofs.table.open.Goals as goal

pub of_words-requires : goal.of_words-requires
of_words-requires g c = opens g.K.Plan.setting c.args.plan.now c.args.words.now c.requires.shows
