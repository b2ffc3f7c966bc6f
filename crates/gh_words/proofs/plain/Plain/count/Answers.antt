use Rattle.gh_words.proofs.Spread.{shown_long}
use Rattle.gh_words.proofs.plain.Plain.count.Goals as goal

pub returns : goal.returns
returns c = shown_long c.self.inside _ c.self.view_is
