use Rattle.gh_base.proofs.Showing.{found-request, shows_effect}
use Rattle.gh_base.proofs.laws.steps_are_shown.Goals as goal

pub returns : goal.returns
returns c list words step h shows = record {
  found = found-request c.args.layout.now list words step h shows;
  after = shows_effect c.args.layout.now list words step h shows;
}
