use Rattle.gh_script.proofs.Formed.{Ends-formed}
use Rattle.gh_script.proofs.reading.parse.Goals as goal

pub returns-clause-formed : goal.returns-clause-formed
returns-clause-formed c = Ends-formed c.args.text.now c.read.result c.read.ensures
