use Rattle.std.proofs.Common.{refl}
use Rattle.gh_central.proofs.Vocabulary.{opening}
use Rattle.gh_central.proofs.Passing.First.{takes_the_first}
use Rattle.gh_central.proofs.laws.the_pass_takes_the_first.Goals as goal

pub returns : goal.returns
returns c l seat generation wanted found = takes_the_first l (opening seat generation wanted) found refl
