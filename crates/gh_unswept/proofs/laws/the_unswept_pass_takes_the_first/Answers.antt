use Rattle.std.proofs.Common.{refl}
use Rattle.gh_central.specs.UnsweptPass.{opening}
use Rattle.gh_unswept.proofs.FirstUnswept.First.{takes_the_first}
use Rattle.gh_unswept.proofs.laws.the_unswept_pass_takes_the_first.Goals as goal

pub returns : goal.returns
returns c l seat generation wanted found = takes_the_first l (opening seat generation wanted) found refl
