use Rattle.gh_base.proofs.laws.footprints_hold.Goals as goal
use Rattle.gh_base.proofs.Footprints as proved

pub returns : goal.returns
returns c = proved.footprints_hold
