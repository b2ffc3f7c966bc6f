use Rattle.gh_cycle.proofs.Going.Alone.{marking-alone-goes}
use Rattle.gh_cycle.proofs.beside.marking_alone_goes_beside.Goals as goal

pub returns : goal.returns
returns c = marking-alone-goes c.laws_are_known.ensures
