use Rattle.gh_central.proofs.Owning.{giving_back}
use Rattle.gh_central.proofs.laws.giving_changes_the_owner.Goals as goal

pub returns : goal.returns
returns c = giving_back c.packed_words_are_read_back.ensures c.cells_are_told.ensures
