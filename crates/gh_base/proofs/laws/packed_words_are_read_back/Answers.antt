use Rattle.gh_base.proofs.Packing.{read_back}
use Rattle.gh_base.proofs.laws.packed_words_are_read_back.Goals as goal

pub returns : goal.returns
returns c = read_back
