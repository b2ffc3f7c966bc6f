use Rattle.gh_dump.proofs.Letters.{names_apart}
use Rattle.gh_dump.proofs.laws.letters_tell_names.Goals as goal

pub returns : goal.returns
returns c = names_apart
