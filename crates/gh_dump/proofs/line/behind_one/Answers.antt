use Rattle.gh_script.proofs.Pieces.{goes}
use Rattle.gh_dump.proofs.Words.{behind_first}
use Rattle.gh_dump.proofs.line.behind_one.Goals as goal

pub returns : goal.returns
returns c = behind_first _ _ _ (goes _ _ _ c.next_word.ensures.cut c.next_word.ensures.none)
