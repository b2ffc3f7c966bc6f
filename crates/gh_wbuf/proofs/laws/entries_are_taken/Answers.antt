use Rattle.gh_wbuf.proofs.Vocabulary.{transitions}
use Rattle.gh_wbuf.proofs.Entries.{takes}
use Rattle.gh_wbuf.proofs.laws.entries_are_taken.Goals as goal

pub returns : goal.returns
returns c l seat held found = takes l seat (c.steps_are_folded.ensures (transitions l)) held found
