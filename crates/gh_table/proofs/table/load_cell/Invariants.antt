use Rattle.gh_table.proofs.Vocabulary.{Load}
use Rattle.gh_table.proofs.table.load_cell.Given as goal

-- the entry that the step adds
abbrev pub ghosts-load_word : goal.ghosts-load_word
ghosts-load_word g a = record { actor = a.actor; begun = a.begun.now; ask = Load a.cell }
