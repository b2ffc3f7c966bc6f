use Rattle.gh_table.proofs.Vocabulary.{Load}
use Rattle.gh_table.proofs.Running.{saw_legal_list}
use Rattle.gh_table.proofs.table.load_cell.Goals as goal

pub returns-clause-saw : goal.returns-clause-saw
returns-clause-saw g c = saw_legal_list g.K.Plan.setting c.args.actor c.args.begun.now (Load c.args.cell) c.load_word.result c.args.seat.now.me c.load_word.new.seat.me c.load_word.ensures.tells
