use Rattle.gh_phase.proofs.Shaking.Still.{nobody_moves}
use Rattle.gh_phase.proofs.laws.nobody_moves.Goals as goal

pub returns : goal.returns
returns g c setting n h e es l = nobody_moves c.packed_words_are_read_back.ensures.phase setting n (g.M.InHandshake.sound setting.layout) g.M.InHandshake.place h e es l
