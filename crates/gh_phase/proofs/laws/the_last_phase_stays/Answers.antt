use Rattle.gh_phase.proofs.Shaking.Still.{finished_stays}
use Rattle.gh_phase.proofs.laws.the_last_phase_stays.Goals as goal

pub returns : goal.returns
returns g c setting n h e es l = finished_stays c.packed_words_are_read_back.ensures.phase setting n (g.M.InHandshake.sound setting.layout) g.M.InHandshake.place h e es l
