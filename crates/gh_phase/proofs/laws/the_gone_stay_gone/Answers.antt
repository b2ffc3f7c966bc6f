use Rattle.gh_phase.proofs.Shaking.Still.{gone_stay}
use Rattle.gh_phase.proofs.laws.the_gone_stay_gone.Goals as goal

pub returns : goal.returns
returns g c setting n h e es l = gone_stay c.packed_words_are_read_back.ensures.phase setting n (g.M.InHandshake.sound setting.layout) g.M.InHandshake.place h e es l
