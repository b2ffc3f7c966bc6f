use Rattle.gh_phase.proofs.Shaking.Lists.{holds, tells}
use Rattle.gh_phase.proofs.laws.the_handshake_holds.Goals as goal

pub returns : goal.returns
returns g c setting n h es l = tells setting n (g.M.InHandshake.sound setting.layout) g.M.InHandshake.place es (holds setting n (g.M.InHandshake.sound setting.layout) g.M.InHandshake.place h c.packed_words_are_read_back.ensures.phase es l)
