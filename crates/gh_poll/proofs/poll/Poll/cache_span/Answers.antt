use Rattle.std.proofs.Common.{rules, sym, subst}
use Rattle.gh_poll.proofs.Vocabulary.{IsCached, Small, SoundPolling}
use Rattle.gh_poll.proofs.Caching.{recached_fits}
use Rattle.gh_poll.proofs.poll.Poll.cache_span.Goals as goal

pub returns-in-Small-clause-sound : goal.returns-in-Small-clause-sound
returns-in-Small-clause-sound c =
    let fits : IsCached c.args.layout.now (Small c.in-Small.class) c.args.cached = search rules in
    let s = subst (SoundPolling c.args.layout.now) (sym c.self.view_is) c.requires.sound in record {
      seat = s.seat;
      local = recached_fits c.args.layout.now c.self.inside.local c.in-Small.class c.index.result c.args.cached c.index.ensures.value s.local fits;
      stage = s.stage;
    }
