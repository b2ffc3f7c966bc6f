use Rattle.std.proofs.Common.{sym, subst}
use Rattle.gh_poll.proofs.Vocabulary.{SoundPolling}
use Rattle.gh_poll.proofs.poll.Poll.leave.Goals as goal

pub returns-clause-sound : goal.returns-clause-sound
returns-clause-sound c =
    let s = subst (SoundPolling c.args.layout.now) (sym c.self.view_is) c.requires.sound in record {
      seat = s.seat;
      local = record {
        view = s.local.view;
        room = c.no_spans-self-inside.ensures.room;
        cache = c.no_spans-self-inside.ensures.fits c.args.layout.now;
        held = tt;
        scanned = s.local.scanned;
        stacks = s.local.stacks;
        rows = s.local.rows;
      };
      stage = s.stage;
    }
