use Rattle.gh_poll.proofs.give.Give.unlocked.Goals as goal

pub returns-clause-fits : goal.returns-clause-fits
returns-clause-fits c l s = record {
  seat = s.seat;
  generation = s.generation;
  room = c.no_spans-self.ensures.room;
  cache = c.no_spans-self.ensures.fits l;
  held = s.held;
  stage = c.giving_buffer-self.ensures.fits l s.held;
}
