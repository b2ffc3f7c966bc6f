-- What a wait knows of the poll that it runs, whatever it is told.
use Rattle.std.specs.Prelude.{◌≡◌, true}
use Rattle.gh_poll.specs.Vocabulary.{Wait}
use Rattle.gh_poll.specs.Poll as poll
use Rattle.gh_poll.specs.Wait.{is_busy, PollsOn}

-- it asks for a step, and so does the poll that it runs
pub record SoundWaiting (p : poll.Polling) (w : Wait) : Type 0 where
  pub busy : is_busy w.stage ≡ true
  pub polls : PollsOn p w.stage
