-- A wait that goes on asks for a step, and so does the poll that it runs.
use Rattle.std.proofs.Common.{◌≡◌, ℕ, Option, None, arith}
use Rattle.gh_poll.proofs.Vocabulary.{after_poll, given, gives, Layout, Waiting}
use Rattle.gh_poll.specs.Poll as poll
use Rattle.gh_poll.specs.Wait.{goes}
use Rattle.gh_poll.specs.WaitSound.{SoundWaiting}

-- a step of its poll does not end it
pub polled_none : (w : Waiting) (p : poll.Polling) (out : Option (Unit {0})) → given (after_poll w p out).wait.stage ≡ None
polled_none w p out = grind arith

pub wait_fits : (l : Layout) (w : Waiting) (found : ℕ) → gives l w found ≡ None → SoundWaiting (goes l w found).poll (goes l w found).wait
wait_fits l w found e = grind arith
