-- A processor waits for a cycle: what is asked for at each stage, where that leads, and what it has given there.
use Rattle.std.specs.Prelude.{◌≡◌, ℕ, Bool, true, nat_lt, if◌then◌else◌, Option, Some, None, is_none}
use Rattle.gh_poll.specs.Vocabulary.{Ask, Cell, Footprint, Layout, Listing, Load, Or, steps_of, Wait, WaitStage}
use Rattle.gh_base.specs.Footprints as row
use Rattle.gh_base.specs.Routines as routine
use Rattle.gh_poll.specs.declared.wait.WaitStage.TheVariants.{Want, Polling, LoadSwept, Ended}
use Rattle.gh_poll.specs.Poll as poll
use Rattle.gh_poll.specs.PollSound.{SoundPolling}

-- a wait, and the processor that waits, with the poll that it is at, if it is at one
pub record Waiting : Type 0 where
  pub wait : Wait
  pub poll : poll.Polling

-- it knows the cycle that the processor knew when it began
abbrev pub begins : poll.Polling → Wait
begins p = record { known = p.local.view.begun; stage = Want }

abbrev pub waiting : Wait → poll.Polling → Waiting
waiting w p = record { wait = w; poll = p }

abbrev pub opening : poll.Polling → Waiting
opening p = waiting (begins p) p

abbrev pub at_stage : Waiting → WaitStage → Waiting
at_stage w stage = record w { wait = record (w.wait) { stage = stage } }

-- it polls, as a part of the wait
abbrev pub polling : Waiting → Waiting
polling w = record w { wait = record (w.wait) { stage = Polling }; poll = poll.begins w.poll true }

abbrev pub after_poll : Waiting → poll.Polling → Option (Unit {0}) → Waiting
after_poll w p None = record w { wait = record (w.wait) { stage = Polling }; poll = p }
after_poll w p (Some x) = record w { wait = record (w.wait) { stage = LoadSwept }; poll = p }

-- a cycle later than the one that it knew is swept
abbrev pub is_later : (known found : ℕ) → Bool
is_later known found = nat_lt known found

module _ (w : Waiting) where
  abbrev pub asks_at : WaitStage → Ask
  asks_at Want = Or Cell.Want 1
  asks_at Polling = poll.asks w.poll
  asks_at LoadSwept = Load Cell.Swept
  asks_at Ended = Load Cell.Touch

abbrev pub goes_at : Layout → Waiting → WaitStage → ℕ → Waiting
goes_at l w Want found = polling w
goes_at l w Polling found = after_poll w (poll.goes l w.poll found) (poll.gives l w.poll found)
goes_at l w LoadSwept found = if is_later w.wait.known found then at_stage w Ended else polling w
-- one that has ended asks for no step: told of one it would poll again, so that no step but its last gives anything
goes_at l w Ended found = polling w

-- what it has given at this stage; it is busy where that is nothing
abbrev pub given : WaitStage → Option (Unit {0})
given Ended = Some tt
given _ = None

abbrev pub is_busy : WaitStage → Bool
is_busy stage = is_none (given stage)

-- the step that it asks for, what it is after the step found this, and what it ends with if that step is its last
abbrev pub asks : Waiting → Ask
asks w = asks_at w w.wait.stage

abbrev pub goes : Layout → Waiting → ℕ → Waiting
goes l w found = goes_at l w w.wait.stage found

abbrev pub gives : Layout → Waiting → ℕ → Option (Unit {0})
gives l w found = given (goes l w found).wait.stage

-- while it polls, the poll goes on
abbrev pub PollsOn : poll.Polling → WaitStage → Type 0
PollsOn p Polling = poll.is_busy p.stage ≡ true
PollsOn p _ = Unit {0}

-- the wish for a cycle, and what its polls write
abbrev pub writes : Footprint
writes row.Want = true
writes r = poll.writes r

abbrev pub listing : Layout → Listing Waiting (Unit {0})
listing l = record { asks = asks; goes = goes l; given = λ w. given w.wait.stage; sound = λ w. SoundPolling l w.poll × PollsOn w.poll w.wait.stage; writes = writes }

abbrev pub transitions : Layout → routine.Listing Waiting (Unit {0})
transitions l = steps_of l (listing l)
