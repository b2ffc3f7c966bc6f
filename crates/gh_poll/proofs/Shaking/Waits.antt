-- Each step of a wait, and of a leave, is one of the handshake of a stop: by its stages.
use Rattle.std.proofs.Common.{◌≡◌, ℕ, Bool, true, false, cond, refl, ltb, Option, arith}
use Rattle.gh_poll.proofs.Vocabulary.{after_poll, at_stage, HasPlaces, IsPlace, Layout, LeavesInHandshake, LoadSwept, polling, PollsInHandshake, SoundWait, StageGoes, wait_stage_of, waiter_at, waiter_of, Waiting, waits_at, WaitsInHandshake, WaitsSoundAt, WaitStage, Want, WhatPollsRunIsQuiet}
use Rattle.gh_poll.specs.declared.wait.WaitStage.TheVariants.{Polling, Ended}
use Rattle.gh_poll.specs.Handshake.{PollsOn}
use Rattle.gh_poll.specs.Poll as poll
use Rattle.gh_poll.specs.Wait.{asks_at, goes_at, is_busy}

-- a step at this stage leads here
record Goes (found : ℕ) (w : Waiting) (stage : WaitStage) (to : Waiting) : Type 0 where
  sound : SoundWait to
  goes : StageGoes found (waiter_at w stage) (waits_at w stage) (asks_at w stage) (waiter_of to) (wait_stage_of to)

polls_on : (w : Waiting) → HasPlaces w.poll.local.cache → SoundWait (polling w)
polls_on w has = (has, record { busy = refl; sound = (has, tt) })

either : (found : ℕ) (w : Waiting) → HasPlaces w.poll.local.cache → (later : Bool) → Goes found w LoadSwept (cond later (at_stage w Ended) (polling w))
either found w has later = grind arith

module _ (h : PollsInHandshake) (l : Layout) where
  polled : (found : ℕ) (w : Waiting) → PollsOn w.poll → (out : Option (Unit {0})) → poll.gives l w.poll found ≡ out → Goes found w Polling (after_poll w (poll.goes l w.poll found) out)
  polled found w s out e = let keeps = h.keeps l in grind arith

  goes_at_stage : (found : ℕ) (w : Waiting) (stage : WaitStage) → HasPlaces w.poll.local.cache → WaitsSoundAt w stage → is_busy stage ≡ true → Goes found w stage (goes_at l w stage found)
  goes_at_stage found w Want has s busy = record { sound = polls_on w has; goes = (refl, tt, tt) }
  goes_at_stage found w Polling has s busy = polled found w s (poll.gives l w.poll found) refl
  goes_at_stage found w LoadSwept has s busy = either found w has (ltb w.wait.known found)
  goes_at_stage found w Ended has s busy = absurd cc

ends_at : (w : Waiting) (stage : WaitStage) → is_busy stage ≡ false → IsPlace (waiter_at w stage) (waits_at w stage) w.poll.seat w.poll.local
ends_at w stage e = grind arith

pub waits_in_handshake : PollsInHandshake → WaitsInHandshake
waits_in_handshake h = record {
  sound = λ p has. (has, tt);
  begins = λ p. (refl, refl);
  keeps = λ l. record { stays_sound = λ w found s busy. (goes_at_stage h l found w w.wait.stage s.0 s.1 busy).sound; goes = λ w found s busy. (goes_at_stage h l found w w.wait.stage s.0 s.1 busy).goes };
  ends = λ w e. ends_at w w.wait.stage e;
}

module _ (q : WhatPollsRunIsQuiet) where
  pub leaves_in_handshake : LeavesInHandshake
  leaves_in_handshake = grind arith
