-- While marking is on, each step of a wait, and of a leave, is made of moves that its seat may make.
use Rattle.std.proofs.Common.{◌≡◌, ℕ, Bool, true, false, cond, ltb, Option, refl, arith}
use Rattle.gh_poll.proofs.Vocabulary.{after_poll, at_stage, Cell, cell_of, Cycle, effect, GiveFacts, GONE, Good, Hands, holding_only, Keeps, KnowsCycle, KnowsObjects, landing, LeaveFacts, LeavesByMoves, LeaveStage, LoadSwept, nothing, Or, Others, PollFacts, polling, PollsByMoves, RestFacts, Shared, stacks_last, Steps, Store, WaitFacts, Waiting, WaitsByMoves, WaitStage, WaitStageFacts, Want, WhatPollsRunIsQuiet}
use Rattle.gh_poll.specs.declared.wait.WaitStage.TheVariants.{Polling, Ended}
use Rattle.gh_poll.specs.Give as give
use Rattle.gh_poll.specs.Leave as leave
use Rattle.gh_poll.specs.Poll as poll
use Rattle.gh_poll.specs.Wait.{asks_at, goes_at, is_busy}
use Rattle.gh_poll.proofs.Marking.Gives.{gives_begin, gives_last, gives_on}
use Rattle.gh_poll.proofs.Marking.Known.{by_load, by_quiet, Known}

pub rest_lasts : (k : Known) (z : Cycle) (a : ℕ) (s t : Shared) (p : poll.Polling) → Others z a s t → RestFacts z a s p → RestFacts z a t p
rest_lasts k z a s t p o r = record {
  seat_is = r.seat_is;
  between = record { stacks = stacks_last z a s t p.local.stacks p.local.scanned o.keeps r.between.stacks; number = r.between.number; hands = k.last z a s t (holding_only p.local.held) o r.between.hands };
}

module _ (k : Known) (h : PollsByMoves) (z : Cycle) (a : ℕ) where
  module _ (s : Shared) (good : Good z s) (objects : KnowsObjects z s) (now : KnowsCycle z s) (w : Waiting) where
    abbrev Leads : WaitStage → Type 0
    Leads q = Steps z a s (asks_at w q) (λ t. WaitFacts z a t (goes_at z.arena.layout w q (s.words (cell_of (asks_at w q)))))

    asks_for_it : RestFacts z a s w.poll → Leads Want
    asks_for_it r = by_quiet k z a s good (Or Cell.Want 1) (holding_only w.poll.local.held) (λ t. WaitFacts z a t (polling w)) tt r.between.hands
        (λ t kept x. h.begins z a t w.poll true (record { seat_is = r.seat_is; between = record { stacks = stacks_last z a s t w.poll.local.stacks w.poll.local.scanned kept r.between.stacks; number = r.between.number; hands = x } }))

    polled_then : (t : Shared) (p : poll.Polling) (out : Option (Unit {0})) → poll.given p.stage ≡ out → PollFacts z a t p → WaitFacts z a t (after_poll w p out)
    polled_then t p out e f = grind arith

    polls : PollFacts z a s w.poll → Leads Polling
    polls f =
        let n : ℕ = s.words (cell_of (poll.asks w.poll)) in
        landing z a s (effect s.words (poll.asks w.poll)) (λ t. PollFacts z a t (poll.goes z.arena.layout w.poll n)) (λ t. WaitFacts z a t (after_poll w (poll.goes z.arena.layout w.poll n) (poll.gives z.arena.layout w.poll n)))
        (λ t went f. polled_then t (poll.goes z.arena.layout w.poll n) (poll.gives z.arena.layout w.poll n) refl f)
        (h.own_step z a s w.poll good objects now f)

    loads_swept : RestFacts z a s w.poll → Leads LoadSwept
    loads_swept r = by (ltb w.wait.known (s.words Cell.Swept)) where
      by : (later : Bool) → Steps z a s (asks_at w LoadSwept) (λ t. WaitFacts z a t (cond later (at_stage w Ended) (polling w)))
      by true = by_load k z a s good Cell.Swept (λ t. WaitFacts z a t (at_stage w Ended)) r
      by false = by_load k z a s good Cell.Swept (λ t. WaitFacts z a t (polling w)) (h.begins z a s w.poll true r)

    waits_at : (q : WaitStage) → WaitStageFacts z a s w.poll q → Leads q
    waits_at Want x = asks_for_it x
    waits_at Polling x = polls x
    waits_at LoadSwept x = loads_swept x
    waits_at Ended x = by_load k z a s good Cell.Touch (λ t. WaitFacts z a t (polling w)) (h.begins z a s w.poll true x)

  stage_lasts : (s t : Shared) (p : poll.Polling) (q : WaitStage) → Others z a s t → WaitStageFacts z a s p q → WaitStageFacts z a t p q
  stage_lasts s t p q o x = grind (arith, rest_lasts)

  ended_at : (s : Shared) (p : poll.Polling) (q : WaitStage) → is_busy q ≡ false → WaitStageFacts z a s p q → RestFacts z a s p
  ended_at s p q e x = grind arith

  stops_at : (i number : ℕ) (s : Shared) (w : Waiting) (q : WaitStage) → asks_at w q ≡ Store (Cell.Ack i) number → WaitStageFacts z a s w.poll q → Hands a s nothing
  stops_at i number s w q e x = grind arith

pub waits_by_moves : Known → PollsByMoves → WaitsByMoves
waits_by_moves k h = record {
  begins = λ z a s p r. r;
  own_step = λ z a s w good objects now f. waits_at k h z a s good objects now w w.wait.stage f;
  lasts = λ z a s t w o f. stage_lasts k h z a s t w.poll w.wait.stage o f;
  ends = λ z a s w over f. ended_at k h z a s w.poll w.wait.stage over f;
  stops = λ z a i number s w e f. stops_at k h z a i number s w w.wait.stage e f;
}

-- leaving
module _ (k : Known) (z : Cycle) (a : ℕ) where
  given_facts : (t : Shared) (g : give.Giving) → GiveFacts z a t g → LeaveFacts z a t (leave.stage_of g)
  given_facts t g f = grind arith

  leaves_at : (s : Shared) → Good z s → KnowsObjects z s → (w : leave.Leaving) (q : LeaveStage) → LeaveFacts z a s q → Steps z a s (leave.asks_at w q) (λ t. Keeps z a s t × LeaveFacts z a t (leave.goes_at w q (s.words (cell_of (leave.asks_at w q)))).stage)
  leaves_at s good objects w (LeaveStage.Giving g) x =
      let n : ℕ = s.words (cell_of (give.asks g)) in
      landing z a s (effect s.words (give.asks g)) (λ t. Keeps z a s t × GiveFacts z a t (give.goes g n)) (λ t. Keeps z a s t × LeaveFacts z a t (leave.stage_of (give.goes g n))) (λ t went f. (f.0, given_facts t (give.goes g n) f.1)) (gives_on k z a s good objects g x)
  leaves_at s good objects w LeaveStage.Leave x = by_quiet k z a s good (Store (Cell.Ack w.seat) GONE) nothing (λ t. Keeps z a s t × Hands a t nothing) tt x (λ t kept y. (kept, y))
  leaves_at s good objects w LeaveStage.Left x = by_load k z a s good Cell.Touch (λ t. Keeps z a s t × Hands a t nothing) ((k.go_on z a).stays s, x)

  leave_lasts : (s t : Shared) (q : LeaveStage) → Others z a s t → LeaveFacts z a s q → LeaveFacts z a t q
  leave_lasts s t (LeaveStage.Giving g) o x = gives_last k z a s t g o x
  leave_lasts s t LeaveStage.Leave o x = k.last z a s t nothing o x
  leave_lasts s t LeaveStage.Left o x = k.last z a s t nothing o x

leave_stops : (q : WhatPollsRunIsQuiet) (z : Cycle) (a i number : ℕ) (s : Shared) (w : leave.Leaving) (stage : LeaveStage) → leave.asks_at w stage ≡ Store (Cell.Ack i) number → LeaveFacts z a s stage → Hands a s nothing
leave_stops q z a i number s w stage e x = grind arith

pub leaves_by_moves : Known → WhatPollsRunIsQuiet → LeavesByMoves
leaves_by_moves k q = record {
  begins = λ z a seat generation s cache held x. given_facts k z a s (give.opening seat generation cache held) (gives_begin k z a s seat generation cache held x);
  own_step = λ z a s w good objects f. leaves_at k z a s good objects w w.stage f;
  lasts = λ z a s t w o f. leave_lasts k z a s t w.stage o f;
  stops = λ z a i number s w e f. leave_stops q z a i number s w w.stage e f;
}
