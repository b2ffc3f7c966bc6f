-- Each step of a wait is a move that its seat may make, and what is known at each stage holds then and lasts.
use Rattle.std.proofs.Common.{◌≡◌, ℕ, Bool, true, false, cond, ltb, Option, refl, arith}
use Rattle.gh_mutator_heap.proofs.Vocabulary.{Arena, Cell, cell_of, effect, Good, Has, InRange, IsBetweenOperations, IsParked, KeepsGhosts, KeepsObjects, landing, lists, no_page, Or, Others, Polling, polling, Polls, PollsByRights, Rests, Shared, Steps, View, view, Waiting, Waits, waits_at, waits_held_at, waits_locked_at, WaitsByRights, WaitStage}
use Rattle.gh_base.specs.declared.cell.Ask.TheVariants.{Load}
use Rattle.gh_poll.specs.Poll as poll
use Rattle.gh_mutator_heap.specs.PollHeap.{WaitStageFacts}
use Rattle.gh_poll.specs.Wait.{after_poll, asks_at, at_stage, goes_at, is_busy}
use Rattle.gh_mutator_heap.proofs.Holding.Known.{Kept, Known, by_quiet, holds_swept, knows_kept, knows_last, stands_kept, stands_last}

module _ (k : Known) (h : PollsByRights) (z : Arena) (a : ℕ) where
  module _ (s : Shared) (good : Good z (view s)) (w : Waiting) where
    abbrev p : Polling
    p = w.poll

    abbrev Leads : WaitStage → Type 0
    Leads q = Steps z a s (asks_at w q) (λ t. KeepsObjects (view s) (view t) × Waits z a (view t) (goes_at z.layout w q (s.words (cell_of (asks_at w q)))))

    rests_then : (t : Shared) → Rests z a (view s) p → Kept a (view s) (view t) → Has a (view t) false (lists p.local.cache) → IsBetweenOperations z a (view t) p
    rests_then t x kept has = (has, record { stands = stands_kept z a (view s) (view t) p kept.objects x.stands; knows = knows_kept a (view s) (view t) (holds_swept z a (view s) good) kept.own p false has x.knows })

    asks_for_it : Has a (view s) false (lists p.local.cache) → Rests z a (view s) p → Leads WaitStage.Want
    asks_for_it has x = by_quiet k z a s good (Or Cell.Want 1) false (lists p.local.cache) (λ t. KeepsObjects (view s) (view t) × Waits z a (view t) (polling w)) tt has
        (λ t kept r. (kept.objects, h.begins z a (view t) p true (rests_then t x kept r)))

    polled_then : (t : Shared) (q : Polling) (out : Option (Unit {0})) → poll.given q.stage ≡ out → Polls z a (view t) q → Waits z a (view t) (after_poll w q out)
    polled_then t q out e f = grind arith

    polls : Polls z a (view s) p → Leads WaitStage.Polling
    polls f =
        let n : ℕ = s.words (cell_of (poll.asks p)) in
        landing z a s (effect s.words (poll.asks p)) (λ t. KeepsObjects (view s) (view t) × Polls z a (view t) (poll.goes z.layout p n)) (λ t. KeepsObjects (view s) (view t) × Waits z a (view t) (after_poll w (poll.goes z.layout p n) (poll.gives z.layout p n)))
        (λ t x. (x.0, polled_then t (poll.goes z.layout p n) (poll.gives z.layout p n) refl x.1))
        (h.own_step z a s p good f)

    loads_swept : Has a (view s) false (lists p.local.cache) → Rests z a (view s) p → Leads WaitStage.LoadSwept
    loads_swept has x = by (ltb w.wait.known (s.words Cell.Swept)) where
      by : (later : Bool) → Steps z a s (Load Cell.Swept) (λ t. KeepsObjects (view s) (view t) × Waits z a (view t) (cond later (at_stage w WaitStage.Ended) (polling w)))
      by true = by_quiet k z a s good (Load Cell.Swept) false (lists p.local.cache) (λ t. KeepsObjects (view s) (view t) × Waits z a (view t) (at_stage w WaitStage.Ended)) tt has
          (λ t kept r. (kept.objects, rests_then t x kept r))
      by false = by_quiet k z a s good (Load Cell.Swept) false (lists p.local.cache) (λ t. KeepsObjects (view s) (view t) × Waits z a (view t) (polling w)) tt has
          (λ t kept r. (kept.objects, h.begins z a (view t) p true (rests_then t x kept r)))

    waits_on_at : (q : WaitStage) → Has a (view s) (waits_locked_at p q) (waits_held_at p q) → WaitStageFacts z a (view s) p q → Leads q
    waits_on_at WaitStage.Want has x = asks_for_it has x
    waits_on_at WaitStage.Polling has x = polls (has, x)
    waits_on_at WaitStage.LoadSwept has x = loads_swept has x
    waits_on_at WaitStage.Ended has x = by_quiet k z a s good (Load Cell.Touch) false (lists p.local.cache) (λ t. KeepsObjects (view s) (view t) × Waits z a (view t) (polling w)) tt has
        (λ t kept r. (kept.objects, h.begins z a (view t) p true (rests_then t x kept r)))

  module _ (v u : View) where
    rests_last : (p : Polling) → Good z v → Others z a v u → Rests z a v p → Rests z a u p
    rests_last p good o x = record { stands = stands_last z a v u o p x.stands; knows = knows_last z a v u o (holds_swept z a v good) p x.knows }

    stage_lasts : (p : Polling) (q : WaitStage) → Good z v → Others z a v u → WaitStageFacts z a v p q → WaitStageFacts z a u p q
    stage_lasts p WaitStage.Want good o x = rests_last p good o x
    stage_lasts p WaitStage.Polling good o x = h.lasts z a v u p good o x
    stage_lasts p WaitStage.LoadSwept good o x = rests_last p good o x
    stage_lasts p WaitStage.Ended good o x = rests_last p good o x

    stopped_at : (w : Waiting) (stops : ℕ) (q : WaitStage) → IsParked stops (waits_at w q) → KeepsGhosts a v u → WaitStageFacts z a v w.poll q → WaitStageFacts z a u w.poll q
    stopped_at w stops q e kept x = grind arith

  module _ (v : View) (w : Waiting) where
    within_at : Good z v → (q : WaitStage) → Has a v (waits_locked_at w.poll q) (waits_held_at w.poll q) → WaitStageFacts z a v w.poll q → InRange z.layout (cell_of (asks_at w q))
    within_at good q has x = grind arith

    parked_at : (stops : ℕ) (q : WaitStage) → IsParked stops (waits_at w q) → Has a v (waits_locked_at w.poll q) (waits_held_at w.poll q) → WaitStageFacts z a v w.poll q → Has a v false no_page
    parked_at stops q e has x = grind arith

    ended_at : (q : WaitStage) → is_busy q ≡ false → Has a v (waits_locked_at w.poll q) (waits_held_at w.poll q) → WaitStageFacts z a v w.poll q → IsBetweenOperations z a v w.poll
    ended_at q e has x = grind arith

pub waits_by_rights : Known → PollsByRights → WaitsByRights
waits_by_rights k h = record {
  begins = λ z a v p r. r;
  own_step = λ z a s w good f. waits_on_at k h z a s good w w.wait.stage f.0 f.1;
  within = λ z a v w good f. within_at k h z a v w good w.wait.stage f.0 f.1;
  lasts = λ z a v u w good o f. stage_lasts k h z a v u w.poll w.wait.stage good o f;
  parked = λ z a v w stops e f. parked_at k h z a v w stops w.wait.stage e f.0 f.1;
  stopped = λ z a v u w stops e kept f. stopped_at k h z a v u w stops w.wait.stage e kept f;
  ends = λ z a v w e f. ended_at k h z a v w w.wait.stage e f.0 f.1;
}
