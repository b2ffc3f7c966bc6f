-- Each step of a leave is a move that its seat may make, and what is known at each stage holds then and lasts.
use Rattle.std.proofs.Common.{◌≡◌, ℕ, ◌+◌, ◌<◌, false, refl, sym, subst, arith}
use Rattle.gh_mutator_heap.proofs.Vocabulary.{Arena, Cell, cell_of, effect, GONE, Good, Has, InRange, is_busy, IsBetweenOperations, IsParked, KeepsObjects, KnowsAtAnyTime, landing, leave_held_at, leave_locked_at, leaves_at, LeavesByRights, LeaveStageFacts, Leaving, leaving, no_page, Others, Polling, Shared, stage_of, Steps, TakesLeave, View, view, with_nothing}
use Rattle.gh_base.specs.declared.cell.Ask.TheVariants.{Load, Store}
use Rattle.gh_poll.specs.declared.leave.LeaveStage.{LeaveStage}
use Rattle.gh_poll.specs.Give as give
use Rattle.gh_poll.specs.Leave.{asks_at, goes_at}
use Rattle.gh_mutator_heap.proofs.Holding.Gives.{Gives, gives_begin, gives_last, gives_on, gives_within}
use Rattle.gh_mutator_heap.proofs.Holding.Known.{HoldsSwept, Kept, Known, by_quiet, holds_swept, stands_kept, stands_last, stands_stopped, stands_to}

-- what is known at a stage, with its rights
record LeavesAt (z : Arena) (a : ℕ) (v : View) (q : LeaveStage) : Type 0 where
  has : Has a v (leave_locked_at q) (leave_held_at q)
  facts : LeaveStageFacts z a v q

given_then : (z : Arena) (a : ℕ) (v : View) (g : give.Giving) → Gives z a v g → LeavesAt z a v (stage_of g)
given_then z a v g x = grind arith

begin : (z : Arena) (a : ℕ) (v : View) (p : Polling) → IsBetweenOperations z a v p → TakesLeave z a v (with_nothing p) (leaving p)
begin z a v p r =
    let s = r.1.stands in
    let g = gives_begin z a v p.seat p.local.view.generation p.local.cache p.local.held s.sits.seat r.1.knows.generation s.sits.cache s.sits.held r.1.knows.caches r.0 in
    let x = given_then z a v (give.opening p.seat p.local.view.generation p.local.cache p.local.held) g in
    (x.has, record { stands = stands_to z a v p (with_nothing p) refl refl s.sits.scanned refl tt s; seat_is = s.sits.seat; stage_is = x.facts })

module _ (k : Known) (z : Arena) (a : ℕ) (s : Shared) (good : Good z (view s)) (p : Polling) (stands : KnowsAtAnyTime z a (view s) p) (w : Leaving) (seat_is : w.seat ≡ a) where
  abbrev Leads : LeaveStage → Type 0
  Leads q = Steps z a s (asks_at w q) (λ t. KeepsObjects (view s) (view t) × TakesLeave z a (view t) p (goes_at w q (s.words (cell_of (asks_at w q)))))

  then : (t : Shared) → KeepsObjects (view s) (view t) → (q : LeaveStage) → LeavesAt z a (view t) q → TakesLeave z a (view t) p (record w { stage = q })
  then t kept q x = (x.has, record { stands = stands_kept z a (view s) (view t) p kept stands; seat_is = seat_is; stage_is = x.facts })

  leaves_on_at : (q : LeaveStage) → Has a (view s) (leave_locked_at q) (leave_held_at q) → LeaveStageFacts z a (view s) q → Leads q
  leaves_on_at (LeaveStage.Giving g) has x =
      let n : ℕ = s.words (cell_of (give.asks g)) in
      landing z a s (effect s.words (give.asks g)) (λ t. Kept a (view s) (view t) × Gives z a (view t) (give.goes g n)) (λ t. KeepsObjects (view s) (view t) × TakesLeave z a (view t) p (record w { stage = stage_of (give.goes g n) }))
      (λ t h. (h.0.objects, then t h.0.objects (stage_of (give.goes g n)) (given_then z a (view t) (give.goes g n) h.1)))
      (gives_on k z a s good g (record { has = has; facts = x }))
  leaves_on_at LeaveStage.Leave has x = by_quiet k z a s good (Store (Cell.Ack w.seat) GONE) false no_page (λ t. KeepsObjects (view s) (view t) × TakesLeave z a (view t) p (record w { stage = LeaveStage.Left })) tt has
      (λ t kept r. (kept.objects, then t kept.objects LeaveStage.Left (record { has = r; facts = tt })))
  leaves_on_at LeaveStage.Left has x = by_quiet k z a s good (Load Cell.Touch) false no_page (λ t. KeepsObjects (view s) (view t) × TakesLeave z a (view t) p (record w { stage = LeaveStage.Left })) tt has
      (λ t kept r. (kept.objects, then t kept.objects LeaveStage.Left (record { has = r; facts = tt })))

stage_lasts : (z : Arena) (a : ℕ) (v w : View) (q : LeaveStage) → HoldsSwept a v → Others z a v w → LeaveStageFacts z a v q → LeaveStageFacts z a w q
stage_lasts z a v w (LeaveStage.Giving g) swept o x = gives_last z a v w o swept g x
stage_lasts z a v w LeaveStage.Leave swept o x = tt
stage_lasts z a v w LeaveStage.Left swept o x = tt

within_at : (z : Arena) (a : ℕ) (v : View) (x : Leaving) (q : LeaveStage) → Good z v → a < z.layout.procs → x.seat ≡ a → LeaveStageFacts z a v q → InRange z.layout (cell_of (asks_at x q))
within_at z a v x (LeaveStage.Giving g) good few e f = gives_within z a v g good f
within_at z a v x LeaveStage.Leave good few e f = subst (λ (b : ℕ). b < z.layout.procs + z.layout.workers) (sym e) (omega (arith, few))
within_at z a v x LeaveStage.Left good few e f = tt

-- Where it is parked it is gone.

parked_at : (a stops : ℕ) (v : View) (q : LeaveStage) → IsParked stops (leaves_at q) → Has a v (leave_locked_at q) (leave_held_at q) → Has a v false no_page
parked_at a stops v q e has = grind arith

stopped_at : (z : Arena) (a stops : ℕ) (v w : View) (q : LeaveStage) → IsParked stops (leaves_at q) → LeaveStageFacts z a v q → LeaveStageFacts z a w q
stopped_at z a stops v w q e x = grind arith

ended_at : (a : ℕ) (v : View) (q : LeaveStage) → is_busy q ≡ false → Has a v (leave_locked_at q) (leave_held_at q) → Has a v false no_page
ended_at a v q e has = grind arith

pub leaves_by_rights : Known → LeavesByRights
leaves_by_rights k = record {
  begins = begin;
  own_step = λ z a s p x good f. leaves_on_at k z a s good p f.1.stands x f.1.seat_is x.stage f.0 f.1.stage_is;
  within = λ z a v p x good f. within_at z a v x x.stage good f.1.stands.sits.few f.1.seat_is f.1.stage_is;
  lasts = λ z a v w p x good o f. record { stands = stands_last z a v w o p f.stands; seat_is = f.seat_is; stage_is = stage_lasts z a v w x.stage (holds_swept z a v good) o f.stage_is };
  parked = λ z a v p x stops e f. parked_at a stops v x.stage e f.0;
  stopped = λ z a v w p x stops e kept f. record { stands = stands_stopped z a v w p kept f.stands; seat_is = f.seat_is; stage_is = stopped_at z a stops v w x.stage e f.stage_is };
  ends = λ z a v p x e f. (ended_at a v x.stage e f.0, f.1.stands);
}
