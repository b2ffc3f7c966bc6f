-- While no cycle is marked, workers are at rest.
use Rattle.std.proofs.Common.{◌≡◌, ℕ, ◌<◌, inl, inr, sym, subst, arith, List, [], ◌∷◌}
use Rattle.gh_lists.proofs.Vocabulary.{Actor, CalmWorkersMarkNothing, Entry, IsCalm, KeepsIt, Legal, Op, ProcessorWritesItsOwn, Setup, Sound, WaitsWithNone, WorkersRest}
use Rattle.gh_coord.specs.Handshake as leading
use Rattle.gh_coord.specs.Listing as coord
use Rattle.gh_worker.specs.Handshake as working
use Rattle.gh_worker.specs.Listing as worker
use Rattle.gh_lists.specs.Leaving.{leaves_marking, MayLeaveMarking}
use Rattle.gh_lists.specs.Steps as seats

module _ (setup : Setup)
    (writes : ProcessorWritesItsOwn) (calm : CalmWorkersMarkNothing)
    (keeps : (es : List (Entry Op)) → Legal (seats.it setup) es → KeepsIt (seats.it setup) es) where
  abbrev n : ℕ
  n = seats.n setup

  abbrev at : List (Entry Op) → ℕ → Actor
  at es a = seats.at setup es a

  abbrev Rest : List (Entry Op) → Type 0
  Rest es = WorkersRest (seats.it setup) es

  first_worker : (a : ℕ) (w : worker.Working) → at [] a ≡ Actor.Marks w → IsCalm w
  first_worker a w is = grind arith

  -- where the world is stopped it waits, with nothing held and nothing to hand over
  waits : (stops : ℕ) (w : worker.Working) → working.Sound w → WaitsWithNone stops w → IsCalm w
  waits stops w sound h = calm.after_stop w h.routine sound h.is_at

  module _ (e : Entry Op) (es : List (Entry Op)) (legal : Legal (seats.it setup) (e ∷ es)) (before : Rest es) where
    step : seats.Step setup e es
    step = seats.step setup e es writes legal (keeps es legal.0)

    next : Rest (e ∷ es)
    next c a w led off is = by (seats.lead_was setup e es step c led) (seats.worker_was setup e es step a w is) where
      by_lead : (b : coord.Coordinating) → seats.LeadsIt setup e es b → at es a ≡ Actor.Marks w → MayLeaveMarking b.stage → IsCalm w
      by_lead b x was (inl y) = before b a w x.is y was
      by_lead b x was (inr y) =
          let lt : a < n = seats.worker_seat setup es a w was in
          waits _ w (subst (Sound setup.layout) was ((keeps es legal.0).shakes.all_sound a (omega (arith, lt)))) ((keeps es legal.0).workers_wait b _ a w x.is y lt was)

      by : seats.LeadWas setup e es c → seats.WorkerWas setup e es a w → IsCalm w
      by (seats.lead_stayed led_by) (seats.worker_stayed was) = before c a w led_by off was
      by (seats.lead_stayed led_by) (seats.worker_stepped v x then) = subst IsCalm (sym then) (elim (calm.stays setup.layout v e.found (before c e.actor v led_by off x.is) x.busy) [
        | inl y ↦ y
        | inr y ↦ absurd (off ((keeps (e ∷ es) legal).marking c e.actor (worker.goes setup.layout v e.found) led x.seat x.then y))
      ])
      by (seats.lead_stepped b x then) (seats.worker_stayed was) = by_lead b x was (leaves_marking setup.layout b e.found x.busy (λ m. off (subst (λ (z : coord.Coordinating). leading.Marks z.stage) (sym then) m)))
      by (seats.lead_stepped b x then) (seats.worker_stepped v y now) = absurd (let end = x.seat in let lt = y.seat in omega (arith, end, lt))

  pub rest : (es : List (Entry Op)) → Legal (seats.it setup) es → Rest es
  rest [] legal = λ c a w led off is. first_worker a w is
  rest (e ∷ es) legal = next e es legal (rest es legal.0)
