-- The requests for cycles after every legal list.
use Rattle.std.proofs.Common.{◌≡◌, ℕ, refl, sym, subst, ◌∙◌, arith, List, [], ◌∷◌}
use Rattle.gh_lists.proofs.Vocabulary.{Actor, Ask, asked_after, asked_in, Cell, CountsWants, effect, Entry, KeepsIt, Kind, leaves, leaves_all, leaves_numbers, LeavesCycleWords, Legal, Op, opened_after, opened_in, Processor, processor_kind, ProcessorWritesItsOwn, Setup, started, worker_quiet, WorkersWriteTheirOwn}
use Rattle.gh_coord.specs.Listing as coord
use Rattle.gh_lists.proofs.CycleNumbers.Wanting.{goes_so, WantsAt}
use Rattle.gh_lists.specs.Steps as seats

module _ (setup : Setup)
    (writes : ProcessorWritesItsOwn) (works : WorkersWriteTheirOwn)
    (keeps : (es : List (Entry Op)) → Legal (seats.it setup) es → KeepsIt (seats.it setup) es) where
  abbrev k : Kind Processor Op
  k = processor_kind setup.shapes setup.layout

  abbrev Led : List (Entry Op) → coord.Coordinating → Type 0
  Led es c = seats.at setup es (seats.n setup) ≡ Actor.Leads c

  abbrev want : List (Entry Op) → ℕ
  want es = seats.words setup es Cell.Want

  abbrev Holds : List (Entry Op) → coord.Coordinating → Type 0
  Holds es c = WantsAt (opened_in es) (asked_in es) (want es) c.is_last c.stage

  at_first : (c : coord.Coordinating) → Led [] c → Holds [] c
  at_first c led = subst (λ (x : coord.Coordinating). Holds [] x) (sym (seats.first_lead setup c led)) (record {
    word = omega arith;
    enough = omega arith;
    idle = λ x. refl;
    wanted = λ x. absurd x;
  })

  module _ (e : Entry Op) (es : List (Entry Op)) where
    beside : LeavesCycleWords (seats.words setup es) e.ask → (c : coord.Coordinating) → Holds es c → Holds (e ∷ es) c
    beside x c h = grind arith

    by_lead : (c to : coord.Coordinating) → seats.LeadsIt setup e es c → to ≡ coord.goes setup.layout c e.found → Holds es c → Holds (e ∷ es) to
    by_lead c to x then h =
        let next = goes_so (opened_in es) (asked_in es) (seats.words setup es) setup.layout c (coord.counted c).marks c.stage e.found x.busy x.found h in
        subst (λ (y : coord.Coordinating). Holds (e ∷ es) y) (sym then)
        (subst (λ (q : Ask). WantsAt (opened_after q (opened_in es)) (asked_after q (asked_in es)) (effect (seats.words setup es) q Cell.Want) (coord.goes setup.layout c e.found).is_last (coord.goes setup.layout c e.found).stage) (sym x.asked) next)

    by_step : seats.Step setup e es → ((c : coord.Coordinating) → Led es c → Holds es c) → (c : coord.Coordinating) → Led (e ∷ es) c → Holds (e ∷ es) c
    by_step (seats.by_processor m x stays) before c led =
        let free = subst (λ (q : Ask). LeavesCycleWords (seats.words setup es) q) (sym x.asked) (leaves (seats.words setup es) _ (leaves_numbers writes setup.layout (started k e.begun m) x.sound_then)) in
        beside free c (before c (sym stays ∙ led))
    by_step (seats.by_worker w x stays) before c led =
        let free = subst (λ (q : Ask). LeavesCycleWords (seats.words setup es) q) (sym x.asked) (leaves_all (seats.words setup es) _ (worker_quiet (seats.words setup es) works setup.layout w x.sound_it x.busy)) in
        beside free c (before c (sym stays ∙ led))
    by_step (seats.by_lead b x) before c led =
        by_lead b c x (let both : Actor.Leads c ≡ Actor.Leads (coord.goes setup.layout b e.found) = sym led ∙ x.then in cc) (before b x.is)

  pub holds : (es : List (Entry Op)) → Legal (seats.it setup) es → (c : coord.Coordinating) → Led es c → Holds es c
  holds [] legal c led = at_first c led
  holds (e ∷ es) legal c led = by_step e es (seats.step setup e es writes legal (keeps es legal.0)) (λ x was. holds es legal.0 x was) c led

  pub wants : (es : List (Entry Op)) (c : coord.Coordinating) → Legal (seats.it setup) es → Led es c → CountsWants (seats.it setup) es c
  wants es c legal led = let h = holds es legal c led in record { word = h.word; enough = h.enough; idle = h.idle; wanted = h.wanted }
