-- The numbers of cycles after every legal list.
use Rattle.std.proofs.Common.{◌≡◌, ℕ, ◌+◌, ◌*◌, ◌⊎◌, refl, sym, subst, ◌∙◌, arith, List, [], ◌∷◌, ◌↔◌}
use Rattle.gh_lists.proofs.Vocabulary.{Actor, ahead_at, Ask, CoordStage, CountsCycles, CycleWords, effect, Entry, generation_after, IsFew, KeepsIt, Kind, leaves, leaves_all, leaves_numbers, LeavesCycleWords, Legal, numbers_of, Op, opened_after, opened_in, Part, part_of, Processor, processor_kind, ProcessorWritesItsOwn, rises, Setup, Sound, started, worker_quiet, WorkersWriteTheirOwn}
use Rattle.gh_coord.specs.Handshake as leading
use Rattle.gh_coord.specs.Listing as coord
use Rattle.gh_lists.specs.Marking.{IsBeginning}
use Rattle.gh_lists.proofs.CycleNumbers.Leading.{goes_so, Is}
use Rattle.gh_lists.specs.Steps as seats

-- One cycle more has begun than has ended while it is marked, and where it is about to be.
module _ (swept begun gen : ℕ) where
  abbrev IsAt : Part → Type 0
  IsAt part = (begun ≡ swept + (ahead_at part).begun) × (gen ≡ generation_after (swept + (ahead_at part).ended))

  abbrev MarkedWhere : (Type 0) → Type 0
  MarkedWhere X = gen ≡ 2 * begun ↔ X

  marked : (c : coord.Coordinating) (p : CoordStage) → leading.SoundAt c p → IsAt (part_of p) → MarkedWhere (leading.Marks p ⊎ IsBeginning p)
  marked c p s h = grind arith

module _ (setup : Setup)
    (writes : ProcessorWritesItsOwn) (works : WorkersWriteTheirOwn)
    (keeps : (es : List (Entry Op)) → Legal (seats.it setup) es → KeepsIt (seats.it setup) es) where
  abbrev k : Kind Processor Op
  k = processor_kind setup.shapes setup.layout

  abbrev Led : List (Entry Op) → coord.Coordinating → Type 0
  Led es c = seats.at setup es (seats.n setup) ≡ Actor.Leads c

  abbrev told : List (Entry Op) → CycleWords
  told es = numbers_of (seats.words setup es)

  abbrev Holds : List (Entry Op) → coord.Coordinating → Type 0
  Holds es c = Is setup.pacing.room (opened_in es) (told es) c c.stage

  at_first : (c : coord.Coordinating) → Led [] c → Holds [] c
  at_first c led = subst (λ (x : coord.Coordinating). Holds [] x) (sym (seats.first_lead setup c led)) (record {
    at = record {
      opened_is = omega arith;
      begun_is = omega arith;
      gen_is = omega arith;
      number_is = omega arith;
      generation_is = omega arith;
      keeps = record { room_is = refl; many_are = omega arith; numbered = λ i x is. absurd cc };
    };
    reads = tt;
  })

  -- a step of another leaves all
  module _ (e : Entry Op) (es : List (Entry Op)) where
    few_before : IsFew (e ∷ es) → IsFew es
    few_before few = let up = rises e.ask (opened_in es) in omega (arith, few, up)

    beside : LeavesCycleWords (seats.words setup es) e.ask → (c : coord.Coordinating) → Holds es c → Holds (e ∷ es) c
    beside x c h = rw (x.opens_none (opened_in es), x.numbers) h

    by_lead : (c to : coord.Coordinating) → seats.LeadsIt setup e es c → to ≡ coord.goes setup.layout c e.found → IsFew es → Holds es c → Holds (e ∷ es) to
    by_lead c to x then few h =
        let next = goes_so setup.pacing.room (opened_in es) (seats.words setup es) setup.layout c (coord.counted c).marks c.stage e.found x.sound_it.1 few x.busy x.found h in
        subst (λ (y : coord.Coordinating). Holds (e ∷ es) y) (sym then) (subst (λ (q : Ask). Is setup.pacing.room (opened_after q (opened_in es)) (numbers_of (effect (seats.words setup es) q)) (coord.goes setup.layout c e.found) (coord.goes setup.layout c e.found).stage) (sym x.asked) next)

    by_step : seats.Step setup e es → IsFew (e ∷ es) → ((c : coord.Coordinating) → Led es c → Holds es c) → (c : coord.Coordinating) → Led (e ∷ es) c → Holds (e ∷ es) c
    by_step (seats.by_processor m x stays) few before c led =
        let free = subst (λ (q : Ask). LeavesCycleWords (seats.words setup es) q) (sym x.asked) (leaves (seats.words setup es) _ (leaves_numbers writes setup.layout (started k e.begun m) x.sound_then)) in
        beside free c (before c (sym stays ∙ led))
    by_step (seats.by_worker w x stays) few before c led =
        let free = subst (λ (q : Ask). LeavesCycleWords (seats.words setup es) q) (sym x.asked) (leaves_all (seats.words setup es) _ (worker_quiet (seats.words setup es) works setup.layout w x.sound_it x.busy)) in
        beside free c (before c (sym stays ∙ led))
    by_step (seats.by_lead b x) few before c led =
        by_lead b c x (let both : Actor.Leads c ≡ Actor.Leads (coord.goes setup.layout b e.found) = sym led ∙ x.then in cc) (few_before few) (before b x.is)

  pub holds : (es : List (Entry Op)) → Legal (seats.it setup) es → IsFew es → (c : coord.Coordinating) → Led es c → Holds es c
  holds [] legal few c led = at_first c led
  holds (e ∷ es) legal few c led = by_step e es (seats.step setup e es writes legal (keeps es legal.0)) few (λ x was. holds es legal.0 (few_before e es few) x was) c led

  lead_sound : (es : List (Entry Op)) (c : coord.Coordinating) → Legal (seats.it setup) es → Led es c → leading.Sound c
  lead_sound es c legal led = subst (Sound setup.layout) led ((keeps es legal).shakes.all_sound (seats.n setup) (omega arith))

  pub counts : (es : List (Entry Op)) (c : coord.Coordinating) → Legal (seats.it setup) es → IsFew es → Led es c → CountsCycles (seats.it setup) setup.pacing.room es c
  counts es c legal few led = let s = lead_sound es c legal led in let h = (holds es legal few c led).at in record {
    opened = h.opened_is;
    begun = h.begun_is;
    gen = h.gen_is;
    number = h.number_is;
    generation = h.generation_is;
    marks = marked (told es).swept (told es).begun (told es).gen c c.stage s.1 (h.begun_is, h.gen_is);
    cycles = h.keeps;
  }
