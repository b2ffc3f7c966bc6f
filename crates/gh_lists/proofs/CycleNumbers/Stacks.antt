-- The numbers at the stacks after every legal list.
use Rattle.std.proofs.Common.{◌≡◌, ℕ, ◌≤◌, ◌⊎◌, inl, inr, sym, ap, subst, ◌∙◌, arith, List, [], ◌∷◌}
use Rattle.gh_lists.proofs.Vocabulary.{Actor, Ask, Cell, CountsCycles, CycleWords, effect, END, Entry, IsFew, IsNumberOf, KeepsIt, Kind, leaves, leaves_all, leaves_numbers, LeavesCycleWords, Legal, numbers_stack, NumbersStack, Op, opened_in, Party, party_of, Processor, processor_kind, ProcessorInHandshake, ProcessorWritesItsOwn, Quiet, rises, Setup, StacksAreNumbered, Stage, stage_of, started, Store, Words, worker_quiet, WorkersWriteTheirOwn}
use Rattle.gh_coord.specs.Listing as coord
use Rattle.gh_worker.specs.Listing as worker
use Rattle.gh_lists.specs.Aside.{Aside, aside as lead_aside}
use Rattle.gh_lists.specs.Steps as seats
use Rattle.gh_lists.specs.Awake.{knows_begun}

module _ (words : Words) (g : ℕ) where
  abbrev Same : Ask → Type 0
  Same ask = effect words ask (Cell.Scanned g) ≡ words (Cell.Scanned g)

  -- a processor's
  module _ (party : Party) (stage : Stage) where
    abbrev Leads : Ask → Type 0
    Leads ask = Same ask ⊎ IsNumberOf party stage (effect words ask (Cell.Scanned g))

    pub numbered : (ask : Ask) → NumbersStack party stage ask → Leads ask
    numbered ask n = grind arith

module _ (setup : Setup) (places : ProcessorInHandshake) (writes : ProcessorWritesItsOwn)
    (keeps : (es : List (Entry Op)) → Legal (seats.it setup) es → KeepsIt (seats.it setup) es) where
  abbrev k : Kind Processor Op
  k = processor_kind setup.shapes setup.layout

  module _ (works : WorkersWriteTheirOwn)
      (counts : (es : List (Entry Op)) (c : coord.Coordinating) → Legal (seats.it setup) es → IsFew es → seats.at setup es (seats.n setup) ≡ Actor.Leads c → CountsCycles (seats.it setup) setup.pacing.room es c) where
    abbrev words : List (Entry Op) → Words
    words es = seats.words setup es

    abbrev AllNumbered : List (Entry Op) → Type 0
    AllNumbered es = StacksAreNumbered (words es)

    few_before : (e : Entry Op) (es : List (Entry Op)) → IsFew (e ∷ es) → IsFew es
    few_before e es few = let up = rises e.ask (opened_in es) in omega (arith, few, up)

    module _ (e : Entry Op) (es : List (Entry Op)) (legal : Legal (seats.it setup) (e ∷ es)) (few : IsFew (e ∷ es)) where
      free : (m : Processor) → seats.RunsIt setup e es m → LeavesCycleWords (words es) e.ask
      free m x = subst (λ (q : Ask). LeavesCycleWords (words es) q) (sym x.asked) (leaves (words es) _ (leaves_numbers writes setup.layout (started k e.begun m) x.sound_then))

      worker_free : (w : worker.Working) → seats.WorksIt setup e es w → Quiet (words es) e.ask
      worker_free w x = subst (λ (q : Ask). Quiet (words es) q) (sym x.asked) (worker_quiet (words es) works setup.layout w x.sound_it x.busy)

      lead_free : (c : coord.Coordinating) → seats.LeadsIt setup e es c → Aside (words es) c.begun e.ask
      lead_free c x = subst (λ (q : Ask). Aside (words es) c.begun q) (sym x.asked) (lead_aside (words es) setup.layout c c.stage x.sound_it.1)

      as_many : LeavesCycleWords (words es) e.ask → words es Cell.Begun ≤ words (e ∷ es) Cell.Begun
      as_many y = let same : words (e ∷ es) Cell.Begun ≡ words es Cell.Begun = ap (λ (n : CycleWords). n.begun) y.numbers in omega (arith, same)

      lead_rises : (c : coord.Coordinating) → CountsCycles (seats.it setup) setup.pacing.room es c → (words (e ∷ es) Cell.Begun ≡ words es Cell.Begun) ⊎ (e.ask ≡ Store Cell.Begun c.begun) → words es Cell.Begun ≤ words (e ∷ es) Cell.Begun
      lead_rises c n h = grind arith

      -- no step takes the number of cycles begun back
      pub begun_rises : words es Cell.Begun ≤ words (e ∷ es) Cell.Begun
      begun_rises = by (seats.step setup e es writes legal (keeps es legal.0)) where
        by : seats.Step setup e es → words es Cell.Begun ≤ words (e ∷ es) Cell.Begun
        by (seats.by_processor m x s) = as_many (free m x)
        by (seats.by_worker w x s) = as_many (leaves_all (words es) e.ask (worker_free w x))
        by (seats.by_lead c x) = lead_rises c (counts es c legal.0 (few_before e es few) x.is) (lead_free c x).begun

      -- A step leaves a stack's word, or writes the number of an end, or that of the cycle that has begun last.
      pub stack_goes : (g : ℕ) → (words (e ∷ es) (Cell.Scanned g) ≡ words es (Cell.Scanned g)) ⊎ ((words (e ∷ es) (Cell.Scanned g) ≡ END) ⊎ (words (e ∷ es) (Cell.Scanned g) ≡ words es Cell.Begun))
      stack_goes g = by (seats.step setup e es writes legal (keeps es legal.0)) where
        written : (m : Processor) (x : seats.RunsIt setup e es m) → IsNumberOf (party_of (started k e.begun m)) (stage_of (started k e.begun m)) (words (e ∷ es) (Cell.Scanned g)) →
            (words (e ∷ es) (Cell.Scanned g) ≡ END) ⊎ (words (e ∷ es) (Cell.Scanned g) ≡ words es Cell.Begun)
        written m x (inl y) = inl y
        written m x (inr y) = inr (y.1 ∙ knows_begun setup places writes keeps e.actor m e.begun es legal.0 x.seat x.is x.sound_it legal.1.begins y.0)

        by : seats.Step setup e es → (words (e ∷ es) (Cell.Scanned g) ≡ words es (Cell.Scanned g)) ⊎ ((words (e ∷ es) (Cell.Scanned g) ≡ END) ⊎ (words (e ∷ es) (Cell.Scanned g) ≡ words es Cell.Begun))
        by (seats.by_processor m x s) =
            elim (numbered (words es) g (party_of (started k e.begun m)) (stage_of (started k e.begun m)) e.ask (subst (λ (q : Ask). NumbersStack (party_of (started k e.begun m)) (stage_of (started k e.begun m)) q) (sym x.asked) (numbers_stack places writes setup.layout setup.shapes (started k e.begun m) x.sound_then x.busy))) [
              | inl y ↦ inl y
              | inr y ↦ inr (written m x y)
            ]
        by (seats.by_worker w x s) = inl ((worker_free w x).scanned g)
        by (seats.by_lead c x) = inl ((lead_free c x).scanned g)

      next : AllNumbered es → AllNumbered (e ∷ es)
      next h g = elim (stack_goes g) [
        | inl same ↦ elim (h g) [ inl y ↦ inl (same ∙ y) | inr y ↦ inr (let up = begun_rises in omega (arith, same, y, up)) ]
        | inr wrote ↦ elim wrote [ inl y ↦ inl y | inr y ↦ inr (let up = begun_rises in omega (arith, y, up)) ]
      ]

    pub are_numbered : (es : List (Entry Op)) → Legal (seats.it setup) es → IsFew es → AllNumbered es
    are_numbered [] legal few g = inr (omega arith)
    are_numbered (e ∷ es) legal few g = next e es legal few (are_numbered es legal.0 (few_before e es few)) g
