-- What holds behind a step of a processor while a cycle is marked: what is known of the heap and of the cycle, with the processor as it is then.
use Rattle.std.proofs.Common.{◌≡◌, ◌⊎◌, inl, inr, ℕ, ◌^◌, ◌<◌, ◌==◌, Bool, true, false, refl, sym, ap, subst, ◌∙◌, arith, List, ◌∷◌, Option, None, eqb-true, is_some}
use Rattle.gh_holds.proofs.Vocabulary.{acks_of, Answer, Arena, arena, AreWords, asks, began, began_words, Cell, cell_of, Coordinating, Cycle, drawn_then, Entry, Ever, ever, Given, HasGoneOn, HasState, Heap, HeapSteps, IsBeside, IsInCycle, IsKnown, IsLed, IsToBegin, Kind, Knows, Legal, ListsKnown, mark_words, MarkFacts, Marking, MarkingGood, MarksNothing, may_of, moved, Op, other, Processor, processor_at, processor_kind, run_is, setup_for, started, Steps, StepsByMoves, sweep_in, Sweeping, takes, TellsStacks, those, Wanted, Words, words}
use Rattle.gh_coord.specs.Handshake as leading
use Rattle.gh_mutator_heap.specs.Beside.{StepsOn}
use Rattle.gh_mutator.specs.Sweeping.{IsSweeping}
use Rattle.gh_state.specs.Moves as state
use Rattle.gh_marked.proofs.Vocabulary.{DoesPoints, IsWritten}
use Rattle.gh_marked.proofs.OneStep.Beside as beside
use Rattle.gh_holds.proofs.AllActors.Gone.{gone_rests}
use Rattle.gh_holds.proofs.AllActors.Marks.{words_stay}
use Rattle.gh_marked.proofs.OneStep.Landing as landing
use Rattle.gh_marked.proofs.OneStep.OwnStep as step
use Rattle.gh_marked.proofs.OneStep.Stepping as stepping
use Rattle.gh_holds.proofs.AllActors.Stood.{move_stays, Stays}
use Rattle.gh_marked.proofs.OneStep.Sweepers as sweepers
use Rattle.gh_holds.proofs.AllActors.Tied.{is_of_heap}

module _ (given : Given) (wanted : Wanted) (lists : ListsKnown (setup_for given)) where
  abbrev may : ℕ → List (Entry Op) → Op → Bool
  may = may_of given.shapes given.layout given.counts

  abbrev z : Arena
  z = arena (setup_for given)

  abbrev k : Kind Processor Op
  k = processor_kind given.shapes given.layout

  abbrev cycle : (number : ℕ) → number < 2 ^ 48 → Cycle
  cycle number few = record { arena = z; number = number; few = few }

  module _ (e : Entry Op) (es : List (Entry Op)) (c : Coordinating) (number : ℕ) (few : number < 2 ^ 48) (s : Marking) (marked : beside.Marked given wanted lists e es c number few s) where
    abbrev a : ℕ
    a = e.actor

    abbrev m : Processor
    m = processor_at (setup_for given) es a

    abbrev now : Processor
    now = started k e.begun m

    abbrev h : Heap
    h = marked.kn.has.state.heap

    abbrev none : sweep_in now ≡ None
    none = beside.none given wanted lists e es c number few s marked

    tells : TellsStacks given.layout h.words now
    tells = beside.tells given wanted lists e es c number few s marked

    abbrev pending : Option Answer
    pending = (step.is given lists.good lists.limits lists.known e es marked.legal marked.lt marked.kn.has).pending

    calm : marked.kn.has.state.told ≡ None → MarksNothing now
    calm over = grind arith

    -- a move over the heap, and the same move of the one state
    abbrev land : HeapSteps z a h (asks given.layout now) (λ t. DoesPoints z a h t now pending (h.words (cell_of (asks given.layout now))))
    land = step.land given lists.good lists.limits lists.known e es marked.legal marked.lt marked.kn.has none

    abbrev lands : landing.Lands given lists.good lists.limits lists.known wanted e es marked.legal marked.lt marked.kn.has
    lands = landing.by_deed given lists.good lists.limits lists.known wanted e es marked.legal marked.lt marked.kn.has calm none

    abbrev there : Heap
    there = moved z a h land.move

    abbrev t : Heap
    t = (state.moved z a marked.kn.has.state lands.move).heap

    t_is : t ≡ there
    t_is = landing.deed_heap given lists.good lists.limits lists.known wanted e es marked.legal marked.lt marked.kn.has calm none

    goes : StepsOn (cycle number few) a there s (takes given.layout given.shapes now (h.words (cell_of (asks given.layout now))))
    goes = beside.goes given wanted lists e es c number few s marked

    beside_then : IsBeside z t goes.then
    beside_then = subst (λ (x : Heap). IsBeside z x goes.then) (sym t_is) goes.beside

    -- The cycle, and what has become of the heap since it began.

    other_seat : (e.actor == acks_of given.layout) ≡ false
    other_seat = go (a == acks_of given.layout) refl where
      go : (b : Bool) → (a == acks_of given.layout) ≡ b → (a == acks_of given.layout) ≡ false
      go false is = is
      go true is = absurd (let same = eqb-true a (acks_of given.layout) is in omega (arith, same, marked.lt))

    -- in the last cycle each processor is gone, so that none steps
    not_last : (d : Coordinating) → IsLed (setup_for given) (e ∷ es) d → d.is_last ≡ true → ⊥
    not_last d led_d is =
        let led_was : IsLed (setup_for given) es d = sym (other (setup_for given) e es (acks_of given.layout) other_seat) ∙ led_d in
        gone_rests (setup_for given) lists e es marked.legal marked.lt ((lists.keeps es marked.legal.0).processors_gone d led_was is a marked.lt)

    gone_on : (v : Ever) → HasGoneOn v h s → HasGoneOn v t goes.then
    gone_on v x = subst (λ (y : Heap). HasGoneOn v y goes.then) (sym t_is) (lists.known.gone_on (cycle number few) a h s goes.then land.move v marked.kn.has.good.heap marked.fine land.may goes.went goes.beside.words marked.kn.beside.words x)

    abbrev Cycles : List (Entry Op) → Type 0
    Cycles xs = IsToBegin (setup_for given) xs number ⊎ IsInCycle (setup_for given) xs number

    abbrev Since : Type 0
    Since = (x : Cycles (e ∷ es)) × HasGoneOn (began (setup_for given) (e ∷ es) number x) t goes.then × Stays (began_words (setup_for given) (e ∷ es) number x) (words (setup_for given) (e ∷ es))

    -- a cycle that is about to begin is not marked yet
    to_begin : IsToBegin (setup_for given) es number → ⊥
    to_begin b = grind arith

    -- the one state
    abbrev has_then : HasState (setup_for given) (e ∷ es)
    has_then = stepping.has_then given lists.good lists.limits lists.known wanted e es marked.legal marked.lt marked.kn.has lands tells

    -- what was placed where the cycle began stays placed
    stays : Stays (words (setup_for given) es) (words (setup_for given) (e ∷ es))
    stays = subst (Stays (words (setup_for given) es)) has_then.of_list.words_are (subst (λ (w : Words). Stays w t.words) marked.kn.has.of_list.words_are (subst (λ (x : Heap). Stays h.words x.words) (sym t_is) (move_stays lists.known.footprints lists.known.rows z a h land.move land.may)))

    -- nothing of the next sweep is counted
    uncounted_then : (d : Cell) → (IsWritten given.layout now d → ⊥) → h.words d ≡ 0 → t.words d ≡ 0
    uncounted_then d never is = ap (λ (w : Words). w d) lands.words_are ∙ (lists.known.writes.leaves given.layout now h.words d (step.sound_now given lists.good lists.limits lists.known e es marked.legal marked.lt marked.kn.has) never ∙ is)

    no_sweep : IsSweeping now → ⊥
    no_sweep is = absurd (let no : false ≡ true = sym (ap (λ (x : Option Sweeping). is_some x) none) ∙ is in cc)

    cycle_then : (x : Cycles es) → HasGoneOn (began (setup_for given) es number x) h s → Stays (began_words (setup_for given) es number x) (words (setup_for given) es) → Since
    cycle_then (inr i) g so = (inr (record { begun = i.begun; start = inr i.start; begins = i.begins; last = λ d led_d is. absurd (not_last d led_d is) }), gone_on (ever (setup_for given) i.begun) g, λ n x p. stays n x (so n x p))
    cycle_then (inl b) g so = absurd (to_begin b)

    abbrev since : Since
    since = cycle_then marked.kn.cycle marked.kn.gone_on marked.kn.stood

    known_then : IsKnown (setup_for given) (cycle number few) goes.then (e ∷ es)
    known_then = record {
      arena_is = refl;
      has = has_then;
      under_way = (marked.kn.under_way.0, (sweepers.end_stays lists.known z a marked.kn.has.state lands.move).1 ∙ marked.kn.under_way.1);
      beside = beside_then;
      cycle = since.0;
      gone_on = since.1;
      stood = since.2;
      drawn = drawn_then (setup_for given) lists.known.drawn (cycle number few) e es s goes.then marked.fine goes.went (beside_then.words ∙ has_then.of_list.words_are) (is_of_heap (setup_for given) lists.known (e ∷ es) has_then (cycle number few) goes.then refl (wanted.steps (cycle number few) a s goes.then marked.fine goes.went).good beside_then) marked.kn.drawn;
      marks_fit = subst (λ (w : Words). AreWords (mark_words w)) beside_then.words (words_stay lists.known.mark_words (cycle number few) a s goes.then goes.went (subst (λ (w : Words). AreWords (mark_words w)) (sym marked.kn.beside.words) marked.kn.marks_fit));
      counts = (uncounted_then Cell.Tally no_sweep marked.kn.counts.0, uncounted_then Cell.Live no_sweep marked.kn.counts.1);
    }

    asked : e.ask ≡ asks given.layout now
    asked = step.asked given lists.good lists.limits lists.known e es marked.legal marked.lt marked.kn.has

    pub steps : Steps (cycle number few) a s e.ask (λ t. MarkFacts (cycle number few) a t (takes given.layout given.shapes now e.found) × Knows z given.pacing may (cycle number few) t (e ∷ es))
    steps = grind (arith, asked, goes, known_then)

  -- The cycle is one of this arena.
  module _ (e : Entry Op) (es : List (Entry Op)) (legal : Legal (those (setup_for given)) (e ∷ es)) (c : Coordinating) (led : IsLed (setup_for given) es c) (on : leading.Marks c.stage) (lt : e.actor < given.layout.procs) (x : Cycle) (s : Marking) (number_is : x.number ≡ c.begun) where
    abbrev in_arena : Arena → Cycle
    in_arena r = record { arena = r; number = x.number; few = x.few }

    abbrev Goes : Cycle → Type 0
    Goes y = MarkingGood y s → IsKnown (setup_for given) y s es → MarkFacts y e.actor s (processor_at (setup_for given) es e.actor) →
        Steps y e.actor s e.ask (λ t. MarkFacts y e.actor t (takes given.layout given.shapes (started k e.begun (processor_at (setup_for given) es e.actor)) e.found) × Knows z given.pacing may y t (e ∷ es))

    pub goes_so : Goes x
    goes_so fine kn facts = subst (λ (r : Arena). Goes (in_arena r)) (sym kn.arena_is) (λ f i m. steps e es c x.number x.few s (record { legal = legal; led = led; on = on; lt = lt; number_is = number_is; fine = f; kn = i; facts = m })) fine kn facts

  pub marked : StepsByMoves z given.pacing may
  marked e es c legal led on x s m is fine kn lt at facts =
      let same = run_is (setup_for given) es e.actor m lt at in
      subst (λ (p : Processor). Steps x e.actor s e.ask (λ t. MarkFacts x e.actor t (takes given.layout given.shapes (started k e.begun p) e.found) × Knows z given.pacing may x t (e ∷ es))) same
      (goes_so e es legal c led on lt x s is.number_is fine kn (subst (MarkFacts x e.actor s) (sym same) facts))
