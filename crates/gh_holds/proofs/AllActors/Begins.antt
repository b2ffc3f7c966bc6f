-- Where a cycle is about to begin the heap is known to marking, and each processor stands still with nothing in hand.
use Rattle.std.proofs.Common.{◌≡◌, ◌≢◌, inl, ℕ, ◌^◌, ◌<◌, ◌≤◌, Bool, false, cond, refl, sym, ap, subst, ◌∙◌, arith, List, [], length, slice_index_or, Some, None, ◌%◌, ◌/◌}
use Rattle.gh_holds.proofs.Vocabulary.{Actor, actors_after, ahead_at, Arena, arena, begin_post, Begun, bit_at, bit_at-zero, Cell, Coordinating, CoordStage, Cycle, drawn_first, END, Entry, Ever, EverValue, Hands, HasCleared, HasCursor, HasGoneOn, HoldsAt, IsAsItShould, IsBeginning, IsBeside, IsLed, IsOf, IsOpened, IsReady, IsToBegin, Legal, ListsKnown, mark_words, MarkFacts, Marking, MayBegin, Means, MOST_GOROUTINES, nothing, Op, Open, part_of, Place, Processor, processor_at, reference_of, REGISTERS, row_bit, run_is, RunPhase, Setup, StandsWithNothing, those, view, Words, words, WordsAreAtRest}
use Rattle.gh_coord.specs.Handshake as leading
use Rattle.gh_marks.specs.Colours.{IsSince}
use Rattle.gh_marks.specs.Moves.{seen_is}
use Rattle.gh_poll.specs.MarkFacts.{KnowsStacks}
use Rattle.gh_stack.specs.Facts.{named}
use Rattle.gh_marked.proofs.Vocabulary.{AreRegisters, KnowsAtAnyTime, register_at, Value}
use Rattle.gh_holds.proofs.AllActors.Tied.{is_of_heap}

-- What a value names, by the two ways to say it.
pub same_name : (place : Place) (made : ℕ → ℕ) (v : EverValue) (w : Value) → Means place made v w → reference_of place v ≡ named w
same_name place made v w m = grind arith

some_name : (place : Place) (made : ℕ → ℕ) (v : EverValue) (r : ℕ) → Means place made v (Value.Ref r) → 1 ≤ r
some_name place made v r m = grind arith

clear_bit : (w : Words) (o : ℕ) → w (Cell.Mark (o / 64)) ≡ 0 → row_bit (mark_words w) o ≡ 0
unfolding row_bit
clear_bit w o is = ap (λ (v : ℕ). bit_at v (o % 64)) is ∙ bit_at-zero (o % 64)

begun_part : (p : CoordStage) → IsBeginning p → part_of p ≡ Begun
begun_part p b = grind arith

module _ (setup : Setup) (lists : ListsKnown setup)
    (es : List (Entry Op)) (c : Coordinating) (legal : Legal (those setup) es) (led : IsLed setup es c) (b : IsBeginning c.stage) where
  abbrev z : Arena
  z = arena setup

  pub is_ready : (p : CoordStage) → IsBeginning p → HoldsAt setup es c p → IsReady setup es c × (words setup es Cell.Gcur ≡ 0) × ((words setup es Cell.Tally ≡ 0) × (words setup es Cell.Live ≡ 0))
  is_ready (Open o) x h = (h.0, subst (HasCursor (words setup es Cell.Gcur)) x h.1, subst (HasCleared (words setup es Cell.Tally) (words setup es Cell.Live)) x h.2)
  is_ready _ x h = absurd x

  few : c.begun < 2 ^ 48
  few =
      let k = lists.counts es c legal led in
      let part = begun_part c.stage b in
      let one : (ahead_at (part_of c.stage)).numbered ≡ 1 = ap (λ (x : Rattle.gh_coord.specs.Parts.Part). (ahead_at x).numbered) part in
      let opened : (ahead_at (part_of c.stage)).opened ≡ 1 = ap (λ (x : Rattle.gh_coord.specs.Parts.Part). (ahead_at x).opened) part in
      let few = lists.few es legal in
      omega (arith, k.number, k.opened, one, opened, few)

  abbrev cycle : Cycle
  cycle = record { arena = z; number = c.begun; few = few }

  module _ (r : IsReady setup es c) (cursor : words setup es Cell.Gcur ≡ 0) (cleared : (words setup es Cell.Tally ≡ 0) × (words setup es Cell.Live ≡ 0)) where
    rest : WordsAreAtRest z c.begun r.has.state.heap
    rest = grind (arith, clear_bit)

    opened : IsOpened cycle r.has.state.heap
    opened = grind (arith, rest)

    abbrev s : Marking
    s = opened.marking

    seats : (a : ℕ) → Hands a s nothing
    seats = (lists.known.marking cycle s opened.opens).seats

    beside : IsBeside z r.has.state.heap s
    beside = lists.known.beside_begins cycle r.has.state.heap s r.has.good.heap r.has.of_list.bounded rest opened.of_heap opened.registers (λ o a is. absurd (let none : None ≡ Some o = ((seats a).has.is_reserved o).1 is in cc))

    module _ (a : ℕ) (m : Processor) (lt : a < setup.layout.procs) (is : actors_after z setup.pacing setup.may es a ≡ Actor.Runs m) where
      same : processor_at setup es a ≡ m
      same = run_is setup es a m lt is

      abbrev it : Processor
      it = processor_at setup es a

      should : IsAsItShould setup es r.has.state.heap a it
      should = r.has.of_list.processors a lt

      stands : KnowsAtAnyTime z a (view r.has.state.heap) it.poll
      stands = lists.known.runs.stands z a (view r.has.state.heap) it should.pending should.fine

      goes_on : (g : ℕ) → s.words (Cell.Scanned g) ≢ END → r.has.state.heap.ever.ended g ≡ false
      goes_on g other = grind arith

      few_goroutines : (g : ℕ) → IsOf z a g → g < MOST_GOROUTINES
      few_goroutines g its = omega (arith, its.0, lists.limits.goroutines_fit.1)

      registers : (g : ℕ) → IsOf z a g → s.words (Cell.Scanned g) ≢ END → AreRegisters s.extents.base (s.registers g) (slice_index_or it.poll.local.stacks g [])
      registers g its other = record {
        whole = whole;
        each = λ d below. opened.registers g d ∙ (ap (λ (x : Bool). cond x 0 (reference_of r.has.state.heap.place (r.has.state.heap.ever.register g d))) (goes_on g other) ∙ same_name r.has.state.heap.place r.has.state.heap.ever.made (r.has.state.heap.ever.register g d) (register_at it.poll g d) (means d below)) ∙ sym (seen_is s.extents.base opened.of_heap.base (named (register_at it.poll g d)));
        some = λ d reference below holds. some_name r.has.state.heap.place r.has.state.heap.ever.made (r.has.state.heap.ever.register g d) reference (subst (λ (v : Value). Means r.has.state.heap.place r.has.state.heap.ever.made (r.has.state.heap.ever.register g d) v) holds (means d below));
      } where
        whole : length (slice_index_or it.poll.local.stacks g []) ≡ REGISTERS
        whole = stands.sits.registers g (few_goroutines g its)

        means : (d : ℕ) → d < length (slice_index_or it.poll.local.stacks g []) → Means r.has.state.heap.place r.has.state.heap.ever.made (r.has.state.heap.ever.register g d) (register_at it.poll g d)
        means d below = stands.registers g d its (subst (λ (x : ℕ). d < x) whole below)

      of_cycle : (g : ℕ) → IsOf z a g → s.words (Cell.Scanned g) ≢ END → (d : ℕ) → d < length (slice_index_or it.poll.local.stacks g []) → IsSince s.since (s.registers g d)
      of_cycle g its on d low = opened.opens.registers g d

      stacks : KnowsStacks cycle a s it.poll.local.stacks it.poll.local.scanned
      stacks = grind (arith, of_cycle, opened, registers, should, stands)

      stands_still : StandsWithNothing cycle a s it
      stands_still = record {
        stops = (leading.lead_of c).stops;
        parked = (lists.keeps es legal).processors_wait c RunPhase.Off a it led (begin_post c.stage b) (omega (arith, lt)) (is ∙ sym (ap Actor.Runs same));
        seat_is = stands.sits.seat;
        no_buffer = (r.nobody.processors a lt).holds.none;
        stacks = stacks;
        nothing_in_hand = seats a;
      }

      knows : MarkFacts cycle a s m
      knows = subst (MarkFacts cycle a s) same (lists.known.marks.opens cycle a s it stands_still)

    to_begin : IsToBegin setup es c.begun
    to_begin = record { lead = c; led = led; stage = b; cycle = refl }

    pub may_begin : MayBegin z setup.pacing setup.may es c
    may_begin = record {
      cycle = cycle;
      shared = s;
      is = record { arena_is = refl; number_is = refl; words_are = opened.of_heap.words ∙ r.has.of_list.words_are };
      opens = opened.opens;
      known = record {
        arena_is = refl;
        has = r.has;
        under_way = r.under_way;
        beside = beside;
        cycle = inl to_begin;
        gone_on = subst (λ (v : Ever). HasGoneOn v r.has.state.heap s) r.has.of_list.ever_is (lists.known.begins_so cycle r.has.state.heap s r.has.good.heap r.has.of_list.bounded opened.of_heap);
        stood = λ n x p. p;
        drawn = drawn_first setup lists.known.drawn cycle es s to_begin (opened.of_heap.words ∙ r.has.of_list.words_are) (is_of_heap setup lists.known es r.has cycle s refl (lists.known.marking cycle s opened.opens).good beside) opened.opens;
        marks_fit = λ i. let none = r.marks i in omega (arith, none);
        counts = (ap (λ (w : Words). w Cell.Tally) r.has.of_list.words_are ∙ cleared.0, ap (λ (w : Words). w Cell.Live) r.has.of_list.words_are ∙ cleared.1);
      };
      processors = knows;
    }
