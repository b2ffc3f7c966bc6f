-- Before the first step the heap is empty and calm, every processor is at rest, and no cycle was begun.
use Rattle.std.proofs.Common.{◌≡◌, ℕ, ◌%◌, ◌<◌, false, [], None, refl, sym, ◌∙◌, arith, inl, inr}
use Rattle.gh_holds.proofs.Vocabulary.{acks_of, Actor, actors_after, alloc_words, Arena, arena, at_seat, bit_at-zero, Coordinating, first_words, from_field, from_global, from_register, Good, Heap, Holds, IsAsItShould, IsHeapOf, IsInSweep, IsLed, IsQuiet, Known, Name, opening, opening_ever, opening_processor, Reach, row_bit, seats_of, Setup, State, sweep_of, view}
use Rattle.gh_coord.specs.Listing as coord

nothing_reached : (n : Name) → Reach opening_ever n → ⊥
nothing_reached n (from_global k n' e) = absurd (cc)
nothing_reached n (from_register g d n' runs e) = absurd (cc)
nothing_reached n (from_field m k n' r e) = nothing_reached m r

module _ (setup : Setup) (known : Known) where
  abbrev z : Arena
  z = arena setup

  abbrev h : Heap
  h = record { words = first_words setup; locked = λ a. false; holds = λ a p. false; laying = λ a. None; freeing = λ a. None; place = λ n. 0; ever = opening_ever }

  no_bit : (x : ℕ) → row_bit (alloc_words (first_words setup)) x ≡ 1 → ⊥
  unfolding row_bit
  no_bit x set = let none = sym (bit_at-zero (x % 64)) ∙ set in omega (arith, none)

  good : Good z (view h)
  good = grind (arith, no_bit, nothing_reached)

  as_it_should : (a : ℕ) → a < setup.layout.procs → IsAsItShould setup [] h a (opening_processor a)
  as_it_should a lt = record {
    sound = known.writes.sound_first setup.layout a;
    pending = None;
    fine = known.runs.opens z a (view h) lt refl refl (record { locked = refl; holds = λ p. refl; laying = refl; freeing = refl });
    answers = refl;
    notes = λ g its. known.notes.first a g;
    ended = λ g its x. absurd (elim x [ inl y ↦ cc | inr y ↦ cc ]);
    ends = λ g its x. absurd (cc);
    left = λ x g its. absurd (cc);
  }

  of_list : IsHeapOf setup [] h
  of_list = record {
    words_are = refl;
    ever_is = refl;
    bounded = known.bounds.opening z;
    processors = as_it_should;
    others = λ a le. record { locked = refl; holds = λ p. refl; laying = refl; freeing = refl };
    stacks = λ g. (λ e. absurd (omega arith), λ e. absurd (cc));
    globals = λ i le. refl;
  }

  abbrev first : Coordinating
  first = coord.opening setup.layout (acks_of setup.layout) setup.pacing.gogc setup.pacing.minheap setup.pacing.room

  abbrev s : State
  s = opening z h setup.pacing.trigger

  -- nobody sweeps
  sweeps : (a : ℕ) → a < seats_of setup.layout → IsInSweep a s (sweep_of (actors_after z setup.pacing setup.may [] a))
  sweeps a below = grind arith

  quiet : IsQuiet setup [] first
  quiet = record {
    has = record {
      state = s;
      of_list = of_list;
      good = known.heaps_open z h setup.pacing.trigger good nothing_reached;
      placing = λ a lt. refl;
      others_place = λ a le. refl;
      sweeps = sweeps;
    };
    over = refl;
    passed = λ p below. refl;
    nobody = record { buffers = λ b. refl; stacks = λ g. inl (omega arith); processors = λ a lt. known.calm.first a };
  }

  holds_first : Holds setup [] first
  holds_first = grind (arith, quiet, sweeps)

  is_first : (c : Coordinating) → IsLed setup [] c → first ≡ c
  is_first c led = let both : Actor.Leads first ≡ Actor.Leads c = sym (at_seat setup) ∙ led in cc

  -- before the first step
  pub opens : (c : Coordinating) → IsLed setup [] c → Holds setup [] c
  opens c led = grind (arith, holds_first, is_first)
