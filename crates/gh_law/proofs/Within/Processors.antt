-- The next step of a processor is on a word that there is, by its rights.
use Rattle.std.proofs.Common.{◌≡◌, ℕ, false, refl, sym, ap, subst, ◌∙◌, inr, List, Option, Some, None, ◌<◌}
use Rattle.gh_law.proofs.Vocabulary.{Actor, actors, Answer, Arena, arena, asks, Begins, by, cell_of, Entry, Given, Good, HasState, Heap, InRange, is_busy_at, IsAsItShould, Kind, Known, made_by, MayBegin, Op, Processor, processor_at, processor_kind, ProcessorFacts, runs_are, setup_for, ShapesAreGood, started, state_of, those, view}
use Rattle.gh_lists.specs.Handshake.{is_busy}
use Rattle.gh_lists.specs.Beginning.{may_parts}
use Rattle.gh_holds.specs.Below.{may-begin, state_by}

module _ (given : Given) (good : ShapesAreGood given.shapes) (known : Known) where
  abbrev z : Arena
  z = arena (setup_for given)

  abbrev k : Kind Processor Op
  k = processor_kind given.shapes given.layout

  module _ (es : List (Entry Op)) (a : ℕ) (o : Option Op) (seat : a < given.layout.procs) (begins : Begins (those (setup_for given)) a es o) where
    abbrev m : Processor
    m = processor_at (setup_for given) es a

    here : state_of (actors (setup_for given)) a es ≡ Actor.Runs m
    here = runs_are (setup_for given) es a seat

    begins_now : (p : Op) → o ≡ Some p → Begins (those (setup_for given)) a es (Some p)
    begins_now p is = subst (λ (x : Option Op). Begins (those (setup_for given)) a es x) is begins

    idle : (p : Op) → o ≡ Some p → is_busy_at m.task ≡ false
    idle p is = sym (ap is_busy here) ∙ (begins_now p is).0

    abbrev IsWithin : Option Op → Type 0
    IsWithin q = InRange given.layout (cell_of (asks given.layout (started k q m)))

    -- by its rights
    module _ (has : HasState (setup_for given) es) where
      abbrev h : Heap
      h = has.state.heap

      abbrev gh : Good z (view has.state.heap)
      gh = has.good.heap

      is : IsAsItShould (setup_for given) es h a m
      is = has.of_list.processors a seat

      begins_well : (p : Op) → o ≡ Some p → MayBegin z a (view h) p
      begins_well p some =
          let own = state_of k a (by a es) in
          may-begin z a (view h) own (by a es) (λ g its y. is.ended g its (inr y)) (λ g its. ap (λ (n : Processor). made_by n g) (state_by k a es) ∙ is.fine.counts.each g its) p
          (may_parts z given.counts a own (by a es) p (begins_now p some).1).runs

      -- once the operation is begun all is known that is known of a processor
      pub begun_fine : (pending : Option Answer) × ProcessorFacts z a (view h) (started k o m) pending
      begun_fine = go o refl where
        go : (q : Option Op) → o ≡ q → (pending : Option Answer) × ProcessorFacts z a (view h) (started k q m) pending
        go None none = (is.pending, is.fine)
        go (Some p) some =
            let at_rest = idle p some in
            let fine = subst (ProcessorFacts z a (view h) m) (known.runs.rests z a (view h) m is.pending at_rest is.fine) is.fine in
            (None, known.runs.begins z a (view h) m p good gh fine at_rest (λ going. begins_well p some))

      pub by_rights : IsWithin o
      by_rights = known.runs.within z a (view h) (started k o m) begun_fine.0 gh begun_fine.1
