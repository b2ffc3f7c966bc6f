-- A state of the heap of a list says that the words stand for the heap that never frees, whatever the coordinator's stage.
use Rattle.std.proofs.Common.{◌≡◌, ℕ, ◌+◌, ◌^◌, ◌<◌, Bool, eqb, sym, ap, subst, ◌∙◌, arith, List}
use Rattle.gh_holds.specs.Vocabulary.{alloc_words, Arena, arena, birth_words, Entry, Ever, ever, Good, HasState, Heap, Holds, IsHeapOf, IsInLimits, IsMade, IsOf, IsPlacedAt, Known, Name, Op, Placed, points, Processor, processor_at, Reach, row_bit, Setup, size_for, StandsFor, StandsForThese, view, Words, words}
use Rattle.gh_heap.specs.Laws.{HeapIsApart}
use Rattle.gh_holds.specs.Objects.{AreNamed, StandApart}
use Rattle.gh_marked.specs.LemmaVocabulary.{bit, KnowsAtAnyTime, mod_below}
use Rattle.gh_lists.specs.Names.{placed_there, same_birth_same_name}

bit_is : (b : Bool) → eqb (bit b) 1 ≡ b
bit_is b = grind arith

module _ (setup : Setup) (limits : IsInLimits setup.layout) (known : Known) (es : List (Entry Op)) (has : HasState setup es) where
  abbrev z : Arena
  z = arena setup

  abbrev h : Heap
  h = has.state.heap

  abbrev of : IsHeapOf setup es has.state.heap
  of = has.of_list

  abbrev good : Good z (view has.state.heap)
  good = has.good.heap

  abbrev at : ℕ → Processor
  at a = processor_at setup es a

  -- there is a processor for each goroutine
  few : (a g : ℕ) → IsOf z a g → a < setup.layout.procs
  few a g of = subst (λ (x : ℕ). x < setup.layout.procs) of.1 (mod_below g setup.layout.procs limits.procs_fit.0)

  apart : HeapIsApart z (view h)
  apart = known.apart z (view h) good

  made : (n : Name) → Reach h.ever n → IsMade h.ever.made n
  made n r = known.made z h.ever of.bounded n r

  birth_fits : (n : Name) → IsMade h.ever.made n → n.k < 2 ^ 32
  birth_fits n m = omega (arith, m, good.names.few n.g)

  stands : (a g d : ℕ) → IsOf z a g → KnowsAtAnyTime z a (view h) (at a).poll
  stands a g d its = known.runs.stands z a (view h) (at a) (of.processors a (few a g its)).pending (of.processors a (few a g its)).fine

  -- what was made is placed at its place alone
  made_once : (n : Name) (a : ℕ) → IsMade h.ever.made n → IsPlacedAt h.words n a → a ≡ h.place n
  made_once n a m x =
      let b = good.bits a x.set in
      let same : n ≡ b.0 = same_birth_same_name n b.0 (birth_fits n m) (birth_fits b.0 b.1) (sym x.says ∙ b.3) in
      sym b.2 ∙ ap h.place (sym same)

  pub once : (n : Name) (a : ℕ) → Reach h.ever n → IsPlacedAt h.words n a → a ≡ h.place n
  once n a r x = grind (arith, made, made_once)

  -- of objects that were made and are placed
  these : (These : Name → Type 0) → ((n : Name) → These n → IsMade h.ever.made n) → ((n : Name) → These n → Placed (alloc_words h.words) (birth_words h.words) h.place n) → StandsForThese z These h.words h.ever at
  these These made placed = record {
    place = h.place;
    placed = placed;
    once = λ n a r x. made_once n a (made n r) x;
    slot = λ n r. good.slots n (made n r) (placed n r);
    fields = λ n j r lt.
        let p = placed n r in
        let is : eqb (row_bit (view h).bitmap (h.place n + j)) 1 ≡ points setup.shapes h.ever.type_of n j = ap (λ (x : ℕ). eqb x 1) (good.pointers n j (made n r) p lt) ∙ bit_is (points setup.shapes h.ever.type_of n j) in
        subst (λ (b : Bool). Holds h.place h.ever.made b (h.ever.field n j) ((view h).field (h.place n + j))) (sym is) (good.fields n j (made n r) p lt);
    apart = λ n m i j r q ne li lj.
        let x = good.slots n (made n r) (placed n r) in
        let y = good.slots m (made m q) (placed m q) in
        apart.slots x.p y.p x.i y.i (h.place n) (h.place m) (size_for setup.shapes h.ever.type_of n) (size_for setup.shapes h.ever.type_of m) i j x.h y.h x.slot y.slot (λ e. ne (apart.once n m (made n r) (made m q) (placed n r) (placed m q) e)) li lj;
    globals = good.globals;
    registers = λ a g d its lt. (stands a g d its).registers g d its lt;
  }

  pub stands_for : StandsFor z (words setup es) (ever setup es) at
  stands_for = grind (arith, made, these)

  -- all that stand
  abbrev Standing : Words → Ever → Name → Type 0
  Standing w e n = IsMade e.made n × ((a : ℕ) × IsPlacedAt w n a)

  stood_there : (n : Name) → Standing h.words h.ever n → Placed (alloc_words h.words) (birth_words h.words) h.place n
  stood_there n s = (placed_there z (view h) good n s.1.0 s.0 s.1.1.set s.1.1.says).1

  one_name : (n m : Name) (a : ℕ) → IsMade h.ever.made n → IsMade h.ever.made m → IsPlacedAt h.words n a → IsPlacedAt h.words m a → n ≡ m
  one_name n m a made made_too at_a at_a_too = same_birth_same_name n m (birth_fits n made) (birth_fits m made_too) (sym at_a.says ∙ at_a_too.says)

  abbrev Apart : Words → Ever → Type 0
  Apart w e = StandsForThese z (Standing w e) w e at × ((n m : Name) (a : ℕ) → IsMade e.made n → IsMade e.made m → IsPlacedAt w n a → IsPlacedAt w m a → n ≡ m)

  pub stand_apart : StandApart setup es
  stand_apart =
      let there : Apart (words setup es) (ever setup es) = subst (λ (e : Ever). Apart (words setup es) e) of.ever_is (subst (λ (w : Words). Apart w h.ever) of.words_are (these (Standing h.words h.ever) (λ n s. s.0) stood_there, one_name)) in
      record { stand = there.0; one_name = there.1 }

  pub named : AreNamed (ever setup es).made (words setup es)
  named = subst (λ (e : Ever). AreNamed e.made (words setup es)) of.ever_is (subst (λ (w : Words). AreNamed h.ever.made w) of.words_are (record { named = λ x set. let b = good.bits x set in (b.0, b.1, record { set = set; says = b.3 }); fits = good.words }))
