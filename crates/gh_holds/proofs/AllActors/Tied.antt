-- What is known while a cycle is marked ties the state of marking to the list; and one that is of a list's heap has what there is.
use Rattle.std.proofs.Common.{◌≡◌, ◌≢◌, ◌↔◌, ℕ, ◌<◌, true, false, Some, sym, ap, subst, ◌∙◌, arith, List}
use Rattle.gh_holds.proofs.Vocabulary.{Arena, arena, Cell, Coordinating, Cycle, END, Entry, Ever, ever, EverValue, from_register, Good, HasState, IsBeside, IsInMarking, IsPlacedAt, Known, mark_of, mark_words, Marking, MarkingGood, Name, names, Op, processor_at, Reach, reference_of, reference_to, REGISTERS, row_bit, runs_are, Setup, TheReachedWereMade, view, White, Words, words}
use Rattle.gh_marked.specs.Tied.{HasObject, IsOfHeap, IsTied, ShowsWhatThereIs, TiesShowWhatThereIs}

module _ (setup : Setup) (known : Known) (es : List (Entry Op)) where
  abbrev z : Arena
  z = arena setup

  pub is_of_heap : (has : HasState setup es) (y : Cycle) (s : Marking) → y.arena ≡ z → MarkingGood y s → IsBeside z has.state.heap s → IsOfHeap setup es y s
  is_of_heap has y s arena_is good beside = record {
    heap = has.state.heap;
    words_are = has.of_list.words_are;
    ever_is = has.of_list.ever_is;
    bounded = has.of_list.bounded;
    heap_good = has.good.heap;
    good = good;
    beside = beside;
    objects = known.objects y has.state.heap s (subst (λ (x : Arena). Good x (view has.state.heap)) (sym arena_is) has.good.heap) good (subst (λ (x : Arena). IsBeside x has.state.heap s) (sym arena_is) beside);
    over = λ g. subst (λ (w : Words). (w (Cell.Scanned g) ≡ END) ↔ ((ever setup es).ended g ≡ true)) has.of_list.words_are (subst (λ (v : Ever). (has.state.heap.words (Cell.Scanned g) ≡ END) ↔ (v.ended g ≡ true)) has.of_list.ever_is (has.of_list.stacks g));
  }

  pub is_tied : (c : Coordinating) (m : IsInMarking z setup.pacing setup.may es c) → IsTied setup es m.cycle m.shared
  is_tied c m = record {
    of_heap = is_of_heap m.known.has m.cycle m.shared m.known.arena_is m.good m.known.beside;
    processors = λ a lt. m.processors a (processor_at setup es a) lt (runs_are setup es a lt);
    workers = λ a w lt is. m.workers a w lt is;
    others = m.coordinator;
  }

-- A state of marking that is one of a list's heap.
module _ (were_made : TheReachedWereMade) (setup : Setup) (es : List (Entry Op)) (c : Cycle) (s : Marking) (t : IsOfHeap setup es c s) where
  abbrev w : Words
  w = words setup es

  abbrev v : Ever
  v = ever setup es

  -- what a script reaches is placed where the heap says
  placed : (n : Name) → Reach v n → IsPlacedAt w n (t.heap.place n)
  placed n r =
      let p = t.heap_good.reached n (subst (λ (e : Ever). Reach e n) (sym t.ever_is) r) in
      subst (λ (x : Words). IsPlacedAt x n (t.heap.place n)) t.words_are (record { set = p.set; says = p.says })

  object : (n : Name) → Reach v n → HasObject setup es s n
  object n r = grind arith

  told : (x : EverValue) (n : Name) → names x ≡ Some n → reference_of t.heap.place x ≡ reference_to t.heap.place n
  told EverValue.Nil n is = absurd (cc)
  told (EverValue.Int i) n is = absurd (cc)
  told (EverValue.Ref m) n is = let same : m ≡ n = cc in ap (reference_to t.heap.place) same

  register : (g d : ℕ) (n : Name) → g < setup.layout.goroutines → d < REGISTERS → v.ended g ≡ false → names (v.register g d) ≡ Some n → s.registers g d ≡ reference_to t.heap.place n
  register g d n lt few goes is =
      t.beside.registers g d lt few (subst (λ (e : Ever). e.ended g ≡ false) (sym t.ever_is) goes)
      ∙ (ap (λ (e : Ever). reference_of t.heap.place (e.register g d)) t.ever_is ∙ told (v.register g d) n is)

  not_white : (a : ℕ) → row_bit (mark_words w) a ≡ 1 → s.colour a ≢ White
  not_white a set is =
      let bit : row_bit (mark_words s.words) a ≡ 0 = t.good.marks a ∙ ap mark_of is in
      let same : row_bit (mark_words s.words) a ≡ row_bit (mark_words w) a = ap (λ (x : Words). row_bit (mark_words x) a) (t.beside.words ∙ t.words_are) in
      omega (arith, bit, same, set)

  shows : ShowsWhatThereIs setup es s
  shows = record {
    objects = object;
    registers = λ g d n lt few goes is. (t.heap.place n, placed n (from_register g d n goes is), register g d n lt few goes is);
    marks = not_white;
  }

pub ties_show : TheReachedWereMade → TiesShowWhatThereIs
ties_show made setup es c s t = shows made setup es c s t
