-- The steps of a new object's making. The making is known by its law, and by which of its steps makes the object and which is its last.
use Rattle.std.proofs.Common.{◌≡◌, ℕ, ◌+◌, ◌*◌, ◌/◌, ◌%◌, ◌^◌, ◌<◌, Bool, true, false, cond, eqb, ltb, nat_le, List, [], ◌∷◌, ◌++◌, length, get_or, Option, Some, None, is_none, refl, sym, ap, subst, ◌∙◌, arith, length-set, get_or-set_same, get_or-set_other}
use Rattle.std.proofs.lemmas.Bool.{eqb-true, eq-eqb}
use Rattle.gh_mutator_heap.proofs.Vocabulary.{Act, acted, acting, Answer, answer_made, answered_at, Arena, Ask, assisting, assists, AssistWithin, at_task, Cell, cell_of, Does, eqb-false, Ever, EverValue, for_whom, Good, Idle, is_made, IsOf, KeepsItsOwn, KeepsObjects, KnowsCounts, lists, made_object, made_task, Makes, makes, marking_at, Means, moved, Name, NamedFrom, next_name, option_to_list, own_span, placed_at, PlaceOf, PlaceStage, Polling, PollRegistersFit, Processor, ProcessorFacts, Quiet, register_at, REGISTERS, same_name, SeatFacts, set, ShapesAreGood, Shared, SpanHead, Steps, Value, View, view, Wanted, wants, with_object, with_register, with_register_value}
use Rattle.gh_mutator_heap.proofs.Owning.Vocabulary.{op_of}
use Rattle.gh_bitmap.specs.SetPointers as setter
use Rattle.gh_alloc.specs.FindFacts as find
use Rattle.gh_alloc.specs.Place as placer
use Rattle.gh_alloc.specs.PlaceFacts as place
use Rattle.gh_mutator_heap.proofs.Holding.Known.{cached_kept, holds_swept, HoldsSwept}
use Rattle.gh_mutator_heap.proofs.Holding.Lists.{lists_it}
use Rattle.gh_mutator_heap.proofs.Owning.Known.{Known}
use Rattle.gh_mutator_heap.proofs.Owning.Statements.{idle, StepAt}
use Rattle.gh_mutator_heap.proofs.Owning.Steady.{goroutine_few, HasCached, registers_then, sits_register, Steady, steady_on}

-- What kind of step is made at a stage: one on the way, the one that makes the object, or the last.
data Kind (p : placer.Placing) (q : PlaceStage) (found : ℕ) : Type 0 where
  onward : placer.makes_its_object_at q ≡ false → placer.given_at (placer.goes_at p q found) ≡ None → is_made (placer.goes_at p q found) ≡ is_made q → Kind p q found
  making-it : placer.makes_its_object_at q ≡ true → placer.given_at (placer.goes_at p q found) ≡ None → is_made (placer.goes_at p q found) ≡ true → is_made q ≡ false → Kind p q found
  ending : (asks : Bool) → placer.makes_its_object_at q ≡ false → is_made q ≡ true → placer.goes_at p q found ≡ PlaceStage.Ended asks → Kind p q found

filled-none : (marking : Bool) → placer.given_at (placer.filled marking) ≡ None
filled-none marking = grind arith

filled-unmade : (marking : Bool) → is_made (placer.filled marking) ≡ false
filled-unmade marking = grind arith

kind-of : (p : placer.Placing) (q : PlaceStage) (found : ℕ) → ((asks : Bool) → q ≡ PlaceStage.Ended asks → ⊥) → Kind p q found
kind-of p (PlaceStage.Clear i) found busy = go (ltb (i + 1) p.slot) refl where
  go : (b : Bool) → ltb (i + 1) p.slot ≡ b → Kind p (PlaceStage.Clear i) found
  go true e = onward refl (ap (λ (b : Bool). placer.given_at (cond b (PlaceStage.Clear (i + 1)) PlaceStage.Birth)) e) (ap (λ (b : Bool). is_made (cond b (PlaceStage.Clear (i + 1)) PlaceStage.Birth)) e)
  go false e = onward refl (ap (λ (b : Bool). placer.given_at (cond b (PlaceStage.Clear (i + 1)) PlaceStage.Birth)) e) (ap (λ (b : Bool). is_made (cond b (PlaceStage.Clear (i + 1)) PlaceStage.Birth)) e)
kind-of p PlaceStage.Birth found busy = onward refl refl refl
kind-of p (PlaceStage.Bits s) found busy = go (is_none (setter.given (setter.goes s found))) refl where
  go : (b : Bool) → is_none (setter.given (setter.goes s found)) ≡ b → Kind p (PlaceStage.Bits s) found
  go true e = onward refl (ap (λ (b : Bool). placer.given_at (cond b (PlaceStage.Bits (setter.goes s found)) (placer.filled p.marking))) e) (ap (λ (b : Bool). is_made (cond b (PlaceStage.Bits (setter.goes s found)) (placer.filled p.marking))) e)
  go false e = onward refl (ap (λ (b : Bool). placer.given_at (cond b (PlaceStage.Bits (setter.goes s found)) (placer.filled p.marking))) e ∙ filled-none p.marking) (ap (λ (b : Bool). is_made (cond b (PlaceStage.Bits (setter.goes s found)) (placer.filled p.marking))) e ∙ filled-unmade p.marking)
kind-of p PlaceStage.Mark found busy = onward refl refl refl
kind-of p PlaceStage.Alloc found busy = go p.span refl where
  go : (x : Option SpanHead) → p.span ≡ x → Kind p PlaceStage.Alloc found
  go None e = making-it refl (ap (λ (y : Option SpanHead). placer.given_at (placer.made p y)) e) (ap (λ (y : Option SpanHead). is_made (placer.made p y)) e) refl
  go (Some h) e = making-it refl (ap (λ (y : Option SpanHead). placer.given_at (placer.made p y)) e) (ap (λ (y : Option SpanHead). is_made (placer.made p y)) e) refl
kind-of p (PlaceStage.Give g) found busy = onward refl refl refl
kind-of p PlaceStage.Count found busy = go p.marking refl where
  bytes : ℕ
  bytes = (found + 8 * p.slot) % 2 ^ 64

  go : (b : Bool) → p.marking ≡ b → Kind p PlaceStage.Count found
  go true e = ending false refl refl (ap (λ (b : Bool). cond b (PlaceStage.Ended false) (PlaceStage.LoadTrigger bytes)) e)
  go false e = onward refl (ap (λ (b : Bool). placer.given_at (cond b (PlaceStage.Ended false) (PlaceStage.LoadTrigger bytes))) e) (ap (λ (b : Bool). is_made (cond b (PlaceStage.Ended false) (PlaceStage.LoadTrigger bytes))) e)
kind-of p (PlaceStage.LoadTrigger bytes) found busy = ending (nat_le found bytes) refl refl refl
kind-of p (PlaceStage.Ended asks) found busy = absurd (busy asks refl)

-- What the seat holds at a stage, and what its caches list.

module _ (z : Arena) (a : ℕ) (v : View) (m : Processor) (x : Wanted) (p : placer.Placing) where
  abbrev base : ℕ → Bool
  base = find.with_span (find.own_found x.sought p.at) (lists m.poll.local.cache)

  -- what is listed is held at every stage
  listed-held : p.span ≡ own_span m.poll.seat m.poll.local.view.generation x.sought → ((y : ℕ) → find.own_found x.sought p.at ≡ Some y → lists m.poll.local.cache y ≡ false) → (q : PlaceStage) (y : ℕ) → lists m.poll.local.cache y ≡ true → place.held_by q p.span (p.at / 1024) base y ≡ true
  listed-held span apart q y e = grind arith

-- The object is made: its goroutine's count and register take it.

means-then : (z : Arena) (v : View) (g t at : ℕ) (x : EverValue) (y : Value) → Means v.place v.ever.made x y → Means (placed_at v.place (next_name v.ever g) at) (with_object z.shapes v.ever g t).made x y
means-then z v g t at x y h = grind arith

made-registers : (z : Arena) (a : ℕ) (v w : View) (p : Polling) (g d t at : ℕ) → SeatFacts z a p → IsOf z a g → d < REGISTERS →
    w.ever ≡ with_register (with_object z.shapes v.ever g t) g d (EverValue.Ref (next_name v.ever g)) → w.place ≡ placed_at v.place (next_name v.ever g) at → PollRegistersFit z a v p → PollRegistersFit z a w (with_register_value p g d (Value.Ref (at + 1)))
made-registers z a v w p g d t at sits of low e place fit h c hof lc =
    subst (λ (x : Ever). Means w.place x.made (x.register h c) (register_at (with_register_value p g d (Value.Ref (at + 1))) h c)) (sym e)
    (subst (λ (x : PlaceOf). Means x (with_object z.shapes v.ever g t).made ((with_register (with_object z.shapes v.ever g t) g d (EverValue.Ref (next_name v.ever g))).register h c) (register_at (with_register_value p g d (Value.Ref (at + 1))) h c)) (sym place)
    (registers_then z a now p g d (EverValue.Ref (next_name v.ever g)) (Value.Ref (at + 1)) sits of low here (λ i r iof lr. means-then z v g t at (v.ever.register i r) (register_at p i r) (fit i r iof lr)) h c hof lc)) where
      now : View
      now = record v { ever = with_object z.shapes v.ever g t; place = placed_at v.place (next_name v.ever g) at }

      same : same_name (next_name v.ever g) (next_name v.ever g) ≡ true
      same = rw (eq-eqb g g refl, eq-eqb (v.ever.made g) (v.ever.made g) refl) refl

      here : Means now.place now.ever.made (EverValue.Ref (next_name v.ever g)) (Value.Ref (at + 1))
      here = grind arith

made-counts : (z : Arena) (a : ℕ) (v w : View) (made : List ℕ) (g d t : ℕ) → IsOf z a g → w.ever ≡ with_register (with_object z.shapes v.ever g t) g d (EverValue.Ref (next_name v.ever g)) → KnowsCounts z a v made → KnowsCounts z a w (set made g (get_or made g 0 + 1))
made-counts z a v w made g d t of e counts = record {
  places = length-set made g (get_or made g 0 + 1) ∙ counts.places;
  each = λ h hof. subst (λ (x : Ever). get_or (set made g (get_or made g 0 + 1)) h 0 ≡ x.made h) (sym e) (go h hof (eqb h g) refl);
} where
  go : (h : ℕ) → IsOf z a h → (b : Bool) → eqb h g ≡ b → get_or (set made g (get_or made g 0 + 1)) h 0 ≡ cond b (v.ever.made g + 1) (v.ever.made h)
  go h hof true t =
      let same : h ≡ g = eqb-true h g t in
      let lt : g < length made = omega (arith, counts.places, goroutine_few z a g of) in
      subst (λ (n : ℕ). get_or (set made g (get_or made g 0 + 1)) n 0 ≡ v.ever.made g + 1) (sym same) (get_or-set_same made g (get_or made g 0 + 1) 0 lt ∙ ap (λ (n : ℕ). n + 1) (counts.each g of))
  go h hof false t = get_or-set_other made g h (get_or made g 0 + 1) 0 (eqb-false h g t) ∙ counts.each h hof

-- The steps.

module _ (k : Known) (z : Arena) (a : ℕ) (s : Shared) (m : Processor) (x : Wanted) (p : placer.Placing) (pending : Option Answer) where
  abbrev now : View
  now = view s

  abbrev making-at : Processor
  making-at = at_task m (makes x p)

  abbrev found : ℕ
  found = s.words (cell_of (placer.asks z.layout p))

  abbrev next : placer.Placing
  next = placer.goes p found

  abbrev then : Bool → Option Bool → Processor
  then made asks = at_task (cond made (made_object making-at x p.at) making-at) (made_task m.poll x next asks)

  nothing : (q : Option Answer) → [] ++ option_to_list q ≡ option_to_list q ++ []
  nothing q = grind arith

  -- what the step comes to, by its kind
  done : (t : Shared) → ShapesAreGood z.shapes → Steady z a now m → Makes z a now m x p pending → HoldsSwept a now → KeepsItsOwn a now (view t) → place.Changes z (for_whom x) p (placer.makes_its_object_at p.stage) now (view t) →
      place.Comes z a (view t) (for_whom x) (base z a now m x p) (placer.given_at next.stage) next → place.CountsAlone p.stage s t → Kind p p.stage found → Does z a s t making-at pending found
  done t sg st mk swept own changes comes alone (onward still gives same) = record {
    after = pending;
    fine = subst (λ (b : Bool). ProcessorFacts z a (view t) (then b (placer.given next)) pending) (sym still) (subst (λ (g : Option Bool). ProcessorFacts z a (view t) (then false g) pending) (sym gives) (record {
      counts = (steady_on z a now (view t) m o swept own held st).0;
      knows = (steady_on z a now (view t) m o swept own held st).1;
      right = come.0;
      task = record { facts = come.1; register = mk.register; of = mk.of; span = mk.span; apart = mk.apart; named = subst (λ (b : Bool). NamedFrom b p.name pending) (sym same) mk.named };
    }));
    ever = o.0 ∙ sym (ap (λ (b : Bool). acted z.shapes s.ever (acting b (op_of x) false)) still);
    answers = ap (λ (b : Bool). option_to_list (answered_at z.shapes s.ever (acting b (op_of x) false)) ++ option_to_list pending) still ∙ nothing pending ∙ sym (ap (λ (g : Option Bool). option_to_list pending ++ option_to_list (answer_made (marking_at m.poll) p.name g)) gives);
    full = λ q acts full. absurd (no-act q (ap (λ (b : Bool). acting b (op_of x) false) (sym still) ∙ acts));
    counts = alone;
  } where
    o : KeepsObjects now (view t)
    o = subst (λ (b : Bool). place.Changes z (for_whom x) p b now (view t)) still changes

    come : place.Comes z a (view t) (for_whom x) (base z a now m x p) None next
    come = subst (λ (g : Option Bool). place.Comes z a (view t) (for_whom x) (base z a now m x p) g next) gives comes

    held : (y : ℕ) → lists m.poll.local.cache y ≡ true → (view t).holds a y ≡ true
    held y e = come.0.holds y ∙ listed-held z a now m x p mk.span mk.apart next.stage y e

    no-act : (q : Act) → None ≡ Some q → ⊥
    no-act q e = cc
  done t sg st mk swept own changes comes alone (making-it acts gives made unmade) = record {
    after = Some (Answer.Ref p.name);
    fine = subst (λ (b : Bool). ProcessorFacts z a (view t) (then b (placer.given next)) (Some (Answer.Ref p.name))) (sym acts) (subst (λ (g : Option Bool). ProcessorFacts z a (view t) (then true g) (Some (Answer.Ref p.name))) (sym gives) (record {
      counts = made-counts z a now (view t) m.made x.g x.d x.t mk.of o.0 st.0;
      knows = record {
        stands = record { sits = sits_register z a m.poll x.g x.d (Value.Ref (p.at + 1)) st.1.stands.sits; registers = made-registers z a now (view t) m.poll x.g x.d x.t p.at st.1.stands.sits mk.of mk.register o.0 o.1 st.1.stands.registers };
        knows = record { generation = st.1.knows.generation ∙ sym own.generation; caches = λ c l below is. cached_kept a now (view t) swept own c l (held l.head (lists_it m.poll.local.cache _ l.head l is refl)) (st.1.knows.caches c l below is) };
      };
      right = come.0;
      task = record { facts = come.1; register = mk.register; of = mk.of; span = mk.span; apart = mk.apart; named = subst (λ (b : Bool). NamedFrom b p.name (Some (Answer.Ref p.name))) (sym made) refl };
    }));
    ever = o.0 ∙ sym (ap (λ (b : Bool). acted z.shapes s.ever (acting b (op_of x) false)) acts);
    answers = ap (λ (b : Bool). option_to_list (answered_at z.shapes s.ever (acting b (op_of x) false)) ++ option_to_list pending) acts ∙ ap (λ (q : Option Answer). (Answer.Ref (next_name s.ever x.g) ∷ []) ++ option_to_list q) none
        ∙ ap (λ (n : Name). Answer.Ref n ∷ []) (sym o.2) ∙ sym (ap (λ (g : Option Bool). option_to_list (Some (Answer.Ref p.name)) ++ option_to_list (answer_made (marking_at m.poll) p.name g)) gives);
    full = λ q e full. absurd (not-full q (ap (λ (b : Bool). acting b (op_of x) false) (sym acts) ∙ e) full);
    counts = alone;
  } where
    o : place.Changes z (for_whom x) p true now (view t)
    o = subst (λ (b : Bool). place.Changes z (for_whom x) p b now (view t)) acts changes

    come : place.Comes z a (view t) (for_whom x) (base z a now m x p) None next
    come = subst (λ (g : Option Bool). place.Comes z a (view t) (for_whom x) (base z a now m x p) g next) gives comes

    held : (y : ℕ) → lists m.poll.local.cache y ≡ true → (view t).holds a y ≡ true
    held y e = come.0.holds y ∙ listed-held z a now m x p mk.span mk.apart next.stage y e

    none : pending ≡ None
    none = subst (λ (b : Bool). NamedFrom b p.name pending) unmade mk.named

    not-full : (q : Act) → Some (record { op = op_of x; full = false }) ≡ Some q → q.full ≡ true → ⊥
    not-full q e f = let same : record { op = op_of x; full = false } ≡ q = cc in absurd (cc (ap (λ (r : Act). r.full) same, f))
  done t sg st mk swept own changes comes alone (ending asks still made last) = over asks last where
    o : KeepsObjects now (view t)
    o = subst (λ (b : Bool). place.Changes z (for_whom x) p b now (view t)) still changes

    named : pending ≡ Some (Answer.Ref p.name)
    named = subst (λ (b : Bool). NamedFrom b p.name pending) made mk.named

    no-act : (q : Act) → acting (placer.makes_its_object_at p.stage) (op_of x) false ≡ Some q → ⊥
    no-act q acts = let none : acting (placer.makes_its_object_at p.stage) (op_of x) false ≡ None = ap (λ (b : Bool). acting b (op_of x) false) still in cc

    gives : (b : Bool) → next.stage ≡ PlaceStage.Ended b → placer.given next ≡ Some b
    gives b ended = ap placer.given_at ended

    come : (b : Bool) → next.stage ≡ PlaceStage.Ended b → place.Comes z a (view t) (for_whom x) (base z a now m x p) (Some b) next
    come b ended = subst (λ (g : Option Bool). place.Comes z a (view t) (for_whom x) (base z a now m x p) g next) (gives b ended) comes

    held : (b : Bool) → next.stage ≡ PlaceStage.Ended b → (y : ℕ) → (view t).holds a y ≡ lists m.poll.local.cache y
    held b ended y = grind arith

    has : (b : Bool) → next.stage ≡ PlaceStage.Ended b → HasCached a (view t) m
    has b ended = let c = come b ended in record { locked = c.0.locked; holds = held b ended; laying = c.0.laying; freeing = c.0.freeing }

    steady : (b : Bool) → next.stage ≡ PlaceStage.Ended b → Steady z a (view t) m
    steady b ended = steady_on z a now (view t) m o swept own (λ y e. held b ended y ∙ e) st

    -- it is answered, or the request for a cycle, or the assist, comes first
    over-with : (b : Bool) → next.stage ≡ PlaceStage.Ended b → (after : Option Answer) → ProcessorFacts z a (view t) (then false (Some b)) after → option_to_list pending ≡ option_to_list after ++ option_to_list (answer_made (marking_at m.poll) p.name (Some b)) → Does z a s t making-at pending found
    over-with b ended after fine answers = record {
      after = after;
      fine = subst (λ (c : Bool). ProcessorFacts z a (view t) (then c (placer.given next)) after) (sym still) (subst (λ (g : Option Bool). ProcessorFacts z a (view t) (then false g) after) (sym (gives b ended)) fine);
      ever = o.0 ∙ sym (ap (λ (c : Bool). acted z.shapes s.ever (acting c (op_of x) false)) still);
      answers = ap (λ (c : Bool). option_to_list (answered_at z.shapes s.ever (acting c (op_of x) false)) ++ option_to_list pending) still ∙ answers ∙ sym (ap (λ (g : Option Bool). option_to_list after ++ option_to_list (answer_made (marking_at m.poll) p.name g)) (gives b ended));
      full = λ q acts full. absurd (no-act q acts);
      counts = alone;
    }

    over : (b : Bool) → next.stage ≡ PlaceStage.Ended b → Does z a s t making-at pending found
    over true ended = over-with true ended pending (record { counts = (steady true ended).0; knows = (steady true ended).1; right = has true ended; task = named }) (nothing pending)
    over false ended = by (marking_at m.poll) refl where
      sits : SeatFacts z a m.poll
      sits = (steady false ended).1.stands.sits

      within : AssistWithin z.layout (assisting m.poll x)
      within = k.assists_within.begins z.layout m.poll.seat m.poll.local.held (8 * x.slot) m.poll.local.owed m.poll.local.spent sits.held

      -- while marking is on it assists first
      by : (c : Bool) → marking_at m.poll ≡ c → Does z a s t making-at pending found
      by true e = over-with false ended pending
          (subst (λ (c : Bool). ProcessorFacts z a (view t) (at_task making-at (cond c (assists x p.name (assisting m.poll x)) Idle)) pending) (sym e) (record { counts = (steady false ended).0; knows = (steady false ended).1; right = has false ended; task = (named, within) }))
          (nothing pending ∙ sym (ap (λ (c : Bool). option_to_list pending ++ option_to_list (cond c None (Some (Answer.Ref p.name)))) e))
      by false e = over-with false ended None
          (subst (λ (c : Bool). ProcessorFacts z a (view t) (at_task making-at (cond c (assists x p.name (assisting m.poll x)) Idle)) None) (sym e) (idle z a (view t) m (steady false ended) (has false ended)))
          (ap option_to_list named ∙ sym (ap (λ (c : Bool). [] ++ option_to_list (cond c None (Some (Answer.Ref p.name)))) e))

  pub place-steps : ShapesAreGood z.shapes → Good z now → ProcessorFacts z a now making-at pending → Steps z a s (placer.asks z.layout p) (λ t. Does z a s t making-at pending found)
  place-steps sg g fine =
      let mk : Makes z a now m x p pending = record { facts = fine.task.facts; register = fine.task.register; of = fine.task.of; span = fine.task.span; apart = fine.task.apart; named = fine.task.named } in
      let st : Steady z a now m = (fine.counts, fine.knows) in
      let l = (k.place.own_step z a s (for_whom x) (base z a now m x p) p g fine.right mk.facts) in
      record { move = l.move; may = l.may; words_are = l.words_are; after = done (moved z a s l.move) sg st mk (holds_swept z a now g) (k.own z a s l.move g l.may) l.after.0 l.after.1 l.after.2 (kind-of p p.stage found (unended mk.facts)) } where
        unended : place.Facts z a now (for_whom x) p → (asks : Bool) → p.stage ≡ PlaceStage.Ended asks → ⊥
        unended facts asks e = subst (λ (q : PlaceStage). place.FactsAt z a now (for_whom x) (place.base p) q) e facts

-- The request for a cycle: the object is answered behind it.
pub want-steps : Known → (w : Wanted) (n : Name) → StepAt (wants w n)
want-steps k w n z a s m pending sg good fine = record {
  move = Quiet (Ask.Or Cell.Want 1);
  may = tt;
  words_are = refl;
  after = record {
    after = None;
    fine = idle z a (view t) m steady (record { locked = fine.right.locked; holds = fine.right.holds; laying = fine.right.laying; freeing = fine.right.freeing });
    ever = refl;
    answers = ap option_to_list fine.task;
    full = λ q acts full. absurd (no-act q acts);
    counts = tt;
  };
} where
  t : Shared
  t = moved z a s (Quiet (Ask.Or Cell.Want 1))

  steady : Steady z a (view t) m
  steady = steady_on z a (view s) (view t) m (refl, refl) (holds_swept z a (view s) good) (k.own z a s (Quiet (Ask.Or Cell.Want 1)) good tt) (λ y e. fine.right.holds y ∙ e) (fine.counts, fine.knows)

  no-act : (q : Act) → None ≡ Some q → ⊥
  no-act q e = cc
