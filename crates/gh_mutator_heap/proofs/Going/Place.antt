-- Steps of the making of an object beside marking: its slot is cleared and laid out, then it is marked, and then it is made.
use Rattle.std.proofs.Common.{◌≡◌, ℕ, ◌+◌, ◌*◌, ◌%◌, ◌^◌, ◌<◌, Bool, true, false, cond, eqb, ltb, nat_le, is_none, Option, Some, None, refl, sym, ap, subst, ◌∙◌, arith}
use Rattle.std.proofs.lemmas.Bool.{eqb-true}
use Rattle.gh_mutator_heap.proofs.Vocabulary.{Answer, at_task, birth_word, bit, Cell, Claims, ClaimsSlot, Cycle, field_count, FillsNone, for_whom, Hands, Heap, holding_only, is_pointer, IsBetween, IsReady, Keeps, KnowsStacks, Layout, made_object, made_task, makes, Marking, MayMake, Name, next_name, PlaceStage, Placing, PlacingBy, Processor, reserved_at, Shape, shape_at, size_class_of, SpanHead, stacks_last, StepsOn, TaskFacts, Together, view, Wanted, wants}
use Rattle.gh_bitmap.specs.declared.set_pointers.SetStage.{SetStage}
use Rattle.gh_bitmap.specs.SetPointers as bits
use Rattle.gh_central.specs.declared.give.GiveStage.{GiveStage}
use Rattle.gh_central.specs.GiveBack as give
use Rattle.gh_alloc.specs.Place as place
use Rattle.gh_alloc.specs.PlaceFacts as place_facts
use Rattle.gh_cycle.specs.Deeds.{Makes, Rests}
use Rattle.gh_marks.specs.Moves as marks
use Rattle.gh_mutator_heap.proofs.Going.Known.{by_deed, by_keeping, fills_none, heap_then, Known, processor_then, StepAt, StepOf}
use Rattle.gh_mutator_heap.proofs.Owning.SearchSteps.{sized}

-- its routines write no word that marking reads
bits_quiet : (s : Marking) (l : Layout) (b : bits.PointerSetting) (q : SetStage) → marks.IsQuietInMarking s (bits.asks_at l b q)
bits_quiet s l b q = grind arith

give_quiet : (s : Marking) (g : give.SpanGiving) (q : GiveStage) → marks.IsQuietInMarking s (give.asks_at g q)
give_quiet s g q = grind arith

abbrev at : Wanted → Placing → PlaceStage → Processor → Processor
at w p q m = at_task m (makes w (place.at_stage p q))

-- the processor goes on with the making, at this stage
goes_facts : (z : Cycle) (a : ℕ) (u : Marking) (m : Processor) (w : Wanted) (p : Placing) (q : PlaceStage) → p.marking ≡ true → reserved_at p.at q ≡ None → place.given_at q ≡ None → IsBetween z a u m.poll.local → TaskFacts z a u m.poll (made_task m.poll w (place.at_stage p q) (place.given_at q))
goes_facts z a u m w p q marking free on b = subst (λ (o : Option Bool). TaskFacts z a u m.poll (made_task m.poll w (place.at_stage p q) o)) (sym on)
    (record { marking = marking; stacks = b.stacks; number = b.number; hands = subst (λ (o : Option ℕ). Hands a u (record (holding_only m.poll.local.held) { placing = o })) (sym free) b.hands })

-- or it is over
over_facts : Known → (z : Cycle) (a : ℕ) (u : Marking) (m : Processor) (w : Wanted) (p : Placing) (asks : Bool) → m.poll.seat ≡ a → IsBetween z a u m.poll.local → TaskFacts z a u m.poll (made_task m.poll w p (Some asks))
over_facts k z a u m w p asks seat_is b = grind arith

module _ (k : Known) (w : Wanted) (p : Placing) (z : Cycle) (a : ℕ) (h : Heap) (s : Marking) (m : Processor) (pending : Option Answer) where
  abbrev Ready : PlaceStage → Type 0
  Ready q = Together z a h s (at w p q m) pending

  abbrev Goes : (q : PlaceStage) → Ready q → StepOf z a h (at w p q m) pending → Type 0
  Goes q t l = StepsOn z a (heap_then k z a h s (at w p q m) pending t l) s (processor_then k z a h s (at w p q m) pending t l)

  -- between two polls, but for the slot that is marked
  between : (q : PlaceStage) (t : Ready q) → reserved_at p.at q ≡ None → Hands a s (holding_only m.poll.local.held)
  between q t free = subst (λ (o : Option ℕ). Hands a s (record (holding_only m.poll.local.held) { placing = o })) free t.facts.task_is.hands

  fills : (q : PlaceStage) (t : Ready q) → reserved_at p.at q ≡ None → FillsNone a s
  fills q t free = fills_none a s (holding_only m.poll.local.held) refl (between q t free)

  module _ (t : Ready PlaceStage.Mark) (l : StepOf z a h (at w p PlaceStage.Mark m) pending) where
    abbrev marked : Marking
    marked = marks.moved z a s (marks.Reserve p.at)

    claim : Claims z.arena (view h) a p.at p.slot
    claim = t.fine.task.facts.0.claim

    may : marks.May z a s (marks.Reserve p.at)
    may = (k.reserve z a p.at p.slot h s t.heap t.marking t.beside claim (fills PlaceStage.Mark t refl)).0

    kept : Keeps z a s marked
    kept = k.leave z a s (marks.Reserve p.at) t.marking may tt

    slot : ClaimsSlot z.arena (view (heap_then k z a h s (at w p PlaceStage.Mark m) pending t l)) a p.at
    slot = record { size = p.slot; claim = l.after.does.fine.task.facts.0.claim }

    claims : (o : ℕ) → marked.colour o ≡ PlacingBy a → ClaimsSlot z.arena (view (heap_then k z a h s (at w p PlaceStage.Mark m) pending t l)) a o
    claims o is = by (eqb p.at o) refl is where
      by : (b : Bool) → eqb p.at o ≡ b → cond b (PlacingBy a) (s.colour o) ≡ PlacingBy a → ClaimsSlot z.arena (view (heap_then k z a h s (at w p PlaceStage.Mark m) pending t l)) a o
      by true e is = subst (λ (x : ℕ). ClaimsSlot z.arena (view (heap_then k z a h s (at w p PlaceStage.Mark m) pending t l)) a x) (eqb-true p.at o e) slot
      by false e is = absurd (fills PlaceStage.Mark t refl o is)

    stacks_so : KnowsStacks z a marked m.poll.local.stacks m.poll.local.scanned
    stacks_so = stacks_last z a s marked m.poll.local.stacks m.poll.local.scanned kept t.facts.stacks

    marks_slot : Goes PlaceStage.Mark t l
    marks_slot = by_keeping k z a h s (at w p PlaceStage.Mark m) pending t l refl marked (marks.goes s (marks.Reserve p.at) marks.stays may) refl claims kept
        (record { seat_is = t.facts.seat_is; stacks = stacks_so; task_is = record { marking = t.facts.task_is.marking; stacks = stacks_so; number = t.facts.task_is.number; hands = (k.follow z a s (holding_only m.poll.local.held) t.marking (between PlaceStage.Mark t refl)).reserved p.at may refl } })

  -- The object is made.
  module _ (t : Ready PlaceStage.Alloc) (l : StepOf z a h (at w p PlaceStage.Alloc m) pending) where
    abbrev f : place_facts.Filled z.arena a (view h) (for_whom w) (place_facts.base p)
    f = t.fine.task.facts

    count_is : p.slot ≡ field_count (shape_at z.arena.shapes w.t)
    count_is = f.0.places.slot

    ready : IsReady z.arena (view h) a p.at w.t (next_name h.ever w.g)
    ready = record {
      claim = sized z.arena a (view h) p.at p.slot (field_count (shape_at z.arena.shapes w.t)) f.0.claim count_is;
      class = f.0.class ∙ ap (λ (x : Shape). size_class_of x.words) f.0.places.shape;
      noscan = f.0.noscan ∙ ap (λ (x : Shape). x.noscan) f.0.places.shape;
      fields = λ i few. f.1.fields i (subst (λ (n : ℕ). i < n) (sym count_is) few);
      pointers = λ i few. f.2 i (subst (λ (n : ℕ). i < n) (sym count_is) few) (let low = subst (λ (n : ℕ). i < n) (sym count_is) few in omega (arith, low)) ∙ ap (λ (x : Shape). bit (is_pointer x i)) f.0.places.shape;
      birth = f.1.birth ∙ ap birth_word f.0.name;
    }

    may_make : MayMake z.arena (view h) a p.at w.g w.d w.t
    may_make = grind (arith, ready)

    made_facts : (u : Marking) (span : Option SpanHead) → IsBetween z a u (made_object (at w p PlaceStage.Alloc m) w p.at).poll.local → TaskFacts z a u (made_object (at w p PlaceStage.Alloc m) w p.at).poll (made_task m.poll w (place.at_stage p (place.made p span)) (place.given_at (place.made p span)))
    made_facts u span b = grind arith

    makes_it : Goes PlaceStage.Alloc t l
    makes_it = by_deed k z a h s (at w p PlaceStage.Alloc m) pending t l (Makes p.at w.g w.d w.t) tt refl (refl, (t.facts.task_is.hands.has.is_reserved p.at).0 refl, may_make)
        (λ u hands stacks. made_facts u p.span (record { stacks = stacks; number = t.facts.task_is.number; hands = hands (record (holding_only m.poll.local.held) { placing = Some p.at }) t.facts.task_is.hands }))

-- By its stages.
place_at : Known → (w : Wanted) (p : Placing) (q : PlaceStage) → StepAt (makes w (place.at_stage p q))
place_at k w p (PlaceStage.Clear i) z a h s m pending t kn l = by_deed k z a h s (at w p (PlaceStage.Clear i) m) pending t l Rests tt refl
    (k.aside z a p.at p.slot i h s t.heap t.marking t.beside t.fine.task.facts.0.claim t.fine.task.facts.1, fills k w p z a h s m pending (PlaceStage.Clear i) t refl)
    (λ u hands stacks. by u (ltb (i + 1) p.slot) (record { stacks = stacks; number = t.facts.task_is.number; hands = hands (holding_only m.poll.local.held) (between k w p z a h s m pending (PlaceStage.Clear i) t refl) })) where
      by : (u : Marking) (b : Bool) → IsBetween z a u m.poll.local → TaskFacts z a u m.poll (made_task m.poll w (place.at_stage p (cond b (PlaceStage.Clear (i + 1)) PlaceStage.Birth)) (place.given_at (cond b (PlaceStage.Clear (i + 1)) PlaceStage.Birth)))
      by u true b = goes_facts z a u m w p (PlaceStage.Clear (i + 1)) t.facts.task_is.marking refl refl b
      by u false b = goes_facts z a u m w p PlaceStage.Birth t.facts.task_is.marking refl refl b
place_at k w p PlaceStage.Birth z a h s m pending t kn l = by_deed k z a h s (at w p PlaceStage.Birth m) pending t l Rests tt refl (tt, fills k w p z a h s m pending PlaceStage.Birth t refl)
    (λ u hands stacks. goes_facts z a u m w p (PlaceStage.Bits (bits.opening p.shape p.at p.slot)) t.facts.task_is.marking refl refl (record { stacks = stacks; number = t.facts.task_is.number; hands = hands (holding_only m.poll.local.held) (between k w p z a h s m pending PlaceStage.Birth t refl) }))
place_at k w p (PlaceStage.Bits b) z a h s m pending t kn l = by_deed k z a h s (at w p (PlaceStage.Bits b) m) pending t l Rests tt refl (bits_quiet s z.arena.layout b b.stage, fills k w p z a h s m pending (PlaceStage.Bits b) t refl)
    (λ u hands stacks. by u (is_none (bits.given (bits.goes b 0))) p.marking t.facts.task_is.marking refl (record { stacks = stacks; number = t.facts.task_is.number; hands = hands (holding_only m.poll.local.held) (between k w p z a h s m pending (PlaceStage.Bits b) t refl) })) where
      by : (u : Marking) (busy marking : Bool) → marking ≡ true → is_none (bits.given (bits.goes b 0)) ≡ busy → IsBetween z a u m.poll.local → TaskFacts z a u m.poll (made_task m.poll w (place.at_stage p (cond busy (PlaceStage.Bits (bits.goes b 0)) (place.filled marking))) (place.given_at (cond busy (PlaceStage.Bits (bits.goes b 0)) (place.filled marking))))
      by u true marking on busy x = goes_facts z a u m w p (PlaceStage.Bits (bits.goes b 0)) t.facts.task_is.marking refl refl x
      by u false true on busy x = goes_facts z a u m w p PlaceStage.Mark t.facts.task_is.marking refl refl x
      by u false false on busy x = absurd (cc)
place_at k w p PlaceStage.Mark z a h s m pending t kn l = marks_slot k w p z a h s m pending t l
place_at k w p PlaceStage.Alloc z a h s m pending t kn l = makes_it k w p z a h s m pending t l
place_at k w p (PlaceStage.Give g) z a h s m pending t kn l = by_deed k z a h s (at w p (PlaceStage.Give g) m) pending t l Rests tt refl (give_quiet s g g.stage, fills k w p z a h s m pending (PlaceStage.Give g) t refl)
    (λ u hands stacks. goes_facts z a u m w p PlaceStage.Count t.facts.task_is.marking refl refl (record { stacks = stacks; number = t.facts.task_is.number; hands = hands (holding_only m.poll.local.held) (between k w p z a h s m pending (PlaceStage.Give g) t refl) }))
place_at k w p PlaceStage.Count z a h s m pending t kn l = by_deed k z a h s (at w p PlaceStage.Count m) pending t l Rests tt refl (tt, fills k w p z a h s m pending PlaceStage.Count t refl)
    (λ u hands stacks. by u p.marking ((h.words Cell.Heap + 8 * p.slot) % 2 ^ 64) (record { stacks = stacks; number = t.facts.task_is.number; hands = hands (holding_only m.poll.local.held) (between k w p z a h s m pending PlaceStage.Count t refl) })) where
      by : (u : Marking) (marking : Bool) (bytes : ℕ) → IsBetween z a u m.poll.local → TaskFacts z a u m.poll (made_task m.poll w (place.at_stage p (cond marking (PlaceStage.Ended false) (PlaceStage.LoadTrigger bytes))) (place.given_at (cond marking (PlaceStage.Ended false) (PlaceStage.LoadTrigger bytes))))
      by u marking bytes b = grind arith
place_at k w p (PlaceStage.LoadTrigger bytes) z a h s m pending t kn l = by_deed k z a h s (at w p (PlaceStage.LoadTrigger bytes) m) pending t l Rests tt refl (tt, fills k w p z a h s m pending (PlaceStage.LoadTrigger bytes) t refl)
    (λ u hands stacks. over_facts k z a u m w (place.at_stage p (PlaceStage.Ended (nat_le (h.words Cell.Trigger) bytes))) (nat_le (h.words Cell.Trigger) bytes) t.facts.seat_is (record { stacks = stacks; number = t.facts.task_is.number; hands = hands (holding_only m.poll.local.held) (between k w p z a h s m pending (PlaceStage.LoadTrigger bytes) t refl) }))
place_at k w p (PlaceStage.Ended asks) z a h s m pending t kn l = absurd t.fine.task.facts

pub place_step : Known → (w : Wanted) (p : Placing) → StepAt (makes w p)
place_step k w p = place_at k w p p.stage

-- A cycle is asked for behind the making.
pub want_step : Known → (w : Wanted) (n : Name) → StepAt (wants w n)
want_step k w n z a h s m pending t kn l = by_deed k z a h s (at_task m (wants w n)) pending t l Rests tt refl (tt, fills_none a s (holding_only m.poll.local.held) refl t.facts.task_is.hands)
    (λ u hands stacks. record { stacks = stacks; number = t.facts.task_is.number; hands = hands (holding_only m.poll.local.held) t.facts.task_is.hands })
