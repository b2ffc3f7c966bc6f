-- Steps of a store beside marking. A pointer is written behind the barrier; without it a number alone is.
use Rattle.std.proofs.Common.{◌≡◌, ℕ, ◌+◌, ◌*◌, ◌%◌, ◌<◌, Bool, true, false, cond, Option, Some, None, inr, refl, sym, ap, subst, ◌∙◌, arith}
use Rattle.std.proofs.lemmas.Bool.{lt-ltb}
use Rattle.gh_mutator_heap.proofs.Vocabulary.{acted, acting, Answer, applied, Ask, at_task, BehindBarrier, Cell, Cycle, ends, Ever, EverValue, Facts, Fault, fits, goes_on, has_field, Heap, held_then, holding_only, Holds, is_number_value, is_pointer_by, IsBetween, IsClean, keeping, Keeps, kinds_differ, KnowsAtAnyTime, Mark, MarkFacts, Marking, MayWrite, Means, Name, names, nothing, pointer_cell_at, PointerCell, PointerWrite, points, Processor, Puts, Reach, register_of, seen_word, size_for, stacks_last, Step, StepsOn, Store, store_answer, Stores, stores, stores_value, StoreStage, Task, Together, Value, view, with_field, word_of_value, Words, WriteStage, written}
use Rattle.gh_barrier.specs.Giving as write_on
use Rattle.gh_barrier.specs.Listing as write
use Rattle.gh_model.specs.Ever.{from_register}
use Rattle.gh_mutator.specs.Store.{after_write, at_stage, op_of, step}
use Rattle.gh_mutator_heap.proofs.Going.Known.{by_deed, by_load, fills_none, found_there, heap_then, Known, processor_then, StepAt, StepOf}
use Rattle.gh_mutator_heap.proofs.Going.Values.{is_pointer_there, Quits, quits_rests}
use Rattle.gh_mutator_heap.proofs.Going.Writing.{kind_there, known_pointer, room_for_two, word_there, write_begins, write_fills, write_goes}
use Rattle.gh_mutator_heap.proofs.Owning.Barrier.{word_written}
use Rattle.gh_mutator_heap.proofs.Owning.Objects.{register_reached, word_holds}

abbrev at : Store → StoreStage → Processor → Processor
at x q m = at_task m (Task.Store (at_stage x q))

-- A fault changes nothing.
fault_stays : (e : Ever) (v : EverValue) (k : ℕ) (w : EverValue) (f : Fault) → stores_value e v k w (Answer.Fault f) ≡ e
fault_stays e v k w f = grind arith

-- the processor behind a step that writes nothing, where it goes on so or is over
abbrev behind : Processor → Store → Step Store → Processor
behind m x next = applied Task.Store m x.g x.v next

module _ (k : Known) (x : Store) (z : Cycle) (a : ℕ) (h : Heap) (s : Marking) (m : Processor) (pending : Option Answer) where
  abbrev Ready : StoreStage → Type 0
  Ready q = Together z a h s (at x q m) pending

  abbrev Loads : (q : StoreStage) → Ready q → StepOf z a h (at x q m) pending → Type 0
  Loads q t l = StepsOn z a (heap_then k z a h s (at x q m) pending t l) s (processor_then k z a h s (at x q m) pending t l)

  abbrev Behind : Step Store → Type 0
  Behind next = MarkFacts z a s (behind m x next)

  over : (q : StoreStage) (t : Ready q) (b : IsBetween z a s m.poll.local) (y : Answer) → Behind (ends y)
  over q t b y = record { seat_is = t.facts.seat_is; stacks = b.stacks; task_is = b }

  nil_base : (t : Ready StoreStage.NilBase) (l : StepOf z a h (at x StoreStage.NilBase m) pending) → Loads StoreStage.NilBase t l
  nil_base t l = by_load k z a h s (at x StoreStage.NilBase m) pending t l
      (quits_rests z.arena.shapes h.ever (op_of x) pending l.after.does.after (step z.arena.layout m.poll.local (register_of m x.g x.v) (at_stage x StoreStage.NilBase) (found_there k z a h s (at x StoreStage.NilBase m) pending t l)) (fault_stays h.ever (h.ever.register x.g x.b) x.k (h.ever.register x.g x.v)) t.fine.task.3 l.after.does.answers (inr (Fault.NilBase, refl, refl)))
      Cell.Touch refl (fills_none a s (holding_only m.poll.local.held) refl t.facts.task_is.hands) (over StoreStage.NilBase t t.facts.task_is (Answer.Fault Fault.NilBase))

  module _ (t : Ready StoreStage.Page) (l : StepOf z a h (at x StoreStage.Page m) pending) where
    page_quits : (b : Bool) → Quits (cond b (goes_on (at_stage x StoreStage.Bits)) (ends (Answer.Fault Fault.Field)))
    page_quits b = grind arith

    page_facts : (b : Bool) → Behind (cond b (goes_on (at_stage x StoreStage.Bits)) (ends (Answer.Fault Fault.Field)))
    page_facts true = record { seat_is = t.facts.seat_is; stacks = t.facts.stacks; task_is = t.facts.task_is }
    page_facts false = over StoreStage.Page t t.facts.task_is.0 (Answer.Fault Fault.Field)

    page : Loads StoreStage.Page t l
    page =
        let n = found_there k z a h s (at x StoreStage.Page m) pending t l in
        by_load k z a h s (at x StoreStage.Page m) pending t l
        (quits_rests z.arena.shapes h.ever (op_of x) pending l.after.does.after (step z.arena.layout m.poll.local (register_of m x.g x.v) (at_stage x StoreStage.Page) n) (fault_stays h.ever (h.ever.register x.g x.b) x.k (h.ever.register x.g x.v)) t.fine.task.unanswered l.after.does.answers (page_quits (has_field x.k n)))
        _ refl (fills_none a s (holding_only m.poll.local.held) refl t.facts.task_is.0.hands) (page_facts (has_field x.k n))

  -- The kind of the field is found: a pointer is written behind the barrier.
  module _ (t : Ready StoreStage.Bits) (l : StepOf z a h (at x StoreStage.Bits m) pending) (on : m.poll.local.view.phase ≡ Mark) where
    abbrev held : Value
    held = register_of m x.g x.v

    abbrev f : Stores z.arena a (view h) (at_stage x StoreStage.Bits) pending
    f = t.fine.task.0

    reach : Reach h.ever f.n
    reach = from_register x.g x.b f.n f.through.runs.goes_on f.through.names

    abbrev there : PointerCell
    there = pointer_cell_at z.arena.layout (x.at + x.k)

    kinds : (p b : Bool) → Quits (cond b (ends (Answer.Fault Fault.Kind)) (goes_on (at_stage x (stores z.arena.layout m.poll.local held x p))))
    kinds p b = grind arith

    begun : points z.arena.shapes h.ever.type_of f.n x.k ≡ true → Behind (goes_on (at_stage x (StoreStage.Writing (written m.poll.local there held))))
    begun kind = record {
      seat_is = t.facts.seat_is;
      stacks = t.facts.stacks;
      task_is = write_begins k z a h s t.shapes t.heap t.marking t.beside m.poll there held
          (record { o = h.place f.n; k = x.k; at_is = word_there k z a h s t.shapes t.heap t.marking t.beside f.n f.through.made reach x.k t.fine.task.1 x.at f.through.here; known = t.beside.reached f.n reach; pointer = is_pointer_there z h s t.shapes t.heap t.beside f.n x.k f.through.made reach t.fine.task.1 kind })
          (known_pointer k z a h s t.shapes t.heap t.marking t.beside (h.ever.register x.g x.v) held (register_reached h.ever x.g x.v f.through.runs.goes_on (h.ever.register x.g x.v) refl) (t.fine.knows.stands.registers x.g x.v f.through.runs.of f.register))
          (room_for_two m.poll t.facts.task_is.1 on) t.facts.task_is.0;
    }

    number_is : (p : Bool) → p ≡ false → kinds_differ p held ≡ false → is_number_value held ≡ true
    number_is p e same = grind arith

    plain : is_number_value held ≡ true → Behind (goes_on (at_stage x StoreStage.Field))
    plain number = record { seat_is = t.facts.seat_is; stacks = t.facts.stacks; task_is = (t.facts.task_is.0, λ marks. number) }

    goes : (p : Bool) → points z.arena.shapes h.ever.type_of f.n x.k ≡ p → kinds_differ p held ≡ false → Behind (goes_on (at_stage x (stores z.arena.layout m.poll.local held x p)))
    goes p kind same = grind (arith, begun, number_is, plain)

    bits_facts : (p b : Bool) → points z.arena.shapes h.ever.type_of f.n x.k ≡ p → kinds_differ p held ≡ b → Behind (cond b (ends (Answer.Fault Fault.Kind)) (goes_on (at_stage x (stores z.arena.layout m.poll.local held x p))))
    bits_facts p true kind same = over StoreStage.Bits t t.facts.task_is.0 (Answer.Fault Fault.Kind)
    bits_facts p false kind same = goes p kind same

    bits : Loads StoreStage.Bits t l
    bits =
        let n = found_there k z a h s (at x StoreStage.Bits m) pending t l in
        let p : Bool = is_pointer_by z.arena.layout (x.at + x.k) n in
        by_load k z a h s (at x StoreStage.Bits m) pending t l
        (quits_rests z.arena.shapes h.ever (op_of x) pending l.after.does.after (step z.arena.layout m.poll.local held (at_stage x StoreStage.Bits) n) (fault_stays h.ever (h.ever.register x.g x.b) x.k (h.ever.register x.g x.v)) f.unanswered l.after.does.answers (kinds p (kinds_differ p held)))
        _ refl (fills_none a s (holding_only m.poll.local.held) refl t.facts.task_is.0.hands)
        (bits_facts p (kinds_differ p held) (sym (kind_there k z a h s t.shapes t.heap t.marking t.beside f.n f.through.made reach x.k t.fine.task.1 x.at f.through.here)) refl)

-- The field is written.
store_kind : (z : Cycle) (e : Ever) (v w : EverValue) (n : Name) (k : ℕ) → names v ≡ Some n → k < size_for z.arena.shapes e.type_of n → fits (points z.arena.shapes e.type_of n k) w ≡ true → store_answer z.arena.shapes e v k w ≡ Answer.Done
store_kind z e EverValue.Nil w n k is few f = absurd (cc)
store_kind z e (EverValue.Int i) w n k is few f = absurd (cc)
store_kind z e (EverValue.Ref o) w n k is few f = let same : o ≡ n = cc in rw (same, lt-ltb k (size_for z.arena.shapes e.type_of n) few, f) refl

stores_there : (e : Ever) (v w : EverValue) (n : Name) (k : ℕ) → names v ≡ Some n → stores_value e v k w Answer.Done ≡ with_field e n k w
stores_there e EverValue.Nil w n k is = absurd (cc)
stores_there e (EverValue.Int i) w n k is = absurd (cc)
stores_there e (EverValue.Ref o) w n k is = let same : o ≡ n = cc in ap (λ (m : Name). with_field e m k w) same

module _ (k : Known) (x : Store) (z : Cycle) (a : ℕ) (h : Heap) (s : Marking) (m : Processor) (pending : Option Answer) (q : StoreStage) (t : Together z a h s (at x q m) pending) (f : Stores z.arena a (view h) (at_stage x q) pending) (few : x.k < size_for z.arena.shapes h.ever.type_of f.n) (fit : fits (points z.arena.shapes h.ever.type_of f.n x.k) (h.ever.register x.g x.v) ≡ true) (known : KnowsAtAnyTime z.arena a (view h) m.poll) where
  abbrev stored : EverValue
  stored = h.ever.register x.g x.v

  abbrev old_value : Value
  old_value = register_of m x.g x.v

  reach_it : Reach h.ever f.n
  reach_it = from_register x.g x.b f.n f.through.runs.goes_on f.through.names

  means : Means h.place h.ever.made stored old_value
  means = known.registers x.g x.v f.through.runs.of f.register

  then_is : stores_value h.ever (h.ever.register x.g x.b) x.k stored (store_answer z.arena.shapes h.ever (h.ever.register x.g x.b) x.k stored) ≡ with_field h.ever f.n x.k stored
  then_is = ap (λ (y : Answer). stores_value h.ever (h.ever.register x.g x.b) x.k stored y) (store_kind z h.ever (h.ever.register x.g x.b) stored f.n x.k f.through.names few fit) ∙ stores_there h.ever (h.ever.register x.g x.b) stored f.n x.k f.through.names

  cell_there : (x.at + x.k) % (1024 * z.arena.layout.pages) ≡ h.place f.n + x.k
  cell_there = word_there k z a h s t.shapes t.heap t.marking t.beside f.n f.through.made reach_it x.k few x.at f.through.here

  may : (word : ℕ) → word ≡ word_of_value old_value → MayWrite z.arena (view h) a f.n x.k stored word
  may word is = record {
    reached = reach_it;
    made = f.through.made;
    within = few;
    value_reached = register_reached h.ever x.g x.v f.through.runs.goes_on stored refl;
    holds = subst (λ (i : ℕ). Holds h.place h.ever.made (points z.arena.shapes h.ever.type_of f.n x.k) stored i) (sym is) (word_holds h.place h.ever.made (points z.arena.shapes h.ever.type_of f.n x.k) stored old_value means fit);
  }

-- a number is written to no pointer field
number_field : (v : EverValue) (y : Value) (h : Heap) (p : Bool) → Means h.place h.ever.made v y → is_number_value y ≡ true → fits p v ≡ true → p ≡ true → ⊥
number_field v y h p means number fit kind = grind arith

field : (k : Known) (x : Store) → StepAt (Task.Store (at_stage x StoreStage.Field))
field k x z a h s m pending t kn l =
    let f = t.fine.task.0 in
    let few = t.fine.task.1 in
    let fit = t.fine.task.2 in
    let stands = t.fine.knows.stands in
    by_deed k z a h s (at x StoreStage.Field m) pending t l (Puts f.n x.k (h.ever.register x.g x.v) (word_of_value (register_of m x.g x.v))) tt (then_is k x z a h s m pending StoreStage.Field t f few fit stands) (
      ap (λ (i : ℕ). Ask.Store (Cell.Field i) (word_of_value (register_of m x.g x.v))) (cell_there k x z a h s m pending StoreStage.Field t f few fit stands),
      fills_none a s (holding_only m.poll.local.held) refl t.facts.task_is.0.hands,
      may k x z a h s m pending StoreStage.Field t f few fit stands (word_of_value (register_of m x.g x.v)) refl,
      λ kind. absurd (number_field (h.ever.register x.g x.v) (register_of m x.g x.v) h (points z.arena.shapes h.ever.type_of f.n x.k) (means k x z a h s m pending StoreStage.Field t f few fit stands) (t.facts.task_is.1 (kn refl)) fit kind),
    )
    (λ u hands stacks. record { stacks = stacks; number = t.facts.task_is.0.number; hands = hands (holding_only m.poll.local.held) t.facts.task_is.0.hands })

-- A step of its write before the last.
module _ (k : Known) (x : Store) (w : PointerWrite) (z : Cycle) (a : ℕ) (h : Heap) (s : Marking) (m : Processor) (pending : Option Answer) (t : Together z a h s (at x (StoreStage.Writing w) m) pending) (l : StepOf z a h (at x (StoreStage.Writing w) m) pending) where
  abbrev me : Processor
  me = at x (StoreStage.Writing w) m

  abbrev n : ℕ
  n = found_there k z a h s me pending t l

  -- the processor behind the step, by whether that ends the write
  abbrev then : Option (Unit {0}) → Processor
  then o = applied Task.Store (keeping me (held_then z.arena.layout w n)) x.g x.v (after_write x (write.goes z.arena.layout w n) o)

  written_then : (u : Marking) → Keeps z a s u → Facts z a u nothing (write.goes z.arena.layout w n) → MarkFacts z a u (then None)
  written_then u kept f = let stacks = stacks_last z a s u m.poll.local.stacks m.poll.local.scanned kept t.facts.stacks in record { seat_is = t.facts.seat_is; stacks = stacks; task_is = record { stacks = stacks; number = t.facts.task_is.number; writes = f } }

  goes_before : write.gives z.arena.layout w n ≡ None → StepsOn z a (heap_then k z a h s me pending t l) s (processor_then k z a h s me pending t l)
  goes_before on = write_goes k z a h s me pending t l w refl t.facts.task_is.writes
      (ap (λ (o : Option (Unit {0})). acted z.arena.shapes h.ever (acting (after_write x (write.goes z.arena.layout w n) o).acts (op_of x) false)) on)
      (λ u kept f. subst (λ (o : Option (Unit {0})). MarkFacts z a u (then o)) (sym on) (written_then u kept f))

-- Its last step: what stood there and what is written are shaded.
module _ (k : Known) (x : Store) (w : PointerWrite) (z : Cycle) (a : ℕ) (h : Heap) (s : Marking) (m : Processor) (pending : Option Answer) where
  abbrev wrote : PointerWrite
  wrote = write.at_stage w WriteStage.Store

  abbrev it : Processor
  it = at x (StoreStage.Writing wrote) m

  module _ (t : Together z a h s it pending) (l : StepOf z a h it pending) where
    abbrev word : ℕ
    word = write.pointer_word w.pointer

    abbrev fact : Stores z.arena a (view h) (at_stage x (StoreStage.Writing wrote)) pending
    fact = t.fine.task.0

    barrier : BehindBarrier s (seen_word s.extents.base (s.words (write.cell_at w.at))) (seen_word s.extents.base word)
    barrier = k.writes.stores z a s nothing wrote refl t.facts.task_is.writes

    cell_is : write.cell_at w.at ≡ Cell.Field (h.place fact.n + x.k)
    cell_is = ap write.cell_at t.fine.task.3.same_cell ∙ ap Cell.Field (cell_there k x z a h s m pending (StoreStage.Writing wrote) t fact t.fine.task.1 t.fine.task.2 t.fine.knows.stands)

    old : IsClean s.colour (seen_word s.extents.base (h.words (Cell.Field (h.place fact.n + x.k))))
    old = subst (λ (i : ℕ). IsClean s.colour (seen_word s.extents.base i)) (ap s.words cell_is ∙ ap (λ (v : Words). v (Cell.Field (h.place fact.n + x.k))) t.beside.words) barrier.old

    puts : StepsOn z a (heap_then k z a h s it pending t l) s (processor_then k z a h s it pending t l)
    puts = by_deed k z a h s it pending t l (Puts fact.n x.k (h.ever.register x.g x.v) word) tt (then_is k x z a h s m pending (StoreStage.Writing wrote) t fact t.fine.task.1 t.fine.task.2 t.fine.knows.stands) (
      ap (λ (c : Cell). Ask.Store c word) cell_is,
      write_fills z a s wrote t.facts.task_is.writes,
      may k x z a h s m pending (StoreStage.Writing wrote) t fact t.fine.task.1 t.fine.task.2 t.fine.knows.stands word (word_written z.arena.layout (pointer_cell_at z.arena.layout (x.at + x.k)) (register_of m x.g x.v) wrote t.fine.task.3),
      λ kind. (old, barrier.new),
    )
        (λ u hands stacks. record { stacks = stacks; number = t.facts.task_is.number; hands = hands (holding_only w.held) t.facts.task_is.writes.stage_is.2 })

write_at : Known → (x : Store) (w : PointerWrite) (q : WriteStage) → StepAt (Task.Store (at_stage x (StoreStage.Writing (write.at_stage w q))))
write_at k x w WriteStage.Store z a h s m pending t kn l = puts k x w z a h s m pending t l
write_at k x w WriteStage.LoadOld z a h s m pending t kn l = goes_before k x (write.at_stage w WriteStage.LoadOld) z a h s m pending t l (write_on.load_gives_none z.arena.layout (write.at_stage w WriteStage.LoadOld) (n k x (write.at_stage w WriteStage.LoadOld) z a h s m pending t l))
write_at k x w (WriteStage.ShadeOld sh) z a h s m pending t kn l = goes_before k x (write.at_stage w (WriteStage.ShadeOld sh)) z a h s m pending t l (write_on.old_gives_none z.arena.layout (write.at_stage w (WriteStage.ShadeOld sh)) sh (n k x (write.at_stage w (WriteStage.ShadeOld sh)) z a h s m pending t l))
write_at k x w (WriteStage.ShadeNew sh) z a h s m pending t kn l = goes_before k x (write.at_stage w (WriteStage.ShadeNew sh)) z a h s m pending t l (write_on.new_gives_none z.arena.layout (write.at_stage w (WriteStage.ShadeNew sh)) sh (n k x (write.at_stage w (WriteStage.ShadeNew sh)) z a h s m pending t l))
write_at k x w WriteStage.Ended z a h s m pending t kn l = absurd (let busy = t.fine.task.3.busy in cc)

store_at : Known → (x : Store) (q : StoreStage) → StepAt (Task.Store (at_stage x q))
store_at k x StoreStage.Page z a h s m pending t kn l = page k x z a h s m pending t l
store_at k x StoreStage.Bits z a h s m pending t kn l = bits k x z a h s m pending t l (kn refl)
store_at k x StoreStage.Field z a h s m pending t kn l = field k x z a h s m pending t kn l
store_at k x (StoreStage.Writing w) z a h s m pending t kn l = write_at k x w w.stage z a h s m pending t kn l
store_at k x StoreStage.NilBase z a h s m pending t kn l = nil_base k x z a h s m pending t l

pub store_step : Known → (x : Store) → StepAt (Task.Store x)
store_step k x = store_at k x x.stage
