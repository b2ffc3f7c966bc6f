-- What is known where an operation begins beside marking.
use Rattle.std.proofs.Common.{◌≡◌, ◌≢◌, ℕ, ◌<◌, Bool, true, false, cond, None, refl, ap, subst, arith}
use Rattle.gh_mutator_heap.proofs.Vocabulary.{begins, BeginsBesideMarking, Cycle, GlobalStage, GoroutineRuns, has_entries, Heap, is_mark, IsBetween, MarkFacts, Marking, MayBegin, Op, PointerCell, Processor, register_of, REGISTERS, RunPhase, Task, TaskFacts, Together, Value, view, written}
use Rattle.gh_mutator.specs.Global as global
use Rattle.gh_mutator.specs.ProcessorMarks.{GlobalFacts, StoreFacts}
use Rattle.gh_mutator.specs.Sound.{has_room}
use Rattle.gh_mutator.specs.Store as store
use Rattle.gh_mutator_heap.proofs.Going.Known.{Known}
use Rattle.gh_mutator_heap.proofs.Going.Writing.{known_pointer, room_for_two, write_begins}
use Rattle.gh_mutator_heap.proofs.Owning.Objects.{register_reached}
use Rattle.gh_mutator_heap.proofs.Owning.Parked.{stands_always}

mark_is : (phase : RunPhase) → is_mark phase ≡ true → phase ≡ RunPhase.Mark
mark_is phase e = grind arith

not_mark : (phase : RunPhase) → is_mark phase ≡ false → phase ≢ RunPhase.Mark
not_mark phase e is = let no = ap is_mark is in cc

module _ (k : Known) (z : Cycle) (a : ℕ) (h : Heap) (s : Marking) (m : Processor) (t : Together z a h s m None) (b : IsBetween z a s m.poll.local) where
  store_facts : (g base i v : ℕ) (y : Value) → has_entries m.poll ≡ true → StoreFacts z a s m.poll (store.begins g base i v y) (store.begins g base i v y).stage
  store_facts g base i v y room = grind arith

  module _ (g i v : ℕ) (runs : GoroutineRuns z.arena (view h) a g) (low : v < REGISTERS) (room : has_entries m.poll ≡ true) where
    abbrev held : Value
    held = register_of m g v

    stores_facts : (marking : Bool) → is_mark m.poll.local.view.phase ≡ marking → GlobalFacts z a s m.poll (cond marking (GlobalStage.Writing (written m.poll.local (PointerCell.Global i) held)) GlobalStage.Store)
    stores_facts true on = write_begins k z a h s t.shapes t.heap t.marking t.beside m.poll (PointerCell.Global i) held tt
        (known_pointer k z a h s t.shapes t.heap t.marking t.beside (h.ever.register g v) held (register_reached h.ever g v runs.goes_on (h.ever.register g v) refl) ((stands_always z.arena a (view h) m None t.fine).registers g v runs.of low))
        (room_for_two m.poll room (mark_is m.poll.local.view.phase on)) b
    stores_facts false off = (b, not_mark m.poll.local.view.phase off)

    global_facts : (y : Value) → held ≡ y → GlobalFacts z a s m.poll (global.begins_store m.poll.local g i v y).stage
    global_facts (Value.Int n) e = b
    global_facts Value.Nil e = subst (λ (y : Value). GlobalFacts z a s m.poll (global.stores m.poll.local i y)) e (stores_facts (is_mark m.poll.local.view.phase) refl)
    global_facts (Value.Ref r) e = subst (λ (y : Value). GlobalFacts z a s m.poll (global.stores m.poll.local i y)) e (stores_facts (is_mark m.poll.local.view.phase) refl)

  abbrev Begun : Op → Type 0
  Begun o = MarkFacts z a s (begins z.arena.shapes m o)

  by : (o : Op) → m.task ≡ Task.Idle → MayBegin z.arena a (view h) o → has_room m o ≡ true → Begun o
  by (Op.Store g base i v) idle may room = record { seat_is = t.facts.seat_is; stacks = t.facts.stacks; task_is = store_facts g base i v (register_of m g base) room }
  by (Op.SetGlobal g i v) idle may room = record { seat_is = t.facts.seat_is; stacks = t.facts.stacks; task_is = global_facts g i v may.0 may.1 room (register_of m g v) refl }
  by (Op.Gc g) idle may room = k.marks.begins z.arena.shapes z a s m (Op.Gc g) idle refl t.facts
  by Op.Poll idle may room = k.marks.begins z.arena.shapes z a s m Op.Poll idle refl t.facts
  by Op.Leave idle may room = k.marks.begins z.arena.shapes z a s m Op.Leave idle refl t.facts
  by _ idle may room = record { seat_is = t.facts.seat_is; stacks = t.facts.stacks; task_is = b }

pub begins_beside : Known → BeginsBesideMarking
begins_beside k z a h s m o t idle may room = by k z a h s m t (subst (λ (q : Task). TaskFacts z a s m.poll q) idle t.facts.task_is) o idle may room
