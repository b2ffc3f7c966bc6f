-- Steps of the load and the store of a global beside marking. It is written behind the barrier.
use Rattle.std.proofs.Common.{◌≡◌, ℕ, Bool, true, false, cond, Option, None, inr, refl, sym, ap, subst, ◌∙◌, arith}
use Rattle.gh_mutator_heap.proofs.Vocabulary.{acted, acting, after_write, Answer, applied, Ask, at_stage, at_task, BehindBarrier, Cell, Cycle, EverValue, Facts, Fault, follows, from_global, Global, GlobalStage, Heap, held_then, holding_only, Holds, IsBetween, IsClean, keeping, Keeps, MarkFacts, Marking, naming, nothing, Op, PointerCell, PointerWrite, Polling, Processor, PutsGlobal, register_of, seen_word, Sets, sets_global, stacks_last, step, StepsOn, Task, TaskFacts, Together, Value, value_of, value_told, Words, WriteStage}
use Rattle.gh_barrier.specs.Giving as write_on
use Rattle.gh_barrier.specs.Listing as write
use Rattle.gh_cycle.specs.Deeds.{Rests}
use Rattle.gh_mutator_heap.proofs.Going.Known.{by_deed, fills_none, found_there, heap_then, Known, processor_then, StepAt, StepOf}
use Rattle.gh_mutator_heap.proofs.Going.Values.{quits_rests}
use Rattle.gh_mutator_heap.proofs.Going.Writing.{write_fills, write_goes}
use Rattle.gh_mutator_heap.proofs.Owning.Barrier.{word_written}
use Rattle.gh_mutator_heap.proofs.Owning.Objects.{fits_pointer, register_reached, takes_told, word_holds}

-- a value that was found is named, or the load is over
named_facts : (z : Cycle) (a : ℕ) (u : Marking) (x : Global) (p : Polling) (v : Value) → IsBetween z a u p.local → TaskFacts z a u p (follows Task.Global (value_told (naming x) v))
named_facts z a u x p v b = grind arith

-- A step of its write before the last.
module _ (k : Known) (x : Global) (w : PointerWrite) (z : Cycle) (a : ℕ) (h : Heap) (s : Marking) (m : Processor) (pending : Option Answer) (t : Together z a h s (at_task m (Task.Global (at_stage x (GlobalStage.Writing w)))) pending) (l : StepOf z a h (at_task m (Task.Global (at_stage x (GlobalStage.Writing w)))) pending) where
  abbrev me : Processor
  me = at_task m (Task.Global (at_stage x (GlobalStage.Writing w)))

  abbrev n : ℕ
  n = found_there k z a h s me pending t l

  -- the processor behind the step, by whether that ends the write
  abbrev then : Option (Unit {0}) → Processor
  then o = applied Task.Global (keeping me (held_then z.arena.layout w n)) x.g x.r (after_write x (write.goes z.arena.layout w n) o)

  written_then : (u : Marking) → Keeps z a s u → Facts z a u nothing (write.goes z.arena.layout w n) → MarkFacts z a u (then None)
  written_then u kept f = let stacks = stacks_last z a s u m.poll.local.stacks m.poll.local.scanned kept t.facts.stacks in record { seat_is = t.facts.seat_is; stacks = stacks; task_is = record { stacks = stacks; number = t.facts.task_is.number; writes = f } }

  goes : write.gives z.arena.layout w n ≡ None → StepsOn z a (heap_then k z a h s me pending t l) s (processor_then k z a h s me pending t l)
  goes on = write_goes k z a h s me pending t l w refl t.facts.task_is.writes
      (ap (λ (o : Option (Unit {0})). acted z.arena.shapes h.ever (acting (after_write x (write.goes z.arena.layout w n) o).acts (Op.SetGlobal x.g x.k x.r) false)) on)
      (λ u kept f. subst (λ (o : Option (Unit {0})). MarkFacts z a u (then o)) (sym on) (written_then u kept f))

-- Its last step: what stood there and what is written are shaded.
module _ (k : Known) (x : Global) (w : PointerWrite) (z : Cycle) (a : ℕ) (h : Heap) (s : Marking) (m : Processor) (pending : Option Answer) where
  abbrev wrote : PointerWrite
  wrote = write.at_stage w WriteStage.Store

  abbrev it : Processor
  it = at_task m (Task.Global (at_stage x (GlobalStage.Writing wrote)))

  module _ (t : Together z a h s it pending) (l : StepOf z a h it pending) where
    abbrev stored : EverValue
    stored = h.ever.register x.g x.r

    abbrev word : ℕ
    word = write.pointer_word w.pointer

    barrier : BehindBarrier s (seen_word s.extents.base (s.words (write.cell_at w.at))) (seen_word s.extents.base word)
    barrier = k.writes.stores z a s nothing wrote refl t.facts.task_is.writes

    cell_is : write.cell_at w.at ≡ Cell.Global x.k
    cell_is = ap write.cell_at t.fine.task.4.same_cell

    holds : Holds h.place h.ever.made true stored word
    holds = subst (λ (i : ℕ). Holds h.place h.ever.made true stored i) (sym (word_written z.arena.layout (PointerCell.Global x.k) (register_of m x.g x.r) wrote t.fine.task.4))
        (word_holds h.place h.ever.made true stored (register_of m x.g x.r) (t.fine.knows.stands.registers x.g x.r t.fine.task.0.of t.fine.task.1) (fits_pointer stored t.fine.task.3))

    old : IsClean s.colour (seen_word s.extents.base (h.words (Cell.Global x.k)))
    old = subst (λ (i : ℕ). IsClean s.colour (seen_word s.extents.base i)) (ap s.words cell_is ∙ ap (λ (v : Words). v (Cell.Global x.k)) t.beside.words) barrier.old

    puts : StepsOn z a (heap_then k z a h s it pending t l) s (processor_then k z a h s it pending t l)
    puts = by_deed k z a h s it pending t l (PutsGlobal x.k stored word) tt
        (ap (λ (b : Bool). sets_global h.ever x.k stored (cond b (Answer.Fault Fault.Kind) Answer.Done)) t.fine.task.3)
        (ap (λ (c : Cell). Ask.Store c word) cell_is, write_fills z a s wrote t.facts.task_is.writes, record { within = t.fine.task.2; value_reached = register_reached h.ever x.g x.r t.fine.task.0.goes_on stored refl; holds = holds }, old, barrier.new)
        (λ u hands stacks. record { stacks = stacks; number = t.facts.task_is.number; hands = hands (holding_only w.held) t.facts.task_is.writes.stage_is.2 })

write_at : Known → (x : Global) (w : PointerWrite) (q : WriteStage) → StepAt (Task.Global (at_stage x (GlobalStage.Writing (write.at_stage w q))))
write_at k x w WriteStage.Store z a h s m pending t kn l = puts k x w z a h s m pending t l
write_at k x w WriteStage.LoadOld z a h s m pending t kn l = goes k x (write.at_stage w WriteStage.LoadOld) z a h s m pending t l (write_on.load_gives_none z.arena.layout (write.at_stage w WriteStage.LoadOld) (n k x (write.at_stage w WriteStage.LoadOld) z a h s m pending t l))
write_at k x w (WriteStage.ShadeOld sh) z a h s m pending t kn l = goes k x (write.at_stage w (WriteStage.ShadeOld sh)) z a h s m pending t l (write_on.old_gives_none z.arena.layout (write.at_stage w (WriteStage.ShadeOld sh)) sh (n k x (write.at_stage w (WriteStage.ShadeOld sh)) z a h s m pending t l))
write_at k x w (WriteStage.ShadeNew sh) z a h s m pending t kn l = goes k x (write.at_stage w (WriteStage.ShadeNew sh)) z a h s m pending t l (write_on.new_gives_none z.arena.layout (write.at_stage w (WriteStage.ShadeNew sh)) sh (n k x (write.at_stage w (WriteStage.ShadeNew sh)) z a h s m pending t l))
write_at k x w WriteStage.Ended z a h s m pending t kn l = absurd (let busy = t.fine.task.4.busy in cc)

module _ (x : Global) (q : GlobalStage) (m : Processor) where
  abbrev here : Processor
  here = at_task m (Task.Global (at_stage x q))

at : Known → (x : Global) (q : GlobalStage) → StepAt (Task.Global (at_stage x q))
at k x GlobalStage.Load z a h s m pending t kn l = by_deed k z a h s (here x GlobalStage.Load m) pending t l (Sets x.g x.r (h.ever.global x.k)) tt (takes_told h.ever x.g x.r (h.ever.global x.k)) (
  tt,
  fills_none a s (holding_only m.poll.local.held) refl t.facts.task_is.hands,
  t.fine.task.0,
  t.fine.task.1,
  from_global x.k t.fine.task.2,
)
    (λ u hands stacks. named_facts z a u x _ (value_of z.arena.layout.pages true (h.words (Cell.Global x.k))) (record { stacks = stacks; number = t.facts.task_is.number; hands = hands (holding_only m.poll.local.held) t.facts.task_is.hands }))
at k x (GlobalStage.Birth i) z a h s m pending t kn l = by_deed k z a h s (here x (GlobalStage.Birth i) m) pending t l Rests tt refl
    (tt, fills_none a s (holding_only m.poll.local.held) refl t.facts.task_is.hands)
    (λ u hands stacks. record { stacks = stacks; number = t.facts.task_is.number; hands = hands (holding_only m.poll.local.held) t.facts.task_is.hands })
at k x GlobalStage.Store z a h s m pending t kn l = absurd (t.facts.task_is.1 (kn refl))
at k x GlobalStage.Number z a h s m pending t kn l = by_deed k z a h s (here x GlobalStage.Number m) pending t l Rests tt
    (quits_rests z.arena.shapes h.ever (Op.SetGlobal x.g x.k x.r) pending l.after.does.after (step z.arena.layout (register_of m x.g x.r) (at_stage x GlobalStage.Number) (found_there k z a h s (here x GlobalStage.Number m) pending t l)) (λ f. refl) t.fine.task.2 l.after.does.answers (inr (Fault.Kind, refl, refl)))
    (tt, fills_none a s (holding_only m.poll.local.held) refl t.facts.task_is.hands)
    (λ u hands stacks. record { stacks = stacks; number = t.facts.task_is.number; hands = hands (holding_only m.poll.local.held) t.facts.task_is.hands })
at k x (GlobalStage.Writing w) z a h s m pending t kn l = write_at k x w w.stage z a h s m pending t kn l

pub global_step : Known → (x : Global) → StepAt (Task.Global x)
global_step k x = at k x x.stage
