-- The step by which a goroutine ends beside marking.
use Rattle.std.proofs.Common.{◌≡◌, ◌≢◌, ℕ, ◌<◌, Bool, true, false, cond, eqb, Option, refl, sym, ap, subst, ◌∙◌, arith, length, slice_index}
use Rattle.std.proofs.lemmas.Bool.{eqb-true, ne_eqb}
use Rattle.gh_mutator_heap.proofs.Vocabulary.{Answer, Ask, asks, at_task, Cell, Cycle, END, Ends, eqb-false, Ever, Heap, holding_only, IsOf, KnowsStacks, Marking, Processor, StepsBeside, StepsOn, Task, Together, Words}
use Rattle.gh_mutator_heap.proofs.Going.Known.{facts_then, fills_none, found_there, heap_then, Known, processor_then, stacks_by, StepAt, StepOf}

module _ (k : Known) (g : ℕ) (z : Cycle) (a : ℕ) (h : Heap) (s : Marking) (m : Processor) (pending : Option Answer) (t : Together z a h s (at_task m (Task.End g)) pending) (l : StepOf z a h (at_task m (Task.End g)) pending) where
  abbrev here : Processor
  here = at_task m (Task.End g)

  abbrev after : Heap
  after = heap_then k z a h s here pending t l

  b : StepsBeside z a h after s (Ends g)
  b = k.deeds z a h s l.move (asks z.arena.layout here) (Ends g) t.heap t.marking t.bounded t.beside l.may (record { words = l.words_are; ever = l.after.does.ever }) (refl, fills_none a s (holding_only m.poll.local.held) refl t.facts.task_is.hands, t.fine.task.0)

  word_is : (i : ℕ) → b.then.words (Cell.Scanned i) ≡ cond (eqb g i) END (h.words (Cell.Scanned i))
  word_is i = ap (λ (w : Words). w (Cell.Scanned i)) (b.beside.words ∙ l.words_are)

  goes : (i : ℕ) → IsOf z.arena a i → b.then.words (Cell.Scanned i) ≢ END → after.ever.ended i ≡ false
  goes i its on = by (eqb g i) refl where
    still : g ≢ i → (x : Bool) → h.ever.ended i ≡ x → after.ever.ended i ≡ false
    still other true x = absurd (on (word_is i ∙ ap (λ (c : Bool). cond c END (h.words (Cell.Scanned i))) (ne_eqb g i other) ∙ t.ends i x))
    still other false x = ap (λ (e : Ever). e.ended i) l.after.does.ever ∙ ap (λ (c : Bool). cond c true (h.ever.ended i)) (ne_eqb i g (λ e. other (sym e))) ∙ x

    by : (c : Bool) → eqb g i ≡ c → after.ever.ended i ≡ false
    by true e = absurd (on (word_is i ∙ ap (λ (c : Bool). cond c END (h.words (Cell.Scanned i))) e))
    by false e = still (eqb-false g i e) (h.ever.ended i) refl

  noted : (i : ℕ) → IsOf z.arena a i → slice_index (processor_then k z a h s here pending t l).poll.local.scanned i ≡ b.then.words (Cell.Scanned i)
  noted i its = by (eqb g i) refl where
    there : g < length m.poll.local.scanned
    there = let few = t.facts.stacks.places in let inside = t.fine.task.0.of.0 in omega arith

    apart : g ≢ i → (number : ℕ) → asks z.arena.layout here ≢ Ask.Store (Cell.Scanned i) number
    apart other number e = other (cc)

    by : (c : Bool) → eqb g i ≡ c → slice_index (processor_then k z a h s here pending t l).poll.local.scanned i ≡ b.then.words (Cell.Scanned i)
    by true e = subst (λ (n : ℕ). slice_index (processor_then k z a h s here pending t l).poll.local.scanned n ≡ END) (eqb-true g i e) (k.notes.notes z.arena.layout z.arena.shapes here (found_there k z a h s here pending t l) g END t.sound refl there)
        ∙ sym (word_is i ∙ ap (λ (c : Bool). cond c END (h.words (Cell.Scanned i))) e)
    by false e = k.notes.keeps z.arena.layout z.arena.shapes here (found_there k z a h s here pending t l) i t.sound (apart (eqb-false g i e)) ∙ t.facts.stacks.noted i its ∙ ap (λ (w : Words). w (Cell.Scanned i)) t.beside.words
        ∙ sym (word_is i ∙ ap (λ (c : Bool). cond c END (h.words (Cell.Scanned i))) e)

  stacks : KnowsStacks z a b.then m.poll.local.stacks (processor_then k z a h s here pending t l).poll.local.scanned
  stacks = stacks_by k z a h s here pending t l b.then b.beside goes noted

  ends : StepsOn z a after s (processor_then k z a h s here pending t l)
  ends = record {
    then = b.then;
    went = b.went;
    beside = b.beside;
    facts = facts_then k z a h s here pending t l b.then stacks (record { stacks = stacks; number = t.facts.task_is.number; hands = b.hands (holding_only m.poll.local.held) t.facts.task_is.hands });
  }

pub end_step : Known → (g : ℕ) → StepAt (Task.End g)
end_step k g z a h s m pending t kn l = ends k g z a h s m pending t l
