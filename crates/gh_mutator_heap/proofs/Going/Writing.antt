-- A write behind the barrier, beside marking: where it begins, its steps before the last, and what it has in hand.
use Rattle.std.proofs.Common.{◌≡◌, ℕ, ◌+◌, ◌-◌, ◌*◌, ◌/◌, ◌%◌, ◌<◌, Bool, true, false, eqb, Option, refl, sym, ap, subst, ◌∙◌, arith}
use Rattle.std.proofs.lemmas.Bool.{ne_eqb}
use Rattle.gh_mutator_heap.proofs.Vocabulary.{acted, acts, Answer, Ask, asks, bit, bit_at, Cell, cell_of, Cycle, effect, EverValue, Facts, FillsNone, has_entries, HasTwo, Heap, HeapGood, is_pointer_by, IsBeside, IsBetween, IsCell, IsKnownPointer, IsMade, IsReached, IsWriting, Keeps, Mark, MarkFacts, Marking, Means, mod-eq_of_lt, Name, nothing, pointer_of, PointerCell, points, Polling, Processor, Reach, ShapesAreGood, size_for, StepsOn, Together, Value, view, Words, Writing, written}
use Rattle.gh_barrier.specs.Listing as write
use Rattle.gh_mutator.specs.MarkVocabulary.{Good, KnowsObjects, Steps}
use Rattle.gh_mutator_heap.proofs.Going.Known.{by_keeping, found_there, heap_then, Known, processor_then, StepOf}
use Rattle.gh_mutator_heap.proofs.Going.Values.{known_object}

-- no slot is being filled by who writes
pub write_fills : (z : Cycle) (a : ℕ) (u : Marking) (w : Writing) → Facts z a u nothing w → FillsNone a u
write_fills z a u w f = grind arith

pub room_for_two : (p : Polling) → has_entries p ≡ true → p.local.view.phase ≡ Mark → HasTwo p.local.held
room_for_two p entries on = grind arith

bit_is : (b : Bool) (n : ℕ) → n ≡ bit b → eqb n 1 ≡ b
bit_is b n e = grind arith

module _ (k : Known) (z : Cycle) (a : ℕ) (h : Heap) (s : Marking) (shapes : ShapesAreGood z.arena.shapes) (good : HeapGood z.arena (view h)) (well : Good z s) (beside : IsBeside z.arena h s) where
  objects : KnowsObjects z s
  objects = k.objects z h s good well beside

  -- a word of an object that a script reaches lies in the heap, and its bit tells whether it is a pointer
  module _ (n : Name) (made : IsMade h.ever.made n) (reach : Reach h.ever n) (i : ℕ) (few : i < size_for z.arena.shapes h.ever.type_of n) where
    below : h.place n + i < 1024 * z.arena.layout.pages
    below =
        let within = (objects (h.place n) (beside.reached n reach)).within in
        let size = beside.size n (known_object z h s shapes good beside n made reach) in
        omega (arith, within, size, few)

    pub word_there : (at : ℕ) → at ≡ h.place n → (at + i) % (1024 * z.arena.layout.pages) ≡ h.place n + i
    word_there at here = rw here (mod-eq_of_lt below)

    pub kind_there : (at : ℕ) → at ≡ h.place n → is_pointer_by z.arena.layout (at + i) (h.words (Cell.Bitmap ((at + i) / 64 % (16 * z.arena.layout.pages)))) ≡ points z.arena.shapes h.ever.type_of n i
    kind_there at here = rw here (bit_is (points z.arena.shapes h.ever.type_of n i) _
        (ap (λ (j : ℕ). bit_at (h.words (Cell.Bitmap j)) ((h.place n + i) % 64)) (mod-eq_of_lt (let b = below in omega arith))
        ∙ sym (k.rows.bit_of (view h).bitmap ((h.place n + i) / 64) (h.place n + i) refl) ∙ good.pointers n i made (good.reached n reach) few))

  -- what is written is nil, or an object of the cycle
  pub known_pointer : (v : EverValue) (y : Value) → IsReached h.ever v → Means h.place h.ever.made v y → IsKnownPointer s (pointer_of y)
  known_pointer v Value.Nil reached means = tt
  known_pointer v (Value.Int i) reached means = tt
  known_pointer EverValue.Nil (Value.Ref r) reached means = absurd means
  known_pointer (EverValue.Int i) (Value.Ref r) reached means = absurd means
  known_pointer (EverValue.Ref n) (Value.Ref r) reached means =
      let is = means.0 in
      let some : eqb r 0 ≡ false = ne_eqb r 0 (λ q. omega (arith, is, q)) in
      let at : r - 1 ≡ h.place n = omega (arith, is) in
      rw some (omega (arith, is), ap s.since (beside.base (r - 1) ∙ at) ∙ beside.reached n (reached n refl))

  pub write_begins : (p : Polling) (at : PointerCell) (y : Value) → IsCell s at → IsKnownPointer s (pointer_of y) → HasTwo p.local.held → IsBetween z a s p.local → IsWriting z a s p.local (written p.local at y)
  write_begins p at y there known two b = record {
    stacks = b.stacks;
    number = b.number;
    writes = k.writes.begins z a s nothing at (pointer_of y) p.local.held there known two b.hands;
  }

  -- a step of the write is made of moves of marking, which change no stack
  pub write_lands : (w : Writing) → Facts z a s nothing w → Steps z a s (write.asks w) (λ u. Keeps z a s u × Facts z a u nothing (write.goes z.arena.layout w (h.words (cell_of (write.asks w)))))
  write_lands w f =
      (subst (λ (n : ℕ). Steps z a s (write.asks w) (λ u. Keeps z a s u × Facts z a u nothing (write.goes z.arena.layout w n))) (ap (λ (v : Words). v (cell_of (write.asks w))) beside.words) (k.writes.keeps.own_step z a s nothing w well objects f))

-- A step of a write, of a processor that asks for it.
module _ (k : Known) (z : Cycle) (a : ℕ) (h : Heap) (s : Marking) (m : Processor) (pending : Option Answer) (t : Together z a h s m pending) (l : StepOf z a h m pending) (w : Writing) (asks_is : asks z.arena.layout m ≡ write.asks w) (f : Facts z a s nothing w) where
  land : Steps z a s (write.asks w) (λ u. Keeps z a s u × Facts z a u nothing (write.goes z.arena.layout w (h.words (cell_of (write.asks w)))))
  land = write_lands k z a h s t.shapes t.heap t.marking t.beside w f

  pub write_goes : acted z.arena.shapes h.ever (acts z.arena.layout m (found_there k z a h s m pending t l)) ≡ h.ever → ((u : Marking) → Keeps z a s u → Facts z a u nothing (write.goes z.arena.layout w (h.words (cell_of (write.asks w)))) → MarkFacts z a u (processor_then k z a h s m pending t l)) →
      StepsOn z a (heap_then k z a h s m pending t l) s (processor_then k z a h s m pending t l)
  write_goes is facts = by_keeping k z a h s m pending t l is land.then land.went (land.words_are ∙ ap (λ (x : Ask). effect s.words x) (sym asks_is))
      (λ o e. absurd (write_fills z a land.then (write.goes z.arena.layout w (h.words (cell_of (write.asks w)))) land.after.1 o e)) land.after.0 (facts land.then land.after.0 land.after.1)
