-- Objects that are known have names, and their pointer fields lie in slots of their own.
use Rattle.std.proofs.Common.{◌≡◌, ◌≢◌, ℕ, ◌+◌, ◌<◌, true, ap, subst, ◌∙◌}
use Rattle.gh_cycle.proofs.Vocabulary.{alloc_words, Cycle, Good, Heap, IsBeside, IsKnownObject, IsPointer, IsSlotOf, Marking, MarkingGood, Name, page_words, row_bit, size_for, SpanHead, TheHeapIsApart, view}
use Rattle.gh_cycle.proofs.Quiet.{with_words}

-- the heap with the words of marking
abbrev pub here : Heap → Marking → Heap
here h s = with_words h s.words

-- the object that is known and begins there
pub record Named (h : Heap) (s : Marking) (o : ℕ) : Type 0 where
  pub name : Name
  pub of : IsKnownObject (here h s) s name
  pub at : h.place name ≡ o

module _ (z : Cycle) (h : Heap) (s : Marking) (g : Good z.arena (view (here h s))) (m : MarkingGood z s) where
  pub name-at : (o : ℕ) → s.known o ≡ true → Named h s o
  name-at o known =
      let set = m.objects.placed o known in
      let b = g.bits o set in
      record {
        name = b.0;
        of = record { made = b.1; placed = record { set = ap (λ (x : ℕ). row_bit (alloc_words s.words) x) b.2 ∙ set; says = ap (view (here h s)).birth b.2 ∙ b.3 }; known = ap s.known b.2 ∙ known };
        at = b.2;
      }

  -- a word of a slot that begins elsewhere is none of its pointer fields
  pub apart-from : TheHeapIsApart → IsBeside z.arena (here h s) s → (n : Name) → IsKnownObject (here h s) s n → (j : ℕ) → IsPointer s.extents (h.place n) j →
      (p i at size f : ℕ) (head : SpanHead) → IsSlotOf z.arena.layout.pages (page_words s.words) p head i at size → at ≢ h.place n → f < size → at + f ≢ h.place n + j
  apart-from apart c n of j l p i at size f head slot ne within =
      let own = g.slots n of.made of.placed in
      (apart z.arena (view (here h s)) g).slots p own.p i own.i at (h.place n) size (size_for z.arena.shapes h.ever.type_of n) f j head own.h slot own.slot ne within (subst (λ (x : ℕ). j < x) (c.size n of) l.0)
