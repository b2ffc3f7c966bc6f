-- A step that is made of moves of marking, over a move of the heap that leaves the heap that never frees: the two states still belong together.
use Rattle.std.proofs.Common.{◌≡◌, ◌≢◌, ℕ, ◌<◌, suc, Bool, true, false, refl, sym, ap, subst, ◌∙◌, inl, inr, arith}
use Rattle.gh_cycle.proofs.Vocabulary.{alloc_words, birth_words, Cell, ClaimsSlot, Cycle, END, eqb_tells, Ever, Good, Heap, IsBeside, IsKnownObject, IsMade, KnownOfMoves, Marking, MarkingAloneGoesBeside, MarkingGood, MarksAlone, Name, Place, Placed, Placing, Reach, reference_of, RegistersFit, Row, row_bit, view, Words}
use Rattle.gh_heap.specs.Moves as heap
use Rattle.gh_marks.specs.Laws.{StepsGoByMoves}
use Rattle.gh_cycle.proofs.Going.Lasting.{bases-stay, beside-lasts}
use Rattle.gh_cycle.proofs.Going.Leaving.{leaves, LeavesObjects, stood}
use Rattle.gh_cycle.proofs.Going.Objects.{here}
use Rattle.gh_cycle.proofs.Going.Plain.{fills-still, there}
use Rattle.gh_cycle.proofs.Quiet.{with_words}

module _ (k : KnownOfMoves) (z : Cycle) (a : ℕ) (h : Heap) (s t : Marking) (m : heap.Move) (good : Good z.arena (view (here h s))) (marking : MarkingGood z s) (c : IsBeside z.arena (here h s) s) (may : heap.May z.arena a (view (here h s)) m)
    (ever : (there z a h s m).ever ≡ h.ever) (alone : MarksAlone z a (here h s) (there z a h s m) s t) where
  abbrev after : Heap
  after = there z a h s m

  abbrev left : LeavesObjects z a h s m
  left = leaves z a h s m may (ap (λ (e : Ever). e.made) ever)

  step : StepsGoByMoves z a s t
  step = k.steps z a s t marking alone.went

  -- Objects: none came to be known, for its alloc bit was set before.

  same-alloc : alloc_words t.words ≡ alloc_words s.words
  same-alloc = ap (λ (u : Words). alloc_words u) alone.words_are ∙ left.alloc

  was-known : (o : ℕ) → t.known o ≡ true → s.known o ≡ true
  was-known o now = by (s.known o) refl where
    by : (b : Bool) → s.known o ≡ b → s.known o ≡ true
    by true e = e
    by false e = absurd (let d = step.unknown o (record { placed = ap (λ (r : Row). row_bit r o) (sym same-alloc) ∙ step.good.objects.placed o now; unknown = e }) in let no : true ≡ false = sym now ∙ d.unknown in cc)

  known-before : (n : Name) → IsKnownObject after t n → IsKnownObject (here h s) s n
  known-before n o = record {
    made = subst (λ (e : Ever). IsMade e.made n) ever o.made;
    placed = stood z a h s m left n (subst (λ (f : Place). Placed (alloc_words s.words) (birth_words after.words) f n) left.place (subst (λ (r : Row). Placed r (birth_words after.words) after.place n) left.alloc o.placed));
    known = was-known (h.place n) (ap t.known (sym (ap (λ (f : Place). f n) left.place)) ∙ o.known);
  }

  -- Slots and stacks: of this seat as it is told, and those of others as the moves of one leave them to another.

  filling : (o b : ℕ) → t.colour o ≡ Placing b → ClaimsSlot z.arena (view after) b o
  filling o b is = elim (eqb_tells b a) [
    | inl y ↦ subst (λ (i : ℕ). ClaimsSlot z.arena (view after) i o) (sym y.1) (alone.fills o (is ∙ ap Placing y.1))
    | inr n ↦ fills-still k z a h s good c m may o b n.1 (((step.others b n.1).placing o).1 is)
  ]

  on : (g : ℕ) → after.ever.ended g ≡ false → h.ever.ended g ≡ false
  on g runs = sym (ap (λ (e : Ever). e.ended g) ever) ∙ runs

  fit : RegistersFit z.arena after t
  fit g d lg ld runs = same ∙ c.registers g d lg ld (on g runs) ∙ ap (λ (e : Ever). reference_of h.place (e.register g d)) (sym ever) ∙ ap (λ (f : Place). reference_of f (after.ever.register g d)) (sym left.place) where
    same : t.registers g d ≡ s.registers g d
    same = elim (eqb_tells (z.arena.seat_of g) a) [
      | inl y ↦ alone.registers g d (record { of = (lg, y.1); goes_on = on g runs }) ld
      | inr n ↦ (step.others (z.arena.seat_of g) n.1).keeps.registers g d (lg, refl)
    ]

  goes-on : (g : ℕ) → g < z.arena.layout.goroutines → after.ever.ended g ≡ false → t.words (Cell.Scanned g) ≢ END
  goes-on g lg runs = elim (eqb_tells (z.arena.seat_of g) a) [
    | inl y ↦ alone.goes_on g (record { of = (lg, y.1); goes_on = on g runs })
    | inr n ↦ λ e. c.goes_on g lg (on g runs) (sym ((step.others (z.arena.seat_of g) n.1).keeps.stacks g (lg, refl)) ∙ e)
  ]

  goes-alone : IsBeside z.arena after t
  goes-alone = beside-lasts z.arena (here h s) after s t c (record {
    words = alone.words_are;
    place = left.place;
    types = ap (λ (e : Ever). e.type_of) ever;
    reach = λ n r. subst (λ (e : Ever). Reach e n) ever r;
    since = (step.others (suc a) (λ e. omega (arith, e))).keeps.since;
    known = (step.others (suc a) (λ e. omega (arith, e))).keeps.known;
    known_before = known-before;
    bases = bases-stay z a s t alone.went;
    extents = (step.others (suc a) (λ e. omega (arith, e))).keeps.known_extents;
    filling = filling;
    registers = fit;
    goes_on = goes-on;
  })

pub marking-alone-goes : KnownOfMoves → MarkingAloneGoesBeside
marking-alone-goes k z a h s t m good marking beside may ever alone =
    subst (λ (u : Words). Good z.arena (view (with_words h u)) → IsBeside z.arena (with_words h u) s → heap.May z.arena a (view (with_words h u)) m → (heap.moved z.arena a (with_words h u) m).ever ≡ h.ever →
    MarksAlone z a (with_words h u) (heap.moved z.arena a (with_words h u) m) s t → IsBeside z.arena (heap.moved z.arena a (with_words h u) m) t) beside.words
    (λ g c allowed same told. goes-alone k z a h s t m g marking c allowed same told) good beside may ever alone
