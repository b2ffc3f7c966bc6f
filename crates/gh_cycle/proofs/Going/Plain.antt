-- A move over the heap that makes no object leaves the two states together, if marking goes along with it; and so it does by a quiet step.
use Rattle.std.proofs.Common.{◌≡◌, ◌≢◌, ℕ, ◌<◌, false, refl, sym, ap, subst, ◌∙◌, inl, inr, None}
use Rattle.gh_cycle.proofs.Vocabulary.{alloc_words, Ask, birth_words, Cell, ClaimsSlot, Cycle, effect, END, eqb_tells, Good, Hands, Heap, InHand, IsBeside, IsBounded, IsMade, HasMark, KnownOfMoves, mark_words, Marking, MarkingGood, Name, name_made, Placed, Placing, Reach, reference_of, RegistersFit, Row, view}
use Rattle.gh_heap.specs.Moves as heap
use Rattle.gh_marks.specs.Moves as marks
use Rattle.gh_cycle.proofs.Going.Lasting.{beside-lasts}
use Rattle.gh_cycle.proofs.Going.Objects.{here}

-- what the seat has in hand behind its move: a slot is filled with the object
abbrev pub hand_after : heap.Move → InHand → InHand
hand_after (heap.Make at g d t) hand = record hand { placing = None }
hand_after _ hand = hand

-- The move is made of moves of marking, and the two states belong together behind it.
pub record GoesBeside (z : Cycle) (a : ℕ) (h : Heap) (s : Marking) (m : heap.Move) : Type 0 where
  pub then : Marking
  pub went : marks.Went z a s then
  pub beside : IsBeside z.arena (heap.moved z.arena a h m) then
  pub hands : (hand : InHand) → Hands a s hand → Hands a then (hand_after m hand)
  -- no mark is cleared
  pub marked : (o : ℕ) → HasMark (mark_words s.words) o → HasMark (mark_words then.words) o

-- the heap behind a move of this seat
abbrev pub there : Cycle → (a : ℕ) → Heap → Marking → heap.Move → Heap
there z a h s m = heap.moved z.arena a (here h s) m

-- the move makes no object, and fills no slot
pub record IsPlain (z : Cycle) (a : ℕ) (h : Heap) (s : Marking) (m : heap.Move) : Type 0 where
  pub none : name_made h.ever m ≡ None
  pub hand : (x : InHand) → hand_after m x ≡ x
  pub place : (there z a h s m).place ≡ h.place
  pub types : (there z a h s m).ever.type_of ≡ h.ever.type_of
  pub made : (there z a h s m).ever.made ≡ h.ever.made
  pub alloc : alloc_words (there z a h s m).words ≡ alloc_words s.words

-- what stands in both states together, for all proofs here
pub record Together (z : Cycle) (h : Heap) (s : Marking) : Type 0 where
  pub heap : Good z.arena (view (here h s))
  pub marking : MarkingGood z s
  pub bounded : IsBounded z.arena h.ever
  pub beside : IsBeside z.arena (here h s) s

-- marking goes along with the move
pub record GoesAlong (z : Cycle) (a : ℕ) (h : Heap) (s : Marking) (m : heap.Move) (t : Marking) : Type 0 where
  pub went : marks.Went z a s t
  pub words : t.words ≡ (there z a h s m).words
  pub since : t.since ≡ s.since
  pub known : t.known ≡ s.known
  pub extents : t.extents ≡ s.extents
  pub colour : t.colour ≡ s.colour
  pub marked : (o : ℕ) → HasMark (mark_words s.words) o → HasMark (mark_words t.words) o
  pub hands : (x : InHand) → Hands a s x → Hands a t x

-- the slots that others fill they claim still
pub fills-still : KnownOfMoves → (z : Cycle) (a : ℕ) (h : Heap) (s : Marking) → Good z.arena (view (here h s)) → IsBeside z.arena (here h s) s → (m : heap.Move) → heap.May z.arena a (view (here h s)) m →
    (o b : ℕ) → b ≢ a → s.colour o ≡ Placing b → ClaimsSlot z.arena (view (there z a h s m)) b o
fills-still k z a h s g c m may o b ne is =
    let d = c.filling o b is in
    record { size = d.size; claim = (k.heap_facts z.arena b (view (here h s)) (view (there z a h s m)) (k.heap_leaves z.arena b a (here h s) m ne g may)).claim o d.size d.claim }

module _ (k : KnownOfMoves) (z : Cycle) (a : ℕ) (h : Heap) (s : Marking) (w : Together z h s) where
  pub reaches-no-more : (m : heap.Move) → heap.May z.arena a (view (here h s)) m → name_made h.ever m ≡ None → (n : Name) → Reach (there z a h s m).ever n → Reach h.ever n
  reaches-no-more m may none n r = elim (k.reaches z.arena a (here h s) m may n r) [ inl was ↦ was | inr new ↦ absurd (cc (none, new)) ]

  -- and those that the seat fills, if it claims them still
  pub all-fill : (m : heap.Move) → heap.May z.arena a (view (here h s)) m → ((o : ℕ) → s.colour o ≡ Placing a → ClaimsSlot z.arena (view (there z a h s m)) a o) → (o b : ℕ) → s.colour o ≡ Placing b → ClaimsSlot z.arena (view (there z a h s m)) b o
  all-fill m may own o b is = elim (eqb_tells b a) [
    | inl y ↦ subst (λ (i : ℕ). ClaimsSlot z.arena (view (there z a h s m)) i o) (sym y.1) (own o (is ∙ ap Placing y.1))
    | inr n ↦ fills-still k z a h s w.heap w.beside m may o b n.1 is
  ]

  module _ (m : heap.Move) (may : heap.May z.arena a (view (here h s)) m) (p : IsPlain z a h s m) (t : Marking) (g : GoesAlong z a h s m t) where
    pub goes-along : ((n : Name) → Placed (alloc_words s.words) (birth_words (there z a h s m).words) h.place n → Placed (alloc_words s.words) (birth_words s.words) h.place n) →
        ((o : ℕ) → s.colour o ≡ Placing a → ClaimsSlot z.arena (view (there z a h s m)) a o) → RegistersFit z.arena (there z a h s m) t →
        ((j : ℕ) → j < z.arena.layout.goroutines → (there z a h s m).ever.ended j ≡ false → t.words (Cell.Scanned j) ≢ END) → GoesBeside z a (here h s) s m
    goes-along placed own fit goes_on = record {
      then = t;
      went = g.went;
      beside = beside-lasts z.arena (here h s) (there z a h s m) s t w.beside (record {
        words = g.words;
        place = p.place;
        types = p.types;
        reach = reaches-no-more m may p.none;
        since = λ o is. ap (λ f. f o) g.since ∙ is;
        known = λ o is. ap (λ f. f o) g.known ∙ is;
        known_before = λ n o. record {
          made = subst (λ (f : ℕ → ℕ). IsMade f n) p.made o.made;
          placed = placed n (subst (λ (f : Name → ℕ). Placed (alloc_words s.words) (birth_words (there z a h s m).words) f n) p.place (subst (λ (r : Row). Placed r (birth_words (there z a h s m).words) (there z a h s m).place n) p.alloc o.placed));
          known = sym (ap (λ f. f (h.place n)) g.known) ∙ ap t.known (sym (ap (λ f. f n) p.place)) ∙ o.known;
        };
        bases = ap (λ e. e.base) g.extents;
        extents = λ o is. record { size = ap (λ e. e.size o) g.extents; pointer = ap (λ e. e.pointer o) g.extents; noscan = ap (λ e. e.noscan o) g.extents };
        filling = λ o b is. all-fill m may own o b (sym (ap (λ f. f o) g.colour) ∙ is);
        registers = fit;
        goes_on = goes_on;
      });
      hands = λ x is. subst (λ y. Hands a t y) (sym (p.hand x)) (g.hands x is);
      marked = g.marked;
    }

  -- A quiet step leaves the words of stacks, whosever they are.
  pub stacks-stay : (step : Ask) → marks.IsQuietInMarking s step → (j : ℕ) → j < z.arena.layout.goroutines → effect s.words step (Cell.Scanned j) ≡ s.words (Cell.Scanned j)
  stacks-stay step q j l = elim (eqb_tells (z.arena.seat_of j) a) [
    | inl y ↦ (k.own z a s (marks.Quiet step) w.marking q tt).stacks j (l, y.1)
    | inr n ↦ (k.leaves z (z.arena.seat_of j) a s (marks.Quiet step) n.1 w.marking q).keeps.stacks j (l, refl)
  ]

  -- so marking goes along with it
  pub along-quiet : (m : heap.Move) (step : Ask) → marks.IsQuietInMarking s step → effect s.words step ≡ (there z a h s m).words → GoesAlong z a h s m (marks.moved z a s (marks.Quiet step))
  along-quiet m step q words = record {
    went = marks.goes s (marks.Quiet step) marks.stays q;
    words = words;
    since = refl;
    known = refl;
    extents = refl;
    colour = refl;
    marked = (k.own z a s (marks.Quiet step) w.marking q tt).marks;
    hands = λ x is. (k.hands z a s x w.marking is).quiet step q;
  }

  -- and with a move by such a step that leaves the heap that never frees
  pub goes-quiet : (m : heap.Move) (step : Ask) → heap.May z.arena a (view (here h s)) m → marks.IsQuietInMarking s step → effect s.words step ≡ (there z a h s m).words → (there z a h s m).ever ≡ h.ever → IsPlain z a h s m →
      ((n : Name) → Placed (alloc_words s.words) (birth_words (there z a h s m).words) h.place n → Placed (alloc_words s.words) (birth_words s.words) h.place n) →
      ((o : ℕ) → s.colour o ≡ Placing a → ClaimsSlot z.arena (view (there z a h s m)) a o) → GoesBeside z a (here h s) s m
  goes-quiet m step may q words same plain placed own = goes-along m may plain (marks.moved z a s (marks.Quiet step)) (along-quiet m step q words) placed own fit goes_on where
    fit : RegistersFit z.arena (there z a h s m) (marks.moved z a s (marks.Quiet step))
    fit g d lg ld runs = w.beside.registers g d lg ld (sym (ap (λ e. e.ended g) same) ∙ runs) ∙ ap (λ e. reference_of h.place (e.register g d)) (sym same) ∙ ap (λ f. reference_of f ((there z a h s m).ever.register g d)) (sym plain.place)

    goes_on : (j : ℕ) → j < z.arena.layout.goroutines → (there z a h s m).ever.ended j ≡ false → effect s.words step (Cell.Scanned j) ≢ END
    goes_on j l runs ended = w.beside.goes_on j l (sym (ap (λ e. e.ended j) same) ∙ runs) (sym (stacks-stay step q j l) ∙ ended)
