-- Each step of a processor beside marking, by what it does. The move over the heap is not told: where an object is made or a value written, a move that is told leaves the same words, values and places; and where a step leaves objects alone, so does every move by which it may come.
use Rattle.std.proofs.Common.{◌≡◌, ℕ, refl, sym, ap, subst, ◌∙◌, arith}
use Rattle.gh_cycle.proofs.Vocabulary.{alloc_words, Arena, Ask, birth_words, ClaimsSlot, ComesBy, Cycle, Deed, DeedsGoBeside, effect, Ever, Good, hand_behind, Hands, Heap, InHand, IsBeside, IsKnownObject, IsMade, IsSlotOf, KnownOfMoves, Marking, MeetsByDeed, Name, owner_at, page_words, Place, Placed, Reach, reference_of, row_bit, StepsBeside, view, Words}
use Rattle.gh_heap.specs.Moves as heap
use Rattle.gh_cycle.specs.Deeds as deed
use Rattle.gh_cycle.proofs.Going.Lasting.{beside-lasts}
use Rattle.gh_cycle.proofs.Going.Leaving.{leaves, LeavesObjects, made-there, stood}
use Rattle.gh_cycle.proofs.Going.Making.{makes}
use Rattle.gh_cycle.proofs.Going.Objects.{here}
use Rattle.gh_cycle.proofs.Going.Plain.{goes-quiet, GoesBeside, hand_after, IsPlain, there, Together}
use Rattle.gh_cycle.proofs.Going.Steps.{ends-goes, takes-value}
use Rattle.gh_cycle.proofs.Going.Writing.{writes, writes-global}
use Rattle.gh_cycle.proofs.Quiet.{with_words}

-- Two heaps with the same words, values and places: who holds a span its page says, so that each seat claims the same.
module _ (z : Arena) (h k : Heap) (t : Marking) (good : Good z (view h)) (well : Good z (view k)) (words : k.words ≡ h.words) (ever : k.ever ≡ h.ever) (place : k.place ≡ h.place) (c : IsBeside z h t) where
  same-claim : (o a : ℕ) → ClaimsSlot z (view h) a o → ClaimsSlot z (view k) a o
  same-claim o a l = record {
    size = l.size;
    claim = record {
      p = l.claim.p;
      h = l.claim.h;
      i = l.claim.i;
      held = (well.owners a l.claim.p).0 (ap (λ (u : Words). owner_at (page_words u) l.claim.p) words ∙ (good.owners a l.claim.p).1 l.claim.held);
      slot = subst (λ (u : Words). IsSlotOf z.layout.pages (page_words u) l.claim.p l.claim.h l.claim.i o l.size) (sym words) l.claim.slot;
      clear = ap (λ (u : Words). row_bit (alloc_words u) o) words ∙ l.claim.clear;
    };
  }

  same-object : (n : Name) → IsKnownObject k t n → IsKnownObject h t n
  same-object n o = record {
    made = subst (λ (e : Ever). IsMade e.made n) ever o.made;
    placed = subst (λ (f : Place). Placed (alloc_words h.words) (birth_words h.words) f n) place (subst (λ (u : Words). Placed (alloc_words u) (birth_words u) k.place n) words o.placed);
    known = ap (λ (f : Place). t.known (f n)) (sym place) ∙ o.known;
  }

  same-beside : IsBeside z k t
  same-beside = beside-lasts z h k t t c (record {
    words = c.words ∙ sym words;
    place = place;
    types = ap (λ (e : Ever). e.type_of) ever;
    reach = λ n r. subst (λ (e : Ever). Reach e n) ever r;
    since = λ o is. is;
    known = λ o is. is;
    known_before = same-object;
    bases = refl;
    extents = λ o is. record { size = refl; pointer = refl; noscan = refl };
    filling = λ o a is. same-claim o a (c.filling o a is);
    registers = λ g d lg ld runs. c.registers g d lg ld (sym (ap (λ (e : Ever). e.ended g) ever) ∙ runs) ∙ ap (λ (e : Ever). reference_of h.place (e.register g d)) (sym ever) ∙ ap (λ (f : Place). reference_of f (k.ever.register g d)) (sym place);
    goes_on = λ g lg runs. c.goes_on g lg (sym (ap (λ (e : Ever). e.ended g) ever) ∙ runs);
  })

module _ (k : KnownOfMoves) (z : Cycle) (a : ℕ) (h : Heap) (s : Marking) (w : Together z h s) (m : heap.Move) (may : heap.May z.arena a (view (here h s)) m) where
  abbrev after : Heap
  after = there z a h s m

  abbrev Steps : Deed → Type 0
  Steps d = StepsBeside z a (here h s) after s d

  steps-by : (d : Deed) (n : heap.Move) → GoesBeside z a (here h s) s n → ((t : Marking) → IsBeside z.arena (there z a h s n) t → IsBeside z.arena after t) → ((x : InHand) → hand_after n x ≡ hand_behind d x) → Steps d
  steps-by d n b same hand = record {
    then = b.then;
    went = b.went;
    beside = same b.then b.beside;
    hands = λ x has. subst (λ (y : InHand). Hands a b.then y) (hand x) (b.hands x has);
    marked = b.marked;
  }

  -- A move that is told leaves the same words, values and places.
  by-move : (d : Deed) (n : heap.Move) → heap.May z.arena a (view (here h s)) n → GoesBeside z a (here h s) s n → ((x : InHand) → hand_after n x ≡ hand_behind d x) →
      after.words ≡ (there z a h s n).words → after.ever ≡ (there z a h s n).ever → after.place ≡ (there z a h s n).place → Steps d
  by-move d n allowed goes hand words ever place =
      steps-by d n goes (λ t c. same-beside z.arena (there z a h s n) after t (k.heap_keeps z.arena a (here h s) n w.heap allowed) (k.heap_keeps z.arena a (here h s) m w.heap may) words ever place c) hand

  -- The step leaves objects alone.
  module _ (same : after.ever.made ≡ h.ever.made) (types : after.ever.type_of ≡ h.ever.type_of) where
    abbrev left : LeavesObjects z a h s m
    left = leaves z a h s m may same

    plain : IsPlain z a h s m
    plain = record { none = left.none; hand = left.hand; place = left.place; types = types; made = same; alloc = left.alloc }

    by-itself : (d : Deed) → ((x : InHand) → x ≡ hand_behind d x) → GoesBeside z a (here h s) s m → Steps d
    by-itself d hand b = grind arith

    -- and so does a move that is told
    by-other : (d : Deed) (n : heap.Move) → heap.May z.arena a (view (here h s)) n → GoesBeside z a (here h s) s n → ((x : InHand) → hand_after n x ≡ hand_behind d x) →
        after.words ≡ (there z a h s n).words → after.ever ≡ (there z a h s n).ever → (there z a h s n).place ≡ h.place → Steps d
    by-other d n allowed goes hand words ever place = by-move d n allowed goes hand words ever (left.place ∙ sym place)

  steps-go : (step : Ask) (d : Deed) → ComesBy z.arena (here h s) after step d → MeetsByDeed z a (here h s) s step d → Steps d
  steps-go step deed.Rests by meets =
      let made = ap (λ (e : Ever). e.made) by.ever in
      let types = ap (λ (e : Ever). e.type_of) by.ever in
      by-itself made types deed.Rests (λ x. refl)
      (goes-quiet k z a h s w m step may meets.0 (sym by.words) by.ever (plain made types) (stood z a h s m (left made types)) (λ o is. absurd (meets.1 o is)))
  steps-go step (deed.Sets g d value) by meets =
      let made = ap (λ (e : Ever). e.made) by.ever in
      let types = ap (λ (e : Ever). e.type_of) by.ever in
      by-itself made types (deed.Sets g d value) (λ x. refl)
      (takes-value k z a h s w m may step meets.0 g d value meets.2 meets.4 (plain made types) (sym by.words) by.ever (stood z a h s m (left made types)) (λ o is. absurd (meets.1 o is)))
  steps-go step (deed.Ends g) by meets =
      let ends : heap.May z.arena a (view (here h s)) (heap.Ends step g) = (subst (λ (t : Ask). heap.IsQuiet t) (sym meets.0) tt, meets.2) in
      by-other (ap (λ (e : Ever). e.made) by.ever) (ap (λ (e : Ever). e.type_of) by.ever) (deed.Ends g) (heap.Ends step g) ends (ends-goes k z a h s w step g ends meets.0) (λ x. refl) by.words by.ever refl
  steps-go step (deed.Makes at g d t) by meets = by-move (deed.Makes at g d t) (heap.Make at g d t) meets.2 (makes k z a h s w at g d t meets.2 meets.1) (λ x. refl) (by.words ∙ ap (effect s.words) meets.0) by.ever
      (made-there z a h s k.rows at g t meets.2.ready.claim.clear m (by.words ∙ ap (effect s.words) meets.0) (ap (λ (e : Ever). e.made) by.ever))
  steps-go step (deed.Puts n i value word) by meets = by-other (ap (λ (e : Ever). e.made) by.ever) (ap (λ (e : Ever). e.type_of) by.ever) (deed.Puts n i value word) (heap.Write n i value word) meets.2 (writes k z a h s w n i value word meets.2 meets.3) (λ x. refl) (by.words ∙ ap (effect s.words) meets.0) by.ever refl
  steps-go step (deed.PutsGlobal i value word) by meets = by-other (ap (λ (e : Ever). e.made) by.ever) (ap (λ (e : Ever). e.type_of) by.ever) (deed.PutsGlobal i value word) (heap.WriteGlobal i value word) meets.2 (writes-global k z a h s w i value word meets.2 meets.3 meets.4) (λ x. refl) (by.words ∙ ap (effect s.words) meets.0) by.ever refl

pub deeds-go : KnownOfMoves → DeedsGoBeside
deeds-go k z a h s m step d good marking bounded beside may by meets =
    subst (λ (u : Words). Good z.arena (view (with_words h u)) → IsBeside z.arena (with_words h u) s → heap.May z.arena a (view (with_words h u)) m →
    ComesBy z.arena (with_words h u) (heap.moved z.arena a (with_words h u) m) step d → MeetsByDeed z a (with_words h u) s step d → StepsBeside z a (with_words h u) (heap.moved z.arena a (with_words h u) m) s d) beside.words
    (λ g c allowed comes met. steps-go k z a h s (record { heap = g; marking = marking; bounded = bounded; beside = c }) m allowed step d comes met) good beside may by meets
