-- Fields and globals take values beside marking: pointers behind the write barrier, and a number where no object that is known has a pointer field.
use Rattle.std.proofs.Common.{◌≡◌, ◌≢◌, ℕ, ◌+◌, Bool, true, false, refl, subst, arith}
use Rattle.gh_cycle.proofs.Vocabulary.{Ask, Cell, ClaimsSlot, Cycle, EverValue, Hands, Heap, Holds, InHand, IsClean, IsKnownObject, IsPointer, IsReached, IsSince, KnownOfMoves, Marking, Name, Placing, points, put, view, seen_field, seen_global, seen_word}
use Rattle.gh_heap.specs.Moves as heap
use Rattle.gh_marks.specs.Moves as marks
use Rattle.gh_cycle.proofs.Said.{seen-since}
use Rattle.gh_cycle.proofs.Beginning.{names-it}
use Rattle.gh_cycle.proofs.Going.Objects.{here, name-at}
use Rattle.gh_cycle.proofs.Going.Plain.{goes-along, GoesAlong, GoesBeside, there, Together}

module _ (k : KnownOfMoves) (z : Cycle) (a : ℕ) (h : Heap) (s : Marking) (w : Together z h s) where
  -- a word that holds a reached value names what is of the cycle
  word-since : (value : EverValue) (word : ℕ) → IsReached h.ever value → Holds h.place h.ever.made true value word → IsSince s.since word
  word-since value word reached holds o is =
      let m = names-it h.place h.ever.made value word o holds is in
      subst (λ (x : ℕ). s.since x ≡ true) m.2 (w.beside.reached m.0 (reached m.0 m.1))

  -- what the seat claims it claims still: neither pages nor alloc bits change
  abbrev Claimed : heap.Move → Type 0
  Claimed m = (o : ℕ) → s.colour o ≡ Placing a → ClaimsSlot z.arena (view (there z a h s m)) a o

  module _ (n : Name) (i : ℕ) (value : EverValue) (word : ℕ) (may : heap.May z.arena a (view (here h s)) (heap.Write n i value word)) where
    abbrev x : ℕ
    x = h.place n + i

    -- a pointer is written behind the write barrier
    abbrev Barrier : Type 0
    Barrier = points z.arena.shapes h.ever.type_of n i ≡ true → IsClean s.colour (seen_field s x) × IsClean s.colour (seen_word s.extents.base word)

    abbrev written : Marking
    written = record s { words = put s.words (Cell.Field x) word }

    -- a field that is no pointer is no pointer field of an object that is known
    aside : points z.arena.shapes h.ever.type_of n i ≡ false → (o j : ℕ) → s.known o ≡ true → IsPointer s.extents o j → x ≢ o + j
    aside number o j known =
        let m = name-at z h s w.heap w.marking o known in
        subst (λ (y : ℕ). IsPointer s.extents y j → x ≢ y + j) m.at (from m.name m.of) where
          from : (m : Name) → IsKnownObject (here h s) s m → IsPointer s.extents (h.place m) j → x ≢ h.place m + j
          from m of l = grind arith

    along : marks.Went z a s written → ((y : InHand) → Hands a s y → Hands a written y) → GoesAlong z a h s (heap.Write n i value word) written
    along went hands = record { went = went; words = refl; since = refl; known = refl; extents = refl; colour = refl; marked = λ o is. is; hands = hands }

    along-by : (b : Bool) → points z.arena.shapes h.ever.type_of n i ≡ b → Barrier → GoesAlong z a h s (heap.Write n i value word) written
    along-by true e meets = along (marks.goes s (marks.PutField x word) marks.stays behind) (λ y is. (k.hands z a s y w.marking is).put_field x word) where
      behind : marks.BehindBarrier s (seen_field s x) (seen_word s.extents.base word)
      behind = record { old = (meets e).0; new = (meets e).1; since = seen-since s.since s.extents.base w.beside.base word (word-since value word may.value_reached (subst (λ (p : Bool). Holds h.place h.ever.made p value word) e may.holds)) }
    along-by false e meets = along (marks.goes s (marks.Quiet (Ask.Store (Cell.Field x) word)) marks.stays (aside e)) (λ y is. (k.hands z a s y w.marking is).quiet (Ask.Store (Cell.Field x) word) (aside e))

    pub writes : Barrier → GoesBeside z a (here h s) s (heap.Write n i value word)
    writes meets = goes-along k z a h s w (heap.Write n i value word) may (record { none = refl; hand = λ y. refl; place = refl; types = refl; made = refl; alloc = refl }) written (along-by (points z.arena.shapes h.ever.type_of n i) refl meets) (λ m p. p) claims w.beside.registers w.beside.goes_on where
      claims : Claimed (heap.Write n i value word)
      claims o is = let c = w.beside.filling o a is in record { size = c.size; claim = c.claim }

  pub writes-global : (i : ℕ) (value : EverValue) (word : ℕ) → heap.May z.arena a (view (here h s)) (heap.WriteGlobal i value word) → IsClean s.colour (seen_global s i) → IsClean s.colour (seen_word s.extents.base word) → GoesBeside z a (here h s) s (heap.WriteGlobal i value word)
  writes-global i value word may old new = goes-along k z a h s w (heap.WriteGlobal i value word) may (record { none = refl; hand = λ y. refl; place = refl; types = refl; made = refl; alloc = refl }) (marks.moved z a s (marks.PutGlobal i word)) (record {
    went = marks.goes s (marks.PutGlobal i word) marks.stays (record { old = old; new = new; since = seen-since s.since s.extents.base w.beside.base word (word-since value word may.value_reached may.holds) });
    words = refl;
    since = refl;
    known = refl;
    extents = refl;
    colour = refl;
    marked = λ o is. is;
    hands = λ y is. (k.hands z a s y w.marking is).put_global i word;
  }) (λ m p. p) claims w.beside.registers w.beside.goes_on where
    claims : Claimed (heap.WriteGlobal i value word)
    claims o is = let c = w.beside.filling o a is in record { size = c.size; claim = c.claim }
