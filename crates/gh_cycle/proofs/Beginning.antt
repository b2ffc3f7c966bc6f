-- Where a cycle begins: the state of marking, made of what a script reaches.
use Rattle.std.proofs.Common.{◌≡◌, ℕ, ◌+◌, ◌-◌, ◌*◌, ◌%◌, ◌<◌, ◌≤◌, Bool, true, false, cond, ltb, Some, inl, inr, refl, sym, ap, subst, arith, ◌∙◌}
use Rattle.std.proofs.lemmas.Bool.{ltb-true, ltb-false}
use Rattle.gh_cycle.proofs.Vocabulary.{alloc_words, Arena, bit_at-zero, Cell, Cycle, CyclesOpen, Decided, END, eqb_tells, EverValue, Extents, from_field, from_global, from_register, Good, Heap, Holds, IsBounded, IsCycleOf, IsMade, IsOpened, IsPointer, IsReachedAt, IsSince, mark_words, Marking, Name, names, OpenedHeapsAreAtRest, OpenedRegistersFit, Opens, Place, PlacesAreDecided, points, Reach, reference_of, reference_to, register_for_marking, row_bit, shape_for, size_for, TheHeapIsApart, TheReachedWereMade, Untouched, view, White, Words, WordsAreAtRest}
use Rattle.gh_cycle.proofs.Said.{seen-since}

-- no bit is set in a row of words that are 0
no-bit : (o : ℕ) → row_bit (λ i. 0) o ≡ 0
unfolding row_bit
no-bit o = bit_at-zero (o % 64)

pub opened-at-rest : OpenedHeapsAreAtRest
opened-at-rest z trigger number h some same = record {
  marks = λ o. ap (λ (w : Words). row_bit (mark_words w) o) same ∙ no-bit o;
  buffers = λ b. ap (λ (w : Words). w (Cell.Buffer b)) same;
  cursor = ap (λ (w : Words). w Cell.Gcur) same;
  scanned = λ g. inl (subst (λ (n : ℕ). n < number) (sym (ap (λ (w : Words). w (Cell.Scanned g)) same)) some);
  over = λ g e. absurd (let zero = ap (λ (w : Words). w (Cell.Scanned g)) same in omega (arith, zero, e));
  none = λ i l. ap (λ (w : Words). w (Cell.Global i)) same;
}

-- a word of the heap names what the value names
pub names-it : (place : Place) (made : ℕ → ℕ) (v : EverValue) (word o : ℕ) → Holds place made true v word → word ≡ o + 1 → (n : Name) × (names v ≡ Some n) × (place n ≡ o)
names-it place made EverValue.Nil word o holds is = absurd (let zero = holds.1 in omega (arith, zero, is))
names-it place made (EverValue.Int i) word o holds is = absurd (let number = holds.0 in cc)
names-it place made (EverValue.Ref n) word o holds is = (n, refl, let at = holds.1 in omega (arith, at, is))

pub names-reference : (place : Place) (v : EverValue) (o : ℕ) → reference_of place v ≡ o + 1 → (n : Name) × (names v ≡ Some n) × (place n ≡ o)
names-reference place EverValue.Nil o is = absurd (omega (arith, is))
names-reference place (EverValue.Int i) o is = absurd (omega (arith, is))
names-reference place (EverValue.Ref n) o is = (n, refl, omega (arith, is))

-- and the reference of a value is that of what it names
pub reference-told : (place : Place) (v : EverValue) (n : Name) → names v ≡ Some n → reference_of place v ≡ reference_to place n
reference-told place EverValue.Nil n is = absurd (cc)
reference-told place (EverValue.Int i) n is = absurd (cc)
reference-told place (EverValue.Ref m) n is = let same : m ≡ n = cc in ap (reference_to place) same

module _ (z : Arena) (h : Heap) (g : Good z (view h)) (b : IsBounded z h.ever) (made : TheReachedWereMade) where
  pub is-made : (n : Name) → Reach h.ever n → IsMade h.ever.made n
  is-made = made z h.ever b

  -- what a pointer field of a known object names is known, in any state of marking of this heap
  pub fields-known : (s : Marking) → IsCycleOf z h s → (o k : ℕ) → s.known o ≡ true → IsPointer s.extents o k → IsSince s.known (h.words (Cell.Field (o + k)))
  fields-known s c o k is = let w = (c.known o).0 is in subst (λ (a : ℕ). IsPointer s.extents a k → IsSince s.known (h.words (Cell.Field (a + k)))) w.2 (at w.0 w.1) where
    at : (n : Name) → Reach h.ever n → IsPointer s.extents (h.place n) k → IsSince s.known (h.words (Cell.Field (h.place n + k)))
    at n r l x is =
        let within : k < size_for z.shapes h.ever.type_of n = subst (λ (i : ℕ). k < i) (c.size n r) l.0 in
        let pointer : points z.shapes h.ever.type_of n k ≡ true = sym (c.pointer n k r within) ∙ l.1 in
        let holds = subst (λ (t : Bool). Holds h.place h.ever.made t (h.ever.field n k) (h.words (Cell.Field (h.place n + k)))) pointer (g.fields n k (is-made n r) (g.reached n r) within) in
        let m = names-it h.place h.ever.made (h.ever.field n k) (h.words (Cell.Field (h.place n + k))) x holds is in
        (c.known x).1 (m.0, from_field n k m.0 r m.1, m.2)

  pub globals-known : (s : Marking) → IsCycleOf z h s → (i : ℕ) → i < z.layout.globals → IsSince s.known (h.words (Cell.Global i))
  globals-known s c i l x is =
      let m = names-it h.place h.ever.made (h.ever.global i) (h.words (Cell.Global i)) x (g.globals i l) is in
      (c.known x).1 (m.0, from_global i m.0 m.1, m.2)

  pub registers-known : (s : Marking) → IsCycleOf z h s → (j d : ℕ) → IsSince s.known (register_for_marking h j d)
  registers-known s c j d x = by (h.ever.ended j) refl where
    by : (t : Bool) → h.ever.ended j ≡ t → cond t 0 (reference_of h.place (h.ever.register j d)) ≡ x + 1 → s.known x ≡ true
    by true e is = absurd (omega (arith, is))
    by false e is =
        let m = names-reference h.place (h.ever.register j d) x is in
        (c.known x).1 (m.0, from_register j d m.0 e m.1, m.2)

module _ (z : Cycle) (h : Heap) (g : Good z.arena (view h)) (b : IsBounded z.arena h.ever) (rest : WordsAreAtRest z.arena z.number h) (made : TheReachedWereMade) (apart : TheHeapIsApart) (d : Decided (IsReachedAt h)) where
  no-name : Name
  no-name = record { g = 0; k = 0 }

  -- the name of the known object that is placed there
  name-by : (o : ℕ) (t : Bool) → d.test o ≡ t → Name
  name-by o true e = ((d.tells o).0 e).0
  name-by o false e = no-name

  abbrev name-at : ℕ → Name
  name-at o = name-by o (d.test o) refl

  name-is : (n : Name) → Reach h.ever n → name-at (h.place n) ≡ n
  unfolding name-by
  name-is n r = by (d.test (h.place n)) refl where
    by : (t : Bool) (e : d.test (h.place n) ≡ t) → name-by (h.place n) t e ≡ n
    by true e = let w = (d.tells (h.place n)).0 e in (apart z.arena (view h) g).once w.0 n (made z.arena h.ever b w.0 w.1) (made z.arena h.ever b n r) (g.reached w.0 w.1) (g.reached n r) w.2
    by false e = let w = (d.tells (h.place n)).1 (n, r, refl) in absurd (cc)

  abbrev extents : Extents
  extents = record {
    base = λ x. x;
    size = λ o. size_for z.arena.shapes h.ever.type_of (name-at o);
    pointer = λ o k. points z.arena.shapes h.ever.type_of (name-at o) k;
    noscan = λ o. (shape_for z.arena.shapes h.ever.type_of (name-at o)).noscan;
  }

  abbrev marking : Marking
  marking = record {
    words = h.words;
    registers = register_for_marking h;
    colour = λ o. White;
    filled = λ i. 0;
    progress = λ i. Untouched;
    passed = λ a. false;
    known = d.test;
    since = d.test;
    extents = extents;
  }

  of-heap : IsCycleOf z.arena h marking
  of-heap = grind (arith, name-is)

  -- all globals, those beyond the last one too
  globals : (i : ℕ) → IsSince d.test (h.words (Cell.Global i))
  globals i x is = by (ltb i z.arena.layout.globals) refl where
    by : (t : Bool) → ltb i z.arena.layout.globals ≡ t → d.test x ≡ true
    by true e = globals-known z.arena h g b made marking of-heap i (ltb-true _ _ e) x is
    by false e = absurd (omega (arith, rest.none i (ltb-false _ _ e), is))

  ended : (j c : ℕ) → h.words (Cell.Scanned j) ≡ END → register_for_marking h j c ≡ 0
  ended j c e = rw (rest.over j e) refl

  -- each known object has a slot, and that lies in the heap
  abbrev InHeap : (o size : ℕ) → Type 0
  InHeap o size = (o < 1024 * z.arena.layout.pages) × (size ≤ 1024 * z.arena.layout.pages)

  in-heap : (n : Name) → Reach h.ever n → InHeap (h.place n) (size_for z.arena.shapes h.ever.type_of n)
  in-heap n r =
      let x = g.slots n (is-made z.arena h g b made n r) (g.reached n r) in
      let size = size_for z.arena.shapes h.ever.type_of n in
      let lies = (apart z.arena (view h) g).inside x.p x.i (h.place n) size in
      let within = x.slot.span.within in
      let some = x.slot.span.fits.some in
      let at = x.slot.at in
      elim (eqb_tells size 0) [
        | inl y ↦ let none = y.1 in let same : x.i * size ≡ 0 = rw (none) (grind arith) in (omega (arith, at, same, within, some), omega (arith, none))
        | inr ne ↦
            let first = lies 0 x.h x.slot (omega (arith, ne.1)) in
            let last = lies (size - 1) x.h x.slot (omega (arith, ne.1)) in
            (omega (arith, first.1, within), omega (arith, last.0, last.1, ne.1, within))
      ]

  opens : Opens z marking
  opens = record {
    marks = rest.marks;
    white = λ o. refl;
    buffers = rest.buffers;
    filled = λ i. refl;
    cursor = rest.cursor;
    untouched = λ i. refl;
    passed = λ a. refl;
    scanned = rest.scanned;
    over = ended;
    below = λ o known. let w = (d.tells o).0 known in subst (λ (a : ℕ). a < 1024 * z.arena.layout.pages) w.2 (in-heap w.0 w.1).0;
    sizes = λ o known. let w = (d.tells o).0 known in subst (λ (a : ℕ). extents.size a ≤ 1024 * z.arena.layout.pages) w.2 (subst (λ (m : ℕ). m ≤ 1024 * z.arena.layout.pages) (sym (of-heap.size w.0 w.1)) (in-heap w.0 w.1).1);
    placed = λ o known. let w = (d.tells o).0 known in subst (λ (a : ℕ). row_bit (alloc_words h.words) a ≡ 1) w.2 (g.reached w.0 w.1).set;
    bases = λ o known. refl;
    of_cycle = λ o is. is;
    known_fields = λ o k known l. seen-since d.test (λ x. x) (λ x. refl) (h.words (Cell.Field (o + k))) (fields-known z.arena h g b made marking of-heap o k known l);
    fields = λ o k known l. seen-since d.test (λ x. x) (λ x. refl) (h.words (Cell.Field (o + k))) (fields-known z.arena h g b made marking of-heap o k known l);
    globals = λ i. seen-since d.test (λ x. x) (λ x. refl) (h.words (Cell.Global i)) (globals i);
    registers = registers-known z.arena h g b made marking of-heap;
  }

  opened : IsOpened z h
  opened = grind (arith, of-heap, opens)

pub cycles-open : PlacesAreDecided → TheReachedWereMade → TheHeapIsApart → CyclesOpen
cycles-open places made apart z h g b rest = opened z h g b rest made apart (places z.arena h b)

-- registers as they are where a cycle begins
pub registers-fit : OpenedRegistersFit
registers-fit z h s are g d lg ld runs = are g d ∙ ap (λ (t : Bool). cond t 0 (reference_of h.place (h.ever.register g d))) runs
