-- Steps beside marking by which a register takes a value, and the end of a goroutine.
use Rattle.std.proofs.Common.{◌≡◌, ◌≢◌, ℕ, ◌<◌, Bool, true, false, cond, eqb, refl, sym, ap, subst, ◌∙◌, inl, inr, arith}
use Rattle.gh_cycle.proofs.Vocabulary.{alloc_words, Ask, birth_words, Cell, ClaimsSlot, Cycle, effect, END, eqb_tells, Ever, EverValue, GoroutineRuns, Heap, IsReached, IsSince, KnownOfMoves, Marking, Name, nat_tests, Place, Placed, Placing, reference_of, RegistersFit, Row, TakesFrom, update_at, View, view, with_end, with_register}
use Rattle.gh_heap.specs.Moves as heap
use Rattle.gh_marks.specs.Moves as marks
use Rattle.gh_cycle.proofs.Quiet.{with_words, quiet_view}
use Rattle.gh_cycle.proofs.Beginning.{names-reference}
use Rattle.gh_cycle.proofs.Going.Coming.{comes, from-reached}
use Rattle.gh_cycle.proofs.Going.Objects.{here}
use Rattle.gh_cycle.proofs.Going.Plain.{along-quiet, goes-along, GoesAlong, GoesBeside, IsPlain, stacks-stay, there, Together}

quiet-with : (s : Marking) (registers : ℕ → Row) (step : Ask) → marks.IsQuietInMarking s step → marks.IsQuietInMarking (record s { registers = registers }) step
quiet-with s registers step quiet = grind arith

-- a register that takes a value, in both states
pub set-fits : (f : ℕ → Row) (e : Ever) (place : Place) (g d : ℕ) (value : EverValue) (j c : ℕ) → f j c ≡ reference_of place (e.register j c) → update_at f g d (reference_of place value) j c ≡ reference_of place ((with_register e g d value).register j c)
set-fits f e place g d value j c is = elim (eqb_tells g j) [
  | inr n ↦ let no : eqb j g ≡ false = grind (arith, nat_tests) in rw (n.0, no) is
  | inl y ↦
      let yes : eqb j g ≡ true = grind (arith, nat_tests) in
      elim (eqb_tells d c) [
        | inr m ↦ let no : eqb c d ≡ false = grind (arith, nat_tests) in rw (y.0, yes, m.0, no) is
        | inl x ↦ let also : eqb c d ≡ true = grind (arith, nat_tests) in rw (y.0, yes, x.0, also) refl
      ]
]

module _ (k : KnownOfMoves) (z : Cycle) (a : ℕ) (h : Heap) (s : Marking) (w : Together z h s) where
  -- what a reached value names is of the cycle
  pub reference-since : (value : EverValue) → IsReached h.ever value → IsSince s.since (reference_of h.place value)
  reference-since value reached o is =
      let m = names-reference h.place value o is in
      subst (λ (x : ℕ). s.since x ≡ true) m.2 (w.beside.reached m.0 (reached m.0 m.1))

  -- The seat's own claims, behind a step on a word that no right guards.
  module _ (step : Ask) (q : heap.IsQuiet step) where
    same-view : view (with_words (here h s) (effect s.words step)) ≡ view (here h s)
    same-view = quiet_view (here h s) step q

    same-placed : (n : Name) → Placed (alloc_words s.words) (birth_words (effect s.words step)) h.place n → Placed (alloc_words s.words) (birth_words s.words) h.place n
    same-placed n p = subst (λ (v : View). Placed (alloc_words s.words) v.birth h.place n) same-view p

    claims-stay : (o : ℕ) → s.colour o ≡ Placing a → ClaimsSlot z.arena (view (with_words (here h s) (effect s.words step))) a o
    claims-stay o is = subst (λ (v : View). ClaimsSlot z.arena v a o) (sym same-view) (w.beside.filling o a is)

    same-alloc : alloc_words (effect s.words step) ≡ alloc_words s.words
    same-alloc = ap (λ (v : View). v.alloc) same-view

  -- A register takes a value by such a step.
  module _ (m : heap.Move) (may : heap.May z.arena a (view (here h s)) m) (step : Ask) (mq : marks.IsQuietInMarking s step) (g d : ℕ) (value : EverValue) (runs : GoroutineRuns z.arena (view (here h s)) a g) (from : TakesFrom z.arena h.ever g value) where
    abbrev word : ℕ
    word = reference_of h.place value

    abbrev set : Marking
    set = marks.moved z a s (marks.SetRegister g d word)

    abbrev then : Marking
    then = marks.moved z a set (marks.Quiet step)

    may-set : marks.MaySetRegister z a s g word
    may-set = record {
      own = runs.of;
      goes_on = w.beside.goes_on g runs.of.0 runs.goes_on;
      comes = comes k.made z a h s w g runs value from;
      since = reference-since value (from-reached z.arena h.ever g runs.goes_on value from);
    }

    along : effect s.words step ≡ (there z a h s m).words → GoesAlong z a h s m then
    along words =
        let quiet = quiet-with s (update_at s.registers g d word) step mq in
        record {
          went = marks.goes set (marks.Quiet step) (marks.goes s (marks.SetRegister g d word) marks.stays may-set) quiet;
          words = words;
          since = refl;
          known = refl;
          extents = refl;
          colour = refl;
          marked = (along-quiet k z a h s w m step mq words).marked;
          hands = λ x is. (k.hands z a set x (k.keeps z a s (marks.SetRegister g d word) w.marking may-set) ((k.hands z a s x w.marking is).set g d word)).quiet step quiet;
        }

    pub takes-value : IsPlain z a h s m → effect s.words step ≡ (there z a h s m).words → (there z a h s m).ever ≡ with_register h.ever g d value →
        ((n : Name) → Placed (alloc_words s.words) (birth_words (there z a h s m).words) h.place n → Placed (alloc_words s.words) (birth_words s.words) h.place n) →
        ((o : ℕ) → s.colour o ≡ Placing a → ClaimsSlot z.arena (view (there z a h s m)) a o) → GoesBeside z a (here h s) s m
    takes-value plain words same placed own = goes-along k z a h s w m may plain then (along words) placed own fit goes_on where
      fit : RegistersFit z.arena (there z a h s m) then
      fit j c lj lc on =
          set-fits s.registers h.ever h.place g d value j c (w.beside.registers j c lj lc (sym (ap (λ e. e.ended j) same) ∙ on))
          ∙ ap (λ e. reference_of h.place (e.register j c)) (sym same)
          ∙ ap (λ f. reference_of f ((there z a h s m).ever.register j c)) (sym plain.place)

      goes_on : (j : ℕ) → j < z.arena.layout.goroutines → (there z a h s m).ever.ended j ≡ false → effect s.words step (Cell.Scanned j) ≢ END
      goes_on j l on ended = w.beside.goes_on j l (sym (ap (λ e. e.ended j) same) ∙ on) (sym (stacks-stay k z a h s w step mq j l) ∙ ended)

  abbrev ended-by : (g : ℕ) → Marking
  ended-by g = marks.moved z a s (marks.EndStack g)

  -- A goroutine ends: its registers name nothing then, and its stack's word says so.
  pub ends-goes : (step : Ask) (g : ℕ) → heap.May z.arena a (view (here h s)) (heap.Ends step g) → step ≡ Ask.Store (Cell.Scanned g) END → GoesBeside z a (here h s) s (heap.Ends step g)
  ends-goes step g may is = goes-along k z a h s w (heap.Ends step g) may (record { none = refl; hand = λ x. refl; place = refl; types = refl; made = refl; alloc = same-alloc step may.0 }) (ended-by g) (record {
    went = marks.goes s (marks.EndStack g) marks.stays may.1.of;
    words = ap (effect s.words) (sym is);
    since = refl;
    known = refl;
    extents = refl;
    colour = refl;
    marked = λ o set. set;
    hands = λ x has. (k.hands z a s x w.marking has).ended g;
  }) (same-placed step may.0) claims fit goes_on where
    claims : (o : ℕ) → s.colour o ≡ Placing a → ClaimsSlot z.arena (view (there z a h s (heap.Ends step g))) a o
    claims o set = let c = claims-stay step may.0 o set in record { size = c.size; claim = c.claim }

    -- it is another that goes on
    other : (j : ℕ) → (with_end h.ever g).ended j ≡ false → (eqb g j ≡ false) × (h.ever.ended j ≡ false)
    other j on = elim (eqb_tells g j) [
      | inl y ↦ let yes : eqb j g ≡ true = grind (arith, nat_tests) in absurd (let t : cond true true (h.ever.ended j) ≡ false = subst (λ (b : Bool). cond b true (h.ever.ended j) ≡ false) yes on in cc)
      | inr n ↦ let no : eqb j g ≡ false = grind (arith, nat_tests) in (n.0, subst (λ (b : Bool). cond b true (h.ever.ended j) ≡ false) no on)
    ]

    fit : RegistersFit z.arena (there z a h s (heap.Ends step g)) (ended-by g)
    fit j c lj lc on = let o = other j on in rw (o.0) (w.beside.registers j c lj lc o.1)

    goes_on : (j : ℕ) → j < z.arena.layout.goroutines → (there z a h s (heap.Ends step g)).ever.ended j ≡ false → (ended-by g).words (Cell.Scanned j) ≢ END
    goes_on j l on e = let o = other j on in w.beside.goes_on j l o.1 (rw (o.0) at e)
