-- The making's own steps are moves that its rights allow, and what it knows lasts. Of the heap and of its routines it is known what their laws say.
use Rattle.std.proofs.Common.{◌≡◌, ℕ, ◌+◌, ◌*◌, ◌/◌, ◌%◌, ◌^◌, ◌<◌, Bool, true, false, cond, eqb, ltb, nat_le, inl, inr, Option, Some, None, is_none, refl, sym, ap, subst, ◌∙◌, arith, eq-eqb, ltb-true, ltb-false}
use Rattle.gh_alloc.proofs.Vocabulary.{Alloc, Arena, Birth, birth_word, bit, Bits, Cell, cell_of, Claims, Clear, ClearField, Count, EachRightFollows, eqb_tells, filled, Good, GoroutineRuns, InRange, IsFull, landing, LoadTrigger, made, Make, makes_its_object_at, Mark, May, moved, Others, owner_at, owner_in, page_of, placed_at, PlaceStage, Placing, Quiet, Right, Row, row_bit, RowsAreWritten, SetBirth, Shared, size_class_of, SizeClass, slot_count, slot_size, SpanHead, Steps, TheHeapIsApart, update, View, view}
use Rattle.gh_base.specs.declared.limits.TheConstants.{MOST_STATEMENTS}
use Rattle.gh_base.specs.declared.pack.PageWord.{PageWord}
use Rattle.gh_model.specs.Ever.{field_count, next_name, same_name}
use Rattle.gh_bitmap.specs.Facts as bits
use Rattle.gh_bitmap.specs.SetPointers as setter
use Rattle.gh_central.specs.GiveBack.{SpanGiving}
use Rattle.gh_central.specs.GiveFacts as giving
use Rattle.gh_alloc.specs.declared.place.PlaceStage.TheVariants.{Give, Ended}
use Rattle.gh_alloc.specs.Place.{asks, asks_at, at_stage, given, given_at, goes}
use Rattle.gh_alloc.specs.PlaceFacts.{Born, Changes, Comes, CountsAlone, FactsAt, FieldsClear, Filled, For, GivesUp, IsItsSpan, Lasts, Made, Opens, OwnStep, PlacesByItsRights, Unmade, Within, base, held_by, setting_at_stage}
use Rattle.gh_base.specs.Shapes.{is_pointer, shape_at}
use Rattle.gh_base.specs.declared.value.Name.{Name}
use Rattle.gh_bitmap.specs.declared.set_pointers.SetStage.{SetStage}
use Rattle.gh_base.specs.declared.shape.Shape.{Shape}

pub record Known : Type 0 where
  pub rows : RowsAreWritten
  pub follow : EachRightFollows
  pub bits : bits.SetsByItsRights
  pub give : giving.GivesByItsRights
  pub apart : TheHeapIsApart

opens : Opens
opens z a v f p unmade stage = subst (λ (q : PlaceStage). FactsAt z a v f (base p) q) (sym stage) (at-base unmade, unmade.places.some, λ j lt. absurd (omega arith)) where
  at-base : Unmade z a v f p → Unmade z a v f (base p)
  at-base u = record {
    places = record { shape = u.places.shape; slot = u.places.slot; fits = u.places.fits; some = u.places.some; register = u.places.register; type = u.places.type };
    runs = u.runs;
    few = u.few;
    name = u.name;
    claim = u.claim;
    class = u.class;
    noscan = u.noscan;
    own = u.own;
  }

-- What is known lasts.

runs-last : (z : Arena) (a : ℕ) (v w : View) (g : ℕ) → Others z a v w → GoroutineRuns z v a g → GoroutineRuns z w a g
runs-last z a v w g o r = grind arith

unmade-lasts : (z : Arena) (a : ℕ) (v w : View) (f : For) (p : Placing) → Others z a v w → Unmade z a v f p → Unmade z a w f p
unmade-lasts z a v w f p o u = record {
  places = u.places;
  runs = runs-last z a v w f.g o u.runs;
  few = subst (λ (n : ℕ). n < MOST_STATEMENTS) (sym (o.counts f.g u.runs.of)) u.few;
  name = u.name ∙ ap (λ (n : ℕ). named f.g n) (sym (o.counts f.g u.runs.of));
  claim = record {
    p = u.claim.p;
    h = u.claim.h;
    i = u.claim.i;
    held = o.holds u.claim.p ∙ u.claim.held;
    slot = record { span = o.spans u.claim.p u.claim.h u.claim.held u.claim.slot.span; inside = u.claim.slot.inside; size_is = u.claim.slot.size_is; at = u.claim.slot.at };
    clear = o.claims p.at p.slot u.claim;
  };
  class = u.class;
  noscan = u.noscan;
  own = u.own;
} where
  named : (g k : ℕ) → Name
  named g k = record { g = g; k = k }

born-lasts : (z : Arena) (a : ℕ) (v w : View) (f : For) (p : Placing) → Others z a v w → Unmade z a v f p → Born v p → Born w p
born-lasts z a v w f p o u b = record { fields = λ j lt. o.fields p.at p.slot j u.claim lt ∙ b.fields j lt; birth = o.births p.at p.slot u.claim ∙ b.birth }

filled-lasts : (z : Arena) (a : ℕ) (v w : View) (f : For) (p : Placing) → Others z a v w → Filled z a v f p → Filled z a w f p
filled-lasts z a v w f p o x = (unmade-lasts z a v w f p o x.0, born-lasts z a v w f p o x.0 x.1, λ j few low. o.pointers p.at p.slot j x.0.claim few ∙ x.2 j few low)

made-lasts : (z : Arena) (a : ℕ) (v w : View) (p : Placing) → Others z a v w → Made v p → Made w p
made-lasts z a v w p o m = record { made = o.made p.name m.made; at = o.places p.name m.made ∙ m.at }

gives-last : Known → (z : Arena) (a : ℕ) (v w : View) (p : Placing) (g : SpanGiving) → Others z a v w → GivesUp z a v p g → GivesUp z a w p g
gives-last k z a v w p g o x = record {
  head = x.head;
  span = x.span;
  back = record {
    stage = x.back.stage;
    h = x.back.h;
    head = o.heads g.page x.back.h x.back.held x.back.head;
    same = x.back.same;
    held = o.holds g.page ∙ x.back.held;
    number = x.back.number ∙ sym o.generation;
  };
  large = x.large;
  full = λ i few. o.bits g.page i x.back.h x.back.head x.back.number few (x.full i few);
  page = x.page;
}

stage-lasts : Known → (z : Arena) (a : ℕ) (v w : View) (f : For) (p : Placing) (q : PlaceStage) → Good z v → Others z a v w → FactsAt z a v f p q → FactsAt z a w f p q
stage-lasts k z a v w f p (Clear i) good o x = (unmade-lasts z a v w f p o x.0, x.1, λ j lt. o.fields p.at p.slot j x.0.claim (omega (arith, x.1)) ∙ x.2 j lt)
stage-lasts k z a v w f p Birth good o x = (unmade-lasts z a v w f p o x.0, λ j lt. o.fields p.at p.slot j x.0.claim lt ∙ x.1 j lt)
stage-lasts k z a v w f p (Bits s) good o x = (unmade-lasts z a v w f p o x.0, born-lasts z a v w f p o x.0 x.1, x.2, k.bits.lasts z a v w s o x.3)
stage-lasts k z a v w f p Mark good o x = filled-lasts z a v w f p o x
stage-lasts k z a v w f p Alloc good o x = filled-lasts z a v w f p o x
stage-lasts k z a v w f p (Give g) good o x = (made-lasts z a v w p o x.0, gives-last k z a v w p g o x.1)
stage-lasts k z a v w f p Count good o x = made-lasts z a v w p o x
stage-lasts k z a v w f p (LoadTrigger bytes) good o x = made-lasts z a v w p o x
stage-lasts k z a v w f p (Ended wants) good o x = x

lasts : Known → Lasts
lasts k z a v w f p good o x = stage-lasts k z a v w f (base p) p.stage good o x

-- The own steps.

-- rows of the slot are written, and it is unmade yet
unmade-rows : (z : Arena) (a : ℕ) (v : View) (f : For) (p : Placing) (field birth bitmap : Row) → Unmade z a v f p → Unmade z a (record v { field = field; birth = birth; bitmap = bitmap }) f p
unmade-rows z a v f p field birth bitmap u = record {
  places = u.places;
  runs = record { of = u.runs.of; goes_on = u.runs.goes_on };
  few = u.few;
  name = u.name;
  claim = u.claim;
  class = u.class;
  noscan = u.noscan;
  own = u.own;
}

put-here : (i v w : ℕ) → cond (eqb i i) v w ≡ v
put-here i v w = ap (λ (b : Bool). cond b v w) (eq-eqb i i refl)

same-name : (n : Name) → same_name n n ≡ true
same-name n = rw (eq-eqb n.g n.g refl, eq-eqb n.k n.k refl) refl

module _ (k : Known) (z : Arena) (a : ℕ) (s : Shared) (f : For) (held : ℕ → Bool) (p : Placing) where
  abbrev now : View
  now = view s

  abbrev Knows : PlaceStage → Type 0
  Knows q = FactsAt z a now f (base p) q

  -- what the step at this stage comes to
  abbrev Goes : PlaceStage → Shared → Type 0
  Goes q t = Changes z f (at_stage p q) (makes_its_object_at q) now (view t) × Comes z a (view t) f held (given (goes (at_stage p q) (s.words (cell_of (asks z.layout (at_stage p q)))))) (goes (at_stage p q) (s.words (cell_of (asks z.layout (at_stage p q))))) × CountsAlone q s t

  abbrev Step : PlaceStage → Type 0
  Step q = Steps z a s (asks z.layout (at_stage p q)) (Goes q)

  clear : (i : ℕ) → Right a now false held None → Knows (Clear i) → Step (Clear i)
  clear i right x = record {
    move = ClearField p.at p.slot i;
    may = (x.0.claim, x.1);
    words_are = refl;
    after = ((refl, refl), go (ltb (i + 1) p.slot) refl, tt);
  } where
    t : Shared
    t = moved z a s (ClearField p.at p.slot i)

    right-then : Right a (view t) false held None
    right-then = (k.follow z a s false held None right).cleared p.at p.slot i

    unmade : Unmade z a (view t) f (base p)
    unmade = unmade-rows z a now f (base p) (view t).field (view t).birth (view t).bitmap x.0

    fields : FieldsClear (view t).field p.at (i + 1)
    fields j lt = elim (eqb_tells (p.at + i) (p.at + j)) [ inl y ↦ ap (λ (b : Bool). cond b 0 (now.field (p.at + j))) y.0 | inr n ↦ ap (λ (b : Bool). cond b 0 (now.field (p.at + j))) n.0 ∙ x.2 j (omega (arith, n.1)) ]

    go : (b : Bool) → ltb (i + 1) p.slot ≡ b → Comes z a (view t) f held (given_at (cond b (Clear (i + 1)) Birth)) (at_stage p (cond b (Clear (i + 1)) Birth))
    go true e = (right-then, (unmade, ltb-true (i + 1) p.slot e, fields))
    go false e = (right-then, (unmade, λ j lt. fields j (omega (arith, ltb-false (i + 1) p.slot e))))

  birth : Right a now false held None → Knows Birth → Step Birth
  birth right x = record {
    move = SetBirth p.at p.slot p.name;
    may = x.0.claim;
    words_are = refl;
    after = ((refl, refl), (right-then, (unmade, born, refl, k.bits.opens z a (view t) (setting_at_stage p (SetStage.Clear (p.at / 64))) x.0.places.fits unmade.claim x.0.places.some refl)), tt);
  } where
    t : Shared
    t = moved z a s (SetBirth p.at p.slot p.name)

    right-then : Right a (view t) false held None
    right-then = (k.follow z a s false held None right).named p.at p.slot p.name

    unmade : Unmade z a (view t) f (base p)
    unmade = unmade-rows z a now f (base p) (view t).field (view t).birth (view t).bitmap x.0

    born : Born (view t) (base p)
    born = record { fields = x.1; birth = put-here p.at (birth_word p.name) (now.birth p.at) }

  -- the bits are set, and it goes on to the mark or to the alloc bit
  filled-then : (t : Shared) → Right a (view t) false held None → Filled z a (view t) f (base p) → (marking : Bool) → Comes z a (view t) f held (given_at (filled marking)) (at_stage p (filled marking))
  filled-then t right x marking = grind arith

  -- what its routine comes to
  bits-then : (t : Shared) → Unmade z a now f (base p) → Born now (base p) → view t ≡ record now { bitmap = (view t).bitmap } → Right a (view t) false held None → (q : SetStage) → bits.Comes z a (view t) (setter.given_at q) (setting_at_stage p q) →
      Comes z a (view t) f held (given_at (cond (is_none (setter.given_at q)) (Bits (setting_at_stage p q)) (filled p.marking))) (at_stage p (cond (is_none (setter.given_at q)) (Bits (setting_at_stage p q)) (filled p.marking)))
  bits-then t u born e right q x = go q x where
    unmade : Unmade z a (view t) f (base p)
    unmade = subst (λ (w : View). Unmade z a w f (base p)) (sym e) (unmade-rows z a now f (base p) now.field now.birth (view t).bitmap u)

    named : Born (view t) (base p)
    named = subst (λ (w : View). Born w (base p)) (sym e) (record { fields = born.fields; birth = born.birth })

    go : (q : SetStage) → bits.Comes z a (view t) (setter.given_at q) (setting_at_stage p q) → Comes z a (view t) f held (given_at (cond (is_none (setter.given_at q)) (Bits (setting_at_stage p q)) (filled p.marking))) (at_stage p (cond (is_none (setter.given_at q)) (Bits (setting_at_stage p q)) (filled p.marking)))
    go SetStage.Ended x = filled-then t right (unmade, named, x.1) p.marking
    go _ x = (right, (unmade, named, refl, x))

  bits-at : (q : SetStage) → Good z now → Right a now false held None → Unmade z a now f (base p) → Born now (base p) → bits.Facts z a now (setting_at_stage p q) → Step (Bits (setting_at_stage p q))
  bits-at q g right u born x =
      landing z a s _ _ _ (λ t r. ((ap (λ (w : View). w.ever) r.0, ap (λ (w : View). w.place) r.0), bits-then t u born r.0 r.1 (setter.goes_at (setting_at_stage p q) q) r.2, tt))
      (k.bits.own_step z a s false held None (setting_at_stage p q) g right x)

  -- the mark is no word that a right guards
  mark : Right a now false held None → Knows Mark → Step Mark
  mark right x = record {
    move = Quiet (asks_at z.layout p Mark);
    may = tt;
    words_are = refl;
    after = ((refl, refl), (record { locked = right.locked; holds = right.holds; laying = right.laying; freeing = right.freeing }, (unmade-rows z a now f (base p) now.field now.birth now.bitmap x.0, record { fields = x.1.fields; birth = x.1.birth }, x.2)), tt);
  }

  make : Good z now → Right a now false held None → Knows Alloc → Step Alloc
  make g right x = record {
    move = Make p.at f.g f.d f.t;
    may = may;
    words_are = refl;
    after = ((refl, refl, u.name), go p.span refl, tt);
  } where
    u : Unmade z a now f (base p)
    u = x.0

    sized : p.slot ≡ field_count (shape_at z.shapes f.t)
    sized = u.places.slot

    claim : Claims z now a p.at (field_count (shape_at z.shapes f.t))
    claim = record { p = u.claim.p; h = u.claim.h; i = u.claim.i; held = u.claim.held; slot = record { span = u.claim.slot.span; inside = u.claim.slot.inside; size_is = sym sized ∙ u.claim.slot.size_is; at = u.claim.slot.at ∙ ap (λ (n : ℕ). 1024 * u.claim.p + u.claim.i * n) sized }; clear = u.claim.clear }

    may : May z a now (Make p.at f.g f.d f.t)
    may = record {
      runs = u.runs;
      register = u.places.register;
      type = u.places.type;
      few = u.few;
      ready = record {
        claim = claim;
        class = u.class ∙ ap (λ (y : Shape). size_class_of y.words) u.places.shape;
        noscan = u.noscan ∙ ap (λ (y : Shape). y.noscan) u.places.shape;
        fields = λ j lt. x.1.fields j (rw (sized) lt);
        pointers = λ j lt. x.2 j (rw (sized) lt) (omega (arith, sized, lt)) ∙ ap (λ (y : Shape). bit (is_pointer y j)) u.places.shape;
        birth = x.1.birth ∙ ap birth_word u.name;
      };
    }

    t : Shared
    t = moved z a s (Make p.at f.g f.d f.t)

    right-then : Right a (view t) false held None
    right-then = (k.follow z a s false held None right).made p.at f.g f.d f.t

    made-then : Made (view t) (base p)
    made-then = record {
      made = subst (λ (n : Name). n.k < cond (eqb n.g f.g) (now.ever.made f.g + 1) (now.ever.made n.g)) (sym u.name) (subst (λ (b : Bool). now.ever.made f.g < cond b (now.ever.made f.g + 1) (now.ever.made f.g)) (sym (eq-eqb f.g f.g refl)) (omega arith));
      at = subst (λ (n : Name). placed_at now.place (next_name now.ever f.g) p.at n ≡ p.at) (sym u.name) (ap (λ (b : Bool). cond b p.at (now.place (next_name now.ever f.g))) (same-name (next_name now.ever f.g)));
    }

    set : row_bit (view t).alloc p.at ≡ 1
    set = k.rows.sets_one now.alloc p.at

    full : (q : ℕ) → u.claim.p ≡ q → u.claim.h.class ≡ SizeClass.Large → IsFull (view t).alloc q u.claim.h
    full q e large i few =
        let one : slot_count u.claim.h ≡ 1 = rw (large) refl in
        let first : i ≡ 0 = omega (arith, few, one) in
        let own : u.claim.i ≡ 0 = omega (arith, u.claim.slot.inside, one) in
        let at : p.at ≡ 1024 * u.claim.p + 0 * p.slot = u.claim.slot.at ∙ ap (λ (n : ℕ). 1024 * u.claim.p + n * p.slot) own in
        subst (λ (n : ℕ). row_bit (view t).alloc (1024 * q + n * slot_size u.claim.h) ≡ 1) (sym first) (subst (λ (n : ℕ). row_bit (view t).alloc n ≡ 1) (whole q e at) set) where
          whole : (q : ℕ) → u.claim.p ≡ q → p.at ≡ 1024 * u.claim.p + 0 * p.slot → p.at ≡ 1024 * q + 0 * slot_size u.claim.h
          whole q e at = omega (arith, at, e)

    go : (span : Option SpanHead) → p.span ≡ span → Comes z a (view t) f held (given_at (made p span)) (at_stage p (made p span))
    go None e = (subst (λ (y : Option SpanHead). Right a (view t) false (held_by Count y (p.at / 1024) held) None) (sym e) right-then, made-then)
    go (Some head) e =
        let own = subst (λ (y : Option SpanHead). IsItsSpan y u.claim.p u.claim.h p.at) e u.own in (
          right-then,
          (
            made-then,
            record {
              head = head;
              span = e;
              back = record {
                stage = refl;
                h = u.claim.h;
                head = subst (λ (n : ℕ). page_of (now.page n) ≡ PageWord.Head u.claim.h) own.0 u.claim.slot.span.head;
                same = own.1;
                held = subst (λ (n : ℕ). now.holds a n ≡ true) own.0 u.claim.held;
                number = (g.numbers u.claim.p u.claim.h u.claim.slot.span.head).owned (λ none. let is : owner_at now.page u.claim.p ≡ u.claim.h.owner = ap owner_in u.claim.slot.span.head in omega (arith, (g.owners a u.claim.p).1 u.claim.held, is, none));
              };
              large = own.2;
              full = full (p.at / 1024) own.0 own.2;
              page = refl;
            },
          ),
        )

  give-then : (g : SpanGiving) (t : Shared) → Knows (Give g) → (view t).ever ≡ now.ever → (view t).place ≡ now.place → Right a (view t) false (update held g.page false) None → Comes z a (view t) f held None (at_stage p Count)
  give-then g t x ever place right = (
    subst (λ (y : Option SpanHead). Right a (view t) false (held_by Count y (p.at / 1024) held) None) (sym x.1.span) (subst (λ (n : ℕ). Right a (view t) false (update held n false) None) x.1.page right),
    record { made = rw (ever) x.0.made; at = rw (place) x.0.at },
  )

  give : (g : SpanGiving) → Good z now → Right a now false held None → Knows (Give g) → Step (Give g)
  give g good right x =
      landing z a s _ _ _ (λ t r. (r.0, give-then g t x r.0.0 r.0.1 r.1, tt))
      (k.give.gives_large z a s false held None g good right x.1.back x.1.large x.1.full)

  count : Right a now false (held_by Count p.span (p.at / 1024) held) None → Knows Count → Step Count
  count right x = record { move = Quiet (asks_at z.layout p Count); may = tt; words_are = refl; after = ((refl, refl), then p.marking, refl) } where
    t : Shared
    t = moved z a s (Quiet (asks_at z.layout p Count))

    bytes : ℕ
    bytes = (s.words Cell.Heap + 8 * p.slot) % 2 ^ 64

    ends : (span : Option SpanHead) → Right a now false (held_by Count span (p.at / 1024) held) None → Right a (view t) false (held_by (Ended false) span (p.at / 1024) held) None
    ends None r = record { locked = r.locked; holds = r.holds; laying = r.laying; freeing = r.freeing }
    ends (Some head) r = record { locked = r.locked; holds = r.holds; laying = r.laying; freeing = r.freeing }

    looks : (span : Option SpanHead) → Right a now false (held_by Count span (p.at / 1024) held) None → Right a (view t) false (held_by (LoadTrigger bytes) span (p.at / 1024) held) None
    looks None r = record { locked = r.locked; holds = r.holds; laying = r.laying; freeing = r.freeing }
    looks (Some head) r = record { locked = r.locked; holds = r.holds; laying = r.laying; freeing = r.freeing }

    then : (marking : Bool) → Comes z a (view t) f held (given_at (cond marking (Ended false) (LoadTrigger bytes))) (at_stage p (cond marking (Ended false) (LoadTrigger bytes)))
    then true = (ends p.span right, record { made = x.made; at = x.at })
    then false = (looks p.span right, record { made = x.made; at = x.at })

  load : (bytes : ℕ) → Right a now false (held_by (LoadTrigger bytes) p.span (p.at / 1024) held) None → Knows (LoadTrigger bytes) → Step (LoadTrigger bytes)
  load bytes right x = record { move = Quiet (asks_at z.layout p (LoadTrigger bytes)); may = tt; words_are = refl; after = ((refl, refl), (go p.span right, record { made = x.made; at = x.at }), tt) } where
    t : Shared
    t = moved z a s (Quiet (asks_at z.layout p (LoadTrigger bytes)))

    asks-so : Bool
    asks-so = nat_le (s.words Cell.Trigger) bytes

    go : (span : Option SpanHead) → Right a now false (held_by (LoadTrigger bytes) span (p.at / 1024) held) None → Right a (view t) false (held_by (Ended asks-so) span (p.at / 1024) held) None
    go None r = record { locked = r.locked; holds = r.holds; laying = r.laying; freeing = r.freeing }
    go (Some head) r = record { locked = r.locked; holds = r.holds; laying = r.laying; freeing = r.freeing }

  own-at : (q : PlaceStage) → Good z now → Right a now false (held_by q p.span (p.at / 1024) held) None → Knows q → Step q
  own-at (Clear i) g right x = clear i right x
  own-at Birth g right x = birth right x
  own-at (Bits m) g right x = subst (λ (y : setter.PointerSetting). Step (Bits y)) (sym x.2) (bits-at m.stage g right x.0 x.1 (subst (λ (y : setter.PointerSetting). bits.Facts z a now y) x.2 x.3))
  own-at Mark g right x = mark right x
  own-at Alloc g right x = make g right x
  own-at (Give g) good right x = give g good right x
  own-at Count g right x = count right x
  own-at (LoadTrigger bytes) g right x = load bytes right x
  own-at (Ended wants) g right x = absurd x

own : Known → OwnStep
own k z a s f held p g right x = own-at k z a s f held p p.stage g right x

-- Its words.

module _ (k : Known) (z : Arena) (a : ℕ) (v : View) (f : For) (p : Placing) (good : Good z v) where
  -- a word of the claimed slot
  inside : (i : ℕ) → Unmade z a v f (base p) → i < p.slot → p.at + i < 1024 * z.layout.pages
  inside i u lt = let claim = u.claim in let slot = (k.apart z v good).inside claim.p claim.i p.at p.slot i claim.h claim.slot lt in omega (arith, slot.1, claim.slot.span.within)

  within-at : (q : PlaceStage) → FactsAt z a v f (base p) q → InRange z.layout (cell_of (asks z.layout (at_stage p q)))
  within-at (Clear i) x = inside i x.0 x.1
  within-at (Bits m) x = k.bits.within z a v m x.3
  within-at (Give g) x = k.give.within z a v g good x.1.back
  within-at Count x = tt
  within-at (LoadTrigger bytes) x = tt
  within-at (Ended wants) x = absurd x
  within-at _ x = let first = inside 0 x.0 x.0.places.some in omega (arith, first)

within : Known → Within
within k z a v f p good x = within-at k z a v f p good p.stage x

pub places_by_its_rights : Known → PlacesByItsRights
places_by_its_rights k = record { opens = opens; own_step = own k; within = within k; lasts = lasts k }
