-- The five ways through a load whose steps are made at once.
use Rattle.std.proofs.Common.{◌≡◌, ℕ, ◌+◌, ◌-◌, arith, Bool, true, false, List, [], ◌∷◌, refl, sym, ap, subst, ◌∙◌, Option, Some, None}
use Rattle.gh_shared.proofs.Vocabulary.{Acting, actor_in, Answer, Ask, Birth, birth_cell, Bits, bits_cell, by, Carries, Cell, Ends, Fault, Field, field_cell, has_field, HasShapes, HeapActor, is_pointer_by, IsProcessor, Layout, Leads, Load, LoadStage, machine_actor, MachineMayBegin, Marks, may_begin_of, Mutating, name_of, NilBase, object_in, Op, Page, page_cell, Planned, RanAtOnce, register_of, rested, Runs, set_register, setting, Tells, Value, value_of, value_told}
use Rattle.gh_base.specs.declared.value.Name.{Name}
use Rattle.gh_mutator.specs.Load as load
use Rattle.gh_mutator.specs.Mutating as mutating
use Rattle.gh_shared.proofs.Loading.{at_load, begins_none, begins_page, birth_ends, birth_gives, bits_goes, field_ends, field_gives, field_refers, load_at, none_gives, none_goes, page_ends, page_gives, page_goes, with_value}
use Rattle.gh_shared.proofs.Midway.{ends_at_once, goes_on_so, MayStart, Midway, Seen, starts}

-- where none of these is found there is none
pub no_object : (x y : Option ℕ) → x ≡ y → ((at : ℕ) → x ≡ Some at → ⊥) → y ≡ None
no_object x y e never = grind arith

-- which processor it is
pub processor_is : (x : HeapActor) → IsProcessor x → (m : Mutating) × (x ≡ Runs m)
processor_is (Runs m) is = (m, refl)
processor_is (Marks w) is = absurd is
processor_is (Leads c) is = absurd is

-- a load that a processor may begin at its seat, and the layout that its heap keeps
pub record MayLoad : Type 0 where
  pub actor : ℕ
  pub machine : Mutating
  pub seat : Seen
  pub g : ℕ
  pub d : ℕ
  pub b : ℕ
  pub k : ℕ
  pub layout : Layout
  pub start : MayStart actor (Op.Load g d b k) machine seat
  pub laid : layout ≡ seat.0.plan.layout

-- where the layout is that of the plan
abbrev pub may_load : (g d b k : ℕ) (a : ℕ) (me : Seen) (x : Acting) (y : (m : Mutating) × (x.actor ≡ Runs m)) {key : Planned} {l : Layout} → me.0.plan ≡ key → l ≡ key.layout → x.layout ≡ me.0.plan.layout → HasShapes me.0.plan x.actor → machine_actor x.actor ≡ actor_in setting me.0 a → MachineMayBegin x.layout x.actor (Op.Load g d b k) → Carries me.0 a → may_begin_of me.0.plan.script me.0.plan.layout a (by a me.0.log) (Op.Load g d b k) ≡ true → MayLoad
may_load g d b k a me x y {l} plan of_heap laid shapes state may carries allowed = record {
  actor = a;
  machine = y.0;
  seat = me;
  g = g;
  d = d;
  b = b;
  k = k;
  layout = l;
  start = record {
    shapes = subst (HasShapes me.0.plan) y.1 shapes;
    state = subst (λ (z : HeapActor). machine_actor z ≡ actor_in setting me.0 a) y.1 state;
    may = subst (λ (z : HeapActor). MachineMayBegin me.0.plan.layout z (Op.Load g d b k)) y.1 (subst (λ (n : Layout). MachineMayBegin n x.actor (Op.Load g d b k)) laid may);
    carries = carries;
    allowed = allowed;
  };
  laid = of_heap ∙ ap (λ (p : Planned). p.layout) (sym plan);
}

module _ (x : MayLoad) where
  open x use {actor as a, machine as m, seat as me, g, d, b, k, layout as l, start, laid}

  abbrev o : Op
  o = Op.Load g d b k

  abbrev L : Layout
  L = me.0.plan.layout

  -- the load at this stage
  abbrev at_stage : (at : ℕ) → LoadStage → Load
  at_stage at s = load_at L m g d b k at s

  -- by these steps it has come to y, which loads this cell next
  abbrev Asks : Mutating → Seen → List ℕ → Cell → Type 0
  Asks y me' founds c = Midway a o m me y me' founds (Ask.Load c)

  -- the step that loads this cell, with which b is begun, if any, finds n
  abbrev Finds : Option Op → Cell → ℕ → Seen → Seen → Type 0
  Finds b c n me' me'' = Tells setting a b (Ask.Load c) n me' me''

  -- it has ended, and is answered this
  abbrev EndsAs : Mutating → Seen → Answer → Type 0
  EndsAs m' me' given = RanAtOnce L a o 4 (Runs m) me (Runs m') me' given

  -- so its machine has come from z to z'
  pub ended_so : {z z' : Acting} {m' : Mutating} {me' : Seen} {given : Answer} → z.layout ≡ L → z.actor ≡ Runs m → z' ≡ record z { actor = Runs m' } → EndsAs m' me' given → RanAtOnce z.layout a o 4 z.actor me z'.actor me' given
  ended_so {z} {z'} {me'} {given} laid is to ends =
      subst (λ (n : Layout). RanAtOnce n a o 4 z.actor me z'.actor me' given) (sym laid)
      (subst (λ (u : HeapActor). RanAtOnce L a o 4 u me z'.actor me' given) (sym is)
      (subst (λ (u : HeapActor). RanAtOnce L a o 4 (Runs m) me u me' given) (sym (ap (λ (u : Acting). u.actor) to)) ends))

  -- ---- no object

  pub asks_none : object_in (register_of m.processor g b) ≡ None → Asks (at_load m (at_stage 0 NilBase)) me [] Cell.Touch
  asks_none e = starts start (begins_none L m g d b k e) refl

  pub ran_none : {me1 : Seen} {n1 : ℕ} {m' : Mutating} → Asks (at_load m (at_stage 0 NilBase)) me [] Cell.Touch → Finds (Some o) Cell.Touch n1 me me1 → m' ≡ rested m m.processor (Answer.Fault Fault.NilBase) → EndsAs m' me1 (Answer.Fault Fault.NilBase)
  ran_none {n1} there finds is = ends_at_once there finds (omega arith) (is ∙ sym (none_goes L m g d b k 0 n1)) (none_gives L m g d b k 0 n1) (ap mutating.is_busy is)

  -- ---- an object

  pub asks_page : {at : ℕ} {c : Cell} → object_in (register_of m.processor g b) ≡ Some at → c ≡ page_cell l at → Asks (at_load m (at_stage at Page)) me [] c
  asks_page {at} object is = starts start (begins_page L m g d b k at object) (ap Ask.Load (is ∙ ap (λ (y : Layout). page_cell y at) laid))

  -- with its page word
  module _ {at : ℕ} {c : Cell} (there : Asks (at_load m (at_stage at Page)) me [] c) {me1 : Seen} {n1 : ℕ} (finds : Finds (Some o) c n1 me me1) where
    -- that has no such field
    pub ran_page : {m' : Mutating} → has_field k n1 ≡ false → m' ≡ rested m m.processor (Answer.Fault Fault.Field) → EndsAs m' me1 (Answer.Fault Fault.Field)
    ran_page has is = ends_at_once there finds (omega arith) (is ∙ sym (page_ends L m g d b k at n1 has)) (page_gives L m g d b k at n1 has) (ap mutating.is_busy is)

    pub asks_bits : {c' : Cell} → has_field k n1 ≡ true → c' ≡ bits_cell l (at + k) → Asks (at_load m (at_stage at Bits)) me1 (n1 ∷ []) c'
    asks_bits has is = goes_on_so there finds (page_goes L m g d b k at n1 has) (ap Ask.Load (is ∙ ap (λ (y : Layout). bits_cell y (at + k)) laid))

  -- with the word of its bitmap
  module _ {at : ℕ} {c : Cell} {me1 : Seen} {n1 : ℕ} (there : Asks (at_load m (at_stage at Bits)) me1 (n1 ∷ []) c) {me2 : Seen} {n2 : ℕ} (finds : Finds None c n2 me1 me2) where
    pub asks_field : {pointer : Bool} {c' : Cell} → pointer ≡ is_pointer_by l (at + k) n2 → c' ≡ field_cell l (at + k) → Asks (at_load m (at_stage at (Field pointer))) me2 (n2 ∷ n1 ∷ []) c'
    asks_field {pointer} by_bit is =
        goes_on_so there finds (bits_goes L m g d b k at n2 pointer (by_bit ∙ ap (λ (y : Layout). is_pointer_by y (at + k) n2) laid)) (ap Ask.Load (is ∙ ap (λ (y : Layout). field_cell y (at + k)) laid))

  -- with the field, whose value is v
  module _ {at : ℕ} {pointer : Bool} {c : Cell} {me2 : Seen} {n1 n2 : ℕ} (there : Asks (at_load m (at_stage at (Field pointer))) me2 (n2 ∷ n1 ∷ []) c) {me3 : Seen} {n3 : ℕ} (finds : Finds None c n3 me2 me3) {v : Value} (value_is : v ≡ value_of l.pages pointer n3) where
    value_so : v ≡ value_of L.pages pointer n3
    value_so = value_is ∙ ap (λ (y : Layout). value_of y.pages pointer n3) laid

    -- nil or a number
    ran_field : {m' : Mutating} {given : Answer} → value_told (load.naming (at_stage at (Field pointer))) v ≡ Ends given → m' ≡ rested m (set_register m.processor g d v) given → EndsAs m' me3 given
    ran_field {given} e is = ends_at_once there finds (omega arith) (is ∙ sym (field_ends L m g d b k at pointer n3 v value_so given e)) (field_gives L m g d b k at pointer n3 v value_so given e) (ap mutating.is_busy is)

    pub ran_nil : {m' : Mutating} → v ≡ Value.Nil → m' ≡ rested m (set_register m.processor g d v) Answer.Nil → EndsAs m' me3 Answer.Nil
    ran_nil e is = ran_field (ap (value_told (load.naming (at_stage at (Field pointer)))) e) is

    pub ran_int : {m' : Mutating} {i : ℕ} → v ≡ Value.Int i → m' ≡ rested m (set_register m.processor g d v) (Answer.Int i) → EndsAs m' me3 (Answer.Int i)
    ran_int e is = ran_field (ap (value_told (load.naming (at_stage at (Field pointer)))) e) is

    -- a reference
    pub asks_birth : {r : ℕ} {c' : Cell} → v ≡ Value.Ref r → c' ≡ birth_cell l (r - 1) → Asks (at_load (with_value m g d v) (at_stage at (Birth (r - 1)))) me3 (n3 ∷ n2 ∷ n1 ∷ []) c'
    asks_birth {r} refers is = goes_on_so there finds (field_refers L m g d b k at pointer n3 v value_so r refers) (ap Ask.Load (is ∙ ap (λ (y : Layout). birth_cell y (r - 1)) laid))

  -- with the name of the object found
  module _ {at i : ℕ} (v : Value) {c : Cell} {me3 : Seen} {n1 n2 n3 : ℕ} (there : Asks (at_load (with_value m g d v) (at_stage at (Birth i))) me3 (n3 ∷ n2 ∷ n1 ∷ []) c) {me4 : Seen} {n4 : ℕ} (finds : Finds None c n4 me3 me4) where
    pub ran_birth : {m' : Mutating} {name : Name} → name ≡ name_of l.goroutines n4 → m' ≡ rested m (set_register m.processor g d v) (Answer.Ref name) → EndsAs m' me4 (Answer.Ref name)
    ran_birth {name} name_is is =
        let same : Answer.Ref name ≡ Answer.Ref (name_of L.goroutines n4) = ap Answer.Ref (name_is ∙ ap (λ (y : Layout). name_of y.goroutines n4) laid) in
        ends_at_once there finds (omega arith) (is ∙ ap (rested m (set_register m.processor g d v)) same ∙ sym (birth_ends L m g d b k at v i n4)) (birth_gives L m g d b k at v i n4 ∙ ap Some (sym same)) (ap mutating.is_busy is)
