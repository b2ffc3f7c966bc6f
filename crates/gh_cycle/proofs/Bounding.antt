-- In the heap that never frees, what names an object is one of the places that the heap has, and the object was made.
use Rattle.std.proofs.Common.{◌≡◌, ℕ, ◌+◌, ◌<◌, ◌≤◌, ◌⊎◌, Bool, true, false, cond, eqb, Some, inl, inr, refl, sym, subst, arith, ◌&&◌}
use Rattle.std.proofs.lemmas.Bool.{eqb-true, eq-eqb}
use Rattle.gh_cycle.proofs.Vocabulary.{answer_of, answer_of_value, Arena, BoundsLast, eqb_tells, Ever, ever_after, EverValue, field_count, first_value, fits, has_field, is_number, is_pointer, is_pointer_field, IsBounded, IsInRange, IsMade, load_answer, Name, names, nat_tests, next_name, opening_ever, REGISTERS, same_name, sets_global, shape_at, size_for, store_answer, stores_value, takes_answer, with_end, with_field, with_global, with_object, with_register}
use Rattle.gh_base.specs.declared.operation.Op.{Op}
use Rattle.gh_base.specs.declared.value.Answer.{Answer}
use Rattle.gh_base.specs.declared.value.Fault.{Fault}
use Rattle.gh_cycle.proofs.Reaching.{name-tells}

-- both tests of two pass
both : (b c : Bool) → (b && c) ≡ true → (b ≡ true) × (c ≡ true)
both b c h = grind arith

bounded-opening : (z : Arena) → IsBounded z opening_ever
bounded-opening z = record { registers = λ g d n e. absurd (cc); globals = λ k n e. absurd (cc); fields = λ m k n e. absurd (cc); none = λ g l. refl }

-- one object more is made
more-made : (made : ℕ → ℕ) (g : ℕ) (n : Name) → IsMade made n → n.k < cond (eqb n.g g) (made g + 1) (made n.g)
more-made made g n h = grind arith

first-plain : (b : Bool) (n : Name) → names (first_value b) ≡ Some n → ⊥
first-plain true n e = absurd (cc)
first-plain false n e = absurd (cc)

-- a value that names nothing, or an object that was made
abbrev Made : Ever → EverValue → Type 0
Made e x = (n : Name) → names x ≡ Some n → IsMade e.made n

module _ (z : Arena) (e : Ever) (h : IsBounded z e) where
  register : (g d : ℕ) (x : EverValue) → g < z.layout.goroutines → d < REGISTERS → Made e x → IsBounded z (with_register e g d x)
  register g d x lg ld made = record { registers = λ k c n. by k c n (eqb k g && eqb c d) refl; globals = h.globals; fields = h.fields; none = h.none } where
    by : (k c : ℕ) (n : Name) (b : Bool) → (eqb k g && eqb c d) ≡ b → names (cond b x (e.register k c)) ≡ Some n → (k < z.layout.goroutines) × (c < REGISTERS) × IsMade e.made n
    by k c n true t is =
        let w = both (eqb k g) (eqb c d) t in
        (subst (λ (i : ℕ). i < z.layout.goroutines) (sym (eqb-true k g w.0)) lg, subst (λ (i : ℕ). i < REGISTERS) (sym (eqb-true c d w.1)) ld, made n is)
    by k c n false t is = h.registers k c n is

  field : (m : Name) (k : ℕ) (x : EverValue) → k < size_for z.shapes e.type_of m → Made e x → IsBounded z (with_field e m k x)
  field m k x within made = record { registers = h.registers; globals = h.globals; fields = λ o c n. by o c n (same_name o m && eqb c k) refl; none = h.none } where
    by : (o : Name) (c : ℕ) (n : Name) (b : Bool) → (same_name o m && eqb c k) ≡ b → names (cond b x (e.field o c)) ≡ Some n → (c < size_for z.shapes e.type_of o) × IsMade e.made n
    by o c n true t is =
        let w = both (same_name o m) (eqb c k) t in
        let here : c < size_for z.shapes e.type_of m = subst (λ (i : ℕ). i < size_for z.shapes e.type_of m) (sym (eqb-true c k w.1)) within in
        (subst (λ (p : Name). c < size_for z.shapes e.type_of p) (sym (name-tells o m w.0)) here, made n is)
    by o c n false t is = h.fields o c n is

  global : (k : ℕ) (x : EverValue) → k < z.layout.globals → Made e x → IsBounded z (with_global e k x)
  global k x within made = record { registers = h.registers; globals = λ c n. by c n (eqb c k) refl; fields = h.fields; none = h.none } where
    by : (c : ℕ) (n : Name) (b : Bool) → eqb c k ≡ b → names (cond b x (e.global c)) ≡ Some n → (c < z.layout.globals) × IsMade e.made n
    by c n true t is = (subst (λ (i : ℕ). i < z.layout.globals) (sym (eqb-true c k t)) within, made n is)
    by c n false t is = h.globals c n is

  end : (g : ℕ) → IsBounded z (with_end e g)
  end g = record { registers = h.registers; globals = h.globals; fields = h.fields; none = h.none }

  object : (g t : ℕ) → g < z.layout.goroutines → IsBounded z (with_object z.shapes e g t)
  object g t lg = record {
    registers = λ k d n is. let w = h.registers k d n is in (w.0, w.1, more-made e.made g n w.2);
    globals = λ k n is. let w = h.globals k n is in (w.0, more-made e.made g n w.1);
    fields = λ m k n. by m k n (same_name m (next_name e g));
    none = λ k l. beyond k l (eqb_tells k g);
  } where
    by : (m : Name) (k : ℕ) (n : Name) (b : Bool) → names (cond b (first_value (is_pointer (shape_at z.shapes t) k)) (e.field m k)) ≡ Some n → (k < field_count (shape_at z.shapes (cond b t (e.type_of m)))) × (n.k < cond (eqb n.g g) (e.made g + 1) (e.made n.g))
    by m k n true is = absurd (first-plain (is_pointer (shape_at z.shapes t) k) n is)
    by m k n false is = let w = h.fields m k n is in (w.0, more-made e.made g n w.1)

    beyond : (k : ℕ) → z.layout.goroutines ≤ k → ((eqb k g ≡ true) × (k ≡ g)) ⊎ ((eqb k g ≡ false) × (k ≡ g → ⊥)) → cond (eqb k g) (e.made g + 1) (e.made k) ≡ 0
    beyond k l (inl y) = absurd (omega (arith, l, lg, y.1))
    beyond k l (inr x) = rw (x.0) (h.none k l)

-- What a statement leaves.

module _ (z : Arena) (e : Ever) (h : IsBounded z e) where
  takes : (g d : ℕ) (x : EverValue) → g < z.layout.goroutines → d < REGISTERS → Made e x → IsBounded z (takes_answer e g d (answer_of_value x))
  takes g d EverValue.Nil lg ld made = register z e h g d EverValue.Nil lg ld made
  takes g d (EverValue.Int i) lg ld made = register z e h g d (EverValue.Int i) lg ld made
  takes g d (EverValue.Ref n) lg ld made = register z e h g d (EverValue.Ref n) lg ld made

  loads : (g d : ℕ) (x : EverValue) (k : ℕ) → g < z.layout.goroutines → d < REGISTERS → IsBounded z (takes_answer e g d (load_answer z.shapes e x k))
  loads g d EverValue.Nil k lg ld = h
  loads g d (EverValue.Int i) k lg ld = h
  loads g d (EverValue.Ref m) k lg ld = by (has_field z.shapes e m k) where
    by : (b : Bool) → IsBounded z (takes_answer e g d (cond b (answer_of_value (e.field m k)) (Answer.Fault Fault.Field)))
    by true = takes g d (e.field m k) lg ld (λ n is. (h.fields m k n is).1)
    by false = h

  stores : (x : EverValue) (k : ℕ) (v : EverValue) → Made e v → IsBounded z (stores_value e x k v (store_answer z.shapes e x k v))
  stores EverValue.Nil k v made = h
  stores (EverValue.Int i) k v made = h
  stores (EverValue.Ref m) k v made = by (has_field z.shapes e m k) refl (fits (is_pointer_field z.shapes e m k) v) where
    by : (b : Bool) → has_field z.shapes e m k ≡ b → (c : Bool) → IsBounded z (stores_value e (EverValue.Ref m) k v (cond b (cond c Answer.Done (Answer.Fault Fault.Kind)) (Answer.Fault Fault.Field)))
    by true t true = field z e h m k v (grind (arith, nat_tests)) made
    by true t false = h
    by false t c = h

  sets : (k : ℕ) (v : EverValue) → k < z.layout.globals → Made e v → IsBounded z (sets_global e k v (cond (is_number v) (Answer.Fault Fault.Kind) Answer.Done))
  sets k v within made = by (is_number v) where
    by : (b : Bool) → IsBounded z (sets_global e k v (cond b (Answer.Fault Fault.Kind) Answer.Done))
    by true = h
    by false = global z e h k v within made

  news : (g d t : ℕ) → g < z.layout.goroutines → d < REGISTERS → IsBounded z (with_register (with_object z.shapes e g t) g d (EverValue.Ref (next_name e g)))
  news g d t lg ld = register z (with_object z.shapes e g t) (object z e h g t lg) g d (EverValue.Ref (next_name e g)) lg ld (λ n is. here n is) where
    here : (n : Name) → Some (next_name e g) ≡ Some n → n.k < cond (eqb n.g g) (e.made g + 1) (e.made n.g)
    here n is =
        let same : next_name e g ≡ n = cc in
        subst (λ (m : Name). m.k < cond (eqb m.g g) (e.made g + 1) (e.made m.g)) same (subst (λ (b : Bool). e.made g < cond b (e.made g + 1) (e.made g)) (sym (eq-eqb g g refl)) (omega arith))

  -- what is answered as that heap answers it, or `full`
  answered : (o : Op) (full : Bool) → IsInRange z o → IsBounded z (ever_after z.shapes e o (cond full Answer.Full (answer_of z.shapes e o)))
  answered (Op.New g d t) true r = register z e h g d EverValue.Nil r.0 r.1 (λ n is. absurd (cc))
  answered (Op.New g d t) false r = news g d t r.0 r.1
  answered (Op.Load g d b k) false r = loads g d (e.register g b) k r.0 r.1
  answered (Op.Store g b k v) true r = full-store (e.register g b) where
    full-store : (x : EverValue) → IsBounded z (stores_value e x k (e.register g v) Answer.Full)
    full-store x = grind arith
  answered (Op.Store g b k v) false r = stores (e.register g b) k (e.register g v) (λ n is. (h.registers g v n is).2)
  answered (Op.GetGlobal g d k) false r = takes g d (e.global k) r.0 r.1 (λ n is. (h.globals k n is).1)
  answered (Op.SetGlobal g k v) false r = sets k (e.register g v) r.1 (λ n is. (h.registers g v n is).2)
  answered (Op.Int g d i) full r = register z e h g d (EverValue.Int i) r.0 r.1 (λ n is. absurd (cc))
  answered (Op.Move g d c) full r = register z e h g d (e.register g c) r.0 r.1 (λ n is. (h.registers g c n is).2)
  answered (Op.Nil g d) full r = register z e h g d EverValue.Nil r.0 r.1 (λ n is. absurd (cc))
  answered (Op.Gc g) full r = h
  answered Op.Poll full r = h
  answered (Op.End g) full r = end z e h g
  answered Op.Leave full r = h
  answered _ true r = h

pub bounds-last : BoundsLast
bounds-last = record {
  opening = bounded-opening;
  after = λ z e o a h r is. elim is [
    | inl as_heap ↦ subst (λ (b : Answer). IsBounded z (ever_after z.shapes e o b)) (sym as_heap) (answered z e h o false r)
    | inr full ↦ subst (λ (b : Answer). IsBounded z (ever_after z.shapes e o b)) (sym full) (answered z e h o true r)
  ];
}
