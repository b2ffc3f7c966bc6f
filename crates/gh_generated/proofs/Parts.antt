-- Each goroutine that keeps to its own global changes its own part of the heap, by what that part has.
use Rattle.std.proofs.Common.{◌≡◌, ℕ, ◌+◌, Bool, true, false, cond, eqb, ◌&&◌, List, refl, sym, ap, subst, ◌∙◌, ◌≢◌, arith}
use Rattle.std.proofs.lemmas.Bool.{eqb-true}
use Rattle.std.proofs.lemmas.Bool.Decides.{nat_tests}
use Rattle.gh_generated.proofs.Vocabulary.{Ever, EverValue, first_value, Name, next_name, same_name, Shape, with_end, with_field, with_global, with_object, with_register}
use Rattle.gh_base.specs.Shapes.{is_pointer, shape_at}

-- ---- parts

-- the value names no object but one of goroutine g
abbrev pub IsOwn : ℕ → EverValue → Type 0
IsOwn g (EverValue.Ref n) = n.g ≡ g
IsOwn g v = Unit {0}

-- what each goroutine's registers, its global and the fields of its objects name are its objects
pub record Apart (e : Ever) : Type 0 where
  pub fields : (n : Name) (k : ℕ) → IsOwn n.g (e.field n k)
  pub globals : (g : ℕ) → IsOwn g (e.global g)
  pub registers : (g d : ℕ) → IsOwn g (e.register g d)

-- two heaps have the same of goroutine g
pub record SamePart (g : ℕ) (e f : Ever) : Type 0 where
  pub made : e.made g ≡ f.made g
  pub types : (n : Name) → n.g ≡ g → e.type_of n ≡ f.type_of n
  pub fields : (n : Name) (k : ℕ) → n.g ≡ g → e.field n k ≡ f.field n k
  pub global : e.global g ≡ f.global g
  pub registers : (d : ℕ) → e.register g d ≡ f.register g d
  pub ended : e.ended g ≡ f.ended g

pub SamePart-self : (g : ℕ) (e : Ever) → SamePart g e e
SamePart-self g e = record { made = refl; types = λ n own. refl; fields = λ n k own. refl; global = refl; registers = λ d. refl; ended = refl }

pub SamePart-swapped : (g : ℕ) (e f : Ever) → SamePart g e f → SamePart g f e
SamePart-swapped g e f s = record { made = sym s.made; types = λ n own. sym (s.types n own); fields = λ n k own. sym (s.fields n k own); global = sym s.global; registers = λ d. sym (s.registers d); ended = sym s.ended }

pub SamePart-through : (g : ℕ) (e f h : Ever) → SamePart g e f → SamePart g f h → SamePart g e h
SamePart-through g e f h s t = record {
  made = s.made ∙ t.made;
  types = λ n own. s.types n own ∙ t.types n own;
  fields = λ n k own. s.fields n k own ∙ t.fields n k own;
  global = s.global ∙ t.global;
  registers = λ d. s.registers d ∙ t.registers d;
  ended = s.ended ∙ t.ended;
}

-- ---- changes

-- a heap with a new object of g, which register d names
abbrev pub with_new : List Shape → Ever → ℕ → ℕ → ℕ → Ever
with_new shapes e g d t = with_register (with_object shapes e g t) g d (EverValue.Ref (next_name e g))

-- goroutine g changes two heaps alike, each in its own part
pub data Changes (shapes : List Shape) (g : ℕ) (e f : Ever) : Ever → Ever → Type 0 where
  nothing : Changes shapes g e f e f
  register : (d : ℕ) (v : EverValue) → IsOwn g v → Changes shapes g e f (with_register e g d v) (with_register f g d v)
  object : (d t : ℕ) → Changes shapes g e f (with_new shapes e g d t) (with_new shapes f g d t)
  field : (n : Name) (k : ℕ) (v : EverValue) → n.g ≡ g → IsOwn g v → Changes shapes g e f (with_field e n k v) (with_field f n k v)
  global : (v : EverValue) → IsOwn g v → Changes shapes g e f (with_global e g v) (with_global f g v)
  ends : Changes shapes g e f (with_end e g) (with_end f g)

-- what was the same stays the same
pub same_change : (shapes : List Shape) (g : ℕ) (e f new other : Ever) → Changes shapes g e f new other → SamePart g e f → SamePart g new other
same_change shapes g e f _ _ nothing s = s
same_change shapes g e f _ _ (register d v own) s = record {
  made = s.made;
  types = s.types;
  fields = s.fields;
  global = s.global;
  registers = λ c. ap (λ (x : EverValue). cond (eqb g g && eqb c d) v x) (s.registers c);
  ended = s.ended;
}
same_change shapes g e f _ _ (object d t) s = record {
  made = ap (λ (m : ℕ). cond (eqb g g) (m + 1) m) s.made;
  types = λ n own. ap (λ (m : ℕ). cond (eqb n.g g && eqb n.k m) t (e.type_of n)) s.made ∙ ap (λ (x : ℕ). cond (eqb n.g g && eqb n.k (f.made g)) t x) (s.types n own);
  fields = λ n k own. ap (λ (m : ℕ). cond (eqb n.g g && eqb n.k m) (first_value (is_pointer (shape_at shapes t) k)) (e.field n k)) s.made
      ∙ ap (λ (x : EverValue). cond (eqb n.g g && eqb n.k (f.made g)) (first_value (is_pointer (shape_at shapes t) k)) x) (s.fields n k own);
  global = s.global;
  registers = λ c. ap (λ (m : ℕ). cond (eqb g g && eqb c d) (EverValue.Ref (record { g = g; k = m })) (e.register g c)) s.made
      ∙ ap (λ (x : EverValue). cond (eqb g g && eqb c d) (EverValue.Ref (next_name f g)) x) (s.registers c);
  ended = s.ended;
}
same_change shapes g e f _ _ (field n k v mine own) s = record {
  made = s.made;
  types = s.types;
  fields = λ m c of. ap (λ (x : EverValue). cond (same_name m n && eqb c k) v x) (s.fields m c of);
  global = s.global;
  registers = s.registers;
  ended = s.ended;
}
same_change shapes g e f _ _ (global v own) s = record {
  made = s.made;
  types = s.types;
  fields = s.fields;
  global = ap (λ (x : EverValue). cond (eqb g g) v x) s.global;
  registers = s.registers;
  ended = s.ended;
}
same_change shapes g e f _ _ ends s = record {
  made = s.made;
  types = s.types;
  fields = s.fields;
  global = s.global;
  registers = s.registers;
  ended = ap (λ (x : Bool). cond (eqb g g) true x) s.ended;
}

differs : (h g : ℕ) → h ≢ g → eqb h g ≡ false
differs h g ne = grind (arith, nat_tests)

-- the first test fails, so the other value stands
passed : {X : Type 0} (b c : Bool) (x y : X) → b ≡ false → y ≡ cond (b && c) x y
passed b c x y h = grind arith

left_out : {X : Type 0} (b : Bool) (x y : X) → b ≡ false → y ≡ cond b x y
left_out b x y h = grind arith

neither : (a b c : Bool) → a ≡ false → ((a && b) && c) ≡ false
neither a b c p = grind arith

-- another goroutine's part stays as it was
pub other_change : (shapes : List Shape) (g h : ℕ) (e f new other : Ever) → Changes shapes g e f new other → h ≢ g → SamePart h e new
other_change shapes g h e f _ _ nothing ne = SamePart-self h e
other_change shapes g h e f _ _ (register d v own) ne = record {
  made = refl;
  types = λ n of. refl;
  fields = λ n k of. refl;
  global = refl;
  registers = λ c. passed (eqb h g) (eqb c d) v (e.register h c) (differs h g ne);
  ended = refl;
}
other_change shapes g h e f _ _ (object d t) ne = record {
  made = left_out (eqb h g) (e.made g + 1) (e.made h) (differs h g ne);
  types = λ n of. passed (eqb n.g g) (eqb n.k (e.made g)) t (e.type_of n) (differs n.g g (λ same. ne (sym of ∙ same)));
  fields = λ n k of. passed (eqb n.g g) (eqb n.k (e.made g)) (first_value (is_pointer (shape_at shapes t) k)) (e.field n k) (differs n.g g (λ same. ne (sym of ∙ same)));
  global = refl;
  registers = λ c. passed (eqb h g) (eqb c d) (EverValue.Ref (next_name e g)) (e.register h c) (differs h g ne);
  ended = refl;
}
other_change shapes g h e f _ _ (field n k v mine own) ne = record {
  made = refl;
  types = λ m of. refl;
  fields = λ m c of. left_out (same_name m n && eqb c k) v (e.field m c) (neither (eqb m.g n.g) (eqb m.k n.k) (eqb c k) (differs m.g n.g (λ same. ne (sym of ∙ same ∙ mine))));
  global = refl;
  registers = λ c. refl;
  ended = refl;
}
other_change shapes g h e f _ _ (global v own) ne = record {
  made = refl;
  types = λ n of. refl;
  fields = λ n k of. refl;
  global = left_out (eqb h g) v (e.global h) (differs h g ne);
  registers = λ c. refl;
  ended = refl;
}
other_change shapes g h e f _ _ ends ne = record {
  made = refl;
  types = λ n of. refl;
  fields = λ n k of. refl;
  global = refl;
  registers = λ c. refl;
  ended = left_out (eqb h g) true (e.ended h) (differs h g ne);
}

own_if : (h : ℕ) (b : Bool) (v w : EverValue) → (b ≡ true → IsOwn h v) → IsOwn h w → IsOwn h (cond b v w)
own_if h b v w p q = grind arith

own_at : (g h : ℕ) (v : EverValue) → IsOwn g v → h ≡ g → IsOwn h v
own_at g h v own same = subst (λ (x : ℕ). IsOwn x v) (sym same) own

left_true : (a b : Bool) → (a && b) ≡ true → a ≡ true
left_true a b h = grind arith

own_first : (h : ℕ) (b : Bool) → IsOwn h (first_value b)
own_first h b = grind arith

-- each goroutine still names its own objects alone
pub own_change : (shapes : List Shape) (g : ℕ) (e f new other : Ever) → Changes shapes g e f new other → Apart e → Apart new
own_change shapes g e f _ _ nothing a = a
own_change shapes g e f _ _ (register d v own) a = record {
  fields = a.fields;
  globals = a.globals;
  registers = λ h c. own_if h (eqb h g && eqb c d) v (e.register h c) (λ t. own_at g h v own (eqb-true h g (left_true (eqb h g) (eqb c d) t))) (a.registers h c);
}
own_change shapes g e f _ _ (object d t) a = record {
  fields = λ n k. own_if n.g (same_name n (next_name e g)) (first_value (is_pointer (shape_at shapes t) k)) (e.field n k) (λ is. own_first n.g (is_pointer (shape_at shapes t) k)) (a.fields n k);
  globals = a.globals;
  registers = λ h c. own_if h (eqb h g && eqb c d) (EverValue.Ref (next_name e g)) (e.register h c) (λ is. sym (eqb-true h g (left_true (eqb h g) (eqb c d) is))) (a.registers h c);
}
own_change shapes g e f _ _ (field n k v mine own) a = record {
  fields = λ m c. own_if m.g (same_name m n && eqb c k) v (e.field m c)
      (λ is. own_at g m.g v own (eqb-true m.g n.g (left_true (eqb m.g n.g) (eqb m.k n.k) (left_true (same_name m n) (eqb c k) is)) ∙ mine)) (a.fields m c);
  globals = a.globals;
  registers = a.registers;
}
own_change shapes g e f _ _ (global v own) a = record {
  fields = a.fields;
  globals = λ h. own_if h (eqb h g) v (e.global h) (λ is. own_at g h v own (eqb-true h g is)) (a.globals h);
  registers = a.registers;
}
own_change shapes g e f _ _ ends a = record { fields = a.fields; globals = a.globals; registers = a.registers }
