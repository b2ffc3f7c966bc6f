-- What a script reaches is decided. A set of reached names grows by one where a global, a register or a field of a name in it names another; and since names are finitely many, it is closed in the end.
use Rattle.std.proofs.Common.{◌≡◌, ℕ, zero, suc, ◌<◌, ◌≤◌, ◌⊎◌, Bool, true, false, cond, Some, refl, sym, ap, subst, arith, inl, inr, ◌∙◌}
use Rattle.gh_cycle.proofs.Vocabulary.{Arena, Decided, Ever, EverValue, from_field, from_global, from_register, IsBounded, IsMade, IsReached, IsReachedAt, Name, names, nat_tests, Place, PlacesAreDecided, Reach, ReachIsDecided, REGISTERS, same_name, size_for, TheReachedWereMade}
use Rattle.gh_cycle.proofs.Searching.{decided-of, search, total, total-least, total-less}

pub reached-made : TheReachedWereMade
reached-made z e h n (from_global k n' is) = (h.globals k n is).1
reached-made z e h n (from_register g d n' runs is) = (h.registers g d n is).2
reached-made z e h n (from_field m k n' r is) = (h.fields m k n is).1

-- Names.

abbrev named : ℕ → ℕ → Name
named g k = record { g = g; k = k }

pub name-tells : (n m : Name) → same_name n m ≡ true → n ≡ m
name-tells n m h =
    let p : n.g ≡ m.g = grind (arith, nat_tests) in
    let q : n.k ≡ m.k = grind (arith, nat_tests) in
    λ i. record { g = p i; k = q i }

pub name-itself : (n : Name) → same_name n n ≡ true
name-itself n = grind (arith, nat_tests)

-- 1 for a name that a set lacks
abbrev lacks : Bool → ℕ
lacks true = 0
lacks false = 1

lacks-less : (b c : Bool) → lacks (cond b true c) ≤ lacks c
lacks-less b c = grind arith

module _ (z : Arena) (e : Ever) (h : IsBounded z e) where
  abbrev Set : Type 0
  Set = Name → Bool

  abbrev Sound : Set → Type 0
  Sound s = (n : Name) → s n ≡ true → Reach e n

  -- what the value names is in the set
  abbrev IsIn : Set → EverValue → Type 0
  IsIn s v = (n : Name) → names v ≡ Some n → s n ≡ true

  record Closed (s : Set) : Type 0 where
    globals : (k : ℕ) → IsIn s (e.global k)
    registers : (g d : ℕ) → e.ended g ≡ false → IsIn s (e.register g d)
    fields : (m : Name) (k : ℕ) → s m ≡ true → IsIn s (e.field m k)

  complete : (s : Set) → Closed s → (n : Name) → Reach e n → s n ≡ true
  complete s c n (from_global k n' is) = c.globals k n is
  complete s c n (from_register g d n' runs is) = c.registers g d runs n is
  complete s c n (from_field m k n' r is) = c.fields m k (complete s c m r) n is

  -- a reached name that the set lacks
  abbrev Further : Set → Type 0
  Further s = (n : Name) × Reach e n × (s n ≡ false)

  look : (s : Set) (v : EverValue) → IsReached e v → Further s ⊎ IsIn s v
  look s EverValue.Nil r = inr (λ n is. absurd (cc))
  look s (EverValue.Int i) r = inr (λ n is. absurd (cc))
  look s (EverValue.Ref m) r = by (s m) refl where
    by : (b : Bool) → s m ≡ b → Further s ⊎ IsIn s (EverValue.Ref m)
    by true t = inr (λ n is. let same : m ≡ n = cc in ap s (sym same) ∙ t)
    by false t = inl (m, r m refl, t)

  in-globals : (s : Set) → Further s ⊎ ((k : ℕ) → k < z.layout.globals → IsIn s (e.global k))
  in-globals s = search z.layout.globals (λ k. IsIn s (e.global k)) (λ k. look s (e.global k) (λ n is. from_global k n is))

  in-registers : (s : Set) → Further s ⊎ ((g : ℕ) → g < z.layout.goroutines → (d : ℕ) → d < REGISTERS → e.ended g ≡ false → IsIn s (e.register g d))
  in-registers s = search z.layout.goroutines (λ g. (d : ℕ) → d < REGISTERS → e.ended g ≡ false → IsIn s (e.register g d)) (λ g. by g (e.ended g) refl) where
    by : (g : ℕ) (b : Bool) → e.ended g ≡ b → Further s ⊎ ((d : ℕ) → d < REGISTERS → e.ended g ≡ false → IsIn s (e.register g d))
    by g true t = inr (λ d l runs. absurd (cc))
    by g false t = elim (search REGISTERS (λ d. IsIn s (e.register g d)) (λ d. look s (e.register g d) (λ n is. from_register g d n t is))) [
      | inl w ↦ inl w
      | inr all ↦ inr (λ d l runs. all d l)
    ]

  in-object : (s : Set) → Sound s → (m : Name) → Further s ⊎ (s m ≡ true → (k : ℕ) → k < size_for z.shapes e.type_of m → IsIn s (e.field m k))
  in-object s sound m = by (s m) refl where
    by : (b : Bool) → s m ≡ b → Further s ⊎ (s m ≡ true → (k : ℕ) → k < size_for z.shapes e.type_of m → IsIn s (e.field m k))
    by false t = inr (λ y. absurd (cc))
    by true t = elim (search (size_for z.shapes e.type_of m) (λ k. IsIn s (e.field m k)) (λ k. look s (e.field m k) (λ n is. from_field m k n (sound m t) is))) [
      | inl w ↦ inl w
      | inr all ↦ inr (λ y. all)
    ]

  abbrev AllOf : Set → (g j : ℕ) → Type 0
  AllOf s g j = s (named g j) ≡ true → (k : ℕ) → k < size_for z.shapes e.type_of (named g j) → IsIn s (e.field (named g j) k)

  in-objects : (s : Set) → Sound s → Further s ⊎ ((g : ℕ) → g < z.layout.goroutines → (j : ℕ) → j < e.made g → AllOf s g j)
  in-objects s sound = search z.layout.goroutines (λ g. (j : ℕ) → j < e.made g → AllOf s g j) (λ g. search (e.made g) (AllOf s g) (λ j. in-object s sound (named g j)))

  -- who makes objects is a goroutine that there is
  maker : (n : Name) → IsMade e.made n → n.g < z.layout.goroutines
  maker n m = let none = h.none n.g in grind (arith)

  find : (s : Set) → Sound s → Further s ⊎ Closed s
  find s sound = elim (in-globals s) [
    | inl w ↦ inl w
    | inr globals ↦ elim (in-registers s) [
      | inl w ↦ inl w
      | inr registers ↦ elim (in-objects s sound) [
        | inl w ↦ inl w
        | inr objects ↦ inr (record {
          globals = λ k n is. globals k (h.globals k n is).0 n is;
          registers = λ g d runs n is. registers g (h.registers g d n is).0 d (h.registers g d n is).1 runs n is;
          fields = λ m k t n is. let made = reached-made z e h m (sound m t) in objects m.g (maker m made) m.k made t k (h.fields m k n is).0 n is;
        })
      ]
    ]
  ]

  abbrev with_name : Set → Name → Set
  with_name s m n = cond (same_name n m) true (s n)

  sound-with : (s : Set) (m : Name) → Sound s → Reach e m → Sound (with_name s m)
  sound-with s m sound r n = by (same_name n m) refl where
    by : (b : Bool) → same_name n m ≡ b → cond b true (s n) ≡ true → Reach e n
    by true t is = subst (Reach e) (sym (name-tells n m t)) r
    by false t is = sound n is

  -- how many names the set lacks
  abbrev missing-of : Set → ℕ → ℕ
  missing-of s g = total (λ j. lacks (s (named g j))) (e.made g)

  abbrev missing : Set → ℕ
  missing s = total (missing-of s) z.layout.goroutines

  missing-less : (s : Set) (m : Name) → IsMade e.made m → s m ≡ false → missing (with_name s m) < missing s
  missing-less s m made lacking = total-less (missing-of (with_name s m)) (missing-of s) m.g z.layout.goroutines least (maker m made) less where
    least : (g : ℕ) → missing-of (with_name s m) g ≤ missing-of s g
    least g = total-least (λ j. lacks (with_name s m (named g j))) (λ j. lacks (s (named g j))) (e.made g) (λ j. lacks-less (same_name (named g j) m) (s (named g j)))

    here : lacks (with_name s m m) < lacks (s m)
    here = subst (λ (b : Bool). lacks (cond b true (s m)) < lacks (s m)) (sym (name-itself m)) (subst (λ (b : Bool). 0 < lacks b) (sym lacking) (omega arith))

    less : missing-of (with_name s m) m.g < missing-of s m.g
    less = total-less (λ j. lacks (with_name s m (named m.g j))) (λ j. lacks (s (named m.g j))) m.k (e.made m.g) (λ j. lacks-less (same_name (named m.g j) m) (s (named m.g j))) made here

  abbrev Whole : Type 0
  Whole = (s : Set) × Sound s × Closed s

  close : (most : ℕ) (s : Set) → Sound s → missing s < most → Whole
  close zero s sound l = absurd (omega (arith, l))
  close (suc most) s sound l = elim (find s sound) [
    | inr c ↦ (s, sound, c)
    | inl w ↦
        let less = missing-less s w.0 (reached-made z e h w.0 w.1) w.2 in
        close most (with_name s w.0) (sound-with s w.0 sound w.1) (omega (arith, l, less))
  ]

  whole : Whole
  whole = close (suc (missing (λ n. false))) (λ n. false) (λ n is. absurd (cc)) (omega arith)

  decided : Decided (Reach e)
  decided = grind (arith, complete, whole)

  module _ (place : Place) where
    abbrev At : ℕ → Type 0
    At o = (n : Name) × Reach e n × (place n ≡ o)

    abbrev NotAt : (s : Set) → (o g j : ℕ) → Type 0
    NotAt s o g j = s (named g j) ≡ true → place (named g j) ≡ o → ⊥

    look-at : (s : Set) → Sound s → (o g j : ℕ) → At o ⊎ NotAt s o g j
    look-at s sound o g j = grind arith

    decided-at : (o : ℕ) → At o ⊎ (At o → ⊥)
    decided-at o = let w = whole in elim (search z.layout.goroutines (λ g. (j : ℕ) → j < e.made g → NotAt w.0 o g j) (λ g. search (e.made g) (NotAt w.0 o g) (look-at w.0 w.1 o g))) [
      | inl at ↦ inl at
      | inr none ↦ inr (λ r. let made = reached-made z e h r.0 r.1 in none r.0.g (maker r.0 made) r.0.k made (complete w.0 w.2 r.0 r.1) r.2)
    ]

pub reach-decided : ReachIsDecided
reach-decided z e h = decided z e h

pub places-decided : PlacesAreDecided
places-decided z h b = decided-of (IsReachedAt h) (decided-at z h.ever b h.place)
