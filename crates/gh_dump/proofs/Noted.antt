-- The maps after one entry more.
use Rattle.std.proofs.Common.{◌≡◌, ℕ, ◌==◌, ◌||◌, ◌&&◌, Bool, true, false, cond, Option, Some, None, refl, ap, ◌∙◌, arith}
use Rattle.std.proofs.lemmas.Bool.{eqb-true}
use Rattle.std.proofs.lemmas.Bool.Decides.{nat_tests}
use Rattle.std.specs.HashMap.{get, HashMap}
use Rattle.gh_dump.specs.Kept.{same_field, same_global}
use Rattle.gh_dump.specs.Names.{same_name}
use Rattle.gh_dump.specs.Vocabulary.{is_some, Name, option_or}
use Rattle.gh_dump.proofs.Lines.{name_same}
use Rattle.gh_dump.proofs.Lists.{and_parts}

pub name_turned : (a b : Name) → same_name a b ≡ same_name b a
name_turned a b = grind (arith, nat_tests)

number_turned : (a b : ℕ) → (a == b) ≡ (b == a)
number_turned a b = grind (arith, nat_tests)

noted : {V : Type 0} (m : Option V) (u t : Bool) (v : V) → u ≡ t → (t ≡ true → is_some m ≡ false) → cond u (Some v) m ≡ option_or m (cond t (Some v) None)
noted None true true v e h = refl
noted (Some x) true true v e h = absurd (let f : true ≡ false = h refl in cc)
noted m true false v e h = absurd (cc)
noted m false true v e h = absurd (cc)
noted None false false v e h = refl
noted (Some x) false false v e h = refl

module _ {S : Type 0} where
  pub field_noted : (old new : HashMap (Name × ℕ) Name S) (p : Name) (i : ℕ) (o : Name) → is_some (get same_field old (p, i)) ≡ false
      → ((k : Name × ℕ) → get same_field new k ≡ cond (same_field (p, i) k) (Some o) (get same_field old k))
      → (q : Name) (j : ℕ) → get same_field new (q, j) ≡ option_or (get same_field old (q, j)) (cond (same_name q p && (j == i)) (Some o) None)
  field_noted old new p i o none up q j = up (q, j) ∙ noted (get same_field old (q, j)) (same_field (p, i) (q, j)) (same_name q p && (j == i)) o turned absent where
    turned : (same_name p q && (i == j)) ≡ (same_name q p && (j == i))
    turned = rw (name_turned p q, number_turned i j) refl

    absent : (same_name q p && (j == i)) ≡ true → is_some (get same_field old (q, j)) ≡ false
    absent t =
        let a = and_parts (same_name q p) (j == i) t in
        ap (λ (n : Name). is_some (get same_field old (n, j))) (name_same q p a.0) ∙ ap (λ (n : ℕ). is_some (get same_field old (p, n))) (eqb-true j i a.1) ∙ none

  pub global_noted : (old new : HashMap (ℕ × Name) Bool S) (k : ℕ) (o : Name)
      → ((g : ℕ × Name) → get same_global new g ≡ cond (same_global (k, o) g) (Some true) (get same_global old g))
      → (j : ℕ) (q : Name) → is_some (get same_global new (j, q)) ≡ (is_some (get same_global old (j, q)) || ((j == k) && same_name q o))
  global_noted old new k o up j q = ap (λ (m : Option Bool). is_some m) (up (j, q)) ∙ go (get same_global old (j, q)) (same_global (k, o) (j, q)) ((j == k) && same_name q o) turned where
    turned : ((k == j) && same_name o q) ≡ ((j == k) && same_name q o)
    turned = rw (name_turned o q, number_turned k j) refl

    go : (m : Option Bool) (u t : Bool) → u ≡ t → is_some (cond u (Some true) m) ≡ (is_some m || t)
    go None true true e = refl
    go (Some x) true true e = refl
    go m true false e = absurd (cc)
    go m false true e = absurd (cc)
    go None false false e = refl
    go (Some x) false false e = refl
