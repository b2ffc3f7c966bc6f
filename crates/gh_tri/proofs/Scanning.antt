-- What the scans of the first n fields of an object leave, and those of the first n registers of a stack.
use Rattle.std.proofs.Common.{◌≡◌, ℕ, zero, suc, ◌+◌, ◌<◌, ◌≤◌, Bool, true, refl, sym, ◌∙◌, ap, subst, inl, inr, List, [], ◌∷◌, ◌++◌, arith}
use Rattle.gh_tri.proofs.Vocabulary.{after, Blacken, cases_lt, field_scans, IsField, IsStackRegister, MayBlacken, Move, moved, nat_tests, object_scan, put2, register_scans, ScanField, ScanRegister, Tricolour}
use Rattle.gh_tri.proofs.Tells.{put2-tells}

-- one move more
pub after-push : (p : Tricolour) (moves : List Move) (m : Move) → after p (moves ++ m ∷ []) ≡ moved (after p moves) m
after-push p [] m = refl
after-push p (x ∷ moves) m = after-push (moved p x) moves m

-- the scan of one field more
pub field-push : (p : Tricolour) (o n : ℕ) → moved (after p (field_scans o n)) (ScanField o n) ≡ after p (field_scans o (n + 1))
field-push p o n = grind (arith, after-push)

pub register-push : (p : Tricolour) (s n : ℕ) → moved (after p (register_scans s n)) (ScanRegister s n) ≡ after p (register_scans s (n + 1))
register-push p s n = grind (arith, after-push)

-- what these scans leave alone
pub record KeepsSizes (p q : Tricolour) : Type 0 where
  pub objects : q.objects ≡ p.objects
  pub fields : q.fields ≡ p.fields
  pub stacks : q.stacks ≡ p.stacks

pub field_scans-sizes : (p : Tricolour) (o n : ℕ) → KeepsSizes p (after p (field_scans o n))
field_scans-sizes p o zero = record { objects = refl; fields = refl; stacks = refl }
field_scans-sizes p o (suc n) =
    let k = field_scans-sizes p o n in
    let e = after-push p (field_scans o n) (ScanField o n) in
    record { objects = ap (λ (q : Tricolour). q.objects) e ∙ k.objects; fields = ap (λ (q : Tricolour). q.fields) e ∙ k.fields; stacks = ap (λ (q : Tricolour). q.stacks) e ∙ k.stacks }

pub register_scans-sizes : (p : Tricolour) (s n : ℕ) → KeepsSizes p (after p (register_scans s n))
register_scans-sizes p s zero = record { objects = refl; fields = refl; stacks = refl }
register_scans-sizes p s (suc n) =
    let k = register_scans-sizes p s n in
    let e = after-push p (register_scans s n) (ScanRegister s n) in
    record { objects = ap (λ (q : Tricolour). q.objects) e ∙ k.objects; fields = ap (λ (q : Tricolour). q.fields) e ∙ k.fields; stacks = ap (λ (q : Tricolour). q.stacks) e ∙ k.stacks }

-- the fields that were passed are scanned
pub fields-scanned : (p : Tricolour) (o n f : ℕ) → f < n → (after p (field_scans o n)).scanned o f ≡ true
fields-scanned p o zero f lt = absurd (omega arith)
fields-scanned p o (suc n) f lt =
    ap (λ (q : Tricolour). q.scanned o f) (after-push p (field_scans o n) (ScanField o n))
    ∙ elim (put2-tells (after p (field_scans o n)).scanned o n true o f) [
      | inl y ↦ y.2
      | inr keeps ↦ elim (cases_lt f n) [
        | inl below ↦ keeps ∙ fields-scanned p o n f below
        | inr le ↦ (let same : f ≡ n = omega arith in ap (put2 (after p (field_scans o n)).scanned o n true o) same ∙ at (after p (field_scans o n)).scanned o n)
      ]
    ] where
      at : (g : ℕ → ℕ → Bool) (o n : ℕ) → put2 g o n true o n ≡ true
      at g o n = grind (arith, nat_tests)

-- the next scan may be made, and so may the last move
pub field-may : (p q : Tricolour) (o n : ℕ) → q ≡ after p (field_scans o n) → o < p.objects → n < p.fields → IsField q o n
field-may p q o n e made within = grind (arith, field_scans-sizes)

pub object-may : (p q : Tricolour) (o n : ℕ) → q ≡ after p (field_scans o n) → o < p.objects → p.fields ≤ n → MayBlacken q o
object-may p q o n e made all =
    let k = field_scans-sizes p o n in
    subst (λ (t : Tricolour). MayBlacken t o) (sym e) (record {
      made = rw (k.objects) made;
      fields = λ f lt. fields-scanned p o n f (below f (rw (k.fields) at lt));
    }) where
      below : (f : ℕ) → f < p.fields → f < n
      below f lt = omega arith

pub register-may : (p q : Tricolour) (s n : ℕ) → q ≡ after p (register_scans s n) → s < p.stacks → n < 16 → IsStackRegister q s n
register-may p q s n e stack within = grind (arith, register_scans-sizes)

-- the scan of an object ends in the black object
pub object-ends : (p q r : Tricolour) (o n : ℕ) → q ≡ after p (field_scans o n) → n ≡ p.fields → r ≡ moved q (Blacken o) → r ≡ after p (object_scan o p.fields)
object-ends p q r o n e end h = grind (arith, after-push)
