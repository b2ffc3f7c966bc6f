-- Searches below a bound, a count that goes down while a search goes on, and tests made of what is found.
use Rattle.std.proofs.Common.{◌≡◌, ℕ, zero, suc, ◌+◌, ◌<◌, ◌≤◌, ◌⊎◌, Bool, true, false, sym, subst, arith, inl, inr, ◌↔◌}
use Rattle.gh_cycle.proofs.Vocabulary.{Decided, eqb_tells}

-- what is looked for is found, or each number below the bound has what it has where it is not found there
pub search : {W : Type 0} (bound : ℕ) (Q : ℕ → Type 0) → ((i : ℕ) → W ⊎ Q i) → W ⊎ ((i : ℕ) → i < bound → Q i)
search zero Q look = inr (λ i l. absurd (omega (arith, l)))
search (suc b) Q look = elim (search b Q look) [
  | inl w ↦ inl w
  | inr before ↦ elim (look b) [
    | inl w ↦ inl w
    | inr here ↦ inr (λ i l. elim (eqb_tells i b) [ inl y ↦ subst Q (sym y.1) here | inr x ↦ before i (omega (arith, l, x.1)) ])
  ]
]

abbrev pub total : (ℕ → ℕ) → ℕ → ℕ
total f zero = 0
total f (suc n) = total f n + f n

pub total-least : (f g : ℕ → ℕ) (n : ℕ) → ((i : ℕ) → f i ≤ g i) → total f n ≤ total g n
total-least f g zero h = omega arith
total-least f g (suc n) h =
    let e : total f n ≤ total g n = total-least f g n h in
    omega (arith, e, h n)

-- where one term is less and none is greater
pub total-less : (f g : ℕ → ℕ) (p n : ℕ) → ((i : ℕ) → f i ≤ g i) → p < n → f p < g p → total f n < total g n
total-less f g p zero h l less = absurd (omega (arith, l))
total-less f g p (suc n) h l less = elim (eqb_tells p n) [
  | inl y ↦
      let e : total f n ≤ total g n = total-least f g n h in
      let last : f n < g n = subst (λ (i : ℕ). f i < g i) y.1 less in
      omega (arith, e, last)
  | inr x ↦
      let e : total f n < total g n = total-less f g p n h (omega (arith, l, x.1)) less in
      omega (arith, e, h n)
]

-- what is decided at each is told by a test
abbrev told : {P : Type 0} → P ⊎ (P → ⊥) → Bool
told (inl p) = true
told (inr n) = false

told-tells : {P : Type 0} (d : P ⊎ (P → ⊥)) → (told d ≡ true) ↔ P
told-tells d = grind arith

pub decided-of : {A : Type 0} (P : A → Type 0) → ((x : A) → P x ⊎ (P x → ⊥)) → Decided P
decided-of P d = record { test = λ x. told (d x); tells = λ x. told-tells (d x) }
