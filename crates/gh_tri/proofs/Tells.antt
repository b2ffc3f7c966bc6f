-- What a function with one value replaced has at each place, and what shading does to a colour.
use Rattle.std.proofs.Common.{◌≡◌, ◌≢◌, ℕ, Bool, true, false, ◌∙◌, ap, cond, eqb, inl, inr, ◌⊎◌, Option, Some, arith, ◌&&◌}
use Rattle.gh_tri.proofs.Vocabulary.{Black, Colour, eqb_tells, Grey, greyed, put1, put2, put3, put_row, shaded, White}

pub differ : {b : Bool} → b ≡ true → b ≡ false → ⊥
differ x y = cc

pub put-tells : {A : Type 0} (f : ℕ → A) (i : ℕ) (x : A) (a : ℕ) → ((i ≡ a) × (put1 f i x a ≡ x)) ⊎ ((i ≢ a) × (put1 f i x a ≡ f a))
put-tells f i x a = elim (eqb_tells i a) [
  | inl y ↦ inl (y.1, ap (λ b. cond b x (f a)) y.0)
  | inr n ↦ inr (n.1, ap (λ b. cond b x (f a)) n.0)
]

pub put_row-tells : {A : Type 0} (f : ℕ → ℕ → A) (i : ℕ) (x : A) (a b : ℕ) → ((i ≡ a) × (put_row f i x a b ≡ x)) ⊎ ((i ≢ a) × (put_row f i x a b ≡ f a b))
put_row-tells f i x a b = elim (eqb_tells i a) [
  | inl y ↦ inl (y.1, ap (λ c. cond c x (f a b)) y.0)
  | inr n ↦ inr (n.1, ap (λ c. cond c x (f a b)) n.0)
]

-- either the place is the one that is replaced, or the value is the old one
pub put2-tells : {A : Type 0} (f : ℕ → ℕ → A) (i j : ℕ) (x : A) (a b : ℕ) → ((i ≡ a) × (j ≡ b) × (put2 f i j x a b ≡ x)) ⊎ (put2 f i j x a b ≡ f a b)
put2-tells f i j x a b = elim (eqb_tells i a) [
  | inl y ↦ elim (eqb_tells j b) [
    | inl z ↦ inl (y.1, z.1, ap (λ c. cond (c && eqb j b) x (f a b)) y.0 ∙ ap (λ c. cond c x (f a b)) z.0)
    | inr n ↦ inr (ap (λ c. cond (c && eqb j b) x (f a b)) y.0 ∙ ap (λ c. cond c x (f a b)) n.0)
  ]
  | inr n ↦ inr (ap (λ c. cond (c && eqb j b) x (f a b)) n.0)
]

pub put3-tells : {A : Type 0} (f : ℕ → ℕ → ℕ → A) (i j k : ℕ) (x : A) (a b c : ℕ) → ((i ≡ a) × (j ≡ b) × (k ≡ c) × (put3 f i j k x a b c ≡ x)) ⊎ (put3 f i j k x a b c ≡ f a b c)
put3-tells f i j k x a b c = grind arith

pub colour-tells : (c : Colour) → (c ≡ White) ⊎ (c ≢ White)
colour-tells c = grind arith

-- a marked object is grey or black
pub marked-tells : (c : Colour) → c ≢ White → (c ≡ Grey) ⊎ (c ≡ Black)
marked-tells c h = grind arith

pub shaded-tells : (colour : ℕ → Colour) (v : Option ℕ) (o : ℕ) → ((v ≡ Some o) × (shaded colour v o ≡ greyed (colour o))) ⊎ ((v ≢ Some o) × (shaded colour v o ≡ colour o))
shaded-tells colour v o = grind arith

-- marks only grow
pub shaded-marks : (colour : ℕ → Colour) (v : Option ℕ) (o : ℕ) → colour o ≢ White → shaded colour v o ≢ White
shaded-marks colour v o h = grind arith

-- what was shaded is marked
pub shaded-named : (colour : ℕ → Colour) (v : Option ℕ) (o : ℕ) → v ≡ Some o → shaded colour v o ≢ White
shaded-named colour v o h = grind arith

pub shaded-black : (colour : ℕ → Colour) (v : Option ℕ) (o : ℕ) → shaded colour v o ≡ Black → colour o ≡ Black
shaded-black colour v o h = grind arith
