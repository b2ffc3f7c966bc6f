-- A number for each of so many things of each kind: those of a kind stand behind those of the kinds before it.
use Rattle.std.proofs.Common.{◌≡◌, inl, inr, ℕ, zero, suc, ◌+◌, ◌*◌, ◌<◌, ◌≤◌, sym, ap, subst, arith, mul-le-mul_left}
use Rattle.gh_plenty.proofs.Vocabulary.{cases_lt, total}

module _ (f : ℕ → ℕ) where
  pub up : (m g : ℕ) → g < m → total f g + f g ≤ total f m
  up zero g lt = absurd (omega (arith, lt))
  up (suc m) g lt = elim (cases_lt g m) [
    | inl less ↦ let le = up m g less in omega (arith, le)
    | inr le ↦ let same : g ≡ m = omega (arith, lt, le) in subst (λ (x : ℕ). total f x + f x ≤ total f m + f m) (sym same) (omega arith)
  ]

  pub record Same (g k h j : ℕ) : Type 0 where
    pub kind : g ≡ h
    pub thing : k ≡ j

  -- two that have one number are the same
  pub one : (g k h j : ℕ) → k < f g → j < f h → total f g + k ≡ total f h + j → Same g k h j
  one g k h j few less same = elim (cases_lt g h) [
    | inl lt ↦ absurd (let le = up h g lt in omega (arith, le, few, same))
    | inr ge ↦ elim (cases_lt h g) [
      | inl lt ↦ absurd (let le = up g h lt in omega (arith, le, less, same))
      | inr le ↦ let is : g ≡ h = omega (arith, ge, le) in record { kind = is; thing = let totals = ap (total f) is in omega (arith, totals, same) }
    ]
  ]

-- a number by its digit and what is left, below so many
pub record Digits (x i y j : ℕ) : Type 0 where
  pub digit : x ≡ y
  pub left : i ≡ j

less-of : (s x y i : ℕ) → i < s → x < y → s * x + i < s * y
less-of s x y i few lt = let le = mul-le-mul_left s (let up : suc x ≤ y = omega (arith, lt) in up) in let more : s * suc x ≡ s * x + s = omega arith in omega (arith, le, more, few)

pub digits : (s x i y j : ℕ) → i < s → j < s → s * x + i ≡ s * y + j → Digits x i y j
digits s x i y j few less same = elim (cases_lt x y) [
  | inl lt ↦ absurd (let le = less-of s x y i few lt in omega (arith, le, same))
  | inr ge ↦ elim (cases_lt y x) [
    | inl lt ↦ absurd (let le = less-of s y x j less lt in omega (arith, le, same))
    | inr le ↦ let is : x ≡ y = omega (arith, ge, le) in record { digit = is; left = let rows = ap (λ (n : ℕ). s * n) is in omega (arith, rows, same) }
  ]
]
