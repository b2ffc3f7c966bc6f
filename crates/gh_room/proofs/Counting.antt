-- A row of numbers below a bound in which none comes twice is no longer than the bound.
use Rattle.std.proofs.Common.{◌≡◌, ℕ, zero, suc, ◌<◌, ◌≤◌, cond, eqb, arith}
use Rattle.gh_base.specs.Rows.{Row}

-- the first so many of a row lie below the bound, and none comes twice
pub record AreApart (row : Row) (many bound : ℕ) : Type 0 where
  pub below : (i : ℕ) → i < many → row i < bound
  pub apart : (i j : ℕ) → i < many → j < many → row i ≡ row j → i ≡ j

-- the row without its last, which stands now where the greatest number stood
abbrev closed : Row → (last greatest : ℕ) → Row
closed row last greatest i = cond (eqb (row i) greatest) (row last) (row i)

-- so it has one place less and one number less
one_less : (row : Row) (n k : ℕ) → AreApart row (suc n) (suc k) → AreApart (closed row n k) n k
one_less row n k a = grind arith

pub no_more : (bound many : ℕ) (row : Row) → AreApart row many bound → many ≤ bound
no_more bound zero row a = omega arith
no_more zero (suc n) row a = let no : row 0 < 0 = a.below 0 (omega arith) in absurd (omega (arith, no))
no_more (suc k) (suc n) row a = let le : n ≤ k = no_more k n (closed row n k) (one_less row n k a) in omega (arith, le)
