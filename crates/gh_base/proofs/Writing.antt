-- A row with one word written, and its bits; cells told apart.
use Rattle.std.proofs.Common.{◌≡◌, ◌≢◌, ℕ, ◌/◌, ◌%◌, ◌^◌, ◌<◌, Bool, true, false, cond, eqb, refl, sym, ap, ◌∙◌, arith, bit_or, max}
use Rattle.std.specs.Int.{bit_at}
use Rattle.std.proofs.lemmas.Nat.Bits.{bit_at_or, bit_at-lt, bit_at-pow_same, bit_at-pow_other}
use Rattle.std.proofs.lemmas.Bool.{eqb-true, eq-eqb}
use Rattle.gh_base.proofs.Vocabulary.{Cell, CellsAreTold, nat_tests, Row, row_bit, RowsAreWritten, same_cell, with_word}
use Rattle.gh_base.proofs.Apart.{same_cell_tells}

here : (row : Row) (i v : ℕ) → with_word row i v i ≡ v
here row i v = ap (λ (b : Bool). cond b v (row i)) (eq-eqb i i refl)

elsewhere : (row : Row) (i v x : ℕ) → i ≢ x → with_word row i v x ≡ row x
elsewhere row i v x ne = grind arith

bit_here : (row : Row) (i v x : ℕ) → x / 64 ≡ i → row_bit (with_word row i v) x ≡ bit_at v (x % 64)
unfolding row_bit
bit_here row i v x e = ap (λ (b : Bool). bit_at (cond b v (row (x / 64))) (x % 64)) (eq-eqb i (x / 64) (sym e))

bit_elsewhere : (row : Row) (i v x : ℕ) → i ≢ x / 64 → row_bit (with_word row i v) x ≡ row_bit row x
unfolding row_bit
bit_elsewhere row i v x ne = ap (λ (w : ℕ). bit_at w (x % 64)) (elsewhere row i v (x / 64) ne)

bit_of : (row : Row) (i x : ℕ) → x / 64 ≡ i → row_bit row x ≡ bit_at (row i) (x % 64)
unfolding row_bit
bit_of row i x e = ap (λ (k : ℕ). bit_at (row k) (x % 64)) e

max_one : (b : ℕ) → b < 2 → max b 1 ≡ 1
max_one b h = omega arith

max_zero : (b : ℕ) → max b 0 ≡ b
max_zero b = omega arith

sets_one : (row : Row) (a : ℕ) → row_bit (with_word row (a / 64) (bit_or (row (a / 64)) (2 ^ (a % 64)))) a ≡ 1
sets_one row a =
    bit_here row (a / 64) _ a refl ∙ bit_at_or (row (a / 64)) (2 ^ (a % 64)) (a % 64) ∙ ap (λ (n : ℕ). max (bit_at (row (a / 64)) (a % 64)) n) (bit_at-pow_same (a % 64))
    ∙ max_one (bit_at (row (a / 64)) (a % 64)) (bit_at-lt (row (a / 64)) (a % 64))

sets_no_other : (row : Row) (a x : ℕ) → a ≢ x → row_bit (with_word row (a / 64) (bit_or (row (a / 64)) (2 ^ (a % 64)))) x ≡ row_bit row x
sets_no_other row a x ne = go (eqb (a / 64) (x / 64)) refl where
  go : (b : Bool) → eqb (a / 64) (x / 64) ≡ b → row_bit (with_word row (a / 64) (bit_or (row (a / 64)) (2 ^ (a % 64)))) x ≡ row_bit row x
  go true e =
      let same : a / 64 ≡ x / 64 = eqb-true _ _ e in
      let apart : x % 64 ≢ a % 64 = λ f. ne (omega arith) in
      bit_here row (a / 64) _ x (sym same) ∙ bit_at_or (row (a / 64)) (2 ^ (a % 64)) (x % 64) ∙ ap (λ (n : ℕ). max (bit_at (row (a / 64)) (x % 64)) n) (bit_at-pow_other (a % 64) (x % 64) apart) ∙ max_zero (bit_at (row (a / 64)) (x % 64)) ∙ sym (bit_of row (a / 64) x (sym same))
  go false e = let apart : a / 64 ≢ x / 64 = grind (arith, nat_tests) in bit_elsewhere row (a / 64) _ x apart

pub rows : RowsAreWritten
rows = grind (arith, bit_elsewhere, bit_here, bit_of, elsewhere, here, sets_no_other, sets_one)

-- a cell is the same as itself
itself : (c : Cell) → same_cell c c ≡ true
itself c = grind arith

other : (c d : Cell) → c ≢ d → same_cell c d ≡ false
other c d ne = grind arith

pub cells : CellsAreTold
cells = record {
  same = λ c d. (same_cell_tells c d, λ e. ap (same_cell c) (sym e) ∙ itself c);
  other = other;
  put_here = λ words c v. ap (λ (b : Bool). cond b v (words c)) (itself c);
  put_elsewhere = λ words c d v ne. ap (λ (b : Bool). cond b v (words d)) (other c d ne);
}
