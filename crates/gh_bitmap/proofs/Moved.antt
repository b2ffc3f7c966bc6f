-- Bits moved by a number of places fit a word.
use Rattle.std.proofs.Common.{◌≡◌, ℕ, ◌+◌, ◌-◌, ◌*◌, ◌/◌, ◌%◌, ◌^◌, ◌<◌, ◌≤◌, sym, ◌∙◌, ap, subst, arith, add-zero}
use Rattle.std.proofs.lemmas.Nat.{pow-add, pow_pos, mul-add-lt}
use Rattle.gh_bitmap.proofs.Vocabulary.{div-eq_of_lt, div-lt_iff_lt-mul, mod-lt, mod-pow-add, mul-mod_left, mul_comm, pow_mono}

pub powers_apart : (low high : ℕ) → low ≤ high → high ≤ 64 → (2 ^ low ≤ 2 ^ high) × (2 ^ high ≤ 2 ^ 64)
powers_apart low high h k = (pow_mono {i = low} {j = high} h, pow_mono {i = high} {j = 64} k)

word_is : (s : ℕ) → s < 64 → 2 ^ (64 - s) * 2 ^ s ≡ 2 ^ 64
word_is s h = let e : 64 - s + s ≡ 64 = omega arith in sym (pow-add 2 (64 - s) s) ∙ ap (λ (t : ℕ). 2 ^ t) e

-- what is moved up, with what is moved over from the word below
pub moved_fits : (x y s : ℕ) → 0 < s → s < 64 → y < 2 ^ 64 → x * 2 ^ s % 2 ^ 64 + y / 2 ^ (64 - s) < 2 ^ 64
moved_fits x y s some few fits =
    let q = x * 2 ^ s / 2 ^ s % 2 ^ (64 - s) in
    let split : x * 2 ^ s % 2 ^ (64 - s + s) ≡ q * 2 ^ s + x * 2 ^ s % 2 ^ s = mod-pow-add (x * 2 ^ s) (64 - s) s in
    let none : x * 2 ^ s % 2 ^ s ≡ 0 = mul-mod_left x (2 ^ s) in
    let same : 2 ^ (64 - s + s) ≡ 2 ^ 64 = let e : 64 - s + s ≡ 64 = omega arith in ap (λ (t : ℕ). 2 ^ t) e in
    let up : x * 2 ^ s % 2 ^ 64 ≡ q * 2 ^ s = ap (λ t. x * 2 ^ s % t) (sym same) ∙ split ∙ ap (λ t. q * 2 ^ s + t) none ∙ add-zero (q * 2 ^ s) in
    let below : q < 2 ^ (64 - s) = mod-lt (x * 2 ^ s / 2 ^ s) (pow_pos (64 - s)) in
    let whole : 2 ^ s * 2 ^ (64 - s) ≡ 2 ^ 64 = mul_comm (2 ^ s) (2 ^ (64 - s)) ∙ word_is s few in
    let in_word : y < 2 ^ s * 2 ^ (64 - s) = subst (λ t. y < t) (sym whole) fits in
    let over : y / 2 ^ (64 - s) < 2 ^ s = (div-lt_iff_lt-mul (pow_pos (64 - s))).1 in_word in
    let all : q * 2 ^ s + y / 2 ^ (64 - s) < 2 ^ s * 2 ^ (64 - s) = mul-add-lt q (2 ^ s) (y / 2 ^ (64 - s)) (2 ^ (64 - s)) below over in
    subst (λ t. t + y / 2 ^ (64 - s) < 2 ^ 64) (sym up) (subst (λ t. q * 2 ^ s + y / 2 ^ (64 - s) < t) whole all)

-- nothing is moved over where nothing is moved up
pub moved_none : (y : ℕ) → y < 2 ^ 64 → y / 2 ^ 64 ≡ 0
moved_none y h = div-eq_of_lt h
