-- Fields packed 64 a word.
use Rattle.std.proofs.Common.{◌≡◌, ℕ, zero, suc, ◌+◌, ◌-◌, ◌*◌, ◌/◌, ◌^◌, ◌<◌, ◌≤◌, min, Bool, false, cond, List, [], ◌∷◌, ◌++◌, length, get_or, take, drop, map, refl, sym, ap, ◌∙◌, arith}
use Rattle.std.proofs.lemmas.List.{length-drop}
use Rattle.std.proofs.Math.Nat.{two-pow-succ, min_comm}
use Rattle.gh_script.proofs.Vocabulary.{at_drop_more, bits_as_number, drop_all, from_bool, map-range_with_len_more, packed, range_with_len, take_min, take_rest}

two_pow_pos : (n : ℕ) → 0 < 2 ^ n
two_pow_pos zero = omega arith
two_pow_pos (suc n) = omega (arith, two_pow_pos n, two-pow-succ n)

pub bit_small : (bit : Bool) → cond bit 1 0 ≤ 1
bit_small bit = grind arith

pub word_of-lt : (fields : List Bool) (n : ℕ) → length fields ≤ n → bits_as_number fields < 2 ^ n
unfolding bits_as_number
word_of-lt [] n h = two_pow_pos n
word_of-lt (bit ∷ bits) zero h = absurd (omega arith)
word_of-lt (bit ∷ bits) (suc n) h = omega (arith, word_of-lt bits n (omega arith), two-pow-succ n, bit_small bit)

word_of-cons : (bit : Bool) (bits : List Bool) → bits_as_number (bit ∷ bits) ≡ cond bit 1 0 + 2 * bits_as_number bits
unfolding bits_as_number
word_of-cons bit bits = refl

pub word_of-more : (fields : List Bool) (i w : ℕ) → 0 < i → i ≤ length fields → w ≡ bits_as_number (drop i fields) → 2 * w + cond (get_or fields (i - 1) false) 1 0 ≡ bits_as_number (drop (i - 1) fields)
word_of-more fields i w some within same =
    let back : (i - 1) + 1 ≡ i = omega arith in
    let d = at_drop_more bits_as_number fields (i - 1) false (omega arith) in
    let e : bits_as_number (drop (i - 1) fields) ≡ cond (get_or fields (i - 1) false) 1 0 + 2 * bits_as_number (drop i fields) = rw back at (d ∙ word_of-cons (get_or fields (i - 1) false) (drop ((i - 1) + 1) fields)) in
    omega (arith, e)

pub word_of-end : (fields : List Bool) (i : ℕ) → length fields ≤ i → 0 ≡ bits_as_number (drop i fields)
unfolding bits_as_number
word_of-end fields i le = sym (ap bits_as_number (drop_all i fields le))

pub word_of-small : (fields : List Bool) (i w : ℕ) → 0 < i → length fields ≤ 64 → w ≡ bits_as_number (drop i fields) → w < 2 ^ 63
word_of-small fields i w some wide same = rw same (word_of-lt (drop i fields) 63 (omega (arith, length-drop i fields)))

pub packed-all : (fields : List Bool) (words : List ℕ) (i : ℕ) → i ≡ (length fields + 63) / 64 → words ≡ map (λ k. bits_as_number (take 64 (drop (64 * k) fields))) (range_with_len 0 i) → words ≡ packed fields
unfolding packed
packed-all fields words i all so_far = so_far ∙ ap (λ (n : ℕ). map (λ k. bits_as_number (take 64 (drop (64 * k) fields))) (range_with_len 0 n)) all

pub packed-more : (fields : List Bool) (words : List ℕ) (i w : ℕ) → words ≡ map (λ k. bits_as_number (take 64 (drop (64 * k) fields))) (range_with_len 0 i) → w ≡ bits_as_number (take 64 (drop (64 * i) fields))
    → words ++ w ∷ [] ≡ map (λ k. bits_as_number (take 64 (drop (64 * k) fields))) (range_with_len 0 (i + 1))
packed-more fields words i w so_far same = rw (so_far, same) (sym (map-range_with_len_more (λ k. bits_as_number (take 64 (drop (64 * k) fields))) 0 i i (omega arith)))

-- the front of a list that was cut at its end before
pub word_of-cut : (fields rest : List Bool) (n w : ℕ) → rest ≡ take (length fields - n) (drop n fields) → w ≡ bits_as_number (take (min (length rest) 64) rest) → w ≡ bits_as_number (take 64 (drop n fields))
word_of-cut fields rest n w from same =
    let whole : rest ≡ drop n fields = from ∙ take_rest fields n in
    let e : take (min (length rest) 64) rest ≡ take 64 rest = rw (min_comm (length rest) 64) (take_min 64 rest) in
    same ∙ ap bits_as_number e ∙ ap (λ (xs : List Bool). bits_as_number (take 64 xs)) whole

pub from_bool-is : (b : Bool) → from_bool b ≡ cond b 1 0
from_bool-is b = grind arith
