-- Where slots begin in a word, and what it says that no bit of them is clear there.
use Rattle.std.proofs.Common.{◌≡◌, ℕ, zero, suc, ◌+◌, ◌*◌, ◌/◌, ◌%◌, ◌-◌, ◌^◌, ◌<◌, ◌≤◌, ◌⊎◌, inl, inr, Bool, true, cond, nat_eq, refl, sym, ap, ◌∙◌, arith, bit_and, min, slice_index}
use Rattle.std.proofs.lemmas.Bool.{agree_below, agree_below_at}
use Rattle.std.proofs.lemmas.Nat.{div-add-mod', mod_below, pow_pos}
use Rattle.gh_central.proofs.Vocabulary.{bit_at, bit_at-lt, bit_at-zero, bit_at_and, bit_at_cat_high, bit_at_not, bit_not, cases_lt, mod-eq_of_lt, mul-add-mod_self_right, nat_tests, slot_starts, w64}

-- ---- the table

-- bit k is set, if a slot of s words begins there
is_start : (s k : ℕ) → Bool
is_start s k = cond (nat_eq (k % s) 0) (nat_eq (bit_at (slice_index slot_starts s) k) 1) true

always : ℕ → Bool
always k = true

starts_tested : agree_below (λ s. agree_below (is_start (suc s)) always 64) always 63 ≡ true
unfolding is_start always slot_starts
starts_tested = refl

start_is_set : (s k : ℕ) → s < 63 → k < 64 → k % suc s ≡ 0 → bit_at (slice_index slot_starts (suc s)) k ≡ 1
unfolding is_start always
start_is_set s k small low whole =
    let tested : agree_below (is_start (suc s)) always 64 ≡ true = agree_below_at (λ s. agree_below (is_start (suc s)) always 64) always 63 s starts_tested small in
    let test : is_start (suc s) k ≡ true = agree_below_at (is_start (suc s)) always 64 k tested low in
    grind (arith, nat_tests)

-- ---- a word of a span

-- two slots begin so far apart; r words on is the first of them
apart : (n before r j : ℕ) → r < n → (before + r) % n ≡ 0 → (before + j) % n ≡ 0 → (r ≤ j) × ((j - r) % n ≡ 0)
apart n before r j low first other = go (cases_lt j r) where
  go : (j < r) ⊎ (r ≤ j) → (r ≤ j) × ((j - r) % n ≡ 0)
  go (inl lt) =
      let whole = div-add-mod' (before + j) n in
      let sum : before + r ≡ (before + j) / n * n + (r - j) = omega (arith, whole, other) in
      let rest : (r - j) % n ≡ 0 = sym (ap (λ x. x % n) sum ∙ mul-add-mod_self_right ((before + j) / n) n (r - j)) ∙ first in
      let small : (r - j) % n ≡ r - j = mod-eq_of_lt (omega arith) in
      absurd (omega arith)
  go (inr ge) =
      let whole = div-add-mod' (before + r) n in
      let sum : before + j ≡ (before + r) / n * n + (j - r) = omega (arith, whole, first) in
      (ge, sym (ap (λ x. x % n) sum ∙ mul-add-mod_self_right ((before + r) / n) n (j - r)) ∙ other)

-- moved down by r places
moved_down : (n r j : ℕ) → r ≤ j → bit_at n j ≡ bit_at (n / 2 ^ r) (j - r)
moved_down n r j from = sym (ap (λ (x : ℕ). bit_at x j) (div-add-mod' n (2 ^ r))) ∙ bit_at_cat_high (n / 2 ^ r) r (n % 2 ^ r) j (mod_below n (2 ^ r) (pow_pos r)) from

-- a bit that both have
no_common : (a b k : ℕ) → bit_and a b ≡ 0 → bit_at b k ≡ 1 → bit_at a k ≡ 0
no_common a b k none set =
    let both : min (bit_at a k) (bit_at b k) ≡ 0 = sym (bit_at_and a b k) ∙ ap (λ (x : ℕ). bit_at x k) none ∙ bit_at-zero k in
    let small = bit_at-lt a k in
    omega arith

-- where a slot begins r words on, and no bit from there on is clear at which one begins, each of the word is set
pub all_set : (slot before r found j : ℕ) → 1 ≤ slot → slot < 64 → r < slot → (before + r) % slot ≡ 0 → found < 2 ^ 64 → bit_and (bit_not w64 found / 2 ^ r) (slice_index slot_starts slot) ≡ 0 → j < 64 → (before + j) % slot ≡ 0 → bit_at found j ≡ 1
all_set zero before r found j some small low first fits none within other = absurd (omega arith)
all_set (suc s) before r found j some small low first fits none within other =
    let p = apart (suc s) before r j low first other in
    let set = start_is_set s (j - r) (omega arith) (omega arith) p.1 in
    let clear : bit_at (bit_not w64 found / 2 ^ r) (j - r) ≡ 0 = no_common (bit_not w64 found / 2 ^ r) (slice_index slot_starts (suc s)) (j - r) none set in
    let from : r ≤ j = p.0 in
    let there : bit_at (bit_not w64 found) j ≡ 0 = moved_down (bit_not w64 found) r j from ∙ clear in
    let turned : bit_at (bit_not w64 found) j ≡ 1 - bit_at found j = bit_at_not w64 found j fits within in
    let one = bit_at-lt found j in
    omega arith

-- ---- a remainder by a quotient that may be wrong

-- in 64 bits, a quotient that is too high leaves more than that
pub left_in_word : (n slot guess : ℕ) → n < 2 ^ 32 → slot < 2 ^ 6 → guess < 2 ^ 32 → (n + (2 ^ 64 - guess * slot)) % 2 ^ 64 < slot → (n + (2 ^ 64 - guess * slot)) % 2 ^ 64 ≡ n % slot
left_in_word n slot guess few short near small = grind arith
