-- The test for a clear slot says what it is to say.
use Rattle.std.proofs.Common.{◌≡◌, ℕ, zero, suc, ◌+◌, ◌*◌, ◌/◌, ◌%◌, ◌-◌, ◌<◌, ◌≤◌, Bool, true, false, ◌||◌, ◌↔◌, IsTrue, refl, ap, ◌∙◌, arith}
use Rattle.gh_central.proofs.Vocabulary.{bit_at, IsClear, lacks_slot, LacksSlot, mul-mod_left, nat_tests, slot_is_clear}

module _ (slot first word found : ℕ) where
  clear_means : (i : ℕ) → slot_is_clear slot first word found i ≡ true → IsClear slot first word found i
  clear_means i e = record { begins = grind (arith, nat_tests); clear = grind (arith, nat_tests) }

  pub lacks_means : (slots : ℕ) → lacks_slot slot slots first word found ≡ true → LacksSlot slot slots first word found
  unfolding lacks_slot
  lacks_means zero e = absurd (cc)
  lacks_means (suc n) e = go (slot_is_clear slot first word found n) refl e (lacks_means n) where
    go : (b : Bool) → slot_is_clear slot first word found n ≡ b → (b || lacks_slot slot n first word found) ≡ true → (lacks_slot slot n first word found ≡ true → LacksSlot slot n first word found) →
        LacksSlot slot (suc n) first word found
    go true c e ih = (n, omega arith, clear_means n c)
    go false c e ih = let r = ih e in (r.0, let low = r.1 in omega arith, r.2)

  pub lacks_is : (slots : ℕ) → LacksSlot slot slots first word found → lacks_slot slot slots first word found ≡ true
  unfolding lacks_slot
  lacks_is zero (i, low, c) = absurd (omega arith)
  lacks_is (suc n) (i, low, c) = go (slot_is_clear slot first word found n) refl (λ l. lacks_is n (i, l, c)) where
    go : (b : Bool) → slot_is_clear slot first word found n ≡ b → (i < n → lacks_slot slot n first word found ≡ true) → (b || lacks_slot slot n first word found) ≡ true
    go b e ih = grind arith

  pub lacks_none : (slots : ℕ) → ¬ LacksSlot slot slots first word found → lacks_slot slot slots first word found ≡ false
  lacks_none slots h = go (lacks_slot slot slots first word found) refl where
    go : (b : Bool) → lacks_slot slot slots first word found ≡ b → b ≡ false
    go false e = refl
    go true e = absurd (h (lacks_means slots e))

pub test_is : (slot slots first word found : ℕ) (b : Bool) → IsTrue b ↔ LacksSlot slot slots first word found → b ≡ lacks_slot slot slots first word found
test_is slot slots first word found b h = grind (arith, lacks_is, lacks_none)

-- where each bit of the word is set at which a slot may begin, none is lacking
pub none_lacking : (slot slots first word found : ℕ) → first ≤ 64 * word → ((j : ℕ) → j < 64 → (64 * word - first + j) % slot ≡ 0 → bit_at found j ≡ 1) → lacks_slot slot slots first word found ≡ false
none_lacking slot slots first word found behind set = lacks_none slot first word found slots none where
  none : ¬ LacksSlot slot slots first word found
  none (i, low, c) =
      let at = first + i * slot in
      let begins : at / 64 ≡ word = c.begins in
      let clear : bit_at found (at % 64) ≡ 0 = c.clear in
      let into : 64 * word - first + at % 64 ≡ i * slot = omega arith in
      let one : bit_at found (at % 64) ≡ 1 = set (at % 64) (omega arith) (ap (λ (x : ℕ). x % slot) into ∙ mul-mod_left i slot) in
      absurd (omega arith)
