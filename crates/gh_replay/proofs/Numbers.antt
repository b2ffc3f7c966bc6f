-- A number in its range is read digit by digit.
use Rattle.std.proofs.Common.{◌≡◌, ℕ, ◌+◌, ◌-◌, ◌*◌, ◌^◌, ◌<◌, ◌≤◌, Bool, true, false, cond, eqb, ltb, ◌&&◌, ◌||◌, List, [], ◌∷◌, length, get_or, drop, Option, Some, None, refl, sym, ap, ◌∙◌, arith, nat_le, option_and_then}
use Rattle.std.proofs.lemmas.Bool.{lt-ltb}
use Rattle.gh_replay.proofs.Vocabulary.{at_drop_all, at_drop_more, digits_value_of, is_digit, list_all, nat_tests, number_spelled, ranged, value_from, within}

-- the word has no byte, or more than 20
abbrev pub unfit : List ℕ → Bool
unfit word = eqb (length word) 0 || ltb 20 (length word)

-- what a word spells, by the tests on it
abbrev tested : List ℕ → (unfit_is all small : Bool) → Option ℕ
tested word unfit_is all small = cond unfit_is None (cond (all && small) (Some (value_from 0 word)) None)

number_by : (word : List ℕ) → number_spelled word ≡ tested word (unfit word) (list_all is_digit word) (ltb (value_from 0 word) (2 ^ 64))
unfolding number_spelled digits_value_of
number_by word = refl

pub unfit_has_none : (least most : ℕ) (word : List ℕ) → unfit word ≡ true → None ≡ ranged least most word
unfit_has_none least most word e = rw (number_by word, e) refl

pub letters_have_none : (least most : ℕ) (word : List ℕ) → list_all is_digit word ≡ false → None ≡ ranged least most word
letters_have_none least most word e = grind (arith, number_by)

pub large_has_none : (least most : ℕ) (word : List ℕ) → most < value_from 0 word → None ≡ ranged least most word
large_has_none least most word lt = rw (number_by word) (go (unfit word) (list_all is_digit word) (ltb (value_from 0 word) (2 ^ 64))) where
  go : (b d s : Bool) → None ≡ option_and_then (within least most) (tested word b d s)
  go b d s = grind arith

pub digits_have_one : (least most : ℕ) (word : List ℕ) → unfit word ≡ false → list_all is_digit word ≡ true → value_from 0 word < 2 ^ 64 → ranged least most word ≡ within least most (value_from 0 word)
digits_have_one least most word e d lt = rw (number_by word, e, d, lt-ltb (value_from 0 word) (2 ^ 64) lt) refl

-- ---- one digit after the other

pub value_grows : (before : ℕ) (cs : List ℕ) → before ≤ value_from before cs
unfolding value_from
value_grows before [] = omega arith
value_grows before (c ∷ cs) = omega (arith, value_grows (10 * before + (c - 48)) cs)

pub digits_more : (cs : List ℕ) (i : ℕ) → i < length cs → is_digit (get_or cs i 0) ≡ true → list_all is_digit (drop i cs) ≡ list_all is_digit cs → list_all is_digit (drop (i + 1) cs) ≡ list_all is_digit cs
digits_more cs i lt e so_far =
    let here : list_all is_digit (drop i cs) ≡ (is_digit (get_or cs i 0) && list_all is_digit (drop (i + 1) cs)) = at_drop_more (list_all is_digit) cs i 0 lt in
    sym (ap (λ (b : Bool). b && list_all is_digit (drop (i + 1) cs)) e) ∙ sym here ∙ so_far

pub digits_stop : (cs : List ℕ) (i : ℕ) → i < length cs → is_digit (get_or cs i 0) ≡ false → list_all is_digit (drop i cs) ≡ list_all is_digit cs → list_all is_digit cs ≡ false
digits_stop cs i lt e so_far =
    let here : list_all is_digit (drop i cs) ≡ (is_digit (get_or cs i 0) && list_all is_digit (drop (i + 1) cs)) = at_drop_more (list_all is_digit) cs i 0 lt in
    sym so_far ∙ here ∙ ap (λ (b : Bool). b && list_all is_digit (drop (i + 1) cs)) e

pub digits_end : (cs : List ℕ) (i : ℕ) → length cs ≤ i → list_all is_digit (drop i cs) ≡ list_all is_digit cs → list_all is_digit cs ≡ true
digits_end cs i le so_far = sym so_far ∙ at_drop_all (list_all is_digit) cs i le

pub value_more : (v n : ℕ) (cs : List ℕ) (i : ℕ) → i < length cs → n ≡ get_or cs i 0 - 48 → value_from v (drop i cs) ≡ value_from 0 cs → value_from (10 * v + n) (drop (i + 1) cs) ≡ value_from 0 cs
unfolding value_from
value_more v n cs i lt e so_far = ap (λ (m : ℕ). value_from (10 * v + m) (drop (i + 1) cs)) e ∙ sym (at_drop_more (value_from v) cs i 0 lt) ∙ so_far

pub value_end : (v : ℕ) (cs : List ℕ) (i : ℕ) → length cs ≤ i → value_from v (drop i cs) ≡ value_from 0 cs → value_from 0 cs ≡ v
unfolding value_from
value_end v cs i le so_far = sym so_far ∙ at_drop_all (value_from v) cs i le

-- ---- its range

pub in_range : (least most v : ℕ) (word : List ℕ) → unfit word ≡ false → list_all is_digit word ≡ true → value_from 0 word ≡ v → v ≤ most → most ≤ 2 ^ 32 → least ≤ v → Some v ≡ ranged least most word
in_range least most v word fit digits is few most_fits high =
    let above : nat_le least v ≡ true = grind (arith, nat_tests) in
    let below : nat_le v most ≡ true = grind (arith, nat_tests) in
    sym (digits_have_one least most word fit digits (omega (arith, is)) ∙ ap (within least most) is ∙ rw (above, below) refl)

pub too_small : (least most v : ℕ) (word : List ℕ) → unfit word ≡ false → list_all is_digit word ≡ true → value_from 0 word ≡ v → v ≤ most → most ≤ 2 ^ 32 → v < least → None ≡ ranged least most word
too_small least most v word fit digits is few most_fits low =
    let below : nat_le least v ≡ false = grind (arith, nat_tests) in
    sym (digits_have_one least most word fit digits (omega (arith, is)) ∙ ap (within least most) is ∙ rw below refl)
