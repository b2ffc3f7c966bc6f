-- A name is text.
use Rattle.std.proofs.Common.{◌≡◌, ℕ, zero, suc, ◌<◌, ◌≤◌, Bool, true, ltb, ◌&&◌, List, [], ◌∷◌, length, get_or, refl, arith, inl, inr}
use Rattle.std.proofs.lemmas.Bool.{ltb-true}
use Rattle.std.proofs.lemmas.List.Recursion.{and_at}
use Rattle.gh_script.proofs.Vocabulary.{cases_lt, get_or_past, is_letter, is_name, is_name_byte, IsAscii, IsUtf8, IsUtf8-from_ascii, list_all}

pub and_left : (a b : Bool) → (a && b) ≡ true → a ≡ true
and_left a b h = grind arith

pub and_right : (a b : Bool) → (a && b) ≡ true → b ≡ true
and_right a b h = grind arith

letter_small : (c : ℕ) → is_letter c ≡ true → c < 128
letter_small c h = grind arith

name_byte_small : (c : ℕ) → is_name_byte c ≡ true → c < 128
name_byte_small c h = grind arith

rest_small : (cs : List ℕ) (i : ℕ) → list_all is_name_byte cs ≡ true → get_or cs i 0 < 128
rest_small cs i h = elim (cases_lt i (length cs)) [
  | inl lt ↦ name_byte_small (get_or cs i 0) (and_at (list_all is_name_byte) is_name_byte refl (λ x xs. refl) cs i 0 lt h)
  | inr le ↦ let e = get_or_past cs i 0 le in omega arith
]

name_ascii : (word : List ℕ) → is_name word ≡ true → IsAscii word
unfolding is_name
name_ascii [] h i = absurd cc
name_ascii (c ∷ cs) h zero = letter_small c (and_left (is_letter c) (ltb (length cs) 16) (and_left (is_letter c && ltb (length cs) 16) (list_all is_name_byte cs) h))
name_ascii (c ∷ cs) h (suc i) = rest_small cs i (and_right (is_letter c && ltb (length cs) 16) (list_all is_name_byte cs) h)

pub IsUtf8-name : (word : List ℕ) → is_name word ≡ true → IsUtf8 word
IsUtf8-name word h = IsUtf8-from_ascii word (name_ascii word h)

-- a name has at most 16 bytes
pub name_short : (word : List ℕ) → is_name word ≡ true → length word ≤ 16
unfolding is_name
name_short [] h = absurd cc
name_short (c ∷ cs) h =
    let short = ltb-true (length cs) 16 (and_right (is_letter c) (ltb (length cs) 16) (and_left (is_letter c && ltb (length cs) 16) (list_all is_name_byte cs) h)) in
    omega arith
