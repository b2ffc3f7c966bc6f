-- What a reader of numbers makes of a word.
use Rattle.std.proofs.Common.{◌≡◌, ◌∙◌, ◌<◌, ◌^◌, ◌&&◌, ℕ, true, List, [], ◌∷◌, nat_lt, Option, Some, None, Result, refl, ap, lt-ltb, ltb-true, arith, option_and_then}
use Rattle.std.specs.Char.{digit_value}
use Rattle.gh_command.proofs.Vocabulary.{AllDigits, both, digits_value, found_number, found_of, is_numeral, IsNumeral, list_all, one_text, one_text-rows, ParsesUnsigned, ReadsOne, rows_of, u64_of, without_leading_plus}
use Rattle.clap.specs.declared.parser.matches.ArgMatches.{ArgMatches}

digits_pass : (ds : List ℕ) → AllDigits 10 ds → list_all (λ d. nat_lt (digit_value d) 10) ds ≡ true
digits_pass [] h = refl
digits_pass (d ∷ ds) h = rw (lt-ltb (digit_value d) 10 h.0) (digits_pass ds h.1)

digits_from : (ds : List ℕ) → list_all (λ d. nat_lt (digit_value d) 10) ds ≡ true → AllDigits 10 ds
digits_from [] e = tt
digits_from (d ∷ ds) e =
    let parts = both _ _ e in
    (ltb-true _ _ parts.0, digits_from ds parts.1)

-- where a word spells a number, it is the number
pub u64_of-number : (t : List ℕ) → IsNumeral 10 (without_leading_plus t) → digits_value 10 (without_leading_plus t) < 2 ^ 64
    → u64_of t ≡ Some (digits_value 10 (without_leading_plus t))
u64_of-number t numeral small = grind (arith, digits_pass)

number_passes : (t : List ℕ) → (is_numeral (without_leading_plus t) && nat_lt (digits_value 10 (without_leading_plus t)) (2 ^ 64)) ≡ true
    → IsNumeral 10 (without_leading_plus t) × (digits_value 10 (without_leading_plus t) < 2 ^ 64)
number_passes t e = grind (arith, digits_from)

-- a word that is read is its number, and a word that is not read has none
pub reads_number : {E : Type 0} (G : List ℕ → Result ℕ E → Type 0) (t : List ℕ) (r : Option ℕ)
    → ReadsOne G t r → ((x : Result ℕ E) → G t x → ParsesUnsigned 64 10 t x) → r ≡ u64_of t
reads_number G t r read only = grind (arith, number_passes, u64_of-number)

-- what a getter of numbers gives for an option
pub number_of_rows : {E : Type 0} (G : List ℕ → Result ℕ E → Type 0) (m : ArgMatches) (id : List ℕ) (r : Option ℕ)
    → (one_text (found_of m) id ≡ None → r ≡ None) → ((t : List ℕ) → one_text (found_of m) id ≡ Some t → ReadsOne G t r)
    → ((t : List ℕ) (x : Result ℕ E) → G t x → ParsesUnsigned 64 10 t x)
    → r ≡ found_number id (rows_of (found_of m))
number_of_rows G m id r none some only = go (one_text (found_of m) id) refl ∙ ap (option_and_then u64_of) (one_text-rows (found_of m) id)
  where
    go : (o : Option (List ℕ)) → one_text (found_of m) id ≡ o → r ≡ option_and_then u64_of (one_text (found_of m) id)
    go None e = none e ∙ rw e refl
    go (Some t) e = reads_number G t r (some t e) (only t) ∙ rw e refl
