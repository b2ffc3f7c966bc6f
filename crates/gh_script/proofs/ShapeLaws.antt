-- The bits of a shape are its fields.
use Rattle.std.proofs.Common.{◌≡◌, ℕ, zero, suc, ◌+◌, ◌*◌, ◌/◌, ◌%◌, ◌≤◌, Bool, true, false, not, cond, eqb, leb, List, [], ◌∷◌, length, get_or, take, drop, refl, sym, ap, ◌∙◌, arith, inl, inr, All}
use Rattle.std.proofs.lemmas.Bool.{leb-true}
use Rattle.std.proofs.lemmas.List.{get_or-take, get_or-drop, length-take}
use Rattle.std.proofs.lemmas.Nat.Bits.{bit_at-zero, bit_at_lowest, bit_at-suc}
use Rattle.gh_script.proofs.Vocabulary.{All-from_get_or, All-get_or, are_letters, bit_at, bits_as_number, cases_lt, count_fits, drop_all, fields_in, fields_of, fits_behind, fits_limits, FitsShape, get_or-map-range_with_len, get_or_past, is_kind, is_pointer, IsPacked, Item, items_of, length-map-range_with_len, list_all, list_any, list_any_at, list_any_none, MOST_TYPE_WORDS, no_shape, packed, Shape, shape_with, ShapesFit, total_in}
use Rattle.gh_script.proofs.Items.{length-fields_of, length-spread, items_of-first}
use Rattle.gh_script.proofs.Names.{and_left}
use Rattle.gh_script.proofs.Packing.{word_of-lt}

lowest : (bit : Bool) (w : ℕ) → (cond bit 1 0 + 2 * w) % 2 ≡ cond bit 1 0
lowest bit w = grind arith

half : (bit : Bool) (w : ℕ) → (cond bit 1 0 + 2 * w) / 2 ≡ w
half bit w = grind arith

-- bit j of a word is field j
word_of-bit : (bits : List Bool) (j : ℕ) → bit_at (bits_as_number bits) j ≡ cond (get_or bits j false) 1 0
unfolding bits_as_number
word_of-bit [] j = bit_at-zero j
word_of-bit (bit ∷ bits) zero = bit_at_lowest (bits_as_number (bit ∷ bits)) ∙ lowest bit (bits_as_number bits)
word_of-bit (bit ∷ bits) (suc j) = bit_at-suc (bits_as_number (bit ∷ bits)) j ∙ ap (λ (n : ℕ). bit_at n j) (half bit (bits_as_number bits)) ∙ word_of-bit bits j

packed_at : (fields : List Bool) (i : ℕ) → get_or (packed fields) i 0 ≡ bits_as_number (take 64 (drop (64 * i) fields))
unfolding packed bits_as_number
packed_at fields i = elim (cases_lt i ((length fields + 63) / 64)) [
  | inl lt ↦ get_or-map-range_with_len (λ k. bits_as_number (take 64 (drop (64 * k) fields))) 0 ((length fields + 63) / 64) i i 0 lt (omega arith)
  | inr le ↦
      let words = length-map-range_with_len (λ k. bits_as_number (take 64 (drop (64 * k) fields))) 0 ((length fields + 63) / 64) in
      let past : get_or (packed fields) i 0 ≡ 0 = get_or_past (packed fields) i 0 (omega arith) in
      let none : drop (64 * i) fields ≡ [] = drop_all (64 * i) fields (omega arith) in
      past ∙ rw none refl
]

is_one : (b : Bool) → eqb (cond b 1 0) 1 ≡ b
is_one b = grind arith

-- the field is a pointer where the text says so
pub is_pointer_at : (fields : List Bool) (k : ℕ) → is_pointer (shape_with fields) k ≡ get_or fields k false
unfolding shape_with
is_pointer_at fields k =
    let i = k / 64 in
    let word : bit_at (get_or (packed fields) (k / 64) 0) (k % 64) ≡ cond (get_or (take 64 (drop (64 * (k / 64)) fields)) (k % 64) false) 1 0 =
    ap (λ (w : ℕ). bit_at w (k % 64)) (packed_at fields (k / 64)) ∙ word_of-bit (take 64 (drop (64 * (k / 64)) fields)) (k % 64) in
    let place : 64 * (k / 64) + k % 64 ≡ k = omega arith in
    let field : get_or (take 64 (drop (64 * (k / 64)) fields)) (k % 64) false ≡ get_or fields k false =
    get_or-take 64 (drop (64 * (k / 64)) fields) (k % 64) false (omega arith) ∙ get_or-drop (64 * (k / 64)) fields (k % 64) false ∙ ap (λ (n : ℕ). get_or fields n false) place in
    ap (λ (w : ℕ). eqb w 1) (word ∙ ap (λ (b : Bool). cond b 1 0) field) ∙ is_one (get_or fields k false)

not_any : (b : Bool) → not b ≡ true → b ≡ false
not_any b h = grind arith

no_any : (b : Bool) → b ≡ false → not b ≡ true
no_any b h = rw h refl

not_both : (b any : Bool) → any ≡ false → (b ≡ true → any ≡ true) → b ≡ false
not_both b any none h = grind arith

field_none : (fields : List Bool) (k : ℕ) → list_any (λ pointer. pointer) fields ≡ false → get_or fields k false ≡ false
field_none fields k none = elim (cases_lt k (length fields)) [
  | inl lt ↦ not_both (get_or fields k false) (list_any (λ pointer. pointer) fields) none (list_any_at (λ pointer. pointer) fields k false lt)
  | inr le ↦ get_or_past fields k false le
]

-- the bits of a shape that fields make are packed
pub IsPacked-shape_with : (fields : List Bool) → IsPacked (shape_with fields)
unfolding shape_with packed
IsPacked-shape_with fields = record {
  packed = length-map-range_with_len (λ k. bits_as_number (take 64 (drop (64 * k) fields))) 0 ((length fields + 63) / 64);
  narrow = λ i. rw (packed_at fields i) (word_of-lt (take 64 (drop (64 * i) fields)) 64 (omega (arith, length-take 64 (drop (64 * i) fields))));
}

FitsShape-shape_with : (fields : List Bool) → 1 ≤ length fields → length fields ≤ MOST_TYPE_WORDS → FitsShape (shape_with fields)
unfolding shape_with
FitsShape-shape_with fields some few = record {
  some_word = some;
  few_words = few;
  none_beyond = λ k le. is_pointer_at fields k ∙ get_or_past fields k false le;
  noscan = (
    λ h k. is_pointer_at fields k ∙ field_none fields k (not_any (list_any (λ pointer. pointer) fields) h),
    λ h. no_any (list_any (λ pointer. pointer) fields) (list_any_none (λ pointer. pointer) fields (All-from_get_or (λ pointer. pointer ≡ false) fields false (λ k lt. sym (is_pointer_at fields k) ∙ h k))),
  );
}

some_field : (items : List Item) (before : ℕ) → 1 ≤ length items → list_all count_fits items ≡ true → 1 ≤ total_in items
some_field [] before h all = h
some_field (item ∷ items) before h all =
    let one = and_left (leb 1 (fields_in item)) (leb (fields_in item) MOST_TYPE_WORDS) (and_left (count_fits item) (list_all count_fits items) all) in
    omega (arith, leb-true 1 (fields_in item) one)

-- a shape that was let through has a field at least
pub FitsShape-text : (word : List ℕ) → are_letters word ≡ true → fits_limits word ≡ true → FitsShape (shape_with (fields_of word))
unfolding are_letters fits_limits fits_behind fields_of
FitsShape-text word letters fits =
    let kind = and_left (is_kind (get_or word 0 0)) _ letters in
    let some = items_of-first word kind in
    let total = some_field (items_of word) 0 some (and_left (list_all count_fits (items_of word)) _ fits) in
    FitsShape-shape_with (fields_of word) (omega (arith, length-spread (items_of word))) (length-fields_of word fits)

-- shapes that are so fit
pub All-ShapesFit : (shapes : List Shape) → All FitsShape shapes → ShapesFit shapes
All-ShapesFit shapes all t lt = All-get_or FitsShape shapes t no_shape lt all
