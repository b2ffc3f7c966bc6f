-- How the shape of a type is spelled.
use Rattle.std.specs.Prelude.{ℕ, ◌+◌, ◌*◌, ◌/◌, ◌==◌, ◌&&◌, ◌||◌, Bool, true, if◌then◌else◌, not, nat_le, List, [], ◌∷◌, ◌++◌, length, map, take, drop, replicate, Option, Some, is_some, unwrap_or, slice_index}
use Rattle.gh_script.specs.Vocabulary.{before_first, list_all, list_any, MOST_TYPE_WORDS, range_with_len, Shape}
use Rattle.gh_script.specs.Words.{number_spelled}

-- p, a pointer, or n, a number
abbrev pub is_kind : ℕ → Bool
is_kind c = c == 112 || c == 110

-- an item of a shape: that its letter is p, and what stands behind it up to the next letter
pub record Item : Type 0 where
  pub pointer : Bool
  pub tail : List ℕ

unfoldable pub items_of : List ℕ → List Item
items_of [] = []
items_of (c ∷ cs) = if is_kind c then record { pointer = c == 112; tail = before_first is_kind cs } ∷ items_of cs else items_of cs

-- behind a letter stands nothing, or a star first
abbrev pub has_no_stray : Item → Bool
has_no_stray item = (if length item.tail == 0 then true else slice_index item.tail 0 == 42)

-- the letters are spelled right: the first byte is one, and nothing but a star stands behind one
unfoldable pub are_letters : List ℕ → Bool
are_letters word = is_kind (slice_index word 0) && list_all has_no_stray (items_of word)

-- how many fields what stands behind a letter says: 1, or the number behind the star
unfoldable pub fields_behind_letter : List ℕ → Option ℕ
fields_behind_letter tail = if length tail == 0 then Some 1 else number_spelled (drop 1 tail)

abbrev pub has_count : Item → Bool
has_count item = is_some (fields_behind_letter item.tail)

-- numbers stand in the places of numbers
unfoldable pub are_counts : List ℕ → Bool
are_counts word = list_all has_count (items_of word)

abbrev pub fields_in : Item → ℕ
fields_in item = unwrap_or (fields_behind_letter item.tail) 0

abbrev pub count_fits : Item → Bool
count_fits item = nat_le 1 (fields_in item) && nat_le (fields_in item) MOST_TYPE_WORDS

abbrev pub total_in : List Item → ℕ
total_in [] = 0
total_in (item ∷ items) = fields_in item + total_in items

-- each count is from 1 to MOST_TYPE_WORDS, and so is the length, with this many fields before
unfoldable pub fits_behind : ℕ → List Item → Bool
fits_behind before items = list_all count_fits items && nat_le (before + total_in items) MOST_TYPE_WORDS

-- each count and the length are from 1 to MOST_TYPE_WORDS
unfoldable pub fits_limits : List ℕ → Bool
fits_limits word = fits_behind 0 (items_of word)

-- the fields of items one by one: which are pointers
unfoldable pub spread : List Item → List Bool
spread [] = []
spread (item ∷ items) = replicate (fields_in item) item.pointer ++ spread items

unfoldable pub fields_of : List ℕ → List Bool
fields_of word = spread (items_of word)

-- the number whose bit j is set where the j-th is
unfoldable pub bits_as_number : List Bool → ℕ
bits_as_number [] = 0
bits_as_number (bit ∷ bits) = (if bit then 1 else 0) + 2 * bits_as_number bits

-- 64 fields a word
unfoldable pub packed : List Bool → List ℕ
packed fields = map (λ i. bits_as_number (take 64 (drop (64 * i) fields))) (range_with_len 0 ((length fields + 63) / 64))

-- a shape with these fields
unfoldable pub shape_with : List Bool → Shape
shape_with fields = record { words = length fields; noscan = not (list_any (λ pointer. pointer) fields); bits = packed fields }
