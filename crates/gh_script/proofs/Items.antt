-- The items of a shape from a place on.
use Rattle.std.proofs.Common.{◌≡◌, ℕ, ◌+◌, ◌<◌, ◌≤◌, Bool, true, false, eqb, leb, ◌&&◌, List, [], ◌∷◌, ◌++◌, length, get_or, take, drop, replicate, refl, sym, ap, ◌∙◌, append_assoc, arith}
use Rattle.std.proofs.lemmas.List.{append-nil, length-append}
use Rattle.std.proofs.lemmas.Bool.{le-leb, leb-true}
use Rattle.gh_script.proofs.Vocabulary.{at_drop_all, at_drop_more, before_first, count_fits, fields_in, fields_of, fits_behind, fits_limits, is_kind, Item, items_of, length-replicate, list_all, MOST_TYPE_WORDS, position_or_len, spread, total_in}

kind_first : (c : ℕ) (cs : List ℕ) → is_kind c ≡ true → items_of (c ∷ cs) ≡ record { pointer = eqb c 112; tail = before_first is_kind cs } ∷ items_of cs
unfolding items_of
kind_first c cs h = rw h refl

other_first : (c : ℕ) (cs : List ℕ) → is_kind c ≡ false → items_of (c ∷ cs) ≡ items_of cs
unfolding items_of
other_first c cs h = rw h refl

pub items_of-other : (word : List ℕ) (i : ℕ) → i < length word → is_kind (get_or word i 0) ≡ false → items_of (drop i word) ≡ items_of (drop (i + 1) word)
items_of-other word i lt h = at_drop_more items_of word i 0 lt ∙ other_first (get_or word i 0) (drop (i + 1) word) h

pub items_of-kind : (word behind : List ℕ) (i end : ℕ) → i < length word → is_kind (get_or word i 0) ≡ true → behind ≡ drop (i + 1) word → end ≡ position_or_len is_kind behind
    → items_of (drop i word) ≡ record { pointer = eqb (get_or word i 0) 112; tail = take end behind } ∷ items_of (drop (i + 1) word)
items_of-kind word behind i end lt h from ends = at_drop_more items_of word i 0 lt ∙ kind_first (get_or word i 0) (drop (i + 1) word) h ∙ rw (ends, from) refl

items_of-nil : items_of [] ≡ []
unfolding items_of
items_of-nil = refl

-- past the end there is no item
pub items_of-past : (word : List ℕ) (i : ℕ) → length word ≤ i → items_of (drop i word) ≡ []
items_of-past word i le = at_drop_all items_of word i le ∙ items_of-nil

pub all_end : (test : Item → Bool) (word : List ℕ) (i : ℕ) (whole : Bool) → length word ≤ i → list_all test (items_of (drop i word)) ≡ whole → true ≡ whole
all_end test word i whole le so_far = sym (ap (list_all test) (items_of-past word i le)) ∙ so_far

-- ---- limits

empty_stops : (n m before : ℕ) (all : Bool) → n ≡ 0 → (((leb 1 n && leb n MOST_TYPE_WORDS) && all) && leb (before + (n + m)) MOST_TYPE_WORDS) ≡ false
empty_stops n m before all h = rw h refl

wide_stops : (n m before : ℕ) (each all : Bool) → MOST_TYPE_WORDS < before + n → ((each && all) && leb (before + (n + m)) MOST_TYPE_WORDS) ≡ false
wide_stops n m before each all h = grind arith

goes_on : (n m before : ℕ) (all : Bool) → 1 ≤ n → before + n ≤ MOST_TYPE_WORDS → (((leb 1 n && leb n MOST_TYPE_WORDS) && all) && leb (before + (n + m)) MOST_TYPE_WORDS) ≡ (all && leb ((before + n) + m) MOST_TYPE_WORDS)
goes_on n m before all some within =
    let a : leb 1 n ≡ true = le-leb 1 n some in
    let b : leb n MOST_TYPE_WORDS ≡ true = le-leb n MOST_TYPE_WORDS (omega arith) in
    let e : before + (n + m) ≡ (before + n) + m = omega arith in
    rw (a, b, e) refl

pub fits_behind-empty : (items rest : List Item) (item : Item) (before : ℕ) → items ≡ item ∷ rest → fields_in item ≡ 0 → fits_behind before items ≡ false
unfolding fits_behind
fits_behind-empty items rest item before e h = rw e (empty_stops (fields_in item) (total_in rest) before (list_all count_fits rest) h)

pub fits_behind-wide : (items rest : List Item) (item : Item) (before : ℕ) → items ≡ item ∷ rest → MOST_TYPE_WORDS < before + fields_in item → fits_behind before items ≡ false
unfolding fits_behind
fits_behind-wide items rest item before e h = rw e (wide_stops (fields_in item) (total_in rest) before (count_fits item) (list_all count_fits rest) h)

pub fits_behind-more : (items rest : List Item) (item : Item) (before : ℕ) → items ≡ item ∷ rest → 1 ≤ fields_in item → before + fields_in item ≤ MOST_TYPE_WORDS
    → fits_behind before items ≡ fits_behind (before + fields_in item) rest
unfolding fits_behind
fits_behind-more items rest item before e some within = rw e (goes_on (fields_in item) (total_in rest) before (list_all count_fits rest) some within)

pub fits_behind-end : (word : List ℕ) (i before : ℕ) (whole : Bool) → before ≤ MOST_TYPE_WORDS → length word ≤ i → fits_behind before (items_of (drop i word)) ≡ whole → true ≡ whole
unfolding fits_behind
fits_behind-end word i before whole within le so_far =
    let e : fits_behind before (items_of (drop i word)) ≡ true = rw (items_of-past word i le) (le-leb (before + 0) MOST_TYPE_WORDS (omega arith)) in
    sym e ∙ so_far

-- ---- fields

pub spread-cons : (fields more : List Bool) (item : Item) (items rest : List Item) (n : ℕ) → items ≡ item ∷ rest → n ≡ fields_in item → more ≡ fields ++ replicate n item.pointer
    → more ++ spread rest ≡ fields ++ spread items
unfolding spread
spread-cons fields more item items rest n e k pushed = rw (e, pushed, k) (append_assoc fields (replicate (fields_in item) item.pointer) (spread rest))

pub spread-end : (word : List ℕ) (i : ℕ) (fields : List Bool) → length word ≤ i → fields ++ spread (items_of (drop i word)) ≡ spread (items_of word) → fields ≡ spread (items_of word)
unfolding spread
spread-end word i fields le so_far =
    let e : fields ++ spread (items_of (drop i word)) ≡ fields = ap (λ (is : List Item). fields ++ spread is) (items_of-past word i le) ∙ append-nil fields in
    sym e ∙ so_far

pub length-spread : (items : List Item) → length (spread items) ≡ total_in items
unfolding spread
length-spread [] = refl
length-spread (item ∷ items) = omega (arith, length-append (replicate (fields_in item) item.pointer) (spread items), length-replicate (fields_in item) item.pointer, length-spread items)

and_right : (a b : Bool) → (a && b) ≡ true → b ≡ true
and_right a b h = grind arith

-- a shape within the limits has at most MOST_TYPE_WORDS fields
pub length-fields_of : (word : List ℕ) → fits_limits word ≡ true → length (fields_of word) ≤ MOST_TYPE_WORDS
unfolding fits_limits fits_behind fields_of
length-fields_of word h = omega (arith, length-spread (items_of word), leb-true (0 + total_in (items_of word)) MOST_TYPE_WORDS (and_right (list_all count_fits (items_of word)) _ h))

-- a word that begins with a letter has an item
pub items_of-first : (word : List ℕ) → is_kind (get_or word 0 0) ≡ true → 1 ≤ length (items_of word)
items_of-first [] h = absurd cc
items_of-first (c ∷ cs) h = omega (arith, ap length (kind_first c cs h))
