-- A long list in blocks: reading it, beginning a block of it, and writing one number.
use Rattle.std.proofs.Common.{◌≡◌, ◌≢◌, ℕ, ◌*◌, ◌/◌, ◌%◌, ◌<◌, ◌≤◌, inl, inr, List, [], ◌∷◌, ◌++◌, length, get_or, replicate, refl, sym, ap, ◌∙◌, arith}
use Rattle.std.proofs.Math.ListN.{set}
use Rattle.std.proofs.lemmas.Bool.{cases_eq, cases_lt}
use Rattle.std.proofs.lemmas.List.{ext_get_or, get_or-set_same, get_or-set_other, get_or_append_left, get_or_past, get_or_push, length-set, length_push}
use Rattle.std.proofs.lemmas.List.FromFn.{get_or-map-range_with_len, length-map-range_with_len}
use Rattle.gh_base.specs.Reading.{read_replicate}
use Rattle.gh_words.specs.Blocks.{SoundBlocks, BlockStands, number_at, place_at, spread_numbers}
use Rattle.gh_words.specs.declared.plain.Plain.TheInside.{Inside}
use Rattle.gh_words.specs.declared.plain.TheConstants.{BLOCK, NOWHERE}

-- the blocks show a list whose numbers are theirs
pub shows : (used : List (List ℕ)) (places : List ℕ) (n : ℕ) (list : List ℕ) → length list ≡ n → ((i : ℕ) → i < n → number_at used places i ≡ get_or list i 0) → spread_numbers used places n ≡ list
shows used places n list long each =
    let all = length-map-range_with_len (number_at used places) 0 n in
    ext_get_or 0 (spread_numbers used places n) list (all ∙ sym long) (λ i lt. let low : i < n = omega (arith, all) in get_or-map-range_with_len (number_at used places) 0 n i i 0 low (omega arith) ∙ each i low)

-- what a list of words says of the list that it shows
module _ (s : Inside) (list : List ℕ) (view : spread_numbers s.used.items s.places.items s.count ≡ list) where
  pub shown_long : s.count ≡ length list
  shown_long = sym (length-map-range_with_len (number_at s.used.items s.places.items) 0 s.count) ∙ ap length view

  pub shown : (i : ℕ) → i < length list → number_at s.used.items s.places.items i ≡ get_or list i 0
  shown i lt = sym (get_or-map-range_with_len (number_at s.used.items s.places.items) 0 s.count i i 0 (omega (arith, shown_long)) (omega arith)) ∙ ap (λ (xs : List ℕ). get_or xs i 0) view

  pub shown_block : (i : ℕ) → i < length list → s.count ≤ length s.places.items * BLOCK → i / BLOCK < length s.places.items
  shown_block i lt enough = omega (arith, shown_long)

-- a block that begins stood for zeros before
module _ (used : List (List ℕ)) (places : List ℕ) (room b : ℕ) (fits : SoundBlocks used places room) (there : b < length places) (unused : length used ≤ place_at places b) where
  abbrev more : List (List ℕ)
  more = used ++ replicate BLOCK 0 ∷ []

  abbrev noted : List ℕ
  noted = set places b (length used)

  block_begun : (q r : ℕ) → get_or (get_or more (place_at noted q) []) r 0 ≡ get_or (get_or used (place_at places q) []) r 0
  block_begun q r = elim (cases_eq q b) [
    | inl same ↦
        let now : get_or more (place_at noted q) [] ≡ replicate BLOCK 0 = rw (same, get_or-set_same places b (length used) NOWHERE there) (get_or_push used _ [] (length used) refl) in
        let old : get_or used (place_at places q) [] ≡ [] = rw same (get_or_past used _ [] unused) in
        rw (now, old) (read_replicate BLOCK r 0)
    | inr other ↦
        rw (get_or-set_other places b q (length used) NOWHERE other) (elim (cases_lt (place_at places q) (length used)) [
          | inl low ↦ rw (get_or_append_left used (replicate BLOCK 0 ∷ []) [] (place_at places q) low) refl
          | inr high ↦
              let past : length more ≤ place_at places q = omega (arith, fits, fits.known q high, length_push used (replicate BLOCK 0)) in
              rw (get_or_past more (place_at places q) [] past, get_or_past used (place_at places q) [] high) refl
        ])
  ]

  pub begun : BlockStands b (length used) used more places noted
  begun = record {
    here = omega (arith, length_push used (replicate BLOCK 0));
    noted = sym (get_or-set_same places b (length used) NOWHERE there);
    many = length-set places b (length used);
    same = λ i. block_begun (i / BLOCK) (i % BLOCK);
  }

-- a number that is written stands in the list, and no other is changed
module _ (used : List (List ℕ)) (places : List ℕ) (room n i v : ℕ) (list : List ℕ) (fits : SoundBlocks used places room) (old : (j : ℕ) → j < n → number_at used places j ≡ get_or list j 0) (long : length list ≡ n) (lt : i < n) (here : place_at places (i / BLOCK) < length used) where
  abbrev place : ℕ
  place = place_at places (i / BLOCK)

  abbrev block : List ℕ
  block = get_or used place []

  abbrev now : List (List ℕ)
  now = set used place (set block (i % BLOCK) v)

  number_written : (j : ℕ) → j < n → number_at now places j ≡ get_or (set list i v) j 0
  number_written j low = elim (cases_eq j i) [
    | inl same ↦
        let inside : i % BLOCK < length block = omega (arith, fits.whole place here) in
        rw (same, get_or-set_same used place (set block (i % BLOCK) v) [] here, get_or-set_same block (i % BLOCK) v 0 inside) (sym (get_or-set_same list i v 0 (omega arith)))
    | inr other ↦
        rw (get_or-set_other list i j v 0 other, ← old j low) (elim (cases_eq (place_at places (j / BLOCK)) place) [
          | inr apart ↦ rw (get_or-set_other used place (place_at places (j / BLOCK)) (set block (i % BLOCK) v) [] apart) refl
          | inl stands ↦
              let blocks : i / BLOCK ≡ j / BLOCK = fits.apart (i / BLOCK) (j / BLOCK) here (sym stands) in
              let offsets : j % BLOCK ≢ i % BLOCK = λ e. other (omega (arith, blocks, e)) in
              rw (stands, get_or-set_same used place (set block (i % BLOCK) v) [] here, get_or-set_other block (i % BLOCK) (j % BLOCK) v 0 offsets) refl
        ])
  ]

  pub spread_written : spread_numbers now places n ≡ set list i v
  spread_written = shows now places n (set list i v) (length-set list i v ∙ long) number_written
