-- A long list of numbers in blocks of equal length, of which the used ones stand one after another.
use Rattle.std.specs.Prelude.{◌≡◌, ℕ, ◌+◌, ◌<◌, ◌≤◌, ◌/◌, ◌%◌, ◌==◌, List, [], length, map, slice_index_or}
use Rattle.std.specs.List.{count_by, range_with_len}
use Rattle.gh_words.specs.declared.plain.TheConstants.{BLOCK, NOWHERE}

-- where this block stands among the used ones
abbrev pub place_at : List ℕ → ℕ → ℕ
place_at places block = slice_index_or places block NOWHERE

-- the number at this place of all blocks: 0 where its block stands nowhere
abbrev pub number_at : List (List ℕ) → List ℕ → ℕ → ℕ
number_at used places i = slice_index_or (slice_index_or used (place_at places (i / BLOCK)) []) (i % BLOCK) 0

-- the first n numbers of all blocks
abbrev pub spread_numbers : List (List ℕ) → List ℕ → (n : ℕ) → List ℕ
spread_numbers used places n = map (number_at used places) (range_with_len 0 n)

-- the used blocks are whole; a block stands at a place of its own, or nowhere; there is room for all that stand nowhere; and no place is NOWHERE
pub record SoundBlocks (used : List (List ℕ)) (places : List ℕ) (room : ℕ) : Type 0 where
  pub whole : (k : ℕ) → k < length used → length (slice_index_or used k []) ≡ BLOCK
  pub known : (b : ℕ) → length used ≤ place_at places b → place_at places b ≡ NOWHERE
  pub apart : (a b : ℕ) → place_at places a < length used → place_at places a ≡ place_at places b → a ≡ b
  pub roomy : length used + count_by (λ place. place == NOWHERE) places ≤ room
  pub few : room < NOWHERE

-- this block stands at this place from now on, and no number is changed by it
pub record BlockStands (block place : ℕ) (used used_now : List (List ℕ)) (places places_now : List ℕ) : Type 0 where
  pub here : place < length used_now
  pub noted : place ≡ place_at places_now block
  pub many : length places_now ≡ length places
  pub same : (i : ℕ) → number_at used_now places_now i ≡ number_at used places i
