-- How the list of a schedule is spelled: items, separated by single commas.
use Rattle.std.specs.Prelude.{ℕ, ◌+◌, ◌^◌, ◌==◌, ◌&&◌, ◌||◌, Bool, if◌then◌else◌, nat_le, List, [], ◌∷◌, length, take, drop, Option, Some, None, option_map, option_and_then, slice_get}
use Rattle.gh_replay.specs.Vocabulary.{Marks, position_or_len, slice_split, Steps, Turn, Until, Without}
use Rattle.gh_script.specs.Words.{number_spelled}
use Rattle.gh_replay.specs.declared.list.TheConstants.{MOST_ITEMS}

abbrev pub is_comma : ℕ → Bool
is_comma c = c == 44

-- a star, an at sign or an exclamation mark, which stands between the two numbers of an item
abbrev pub is_sign : ℕ → Bool
is_sign c = c == 42 || (c == 64 || c == 33)

-- the number that a word spells as in scripts, where it is in its range
abbrev pub within : (least most : ℕ) → ℕ → Option ℕ
within least most n = if nat_le least n && nat_le n most then Some n else None

abbrev pub ranged : (least most : ℕ) → List ℕ → Option ℕ
ranged least most word = option_and_then (within least most) (number_spelled word)

-- how long an item goes on with this sign and this word: behind a star 1 to 1,000,000 steps, behind an at sign up to 2 ^ 32 marks, behind an exclamation mark 1 to 1,000,000 turns of others
abbrev pub until_of : Option ℕ → List ℕ → Option Until
until_of None word = None
until_of (Some sign) word =
    if sign == 42 then option_map Steps (ranged 1 1000000 word)
    else if sign == 64 then option_map Marks (ranged 0 (2 ^ 32) word)
    else option_map Without (ranged 1 1000000 word)

abbrev pub turn_with : Option ℕ → Option Until → Option Turn
turn_with None until = None
turn_with (Some a) until = option_map (λ u. record { actor = a; until = u }) until

-- the item that a piece spells: an actor up to 255, the first sign, and how long
abbrev pub turn_at : List ℕ → ℕ → Option Turn
turn_at piece i = turn_with (ranged 0 255 (take i piece)) (until_of (slice_get piece i) (drop (i + 1) piece))

unfoldable pub turn_read : List ℕ → Option Turn
turn_read piece = turn_at piece (position_or_len is_sign piece)

-- the items that pieces spell, where each spells one
abbrev pub joined : Option Turn → Option (List Turn) → Option (List Turn)
joined None more = None
joined (Some t) more = option_map (λ ts. t ∷ ts) more

unfoldable pub turns_read : List (List ℕ) → Option (List Turn)
turns_read [] = Some []
turns_read (piece ∷ pieces) = joined (turn_read piece) (turns_read pieces)

-- the items that a text spells: what stands between its commas are 1 to MOST_ITEMS of them
unfoldable pub list_of : List ℕ → Option (List Turn)
list_of text = if nat_le (length (slice_split is_comma text)) MOST_ITEMS then turns_read (slice_split is_comma text) else None
