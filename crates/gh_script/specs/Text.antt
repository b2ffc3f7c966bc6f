-- How a text is cut into lines, and a line into words.
use Rattle.std.specs.Prelude.{ℕ, ◌-◌, ◌==◌, ◌||◌, Bool, if◌then◌else◌, true, false, List, [], ◌∷◌, map, filter, length, take, slice_index, slice_index_or}

-- the byte c before the first piece
abbrev pub with_front : ℕ → List (List ℕ) → List (List ℕ)
with_front c [] = (c ∷ []) ∷ []
with_front c (piece ∷ others) = (c ∷ piece) ∷ others

-- the pieces of a text, each ended by a byte that passes the test; a rest that isn't empty is one too
unfoldable pub pieces : (ℕ → Bool) → List ℕ → List (List ℕ)
pieces test [] = []
pieces test (c ∷ cs) = if test c then [] ∷ pieces test cs else with_front c (pieces test cs)

-- a line feed
abbrev pub is_feed : ℕ → Bool
is_feed c = c == 10

-- a space or a tab
abbrev pub is_blank : ℕ → Bool
is_blank c = c == 32 || c == 9

-- the line without a carriage return at its end
abbrev pub without_return : List ℕ → List ℕ
without_return line = if slice_index line (length line - 1) == 13 then take (length line - 1) line else line

-- the lines of a text
unfoldable pub lines_of : List ℕ → List (List ℕ)
lines_of text = map without_return (pieces is_feed text)

abbrev pub is_filled : List ℕ → Bool
is_filled [] = false
is_filled (c ∷ cs) = true

-- the words of a line
unfoldable pub words_of : List ℕ → List (List ℕ)
words_of line = filter is_filled (pieces is_blank line)

-- a word before others, where it isn't empty
abbrev pub word_in_front : List ℕ → List (List ℕ) → List (List ℕ)
word_in_front [] others = others
word_in_front (c ∷ cs) others = (c ∷ cs) ∷ others

-- a line's first four words, each empty where the line has fewer, and how many words it has
pub record Sentence : Type 0 where
  pub first : List ℕ
  pub second : List ℕ
  pub third : List ℕ
  pub fourth : List ℕ
  pub count : ℕ

abbrev pub word_at : List (List ℕ) → ℕ → List ℕ
word_at words i = slice_index_or words i []

-- the words as a sentence
abbrev pub sentence_of : List (List ℕ) → Sentence
sentence_of words = record { first = word_at words 0; second = word_at words 1; third = word_at words 2; fourth = word_at words 3; count = length words }
