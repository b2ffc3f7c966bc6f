-- What one line of a dump says: an item, or nothing if the line is none of the forms.
use Rattle.std.specs.Prelude.{ℕ, ◌+◌, ◌*◌, ◌^◌, ◌==◌, ◌&&◌, Bool, if◌then◌else◌, nat_lt, List, [], ◌∷◌, length, map, take, drop, Option, Some, None, codes}
use Rattle.gh_script.specs.Text.{lines_of, Sentence, sentence_of, words_of}
use Rattle.gh_script.specs.Words.{is_name, number_spelled}
use Rattle.gh_dump.specs.Vocabulary.{bytes_eq, Field, Global, Item, Name, ObjectByGlobal, ObjectByParent, option_and_then, option_map, position_or_len, Reference}
use Rattle.gh_dump.specs.declared.item.Item.TheVariants.{Total}

-- ---- numbers, names and references

-- the number that a word spells, if it is below 2 ^ 32
unfoldable pub number_of : List ℕ → Option ℕ
number_of word = option_and_then (λ n. if nat_lt n (2 ^ 32) then Some n else None) (number_spelled word)

-- the letters as one number, the first letter least
unfoldable pub letters_number : List ℕ → ℕ
letters_number [] = 0
letters_number (c ∷ cs) = c + 256 * letters_number cs

abbrev pub is_dot : ℕ → Bool
is_dot c = c == 46

abbrev pub is_plus : ℕ → Bool
is_plus c = c == 43

-- the object number k of the goroutine
abbrev pub named : List ℕ → ℕ → Option Name
named goroutine k = if is_name goroutine then Some (record { goroutine = letters_number goroutine; number = k }) else None

-- the name that a word spells: a goroutine's name, a dot and a number
unfoldable pub name_of : List ℕ → Option Name
name_of word = option_and_then (named (take (position_or_len is_dot word) word)) (number_of (drop (position_or_len is_dot word + 1) word))

abbrev pub with_offset : Name → ℕ → Reference
with_offset object offset = record { object = object; offset = offset }

-- the reference that a word spells: a name, or a name, a plus and an offset
unfoldable pub reference_of : List ℕ → Option Reference
reference_of word =
    if nat_lt (position_or_len is_plus word) (length word)
    then option_and_then (λ object. option_map (with_offset object) (number_of (drop (position_or_len is_plus word + 1) word))) (name_of (take (position_or_len is_plus word) word))
    else option_map (λ object. with_offset object 0) (name_of word)

-- ---- the forms

abbrev pub global_item : Sentence → Option Item
global_item s = option_and_then (λ k. option_map (Global k) (reference_of s.fourth)) (number_of s.second)

abbrev pub field_item : Sentence → Option Item
field_item s = option_and_then (λ i. option_map (Field i) (reference_of s.fourth)) (number_of s.second)

abbrev pub total_item : Sentence → Option Item
total_item s = option_and_then (λ n. option_map (Total n) (number_of s.fourth)) (number_of s.second)

-- `global k ref X`, `field i ref X`, `total N bytes B`
unfoldable pub short_item : Sentence → Option Item
short_item s =
    if bytes_eq s.first (codes "global") && bytes_eq s.third (codes "ref") then global_item s else
    (if bytes_eq s.first (codes "field") && bytes_eq s.third (codes "ref") then field_item s else
    (if bytes_eq s.first (codes "total") && bytes_eq s.third (codes "bytes") then total_item s else None))

-- `object NAME bytes B rank r`
abbrev pub begins_object : Sentence → Sentence → Bool
begins_object s t = bytes_eq s.first (codes "object") && bytes_eq s.third (codes "bytes") && bytes_eq t.first (codes "rank")

-- its name, bytes and rank, and what the line says by them
abbrev pub object_by : Sentence → Sentence → (Name → ℕ → ℕ → Option Item) → Option Item
object_by s t origin = option_and_then (λ o. option_and_then (λ b. option_and_then (origin o b) (number_of t.second)) (number_of s.fourth)) (name_of s.second)

-- `object NAME bytes B rank r global k`
unfoldable pub item_by_global : Sentence → Sentence → Option Item
item_by_global s t =
    if begins_object s t && bytes_eq t.third (codes "global") then object_by s t (λ o b r. option_map (ObjectByGlobal o b r) (number_of t.fourth)) else None

-- `object NAME bytes B rank r parent NAME field i`
unfoldable pub item_by_parent : Sentence → Sentence → Sentence → Option Item
item_by_parent s t u =
    if begins_object s t && bytes_eq t.third (codes "parent") && bytes_eq u.first (codes "field")
    then object_by s t (λ o b r. option_and_then (λ p. option_map (ObjectByParent o b r p) (number_of u.second)) (name_of t.fourth)) else None

-- what the words say
unfoldable pub item_in : List (List ℕ) → Option Item
item_in words =
    if length words == 4 then short_item (sentence_of words) else
    (if length words == 8 then item_by_global (sentence_of words) (sentence_of (drop 4 words)) else
    (if length words == 10 then item_by_parent (sentence_of words) (sentence_of (drop 4 words)) (sentence_of (drop 8 words)) else None))

-- what a line says
unfoldable pub item_of : List ℕ → Option Item
item_of line = item_in (words_of line)

-- what the lines of a text say, in order
unfoldable pub items_of : List ℕ → List (Option Item)
items_of text = map item_of (lines_of text)
