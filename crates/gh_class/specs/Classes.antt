-- The size classes: slots, pages, and the class and the slot of an object. All of these compute on numerals.
use Rattle.std.specs.Prelude.{ℕ, ◌+◌, ◌*◌, ◌/◌, ◌<◌, ◌≤◌, List, [], ◌∷◌, if◌then◌else◌, nat_le, slice_index}
use Rattle.std.specs.List.{position_or_len}
use Rattle.gh_class.specs.declared.class.SizeClass.{SizeClass}
use Rattle.gh_class.specs.declared.class.SizeClass.TheVariants.{Small, Large}
use Rattle.gh_class.specs.declared.class.SpanClass.{SpanClass}

-- the bytes of a slot, by class
unfoldable pub slot_sizes : List ℕ
slot_sizes = 8 ∷ 16 ∷ 24 ∷ 32 ∷ 48 ∷ 64 ∷ 80 ∷ 96 ∷ 112 ∷ 128 ∷ 160 ∷ 192 ∷ 256 ∷ 320 ∷ 384 ∷ 512 ∷ 768 ∷ 1024 ∷ 1408 ∷ 2048 ∷ 3072 ∷ 4096 ∷ 8192 ∷ 16384 ∷ 32768 ∷ []

-- the pages of a span, by class
unfoldable pub page_counts : List ℕ
page_counts = 1 ∷ 1 ∷ 1 ∷ 1 ∷ 1 ∷ 1 ∷ 1 ∷ 1 ∷ 1 ∷ 1 ∷ 1 ∷ 1 ∷ 1 ∷ 1 ∷ 1 ∷ 1 ∷ 1 ∷ 1 ∷ 2 ∷ 1 ∷ 3 ∷ 1 ∷ 1 ∷ 2 ∷ 4 ∷ []

-- the bytes of a slot of class c, and 0 where there is no class c
unfoldable pub slot_of : ℕ → ℕ
slot_of c = slice_index slot_sizes c

-- the pages of 8192 bytes of a span of class c, and 0 where there is no class c
unfoldable pub pages_of : ℕ → ℕ
pages_of c = slice_index page_counts c

-- how many slots a span of class c has: as many as its pages hold
unfoldable pub slots_of : ℕ → ℕ
slots_of c = (8192 * pages_of c) / slot_of c

-- the words of a slot of class c
abbrev pub slot_words_of : ℕ → ℕ
slot_words_of c = slot_of c / 8

-- c is the least class whose slot holds so many bytes
pub record IsClassOf (bytes c : ℕ) : Type 0 where
  pub among : c < 25
  pub holds : bytes ≤ slot_of c
  pub least : (d : ℕ) → d < c → slot_of d < bytes

-- the number of the class of so many bytes, and 25, which is none's, where there is none
unfoldable pub class_number : ℕ → ℕ
class_number bytes = position_or_len (λ slot. nat_le bytes slot) slot_sizes

-- the fewest pages of 1024 words that hold a large object of so many words
unfoldable pub large_pages : ℕ → ℕ
large_pages words = (words + 1023) / 1024

-- the words of the slot of an object of so many words
unfoldable pub slot_words : ℕ → ℕ
slot_words words = if nat_le (8 * words) 32768 then slot_of (class_number (8 * words)) / 8 else 1024 * large_pages words

-- the size class is one of the table's, or that of large objects
abbrev pub IsSizeClass : SizeClass → Type 0
IsSizeClass (Small c) = c < 25
IsSizeClass Large = Unit {0}

-- the size class of an object of so many words
abbrev pub size_class_of : ℕ → SizeClass
size_class_of words = if nat_le (8 * words) 32768 then Small (class_number (8 * words)) else Large

-- the number of a span class: twice that of the size class, and 1 more for noscan
abbrev pub span_index : SpanClass → ℕ
span_index s = 2 * s.class + (if s.noscan then 1 else 0)
