-- The bytes of a slot, by page words alone.
use Rattle.std.specs.Prelude.{◌≡◌, ℕ, ◌-◌, ◌/◌}
use Rattle.gh_state.specs.Vocabulary.{Body, Free, Head, InSpan, IsSpan, page_of, Row, slot_bytes}
use Rattle.gh_base.specs.declared.pack.PageWord.{PageWord}

abbrev pub bytes_at_head : PageWord → ℕ
bytes_at_head Free = 0
bytes_at_head (Head h) = slot_bytes h
bytes_at_head (Body b) = 0

-- of the span that page p lies in, where this is what the word of page p says
abbrev pub bytes_at : Row → (p : ℕ) → PageWord → ℕ
bytes_at page p Free = 0
bytes_at page p (Head h) = slot_bytes h
bytes_at page p (Body b) = bytes_at_head (page_of (page (p - b.distance)))

-- of the span that each word of bits lies in, 16 words a page
abbrev pub slot_row : Row → Row
slot_row page i = bytes_at page (i / 16) (page_of (page (i / 16)))

-- it is what the head of a whole span says
abbrev pub SlotsAreRead : Type 0
SlotsAreRead = (pages : ℕ) (page : Row) (i : ℕ) (s : InSpan page i) → IsSpan pages page s.p s.h → slot_row page i ≡ slot_bytes s.h
