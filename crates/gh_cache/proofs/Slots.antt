-- The slots of a span in the arena lie in the arena.
use Rattle.std.proofs.Common.{◌≡◌, ℕ, suc, ◌+◌, ◌*◌, ◌/◌, ◌%◌, ◌<◌, ◌≤◌, subst, arith}
use Rattle.gh_cache.proofs.Vocabulary.{alloc_word, Cached, FitsArena, Layout, mod-eq_of_lt, mul-le-mul_right, pages_of, slot_at, slot_of, slots_of}

-- a slot has whole words, one at least, and a span has as many slots as its pages hold
pub record IsCut (class : ℕ) : Type 0 where
  pub fit : slots_of class * slot_of class ≤ 8192 * pages_of class
  pub full : 8192 * pages_of class < (slots_of class + 1) * slot_of class
  pub whole_words : slot_of class % 8 ≡ 0

some_words : (size slots room : ℕ) → size % 8 ≡ 0 → room < (slots + 1) * size → 1 ≤ size / 8
some_words size slots room whole full = grind arith

words_fit : (size slots room : ℕ) → size % 8 ≡ 0 → slots * size ≤ 8192 * room → slots * (size / 8) ≤ 1024 * room
words_fit size slots room whole fit =
    let is : size ≡ 8 * (size / 8) = omega arith in
    let fits : slots * (8 * (size / 8)) ≤ 8192 * room = subst (λ (n : ℕ). slots * n ≤ 8192 * room) is fit in
    omega arith

pub slot_below : (l : Layout) (span : Cached) (slot : ℕ) → IsCut span.class → FitsArena l span → slot < slots_of span.class → slot_at span slot < 1024 * l.pages
slot_below l span slot cut within below =
    let size = slot_of span.class / 8 in
    let some : 1 ≤ size = some_words (slot_of span.class) (slots_of span.class) (8192 * pages_of span.class) cut.whole_words cut.full in
    let fits : slots_of span.class * size ≤ 1024 * pages_of span.class = words_fit (slot_of span.class) (slots_of span.class) (pages_of span.class) cut.whole_words cut.fit in
    let upto : suc slot * size ≤ slots_of span.class * size = mul-le-mul_right size below in
    let pages : span.head + pages_of span.class ≤ l.pages = within.pages in
    omega arith

-- so the word of its bit is one of the row's
pub slot_word : (l : Layout) (span : Cached) (slot : ℕ) → IsCut span.class → FitsArena l span → slot < slots_of span.class → alloc_word l (slot_at span slot) ≡ slot_at span slot / 64
slot_word l span slot cut within below =
    let inside : slot_at span slot < 1024 * l.pages = slot_below l span slot cut within below in
    mod-eq_of_lt (omega arith)
