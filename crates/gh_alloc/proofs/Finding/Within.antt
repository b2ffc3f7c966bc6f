-- The slot that the search of a cached span ends with lies in the arena.
use Rattle.std.proofs.Common.{◌≡◌, ℕ, suc, ◌+◌, ◌*◌, ◌/◌, ◌<◌, ◌≤◌, Option, Some, None, IfSome, is_none, true, subst, arith}
use Rattle.std.proofs.Math.Nat.{mul-le-mul_left, mul-le-mul_right}
use Rattle.gh_alloc.proofs.Vocabulary.{At, CachedSpan, Finding, IsStage, Large, Layout, LiesWithin, move_cursor, pages_of, SizeClass, slot_of, Slots, slots_of, SlotStage, Small, Sought, span_for, SpanClass, word_at_cursor, words_sought}
use Rattle.gh_class.specs.declared.class.TheConstants.{CLASSES}
use Rattle.gh_cache.specs.Listing as slots
use Rattle.gh_cache.specs.Sound as slots_sound
use Rattle.gh_alloc.specs.FindSound.{IsCached}

-- a slot of a span in the arena lies in the arena
slot_fits : (head cursor slots size pages total : ℕ) → cursor < slots → slots * size ≤ 8192 * pages → head + pages ≤ total → 1024 * head + cursor * (size / 8) + size / 8 ≤ 1024 * total
slot_fits head cursor slots size pages total below fit within =
    let upto : suc cursor * (size / 8) ≤ slots * (size / 8) = mul-le-mul_right (size / 8) below in
    let words : 8 * (size / 8) ≤ size = omega arith in
    let whole : slots * (8 * (size / 8)) ≤ slots * size = mul-le-mul_left slots words in
    omega arith

-- the cursor is that of a slot of the class, and a span of the class fits the arena
record IsAtSlot (l : Layout) (cursor class : ℕ) : Type 0 where
  among : class < CLASSES
  below : cursor < slots_of class
  pages : pages_of class ≤ l.pages

-- a search that asks for a step looks at a slot
looks_below : (s : slots.Searching) (p : SlotStage) → slots_sound.IsStage s.span p → is_none (slots.given_at p) ≡ true → s.span.cursor < slots_of s.span.class
looks_below s p here busy = grind arith

same_class : (c d : ℕ) → SizeClass.Small c ≡ SizeClass.Small d → c ≡ d
same_class c d e = grind arith

module _ (fit : (c : ℕ) → c < CLASSES → slots_of c * slot_of c ≤ 8192 * pages_of c) where
  small_fits : (l : Layout) (c : SpanClass) (cached : Option CachedSpan) (cursor : ℕ) → IsAtSlot l cursor c.class → IsCached l (Small c) cached →
      word_at_cursor (Small c) (move_cursor cursor cached) + words_sought (Small c) ≤ 1024 * l.pages
  small_fits l c (Some s) cursor at within = slot_fits s.head cursor (slots_of c.class) (slot_of c.class) (pages_of c.class) l.pages at.below (fit c.class at.among) within.pages
  small_fits l c None cursor at within =
      let some : 0 < slots_of c.class = let h = at.below in omega arith in
      let pages : 0 + pages_of c.class ≤ l.pages = let h = at.pages in omega arith in
      let first : 1024 * 0 + 0 * (slot_of c.class / 8) + slot_of c.class / 8 ≤ 1024 * l.pages = slot_fits 0 0 (slots_of c.class) (slot_of c.class) (pages_of c.class) l.pages some (fit c.class at.among) pages in
      omega arith

  word_fits : (l : Layout) (w : Sought) (cached : Option CachedSpan) (cursor class : ℕ) → IsAtSlot l cursor class → SizeClass.Small class ≡ (span_for w).class → IsCached l w cached →
      word_at_cursor w (move_cursor cursor cached) + words_sought w ≤ 1024 * l.pages
  word_fits l w cached cursor class at same within = grind (arith, small_fits)

  look_fits : (l : Layout) (f : Finding) (s : slots.Searching) (p : SlotStage) (found : ℕ) → slots_sound.FitsArena l s.span → slots_sound.IsStage s.span p → IsStage l f.wanted (Slots (slots.at_stage s p)) → IsCached l f.wanted f.cached →
      IfSome (slots.given (slots.goes_at s p found)) (λ out. IfSome out (λ _. LiesWithin l f.wanted (At (word_at_cursor f.wanted (move_cursor (slots.goes_at s p found).span.cursor f.cached)))))
  look_fits l f s p found span here runs within = grind (arith, word_fits)

  pub slot_fits_heap : (l : Layout) (f : Finding) (s : slots.Searching) (found : ℕ) → IsStage l f.wanted (Slots s) → IsCached l f.wanted f.cached →
      IfSome (slots.given (slots.goes s found)) (λ out. IfSome out (λ _. LiesWithin l f.wanted (At (word_at_cursor f.wanted (move_cursor (slots.goes s found).span.cursor f.cached)))))
  slot_fits_heap l f s found runs cached = look_fits l f s s.stage found runs.0.sound.span runs.0.sound.stage runs cached

  -- and so does the one at the cursor of a search that looks at it
  small_looks : (l : Layout) (c : SpanClass) (s : slots.Searching) → slots_sound.Sound l s → s.span.cursor < slots_of s.span.class → s.span.class ≡ c.class → slots.slot_at s.span s.span.cursor + words_sought (Small c) ≤ 1024 * l.pages
  small_looks l c s sound below same =
      subst (λ (n : ℕ). slots.slot_at s.span s.span.cursor + slot_of n / 8 ≤ 1024 * l.pages) same
      (slot_fits s.span.head s.span.cursor (slots_of s.span.class) (slot_of s.span.class) (pages_of s.span.class) l.pages below (fit s.span.class sound.span.class) sound.span.pages)

  looks_fit : (l : Layout) (w : Sought) (s : slots.Searching) → IsStage l w (Slots s) → slots.slot_at s.span s.span.cursor + words_sought w ≤ 1024 * l.pages
  looks_fit l (Small c) s runs = small_looks l c s runs.0.sound (looks_below s s.stage runs.0.sound.stage runs.0.busy) (same_class s.span.class c.class runs.1)
  looks_fit l (Large pages noscan) s runs = absurd (cc)

  pub slot_found_fits : (l : Layout) (w : Sought) (s : slots.Searching) (out : Option ℕ) → IsStage l w (Slots s) → IfSome out (λ at. at ≡ slots.slot_at s.span s.span.cursor) → IfSome out (λ at. LiesWithin l w (At at))
  slot_found_fits l w s out runs is = let here = looks_fit l w s runs in grind arith
