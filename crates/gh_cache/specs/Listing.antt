-- The next clear slot of a cached span: what is asked for at each stage, where that leads, what it has given, and that it writes nothing.
use Rattle.std.specs.Prelude.{ℕ, ◌+◌, ◌*◌, ◌/◌, ◌%◌, Bool, true, false, nat_lt, ◌==◌, ◌&&◌, if◌then◌else◌, Option, Some, None}
use Rattle.gh_cache.specs.Vocabulary.{Alloc, bit_at, Cached, Ended, Layout, Listing, Load, Look, NextSlot, slot_words_of, slots_of, SlotStage, Touch}
use Rattle.gh_base.specs.declared.cell.Ask.{Ask}
use Rattle.gh_base.specs.Footprints.{Footprint}
use Rattle.gh_cache.specs.Sound.{Sound}

-- a routine that looks for a clear slot: of which span, from which slot on, and its stage
abbrev pub Searching : Type 0
Searching = NextSlot

-- it has looked at no slot
abbrev pub opening : Cached → Searching
opening span = record { span = span; stage = Look }

abbrev pub at_stage : Searching → SlotStage → Searching
at_stage s stage = record s { stage = stage }

-- the first heap word of a slot: the slots lie one behind the other from the span's first page on
abbrev pub slot_at : Cached → ℕ → ℕ
slot_at span slot = 1024 * span.head + slot * slot_words_of span.class

-- the alloc word that has the bit of a heap word
abbrev pub alloc_word : Layout → ℕ → ℕ
alloc_word l x = x / 64 % (16 * l.pages)

-- the bit of a heap word is clear in this word
abbrev pub bit_is_clear : (x found : ℕ) → Bool
bit_is_clear x found = bit_at found (x % 64) == 0

-- the slot's bit is clear in this word
abbrev pub is_clear : Cached → ℕ → ℕ → Bool
is_clear span slot found = bit_is_clear (slot_at span slot) found

-- there is a slot behind the one at the cursor
abbrev pub has_next_slot : Cached → Bool
has_next_slot span = nat_lt (span.cursor + 1) (slots_of span.class)

-- the slot at the cursor is clear in this word
abbrev pub is_found : Searching → ℕ → Bool
is_found s found = is_clear s.span s.span.cursor found

abbrev pub asks_at : Layout → Searching → SlotStage → Ask
asks_at l s Look = Load (Alloc (alloc_word l (slot_at s.span s.span.cursor)))
asks_at l s (Ended slot) = Load Touch

module _ (s : Searching) where
  -- the cursor moves on
  abbrev pub passed : Searching
  passed = record s { span = record (s.span) { cursor = s.span.cursor + 1 }; stage = if has_next_slot s.span then Look else Ended None }

  abbrev pub goes_at : SlotStage → ℕ → Searching
  goes_at Look found = if is_found s found then at_stage s (Ended (Some s.span.cursor)) else passed
  goes_at (Ended slot) found = at_stage s (Ended slot)

-- it looks at a slot
abbrev pub looks : SlotStage → Bool
looks Look = true
looks (Ended slot) = false

-- it looks at a slot, and at the next once the word is found: the slot's bit is set, and a slot is left
abbrev pub goes_on_at : Searching → SlotStage → (found : ℕ) → Bool
goes_on_at s p found = looks p && looks (goes_at s p found).stage

-- what it has given at a stage
abbrev pub given_at : SlotStage → Option (Option ℕ)
given_at (Ended slot) = Some slot
given_at _ = None

-- the step that it asks for, what it is after the step found this, and what it has given
abbrev pub asks : Layout → Searching → Ask
asks l s = asks_at l s s.stage

abbrev pub goes : Searching → ℕ → Searching
goes s found = goes_at s s.stage found

abbrev pub given : Searching → Option (Option ℕ)
given s = given_at s.stage

abbrev pub writes : Footprint
writes _ = false

abbrev pub listing : Layout → Listing Searching (Option ℕ)
listing l = record { asks = asks l; goes = goes; given = given; sound = Sound l; writes = writes }
