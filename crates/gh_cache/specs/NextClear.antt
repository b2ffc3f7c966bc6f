-- What the routine finds: the least slot from the cursor on whose bit is clear, where it is told what the load for each slot found.
use Rattle.std.specs.Prelude.{◌≡◌, ℕ, suc, ◌+◌, ◌-◌, ◌/◌, ◌%◌, ◌<◌, ◌≤◌, ◌↔◌, Option, Some, None}
use Rattle.gh_cache.specs.Vocabulary.{Alloc, bit_at, Cached, Layout, Load, slots_of, steps_of}
use Rattle.gh_base.specs.Routines as routine
use Rattle.gh_cache.specs.Listing.{Searching, asks, listing, opening, slot_at}
use Rattle.gh_cache.specs.Sound.{FitsArena}

module _ (span : Cached) (found : ℕ → ℕ) where
  -- the alloc bit of a slot, in the word that the load for it found: the load for the slot at the cursor is step 0
  abbrev pub slot_bit : ℕ → ℕ
  slot_bit slot = bit_at (found (slot - span.cursor)) (slot_at span slot % 64)

  -- the slots from the cursor up to this one, itself left out, are taken
  abbrev pub AreTaken : ℕ → Type 0
  AreTaken end = (slot : ℕ) → span.cursor ≤ slot → slot < end → slot_bit slot ≡ 1

  -- the least slot from the cursor on whose bit is clear
  pub record IsNextClear (slot : ℕ) : Type 0 where
    pub from : span.cursor ≤ slot
    pub among : slot < slots_of span.class
    pub clear : slot_bit slot ≡ 0
    pub least : AreTaken slot

module _ (l : Layout) (s : Searching) (found : ℕ → ℕ) where
  -- after n steps; there is a step n; and that is its last, and with it it gives this
  abbrev pub told : ℕ → Searching
  told = routine.told (steps_of l (listing l)) s found

  abbrev pub GoesOn : ℕ → Type 0
  GoesOn = routine.GoesOn (steps_of l (listing l)) s found

  abbrev pub LastGives : ℕ → Option ℕ → Type 0
  LastGives n out = GoesOn n × routine.EndsWith (steps_of l (listing l)) s found n out

  pub record FindsNextClear : Type 0 where
    -- it goes on exactly as long as a slot is left and all before it are taken
    pub goes_on : (n : ℕ) → GoesOn n ↔ ((s.span.cursor + n < slots_of s.span.class) × AreTaken s.span found (s.span.cursor + n))
    -- it loads the words that have the slots' bits, one slot after the other
    pub loads : (n : ℕ) → GoesOn n → asks l (told n) ≡ Load (Alloc (slot_at s.span (s.span.cursor + n) / 64))
    -- it ends with a slot exactly where that is the next clear one, by the load for it
    pub some : (n slot : ℕ) → LastGives n (Some slot) ↔ (IsNextClear s.span found slot × (slot ≡ s.span.cursor + n))
    -- it ends with none exactly where all slots are taken, by the load for the last
    pub none : (n : ℕ) → LastGives n None ↔ (AreTaken s.span found (slots_of s.span.class) × (s.span.cursor + suc n ≡ slots_of s.span.class))
    -- its cursor then is that slot, or the number of slots
    pub cursor_some : (n slot : ℕ) → LastGives n (Some slot) → (told (suc n)).span.cursor ≡ slot
    pub cursor_none : (n : ℕ) → LastGives n None → (told (suc n)).span.cursor ≡ slots_of s.span.class

abbrev pub NextClearIsFound : Type 0
NextClearIsFound = (l : Layout) (span : Cached) (found : ℕ → ℕ) → FitsArena l span → span.cursor < slots_of span.class → FindsNextClear l (opening span) found
