-- Slots that begin in an alloc word, and whether one of them is clear.
use Rattle.std.specs.Prelude.{◌≡◌, List, [], ◌∷◌, ℕ, zero, suc, ◌+◌, ◌*◌, ◌/◌, ◌%◌, ◌<◌, Bool, true, false, ◌↔◌, ◌==◌, ◌&&◌, ◌||◌}
use Rattle.std.specs.Int.{bit_at}

-- slot i of the span whose first heap word is `first` begins in alloc word `word`, and its bit is clear in what was found there
pub record IsClear (slot first word found i : ℕ) : Type 0 where
  pub begins : (first + i * slot) / 64 ≡ word
  pub clear : bit_at found ((first + i * slot) % 64) ≡ 0

-- some slot of the span begins in the word, and its bit is clear
abbrev pub LacksSlot : (slot slots first word found : ℕ) → Type 0
LacksSlot slot slots first word found = (i : ℕ) × (i < slots) × IsClear slot first word found i

abbrev pub slot_is_clear : (slot first word found i : ℕ) → Bool
slot_is_clear slot first word found i = ((first + i * slot) / 64 == word) && (bit_at found ((first + i * slot) % 64) == 0)

-- the same as a test
unfoldable pub lacks_slot : (slot slots first word found : ℕ) → Bool
lacks_slot slot zero first word found = false
lacks_slot slot (suc i) first word found = slot_is_clear slot first word found i || lacks_slot slot i first word found

abbrev pub TheTestSaysIt : Type 0
TheTestSaysIt = (slot slots first word found : ℕ) → (lacks_slot slot slots first word found ≡ true) ↔ LacksSlot slot slots first word found

-- of slots of so many words, up to 63: a word with each bit set at which a slot begins, the first at bit 0; there are no slots of 0 words
unfoldable pub slot_starts : List ℕ
slot_starts = 0 ∷ 18446744073709551615 ∷ 6148914691236517205 ∷ 10540996613548315209 ∷ 1229782938247303441 ∷ 1190112520884487201 ∷ 1171221845949812801 ∷ 9295997013522923649 ∷ 72340172838076673 ∷ 9241421688590303745 ∷ 1154048505100108801 ∷ 36046397799139329 ∷ 1153203048319815681 ∷ 4504149450301441 ∷ 72061992352890881 ∷ 1152956690052710401 ∷ 281479271743489 ∷ 2251816993685505 ∷ 18014467229220865 ∷ 144115462954287105 ∷ 1152922604119523329 ∷ 9223376434903384065 ∷ 17592190238721 ∷ 70368752566273 ∷ 281474993487873 ∷ 1125899940397057 ∷ 4503599694479361 ∷ 18014398643699713 ∷ 72057594306363393 ∷ 288230376688582657 ∷ 1152921505680588801 ∷ 4611686020574871553 ∷ 4294967297 ∷ 8589934593 ∷ 17179869185 ∷ 34359738369 ∷ 68719476737 ∷ 137438953473 ∷ 274877906945 ∷ 549755813889 ∷ 1099511627777 ∷ 2199023255553 ∷ 4398046511105 ∷ 8796093022209 ∷ 17592186044417 ∷ 35184372088833 ∷ 70368744177665 ∷ 140737488355329 ∷ 281474976710657 ∷ 562949953421313 ∷ 1125899906842625 ∷ 2251799813685249 ∷ 4503599627370497 ∷ 9007199254740993 ∷ 18014398509481985 ∷ 36028797018963969 ∷ 72057594037927937 ∷ 144115188075855873 ∷ 288230376151711745 ∷ 576460752303423489 ∷ 1152921504606846977 ∷ 2305843009213693953 ∷ 4611686018427387905 ∷ 9223372036854775809 ∷ []
