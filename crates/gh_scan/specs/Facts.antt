-- What is known at each stage of the scan of an object while marking is on. The seat has taken the object, so nobody else scans it. The pointer fields before the word that the scan is at are clean, and a store by whomever leaves them so; so behind the last word the object is black.
use Rattle.std.specs.Prelude.{◌≡◌, ℕ, ◌+◌, ◌/◌, ◌<◌, ◌≤◌, ◌⊎◌, true, Option, Some, None}
use Rattle.gh_scan.specs.Vocabulary.{Ended, field_words, FindRoom, Held, LoadBitmap, LoadField, LoadPage, Row, ScanStage, Shading}
use Rattle.gh_marks.specs.Colours.{Colour, Cycle, Extents, IsClean, IsPointer, seen_field, seen_row, seen_word, Shared}
use Rattle.gh_marks.specs.Routines.{KeepsItsFacts}
use Rattle.gh_marks.specs.Seats.{Hands, InHand}
use Rattle.gh_scan.specs.Listing.{bit_says_pointer, gives, goes, listing, object_of, opening, Scanning}
use Rattle.gh_shade.specs.Facts as shade_facts
use Rattle.gh_shade.specs.Listing as shade
use Rattle.gh_wbuf.specs.Facts as room_facts

-- the pointer fields of the object before heap word x are clean
abbrev pub CleanBefore : Extents → (ℕ → Colour) → (field : Row) → (o x : ℕ) → Type 0
CleanBefore e colour field o x = (k : ℕ) → IsPointer e o k → o + k < x → IsClean colour (field (o + k))

-- Where it is: at a word of the slot, and done with those before. It knows how many words the slot has.
pub record IsAt (s : Shared) (o slot at : ℕ) : Type 0 where
  pub slot_is : slot ≡ s.extents.size o
  pub from : o ≤ at
  pub below : at < o + s.extents.size o
  pub clean : CleanBefore s.extents s.colour (seen_row s.extents.base (field_words s.words)) o at

-- its bitmap word says which words of the object are pointer fields, as far as it is the word that has their bits
abbrev pub BitsAre : Extents → (o bits at : ℕ) → Type 0
BitsAre e o bits at = (k : ℕ) → k < e.size o → (o + k) / 64 ≡ at / 64 → bit_says_pointer bits (o + k) ≡ e.pointer o k

-- it is at a pointer field
pub record IsAtPointerField (s : Shared) (o bits at : ℕ) : Type 0 where
  pub k : ℕ
  pub at_is : at ≡ o + k
  pub pointer : IsPointer s.extents o k
  pub bits_are : BitsAre s.extents o bits at

-- what it found there stands there still, or the word that came in its place is clean
abbrev pub FoundStillStands : Shared → (at reference : ℕ) → Type 0
FoundStillStands s at reference = (seen_field s at ≡ seen_word s.extents.base reference) ⊎ IsClean s.colour (seen_field s at)

-- what the seat has in hand
abbrev pub in_hand : InHand → Option Held → (scanning : Option ℕ) → InHand
in_hand rest held scanning = record rest { held = held; pending = None; scanning = scanning }

-- and what it has besides while it shades
abbrev pub besides : InHand → (o : ℕ) → InHand
besides rest o = record rest { scanning = Some o }

-- while it shades what it found
pub record Shades (s : Shared) (o slot at bits reference : ℕ) : Type 0 where
  pub is_at : IsAt s o slot at
  pub is_field : IsAtPointerField s o bits at
  pub stands : FoundStillStands s at reference

abbrev pub StageFacts : Cycle → (a : ℕ) → Shared → InHand → Scanning → ScanStage → Type 0
StageFacts z a s rest m LoadPage = Hands a s (in_hand rest m.held (Some (object_of m.reference)))
StageFacts z a s rest m LoadBitmap = IsAt s (object_of m.reference) m.slot m.at × Hands a s (in_hand rest m.held (Some (object_of m.reference)))
StageFacts z a s rest m LoadField = IsAt s (object_of m.reference) m.slot m.at × IsAtPointerField s (object_of m.reference) m.bits m.at × Hands a s (in_hand rest m.held (Some (object_of m.reference)))
StageFacts z a s rest m (Shading sh) = Shades s (object_of m.reference) m.slot m.at m.bits sh.reference × shade_facts.Facts z a s (besides rest (object_of m.reference)) sh
StageFacts z a s rest m (FindRoom sh r) =
    Shades s (object_of m.reference) m.slot m.at m.bits sh.reference × (1 ≤ sh.reference) × shade_facts.HasBoth s (shade.object_of sh.reference)
    × room_facts.RoomFacts z a s (record rest { pending = Some (shade.object_of sh.reference); scanning = Some (object_of m.reference) }) r
StageFacts z a s rest m (Ended words) = Hands a s (in_hand rest m.held None)

-- it is this seat's, and its object is one of the cycle
pub record Facts (z : Cycle) (a : ℕ) (s : Shared) (rest : InHand) (m : Scanning) : Type 0 where
  pub seat_is : m.seat ≡ a
  pub known : s.since (object_of m.reference) ≡ true
  pub stage_is : StageFacts z a s rest m m.stage

pub record ScansByMoves : Type 0 where
  pub keeps : KeepsItsFacts listing Facts
  -- they hold where it begins, once the seat has taken the object
  pub begins : (z : Cycle) (a : ℕ) (s : Shared) (rest : InHand) (reference : ℕ) (held : Option Held) → s.since (object_of reference) ≡ true → Hands a s (in_hand rest held (Some (object_of reference))) → Facts z a s rest (opening a reference held)
  -- where it ends the object is black, and out of its hands
  pub ends : (z : Cycle) (a : ℕ) (s : Shared) (rest : InHand) (m : Scanning) (found words : ℕ) → gives z.arena.layout m found ≡ Some words → Facts z a s rest (goes z.arena.layout m found) → Hands a s (in_hand rest (goes z.arena.layout m found).held None)
