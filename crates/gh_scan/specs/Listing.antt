-- The scan of an object: what is asked for at each stage, where that leads, and what it gives.
use Rattle.std.specs.Prelude.{ℕ, zero, suc, ◌+◌, ◌-◌, ◌*◌, ◌/◌, ◌%◌, Bool, true, ◌==◌, ◌||◌, if◌then◌else◌, Option, Some, None, is_none}
use Rattle.std.specs.Int.{bit_at}
use Rattle.gh_scan.specs.Vocabulary.{Bitmap, Done, Ended, Field, FindRoom, Held, Layout, Listing, Load, LoadBitmap, LoadField, LoadPage, Page, page_of, Scan, ScanStage, Shading, slot_in, steps_of, Touch, WantsRoom}
use Rattle.gh_base.specs.declared.cell.Ask.{Ask}
use Rattle.gh_base.specs.Footprints.{Footprint}
use Rattle.gh_base.specs.Footprints as row
use Rattle.gh_base.specs.Routines as routine
use Rattle.gh_scan.specs.Sound.{SoundScanning}
use Rattle.gh_shade.specs.declared.shade.Shaded.{Shaded}
use Rattle.gh_shade.specs.Listing as shade
use Rattle.gh_wbuf.specs.RoomFinding as room

-- the scan of an object by its reference: the buffer that is held between shadings, the words of the slot, the heap word that it is at, the bitmap word that it found last, and its stage
abbrev pub Scanning : Type 0
Scanning = Scan

abbrev pub opening : (seat reference : ℕ) → Option Held → Scanning
opening seat reference held = record { seat = seat; reference = reference; held = held; slot = 0; at = 0; bits = 0; stage = LoadPage }

abbrev pub at_stage : Scanning → ScanStage → Scanning
at_stage s stage = record s { stage = stage }

-- the first heap word of the object
abbrev pub object_of : (reference : ℕ) → ℕ
object_of reference = reference - 1

-- the bit of heap word x in this bitmap word: the word is a pointer field
abbrev pub bit_says_pointer : (bits x : ℕ) → Bool
bit_says_pointer bits x = bit_at bits (x % 64) == 1

-- something is loaded for heap word x: a new bitmap word, or the field
abbrev pub is_loaded : (bits x : ℕ) → Bool
is_loaded bits x = (x % 64 == 0) || bit_says_pointer bits x

-- the first such among so many heap words from x on
abbrev pub next_in : (bits words x : ℕ) → Option ℕ
next_in bits zero x = None
next_in bits (suc words) x = if is_loaded bits x then Some x else next_in bits words (x + 1)

-- from x on and below the end
abbrev pub next_from : (bits end x : ℕ) → Option ℕ
next_from bits end x = next_in bits (end - x) x

-- a reference that was found is taken modulo the heap's words
abbrev pub reference_in : Layout → (found : ℕ) → ℕ
reference_in l found = (found - 1) % (1024 * l.pages) + 1

-- what is loaded for heap word x
abbrev pub loads_at : (x : ℕ) → ScanStage
loads_at x = if x % 64 == 0 then LoadBitmap else LoadField

-- what is held at each stage
abbrev pub held_at : Option Held → ScanStage → Option Held
held_at held (Shading sh) = sh.held
held_at held (FindRoom sh r) = room.held_at r.stage
held_at held _ = held

module _ (s : Scanning) where
  -- the heap word behind the slot
  abbrev pub end : ℕ
  end = object_of s.reference + s.slot

  -- it goes on at this heap word, or ends with the words of the slot where there is none
  abbrev pub at_next : Option ℕ → Scanning
  at_next None = at_stage s (Ended s.slot)
  at_next (Some x) = record s { at = x; stage = loads_at x }

-- it is done with the word that it is at
abbrev pub behind : Scanning → Scanning
behind s = at_next s (next_from s.bits (end s) (s.at + 1))

-- the bitmap word of the word that it is at is this
abbrev pub with_bits : Scanning → (found : ℕ) → Scanning
with_bits s found = if bit_says_pointer found s.at then record s { bits = found; stage = LoadField } else behind (record s { bits = found })

-- after a step of shading, by what that gave
abbrev pub after_shade : Scanning → shade.Shading → Option Shaded → Scanning
after_shade s sh None = at_stage s (Shading sh)
after_shade s sh (Some Done) = behind (record s { held = sh.held })
after_shade s sh (Some WantsRoom) = at_stage s (FindRoom sh (room.opening s.seat sh.held))

-- after a step of the search for room, by what that gave
abbrev pub after_room : Scanning → shade.Shading → room.RoomFinding → Option Held → Scanning
after_room s sh r None = at_stage s (FindRoom sh r)
after_room s sh r (Some h) = at_stage s (Shading (shade.told_room sh h))

module _ (l : Layout) where
  abbrev pub asks_at : Scanning → ScanStage → Ask
  asks_at s LoadPage = Load (Page (object_of s.reference / 1024))
  asks_at s LoadBitmap = Load (Bitmap (s.at / 64 % (16 * l.pages)))
  asks_at s LoadField = Load (Field (s.at % (1024 * l.pages)))
  asks_at s (Shading sh) = shade.asks sh
  asks_at s (FindRoom sh r) = room.asks r
  asks_at s (Ended words) = Load Touch

  -- the field holds this
  abbrev pub with_found_field : Scanning → (found : ℕ) → Scanning
  with_found_field s found = if found == 0 then behind s else at_stage s (Shading (shade.opening (reference_in l found) s.held))

  abbrev pub goes_at : Scanning → ScanStage → ℕ → Scanning
  goes_at s LoadPage found = record s { slot = slot_in (page_of found); at = object_of s.reference; stage = LoadBitmap }
  goes_at s LoadBitmap found = with_bits s found
  goes_at s LoadField found = with_found_field s found
  goes_at s (Shading sh) found = after_shade s (shade.goes sh found) (shade.gives sh found)
  goes_at s (FindRoom sh r) found = after_room s sh (room.goes l r found) (room.gives l r found)
  goes_at s (Ended words) found = at_stage s (Ended words)

  abbrev pub asks : Scanning → Ask
  asks s = asks_at s s.stage

  abbrev pub goes : Scanning → ℕ → Scanning
  goes s found = goes_at s s.stage found

-- where it has ended it has given the words that it has scanned
abbrev pub given_at : ScanStage → Option ℕ
given_at (Ended words) = Some words
given_at _ = None

abbrev pub is_busy : ScanStage → Bool
is_busy stage = is_none (given_at stage)

abbrev pub given : Scanning → Option ℕ
given s = given_at s.stage

abbrev pub gives : Layout → Scanning → ℕ → Option ℕ
gives l s found = given (goes l s found)

-- those of the search for room, and those of shading
abbrev pub writes : Footprint
writes row.Buffer = true
writes r = shade.writes r

abbrev pub listing : Layout → Listing Scanning ℕ
listing l = record { asks = asks l; goes = goes l; given = given; sound = SoundScanning l; writes = writes }

abbrev pub transitions : Layout → routine.Listing Scanning ℕ
transitions l = steps_of l (listing l)
