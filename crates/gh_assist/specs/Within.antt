-- The steps of taking and scanning objects, and so of an assist, are on words that there are: what is known of their numbers, whatever they are told.
use Rattle.std.specs.Prelude.{◌≡◌, ℕ, ◌+◌, ◌*◌, ◌%◌, ◌<◌, ◌≤◌, true, Option, Some, None}
use Rattle.gh_assist.specs.Vocabulary.{AssistStage, buffers_of, cell_of, FitsBuffers, Held, InRange, IsHeld, Layout, Scanning, Taking}
use Rattle.gh_assist.specs.Listing.{asks, Assisting, goes, held_at, opening}
use Rattle.gh_base.specs.declared.pack.TheConstants.{ENTRIES}
use Rattle.gh_scan.specs.declared.scan.ScanStage.{ScanStage}
use Rattle.gh_scan.specs.Listing as scan
use Rattle.gh_shade.specs.Listing as shade
use Rattle.gh_shade.specs.Sound.{SoundStage, IsReference}
use Rattle.gh_wbuf.specs.declared.find_room.RoomStage.{RoomStage}
use Rattle.gh_wbuf.specs.declared.take_entry.TakeStage.{TakeStage}
use Rattle.gh_wbuf.specs.declared.try_buffer.Wish.TheVariants.{Room}
use Rattle.gh_wbuf.specs.EntryTaking as take
use Rattle.gh_wbuf.specs.RoomFinding as room
use Rattle.gh_wbuf.specs.Trying as try
use Rattle.gh_wbuf.specs.Trying.{SoundTryStage, Trying}

-- a try of a buffer that there is
pub record TryWithin (l : Layout) (t : Trying) : Type 0 where
  pub index : t.index < buffers_of l
  pub held : IsHeld l t.held
  pub opened : SoundTryStage t.wish t.stage

abbrev pub RoomStageWithin : Layout → RoomStage → Type 0
RoomStageWithin l (RoomStage.GiveBack h) = FitsBuffers l h
RoomStageWithin l (RoomStage.Try t) = TryWithin l t × (t.wish ≡ Room) × (try.is_busy t.stage ≡ true)
RoomStageWithin l (RoomStage.Ended h) = FitsBuffers l h × (h.count < ENTRIES)

pub record RoomWithin (l : Layout) (r : room.RoomFinding) : Type 0 where
  pub stage : RoomStageWithin l r.stage

-- an entry that is taken is a reference
abbrev pub TakenIsReference : Layout → Option (Option ℕ) → Type 0
TakenIsReference l (Some (Some reference)) = IsReference l reference
TakenIsReference l _ = Unit {0}

abbrev pub TakeStageWithin : Layout → TakeStage → Type 0
TakeStageWithin l (TakeStage.Try t) = TryWithin l t × (try.is_busy t.stage ≡ true)
TakeStageWithin l (TakeStage.Take h) = FitsBuffers l h
TakeStageWithin l (TakeStage.Ended held entry) = IsHeld l held × TakenIsReference l (Some entry)

pub record TakeWithin (l : Layout) (t : take.EntryTaking) : Type 0 where
  pub stage : TakeStageWithin l t.stage

-- a buffer with room for an entry, if one is given
abbrev pub HasRoomForEntry : Layout → Option Held → Type 0
HasRoomForEntry l None = Unit {0}
HasRoomForEntry l (Some h) = FitsBuffers l h × (h.count < ENTRIES)

pub record ShadeWithin (l : Layout) (s : shade.Shading) : Type 0 where
  pub reference : IsReference l s.reference
  pub held : IsHeld l s.held
  pub stage : SoundStage s.held s.stage

abbrev pub ScanStageWithin : Layout → ScanStage → Type 0
ScanStageWithin l (ScanStage.Shading sh) = ShadeWithin l sh
ScanStageWithin l (ScanStage.FindRoom sh r) = ShadeWithin l sh × RoomWithin l r
ScanStageWithin l _ = Unit {0}

pub record ScanWithin (l : Layout) (s : scan.Scanning) : Type 0 where
  pub reference : IsReference l s.reference
  pub held : IsHeld l s.held
  pub stage : ScanStageWithin l s.stage

-- What is known of the routines by which objects are taken and scanned, whatever they are told: it holds where they begin and behind each of their steps, and by it each step is on a word that there is, and what they hold and give is of this layout.
pub record TakingAndScanningAreWithin : Type 0 where
  -- looking for room
  pub room_first : (l : Layout) (seat : ℕ) (held : Option Held) → IsHeld l held → RoomWithin l (room.opening seat held)
  pub room_goes : (l : Layout) (r : room.RoomFinding) (found : ℕ) → RoomWithin l r → RoomWithin l (room.goes l r found)
  pub room_gives : (l : Layout) (r : room.RoomFinding) (found : ℕ) → RoomWithin l r → HasRoomForEntry l (room.gives l r found)
  pub room_within : (l : Layout) (r : room.RoomFinding) → RoomWithin l r → InRange l (cell_of (room.asks r))
  -- taking an entry
  pub take_first : (l : Layout) (seat : ℕ) (held : Option Held) → IsHeld l held → TakeWithin l (take.opening seat held)
  pub take_goes : (l : Layout) (t : take.EntryTaking) (found : ℕ) → TakeWithin l t → TakeWithin l (take.goes l t found)
  pub taken : (l : Layout) (t : take.EntryTaking) (found : ℕ) → TakeWithin l t → TakenIsReference l (take.gives l t found)
  pub take_holds : (l : Layout) (t : take.EntryTaking) → TakeWithin l t → IsHeld l (take.held_at t.stage)
  pub take_within : (l : Layout) (t : take.EntryTaking) → TakeWithin l t → InRange l (cell_of (take.asks t))
  -- a found word that is taken modulo the heap's words is a reference
  pub referred : (l : Layout) (found : ℕ) → 1 ≤ l.pages → IsReference l (found % (1024 * l.pages) + 1)
  -- shading
  pub shade_first : (l : Layout) (reference : ℕ) (held : Option Held) → IsReference l reference → IsHeld l held → ShadeWithin l (shade.opening reference held)
  pub shade_told : (l : Layout) (s : shade.Shading) (h : Held) → ShadeWithin l s → HasRoomForEntry l (Some h) → ShadeWithin l (shade.told_room s h)
  pub shade_goes : (l : Layout) (s : shade.Shading) (found : ℕ) → ShadeWithin l s → ShadeWithin l (shade.goes s found)
  pub shade_within : (l : Layout) (s : shade.Shading) → ShadeWithin l s → InRange l (cell_of (shade.asks s))
  -- the scan of an object
  pub scan_first : (l : Layout) (seat reference : ℕ) (held : Option Held) → IsReference l reference → IsHeld l held → ScanWithin l (scan.opening seat reference held)
  pub scan_goes : (l : Layout) (s : scan.Scanning) (found : ℕ) → ScanWithin l s → ScanWithin l (scan.goes l s found)
  pub scan_holds : (l : Layout) (s : scan.Scanning) → ScanWithin l s → IsHeld l (scan.held_at s.held s.stage)
  pub scan_within : (l : Layout) (s : scan.Scanning) → ScanWithin l s → InRange l (cell_of (scan.asks l s))

abbrev pub StageWithin : Layout → AssistStage → Type 0
StageWithin l (Taking t) = TakeWithin l t
StageWithin l (Scanning s) = ScanWithin l s
StageWithin l _ = Unit {0}

-- the buffer that it holds is one of this layout
pub record AssistWithin (l : Layout) (x : Assisting) : Type 0 where
  pub held : IsHeld l x.held
  pub stage : StageWithin l x.stage

pub record AssistsAreWithin : Type 0 where
  pub begins : (l : Layout) (seat : ℕ) (held : Option Held) (bytes owed spent : ℕ) → IsHeld l held → AssistWithin l (opening seat held bytes owed spent)
  pub goes_on : (l : Layout) (x : Assisting) (found : ℕ) → AssistWithin l x → AssistWithin l (goes l x found)
  -- its step is on a word that there is
  pub within : (l : Layout) (x : Assisting) → AssistWithin l x → InRange l (cell_of (asks l x))
  -- and what it holds is a buffer of this layout
  pub holds : (l : Layout) (x : Assisting) → AssistWithin l x → IsHeld l (held_at x.held x.stage)
