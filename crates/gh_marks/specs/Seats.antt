-- What a seat has in hand. Each thing is tied to the shared state both ways, so that nothing has to be counted: what no seat says that it has, nobody has.
use Rattle.std.specs.Prelude.{◌≡◌, ℕ, ◌<◌, ◌↔◌, Option, Some, None}
use Rattle.gh_marks.specs.Vocabulary.{Held, HoldsBuffer, Row}
use Rattle.gh_marks.specs.Colours.{Claimed, Colour, IsClean, Pending, Placing, Progress, Read, Shared, Taken, buffers_as_held}

-- a global that the seat has claimed, or whose value it has read
pub data Claim : Type 0 where
  NoClaim : Claim
  ClaimOf : (i : ℕ) → Claim
  ReadOf : (i value : ℕ) → Claim

-- The work buffer that a seat holds, with its count; the object that it has marked and not entered yet; that which it scans; the slot that it has marked and not filled yet; and its global.
pub record InHand : Type 0 where
  pub held : Option Held
  pub pending : Option ℕ
  pub scanning : Option ℕ
  pub placing : Option ℕ
  pub claim : Claim

abbrev pub nothing : InHand
nothing = record { held = None; pending = None; scanning = None; placing = None; claim = NoClaim }

-- the colours and the globals say so
pub record Has (colour : ℕ → Colour) (progress : ℕ → Progress) (a : ℕ) (pending scanning placing : Option ℕ) (claim : Claim) : Type 0 where
  pub is_pending : (o : ℕ) → (pending ≡ Some o) ↔ (colour o ≡ Pending a)
  pub is_taken : (o : ℕ) → (scanning ≡ Some o) ↔ (colour o ≡ Taken a)
  pub is_reserved : (o : ℕ) → (placing ≡ Some o) ↔ (colour o ≡ Placing a)
  pub is_claimed : (i : ℕ) → (claim ≡ ClaimOf i) ↔ (progress i ≡ Claimed a)
  pub is_read : (i value : ℕ) → (claim ≡ ReadOf i value) ↔ (progress i ≡ Read a value)

-- and the words of the buffers
pub record Hands (a : ℕ) (s : Shared) (h : InHand) : Type 0 where
  pub holds : HoldsBuffer (buffers_as_held s.words s.filled) a h.held
  pub has : Has s.colour s.progress a h.pending h.scanning h.placing h.claim

-- the first few of a row, or of the words of an object, are clean
abbrev pub CleanBelow : (ℕ → Colour) → (row : Row) → (x : ℕ) → Type 0
CleanBelow colour row x = (i : ℕ) → i < x → IsClean colour (row i)
