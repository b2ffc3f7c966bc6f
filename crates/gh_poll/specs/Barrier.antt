-- A store of a pointer while marking is on: the write behind the barrier that a processor runs with the buffer that it holds, and that buffer behind each step.
use Rattle.std.specs.Prelude.{◌≡◌, ℕ, Bool, true, false, ◌==◌, if◌then◌else◌, Option, Some, None}
use Rattle.gh_poll.specs.Vocabulary.{Held, Layout, Local, Value}
use Rattle.gh_barrier.specs.declared.pointer_cell.PointerCell.{PointerCell}
use Rattle.gh_barrier.specs.Listing.{Writing}
use Rattle.gh_barrier.specs.Listing as write
use Rattle.gh_barrier.specs.Sound.{SoundWriting}
use Rattle.gh_poll.specs.Registers.{is_number_value}
use Rattle.gh_poll.specs.Local.{marking_at}
use Rattle.gh_poll.specs.Poll.{has_two, Polling}

-- what a value names: nil and numbers name nothing
abbrev pub pointer_of : Value → Option ℕ
pointer_of Value.Nil = None
pointer_of (Value.Int n) = None
pointer_of (Value.Ref r) = if r == 0 then None else Some r

-- the value is written to the cell, with the buffer that is held
abbrev pub written : Local → PointerCell → Value → Writing
written own at v = write.opening at (pointer_of v) own.held

-- It is the write of this value to this cell; a number is not written so.
pub record WritesIt (l : Layout) (at : PointerCell) (v : Value) (w : Writing) : Type 0 where
  pub same_cell : w.at ≡ at
  pub same_pointer : w.pointer ≡ pointer_of v
  pub names : is_number_value v ≡ false
  pub within : SoundWriting l w
  pub busy : write.is_busy w.stage ≡ true

-- what is held behind a step of the write
abbrev pub held_behind_write : Writing → Option Held
held_behind_write w = write.held_at w.held w.stage

abbrev pub held_then : Layout → Writing → (found : ℕ) → Option Held
held_then l w found = held_behind_write (write.goes l w found)

-- the processor holds this
abbrev pub with_held : Polling → Option Held → Polling
with_held p held = record p { local = record (p.local) { held = held } }

-- Where marking is on, as it knows, two entries go into the buffer that it holds: there is room for a write.
abbrev pub has_entries : Polling → Bool
has_entries p = if marking_at p then has_two p.local.held else true
