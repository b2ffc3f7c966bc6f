-- Taking an entry: what is asked for at each stage, where that leads, and what it has given.
use Rattle.std.specs.Prelude.{ℕ, ◌+◌, ◌-◌, ◌*◌, ◌%◌, Bool, max, nat_lt, if◌then◌else◌, Option, Some, None, is_none}
use Rattle.gh_wbuf.specs.Vocabulary.{Ask, buffers_of, Cell, Entry, Held, Layout, Listing, Load, steps_of, Take, TakeEntry, TakeStage, Try}
use Rattle.gh_base.specs.Routines as routine
use Rattle.gh_wbuf.specs.Sound.{SoundEntryTaking}
use Rattle.gh_wbuf.specs.declared.take_entry.TakeStage.TheVariants.{Ended}
use Rattle.gh_wbuf.specs.Trying as try

abbrev pub EntryTaking : Type 0
EntryTaking = TakeEntry

-- it tries this buffer next, and holds this
abbrev pub try_at : (seat index : ℕ) → Option Held → TakeStage
try_at seat index held = Try (try.opening seat Entry index held)

-- a held buffer with an entry gives it
abbrev pub begin : (seat : ℕ) → Option Held → TakeStage
begin seat None = try_at seat 0 None
begin seat (Some h) = if nat_lt 0 h.count then Take h else try_at seat 0 (Some h)

abbrev pub opening : (seat : ℕ) → Option Held → EntryTaking
opening seat held = record { seat = seat; stage = begin seat held }

abbrev pub at_stage : EntryTaking → TakeStage → EntryTaking
at_stage t stage = record t { stage = stage }

-- what is held at each stage
abbrev pub held_at : TakeStage → Option Held
held_at (Try t) = t.held
held_at (Take h) = Some h
held_at (Ended held entry) = held

-- it has an entry less
abbrev pub less : Held → Held
less h = record h { count = h.count - 1 }

-- an entry is a reference, taken modulo the heap's words; nil may not stand there, and is read as the first
abbrev pub entry_of : Layout → (found : ℕ) → ℕ
entry_of l found = (max found 1 - 1) % (1024 * l.pages) + 1

-- there is a buffer behind this one
abbrev pub has_next : Layout → (index : ℕ) → Bool
has_next l index = nat_lt (index + 1) (buffers_of l)

-- behind this buffer: the next, or the end, with none
abbrev pub behind : Layout → (seat index : ℕ) → Option Held → TakeStage
behind l seat index held = if has_next l index then try_at seat (index + 1) held else Ended held None

abbrev pub asks_at : EntryTaking → TakeStage → Ask
asks_at t (Try tries) = try.asks tries
asks_at t (Take h) = Load (Cell.Entry h.index (h.count - 1))
asks_at t (Ended held entry) = Load Cell.Touch

module _ (l : Layout) where
  -- what it is after the try of this buffer has given this, with what is held then
  abbrev pub after_try : EntryTaking → (index : ℕ) → Option Held → Option (Option Held) → EntryTaking
  after_try t index held None = t
  after_try t index held (Some None) = at_stage t (behind l t.seat index held)
  after_try t index held (Some (Some h)) = at_stage t (Take h)

  abbrev pub goes_at : EntryTaking → TakeStage → ℕ → EntryTaking
  goes_at t (Try tries) found = after_try (at_stage t (Try (try.goes tries found))) tries.index (try.goes tries found).held (try.gives tries found)
  goes_at t (Take h) found = at_stage t (Ended (Some (less h)) (Some (entry_of l found)))
  goes_at t (Ended held entry) found = at_stage t (Ended held entry)

  abbrev pub goes : EntryTaking → ℕ → EntryTaking
  goes t found = goes_at t t.stage found

-- where it has ended, the reference that it has taken, or none
abbrev pub given_at : TakeStage → Option (Option ℕ)
given_at (Ended held entry) = Some entry
given_at _ = None

abbrev pub is_busy : TakeStage → Bool
is_busy stage = is_none (given_at stage)

abbrev pub asks : EntryTaking → Ask
asks t = asks_at t t.stage

abbrev pub given : EntryTaking → Option (Option ℕ)
given t = given_at t.stage

abbrev pub gives : Layout → EntryTaking → ℕ → Option (Option ℕ)
gives l t found = given (goes l t found)

abbrev pub listing : Layout → Listing EntryTaking (Option ℕ)
listing l = record { asks = asks; goes = goes l; given = given; sound = SoundEntryTaking l; writes = try.writes }

abbrev pub transitions : Layout → routine.Listing EntryTaking (Option ℕ)
transitions l = steps_of l (listing l)
