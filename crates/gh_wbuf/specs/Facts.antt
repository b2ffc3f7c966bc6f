-- What is known at each stage of the routines while marking is on, and what each step of their own is then. They take and give buffers alone, so they leave all that their caller knows.
use Rattle.std.specs.Prelude.{◌≡◌, ℕ, ◌+◌, ◌-◌, ◌≤◌, true, Option, Some, None}
use Rattle.gh_wbuf.specs.Vocabulary.{ENTRIES, Held, Layout, Wish}
use Rattle.gh_base.specs.Steps.{cell_of}
use Rattle.gh_marks.specs.Colours.{Cycle, Shared}
use Rattle.gh_marks.specs.Good.{Good}
use Rattle.gh_marks.specs.Knows.{KnowsObjects}
use Rattle.gh_marks.specs.Moves.{Keeps, Others, Steps}
use Rattle.gh_marks.specs.Routines.{KeepsItsFacts}
use Rattle.gh_marks.specs.Seats.{Hands, InHand}
use Rattle.gh_wbuf.specs.BufferGiving as giving
use Rattle.gh_wbuf.specs.EntryTaking as taking
use Rattle.gh_wbuf.specs.Knowing.{RoomKnows, TakeKnows, TryKnows}
use Rattle.gh_wbuf.specs.RoomFinding as finding
use Rattle.gh_wbuf.specs.Trying as try

-- what the seat has in hand, with this buffer
abbrev pub holding : InHand → Option Held → InHand
holding rest held = record rest { held = held }

pub record TryFacts (z : Cycle) (a : ℕ) (s : Shared) (rest : InHand) (t : try.Trying) : Type 0 where
  pub knows : TryKnows a t
  pub hands : Hands a s (holding rest t.held)

pub record RoomFacts (z : Cycle) (a : ℕ) (s : Shared) (rest : InHand) (r : finding.RoomFinding) : Type 0 where
  pub knows : RoomKnows a r
  pub hands : Hands a s (holding rest (finding.held_at r.stage))

pub record GiveFacts (z : Cycle) (a : ℕ) (s : Shared) (rest : InHand) (g : giving.BufferGiving) : Type 0 where
  pub hands : Hands a s (holding rest (giving.held_at g.stage))

-- the seat takes an object only while it scans none, and only until it has one
pub record TakeFacts (z : Cycle) (a : ℕ) (s : Shared) (rest : InHand) (t : taking.EntryTaking) : Type 0 where
  pub knows : TakeKnows a t
  pub hands : Hands a s (holding rest (taking.held_at t.stage))
  pub idle : rest.scanning ≡ None
  pub busy : taking.is_busy t.stage ≡ true

-- the object of this reference is the seat's to scan
pub record Took (a : ℕ) (s : Shared) (rest : InHand) (held : Option Held) (reference : ℕ) : Type 0 where
  pub some : 1 ≤ reference
  pub hands : Hands a s (record rest { held = held; scanning = Some (reference - 1) })

-- What a step of the taking comes to, by what it gives: the facts of the next stage; no object, and what is held then; or an object, which nobody else has then.
abbrev pub TakeComes : Cycle → (a : ℕ) → Shared → InHand → Option (Option ℕ) → taking.EntryTaking → Type 0
TakeComes z a s rest None t = TakeFacts z a s rest t
TakeComes z a s rest (Some None) t = Hands a s (holding rest (taking.held_at t.stage))
TakeComes z a s rest (Some (Some reference)) t = Took a s rest (taking.held_at t.stage) reference

pub record TakesByMoves : Type 0 where
  pub own_step : (z : Cycle) (a : ℕ) (s : Shared) (rest : InHand) (t : taking.EntryTaking) → Good z s → KnowsObjects z s → TakeFacts z a s rest t →
      Steps z a s (taking.asks t) (λ u. Keeps z a s u × TakeComes z a u rest (taking.gives z.arena.layout t (s.words (cell_of (taking.asks t)))) (taking.goes z.arena.layout t (s.words (cell_of (taking.asks t)))))
  pub lasts : (z : Cycle) (a : ℕ) (s u : Shared) (rest : InHand) (t : taking.EntryTaking) → Others z a s u → TakeFacts z a s rest t → TakeFacts z a u rest t

-- The facts hold where the routines begin, with what the seat holds then.
pub record FactsBegin (z : Cycle) (a : ℕ) (s : Shared) (rest : InHand) (held : Option Held) : Type 0 where
  pub tries : (wish : Wish) (index : ℕ) → TryFacts z a s rest (try.opening a wish index held)
  pub finds : RoomFacts z a s rest (finding.opening a held)
  pub takes : rest.scanning ≡ None → TakeFacts z a s rest (taking.opening a held)
  pub gives : (own : Held) → held ≡ Some own → GiveFacts z a s rest (giving.opening own)

pub record BuffersPassByMoves : Type 0 where
  pub begin : (z : Cycle) (a : ℕ) (s : Shared) (rest : InHand) (held : Option Held) → Hands a s (holding rest held) → FactsBegin z a s rest held
  pub tries : KeepsItsFacts try.listing TryFacts
  pub finds : KeepsItsFacts finding.listing RoomFacts
  pub takes : TakesByMoves
  pub gives : KeepsItsFacts giving.listing GiveFacts
  -- a buffer that was found has room for the entry of a pending object, and for one more
  pub room : (l : Layout) (a found : ℕ) (r : finding.RoomFinding) (h : Held) → RoomKnows a r → finding.gives l r found ≡ Some h → h.count + 2 ≤ ENTRIES
  -- and is held then
  pub held : (l : Layout) (found : ℕ) (r : finding.RoomFinding) (h : Held) → finding.gives l r found ≡ Some h → finding.held_at (finding.goes l r found).stage ≡ Some h
