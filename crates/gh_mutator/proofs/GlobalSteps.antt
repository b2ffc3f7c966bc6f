-- Own steps of the load and the store of a global.
use Rattle.std.proofs.Common.{◌≡◌, ℕ, ◌+◌, ◌^◌, ◌<◌, ◌≤◌, Bool, true, false, Option, arith}
use Rattle.gh_mutator.proofs.Vocabulary.{begins_store, Global, GlobalRoom, GlobalStage, Held, held_behind, IsHeld, IsNear, IsRegister, IsRoutine, Layout, Local, Polling, SoundGlobal, step, Then, Value, write_left, WritingEnds}
use Rattle.gh_barrier.specs.Listing as write
use Rattle.gh_mutator.specs.declared.global.GlobalStage.TheVariants.{Load, Writing, Number}
use Rattle.gh_mutator.proofs.Opens.{write_opens}
use Rattle.gh_mutator.proofs.Steps.{FaultsFrom, GoesTo, StepSound}

-- ---- its numbers stay in their ranges

pub step_sound : (l : Layout) (held : Value) (x : Global) (found : ℕ) → SoundGlobal l.globals x → StepSound (SoundGlobal l.globals) l.pages (step l held x found)
step_sound l held x found h = grind arith

-- and its write is sound and goes on
pub step_room : (l : Layout) → ((z : Layout) → IsRoutine z (write.listing z)) → (p : Polling) (held : Value) (x : Global) (found : ℕ) → found < 2 ^ 64 → GlobalRoom l x.stage → GoesTo (λ (y : Global). GlobalRoom l y.stage) (step l held x found).then
step_room l k p held x found few h = grind arith

pub begins_sound : (own : Local) (globals g k v : ℕ) (held : Value) → IsRegister g v → k < globals → SoundGlobal globals (begins_store own g k v held)
begins_sound own globals g k v held register there = record { register = grind arith; global = grind arith }

pub begins_room : (l : Layout) (p : Polling) (g k v : ℕ) (held : Value) → k < l.globals → IsNear l.pages held → IsHeld l p.local.held → GlobalRoom l (begins_store p.local g k v held).stage
begins_room l p g k v held there near fits = grind (arith, write_opens)

-- ---- it ends after a few steps

abbrev pub left_at : GlobalStage → ℕ
left_at Load = 2
left_at (Writing w) = write_left w.stage
left_at _ = 1

abbrev pub left : Global → ℕ
left x = left_at x.stage

-- its write goes on
abbrev pub writes_on : GlobalStage → Bool
writes_on (Writing w) = write.is_busy w.stage
writes_on _ = true

-- a step leaves fewer, and leads to a write that goes on
abbrev pub Left : (most : ℕ) → Then Global → Type 0
Left most then = GoesTo (λ (y : Global). (writes_on y.stage ≡ true) × (left y + 1 ≤ most)) then

pub nears : WritingEnds → (l : Layout) (held : Value) (x : Global) (found : ℕ) → writes_on x.stage ≡ true → (1 ≤ left x) × Left (left x) (step l held x found).then
nears ends_so l held x found on = grind arith

-- ---- a fault has loaded words alone

abbrev pub may_fault_at : GlobalStage → Bool
may_fault_at Number = true
may_fault_at _ = false

abbrev pub may_fault : Global → Bool
may_fault x = may_fault_at x.stage

pub faults : (l : Layout) (held : Value) (x : Global) (found : ℕ) → FaultsFrom may_fault x (step l held x found)
faults l held x found = grind arith

-- what is held stays
pub holds_still : (l : Layout) (held : Option Held) (s : GlobalStage) (found : ℕ) → may_fault_at s ≡ true → held_behind l held s found ≡ held
holds_still l held s found e = grind arith
