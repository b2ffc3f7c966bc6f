-- Own steps of a store.
use Rattle.std.proofs.Common.{◌≡◌, ℕ, ◌+◌, ◌*◌, ◌^◌, ◌<◌, ◌≤◌, Bool, true, false, cond, Option, Some, None, refl, ap, arith, is_none}
use Rattle.gh_mutator.proofs.Vocabulary.{Answer, ends, Fault, goes_on, has_field, Held, held_then, is_mark, is_pointer_by, IsHeld, IsNear, IsRegister, IsRoutine, Layout, Local, PointerWrite, Polling, SoundStore, SoundStoreStage, Store, StoreRoom, StoreStage, Then, Value, with_held, write_left, WritingEnds}
use Rattle.gh_barrier.specs.Listing as write
use Rattle.gh_mutator.specs.declared.store.StoreStage.TheVariants.{Page, Bits, Field, Writing, NilBase}
use Rattle.gh_mutator.specs.Store.{after_write, at_stage, by_kind, held_behind, step, step_at}
use Rattle.gh_mutator.proofs.ClassFacts.{ClassLaws}
use Rattle.gh_mutator.proofs.Fields.{field_there}
use Rattle.gh_mutator.proofs.Opens.{write_opens}
use Rattle.gh_mutator.proofs.Steps.{FaultsFrom, GoesTo, StepSound}

-- ---- its numbers stay in their ranges

module _ (l : Layout) (own : Local) (held : Value) (x : Store) (register : IsRegister x.g x.v) (within : x.at < 1024 * l.pages) where
  sound_at : (s : StoreStage) → SoundStoreStage x.k s → SoundStore l.pages (at_stage x s)
  sound_at s h = record { register = register; within = within; stage = h }

  write_sound : (w : PointerWrite) (out : Option (Unit {0})) → StepSound (SoundStore l.pages) l.pages (after_write x w out)
  write_sound w out = grind arith

  step_sound_at : ClassLaws → (s : StoreStage) (found : ℕ) → SoundStoreStage x.k s → StepSound (SoundStore l.pages) l.pages (step_at l own held x s found)
  step_sound_at laws NilBase found h = record { next = tt; sets = tt }
  step_sound_at laws Page found h = go (has_field x.k found) refl where
    go : (b : Bool) → has_field x.k found ≡ b → StepSound (SoundStore l.pages) l.pages (cond b (goes_on (at_stage x Bits)) (ends (Answer.Fault Fault.Field)))
    go true e = record { next = sound_at Bits (field_there laws x.k found e); sets = tt }
    go false e = record { next = tt; sets = tt }
  step_sound_at laws Bits found h = go (is_pointer_by l (x.at + x.k) found) where
    go : (p : Bool) → StepSound (SoundStore l.pages) l.pages (by_kind l own held x p)
    go p = grind arith
  step_sound_at laws Field found h = record { next = tt; sets = tt }
  step_sound_at laws (Writing w) found h = write_sound (write.goes l w found) (write.gives l w found)

pub step_sound : ClassLaws → (l : Layout) (own : Local) (held : Value) (x : Store) (found : ℕ) → SoundStore l.pages x → StepSound (SoundStore l.pages) l.pages (step l own held x found)
step_sound laws l own held x found h = grind (arith, step_sound_at)

-- and there is room for its write, which is sound and goes on
module _ (l : Layout) (k : (z : Layout) → IsRoutine z (write.listing z)) (p : Polling) (held : Value) (x : Store) (near : IsNear l.pages held) (fits : IsHeld l p.local.held) where
  abbrev RoomThen : Option Held → Store → Type 0
  RoomThen h y = StoreRoom l (with_held p h) y.stage

  room_at : (s : StoreStage) (found : ℕ) → found < 2 ^ 64 → StoreRoom l p s → GoesTo (RoomThen (held_behind l p.local.held s found)) (step_at l p.local held x s found).then
  room_at NilBase found few h = tt
  room_at Page found few h = go (has_field x.k found) where
    go : (b : Bool) → GoesTo (RoomThen p.local.held) (cond b (goes_on (at_stage x Bits)) (ends (Answer.Fault Fault.Field))).then
    go true = h
    go false = tt
  room_at Bits found few h = go (is_pointer_by l (x.at + x.k) found) where
    go : (pointer : Bool) → GoesTo (RoomThen p.local.held) (by_kind l p.local held x pointer).then
    go pointer = grind (arith, write_opens)
  room_at Field found few h = tt
  room_at (Writing w) found few h = by (write.gives l w found) refl where
    by : (out : Option (Unit {0})) → write.gives l w found ≡ out → GoesTo (RoomThen (held_then l w found)) (after_write x (write.goes l w found) out).then
    by None e = record { sound = (k l).keeps w found few h.sound h.busy; busy = ap is_none e }
    by (Some y) e = tt

pub step_room : (l : Layout) → ((z : Layout) → IsRoutine z (write.listing z)) → (p : Polling) (held : Value) (x : Store) (found : ℕ) → found < 2 ^ 64 → IsNear l.pages held → IsHeld l p.local.held → StoreRoom l p x.stage →
    GoesTo (λ (y : Store). StoreRoom l (with_held p (held_behind l p.local.held x.stage found)) y.stage) (step l p.local held x found).then
step_room l k p held x found few near fits h = grind (arith, room_at)

-- behind the bitmap word, by whether marking is on
abbrev pub then_left : (marking : Bool) → ℕ
then_left true = 8
then_left false = 1

abbrev pub left_at : (marking : Bool) → StoreStage → ℕ
left_at marking Page = then_left marking + 2
left_at marking Bits = then_left marking + 1
left_at marking Field = 1
left_at marking (Writing w) = write_left w.stage
left_at marking NilBase = 1

abbrev pub left : (marking : Bool) → Store → ℕ
left marking x = left_at marking x.stage

-- its write goes on
abbrev pub writes_on : StoreStage → Bool
writes_on (Writing w) = write.is_busy w.stage
writes_on _ = true

-- a step leaves fewer, and leads to a write that goes on
abbrev pub Left : (marking : Bool) → (most : ℕ) → Then Store → Type 0
Left marking most then = GoesTo (λ (y : Store). (writes_on y.stage ≡ true) × (left marking y + 1 ≤ most)) then

page_nears : (marking : Bool) (x : Store) (b : Bool) → Left marking (then_left marking + 2) (cond b (goes_on (at_stage x Bits)) (ends (Answer.Fault Fault.Field))).then
page_nears marking x b = grind arith

module _ (ends_so : WritingEnds) (l : Layout) (own : Local) (held : Value) (x : Store) where
  bits_nears : (p : Bool) → Left (is_mark own.view.phase) (then_left (is_mark own.view.phase) + 1) (by_kind l own held x p).then
  bits_nears p = grind arith

  write_nears : (marking : Bool) (w : PointerWrite) (found : ℕ) → write.is_busy w.stage ≡ true → Left marking (write_left w.stage) (after_write x (write.goes l w found) (write.gives l w found)).then
  write_nears marking w found busy = grind arith

  nears_at : (s : StoreStage) (found : ℕ) → writes_on s ≡ true → (1 ≤ left_at (is_mark own.view.phase) s) × Left (is_mark own.view.phase) (left_at (is_mark own.view.phase) s) (step_at l own held x s found).then
  nears_at NilBase found on = (omega arith, tt)
  nears_at Page found on = (omega arith, page_nears (is_mark own.view.phase) x (has_field x.k found))
  nears_at Bits found on = (omega arith, bits_nears (is_pointer_by l (x.at + x.k) found))
  nears_at Field found on = (omega arith, tt)
  nears_at (Writing w) found on = (ends_so.some w on, write_nears (is_mark own.view.phase) w found on)

pub nears : WritingEnds → (l : Layout) (own : Local) (held : Value) (x : Store) (found : ℕ) → writes_on x.stage ≡ true → (1 ≤ left (is_mark own.view.phase) x) × Left (is_mark own.view.phase) (left (is_mark own.view.phase) x) (step l own held x found).then
nears ends_so l own held x found on = grind (arith, nears_at)

-- ---- a fault has loaded words alone

abbrev pub may_fault_at : StoreStage → Bool
may_fault_at Field = false
may_fault_at (Writing w) = false
may_fault_at _ = true

abbrev pub may_fault : Store → Bool
may_fault x = may_fault_at x.stage

pub faults : (l : Layout) (own : Local) (held : Value) (x : Store) (found : ℕ) → FaultsFrom may_fault x (step l own held x found)
faults l own held x found = record { here = grind arith; keeps = grind arith; before = grind arith }

-- what is held stays until its write
pub holds_still : (l : Layout) (held : Option Held) (s : StoreStage) (found : ℕ) → may_fault_at s ≡ true → held_behind l held s found ≡ held
holds_still l held s found e = grind arith
