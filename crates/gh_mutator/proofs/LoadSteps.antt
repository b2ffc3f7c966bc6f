-- Own steps of a load.
use Rattle.std.proofs.Common.{◌≡◌, ℕ, ◌+◌, ◌*◌, ◌<◌, Bool, true, false, cond, refl, arith}
use Rattle.gh_mutator.proofs.Vocabulary.{Answer, ends, Fault, goes_on, has_field, is_pointer_by, IsNear, IsRegister, Layout, Load, LoadStage, SoundLoad, SoundLoadStage, Value, value_of}
use Rattle.gh_mutator.specs.declared.load.LoadStage.TheVariants.{Page, Bits, Field, Birth, NilBase}
use Rattle.gh_mutator.specs.Fields.{takes}
use Rattle.gh_mutator.specs.Load.{at_stage, naming, step, step_at}
use Rattle.gh_mutator.proofs.ClassFacts.{ClassLaws}
use Rattle.gh_mutator.proofs.Fields.{field_there, value_near}
use Rattle.gh_mutator.proofs.Steps.{FaultsFrom, Nears, StepSound}

-- ---- its numbers stay in their ranges

module _ (l : Layout) (x : Load) (register : IsRegister x.g x.d) (within : x.at < 1024 * l.pages) where
  sound_at : (s : LoadStage) → SoundLoadStage x.k s → SoundLoad l.pages (at_stage x s)
  sound_at s h = record { register = register; within = within; stage = h }

  value_sound : (v : Value) → IsNear l.pages v → StepSound (SoundLoad l.pages) l.pages (takes (naming x) v)
  value_sound v near = grind arith

  step_sound_at : ClassLaws → (s : LoadStage) (found : ℕ) → SoundLoadStage x.k s → StepSound (SoundLoad l.pages) l.pages (step_at l x s found)
  step_sound_at laws NilBase found h = record { next = tt; sets = tt }
  step_sound_at laws Page found h = go (has_field x.k found) refl where
    go : (b : Bool) → has_field x.k found ≡ b → StepSound (SoundLoad l.pages) l.pages (cond b (goes_on (at_stage x Bits)) (ends (Answer.Fault Fault.Field)))
    go true e = record { next = sound_at Bits (field_there laws x.k found e); sets = tt }
    go false e = record { next = tt; sets = tt }
  step_sound_at laws Bits found h = record { next = sound_at (Field (is_pointer_by l (x.at + x.k) found)) h; sets = tt }
  step_sound_at laws (Field pointer) found h = value_sound (value_of l.pages pointer found) (value_near l.pages pointer found (omega (arith, l.limits.pages_fit.0)))
  step_sound_at laws (Birth at) found h = record { next = tt; sets = tt }

pub step_sound : ClassLaws → (l : Layout) (x : Load) (found : ℕ) → SoundLoad l.pages x → StepSound (SoundLoad l.pages) l.pages (step l x found)
step_sound laws l x found h = grind (arith, step_sound_at)

abbrev pub left_at : LoadStage → ℕ
left_at Page = 4
left_at Bits = 3
left_at (Field pointer) = 2
left_at (Birth at) = 1
left_at NilBase = 1

abbrev pub left : Load → ℕ
left x = left_at x.stage

pub nears : (l : Layout) (x : Load) (found : ℕ) → Nears left x (step l x found).then
nears l x found = grind arith

-- ---- a fault has loaded words alone

abbrev pub may_fault_at : LoadStage → Bool
may_fault_at Page = true
may_fault_at NilBase = true
may_fault_at _ = false

abbrev pub may_fault : Load → Bool
may_fault x = may_fault_at x.stage

pub faults : (l : Layout) (x : Load) (found : ℕ) → FaultsFrom may_fault x (step l x found)
faults l x found = grind arith
