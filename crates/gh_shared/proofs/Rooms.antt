-- How many entries more a processor has room for, and what the steps of a statement leave of that.
use Rattle.std.proofs.Common.{◌≡◌, ◌↔◌, ℕ, ◌+◌, ◌≤◌, Bool, true, false, if◌then◌else◌, Option, Some, None, ap, refl, arith}
use Rattle.gh_shared.proofs.Vocabulary.{Layout, Mutating, room_at, Runs, Value}
use Rattle.gh_barrier.specs.Listing as write
use Rattle.gh_barrier.specs.declared.write_pointer.WriteStage.{WriteStage}
use Rattle.gh_base.specs.declared.held.Held.{Held}
use Rattle.gh_base.specs.declared.pack.TheConstants.{ENTRIES}
use Rattle.gh_poll.specs.Barrier.{has_entries, held_behind_write, held_then, with_held}
use Rattle.gh_poll.specs.Local.{marking_at, with_value_if_any}
use Rattle.gh_poll.specs.Poll.{Polling}
use Rattle.gh_poll.specs.Room.{free_in, room_in}
use Rattle.gh_shade.specs.Listing as shade
use Rattle.gh_shade.specs.declared.shade.Shaded.{Shaded}
use Rattle.gh_shade.specs.declared.shade.ShadeStage.{ShadeStage}

-- a processor may begin a store exactly where it has room for two entries
pub room_so : (m : Mutating) → (has_entries m.processor.poll ≡ true) ↔ (2 ≤ room_at (Runs m))
room_so m = grind arith

pub room_few : (p : Polling) → room_in p ≤ ENTRIES
room_few p = grind arith

-- a register that takes a value leaves it
pub room_register : (p : Polling) (g d : ℕ) (v : Option Value) → room_in (with_value_if_any p g d v) ≡ room_in p
room_register p g d None = refl
room_register p g d (Some v) = refl

-- ---- a write behind the barrier

-- how many entries it has made: one for each shading at the most
abbrev pub entered : ShadeStage → ℕ
entered ShadeStage.Ended = 1
entered _ = 0

abbrev pub used_by : WriteStage → ℕ
used_by WriteStage.LoadOld = 0
used_by (WriteStage.ShadeOld sh) = entered sh.stage
used_by (WriteStage.ShadeNew sh) = 1 + entered sh.stage
used_by WriteStage.Store = 2
used_by WriteStage.Ended = 2

-- what is free in the buffer that is held, and what was entered
abbrev Free : write.Writing → ℕ
Free w = free_in (held_behind_write w) + used_by w.stage

raised_free : (held : Option Held) → free_in held ≤ free_in (shade.raised held) + 1
raised_free None = omega arith
raised_free (Some h) = omega arith

shade_frees : (sh : shade.Shading) (stage : ShadeStage) (found : ℕ) → free_in sh.held + entered stage ≤ free_in (shade.goes_at sh stage found).held + entered (shade.goes_at sh stage found).stage
shade_frees sh ShadeStage.Enter found = let up = raised_free sh.held in omega (arith, up)
shade_frees sh stage found = grind arith

entered_few : (stage : ShadeStage) → entered stage ≤ 1
entered_few stage = grind arith

behind_old_frees : (w : write.Writing) → free_in w.held + 1 ≤ Free (write.behind_old w)
behind_old_frees w = go w.pointer where
  go : (pointer : Option ℕ) → free_in w.held + 1 ≤ Free (write.shades_new w pointer)
  go None = omega arith
  go (Some r) = omega arith

old_frees : (w : write.Writing) (old : Option ℕ) → free_in w.held ≤ Free (write.shades_old w old)
old_frees w None = let rest = behind_old_frees w in omega (arith, rest)
old_frees w (Some r) = omega arith

after_old_frees : (w : write.Writing) (sh : shade.Shading) (given : Option Shaded) → free_in sh.held + entered sh.stage ≤ Free (write.after_old w sh given)
after_old_frees w sh None = omega arith
after_old_frees w sh (Some out) = let rest = behind_old_frees (record w { held = sh.held }) in let few = entered_few sh.stage in omega (arith, rest, few)

after_new_frees : (w : write.Writing) (sh : shade.Shading) (given : Option Shaded) → free_in sh.held + (1 + entered sh.stage) ≤ Free (write.after_new w sh given)
after_new_frees w sh None = omega arith
after_new_frees w sh (Some out) = let few = entered_few sh.stage in omega (arith, few)

write_frees : (l : Layout) (w : write.Writing) (stage : WriteStage) (found : ℕ) → free_in (write.held_at w.held stage) + used_by stage ≤ Free (write.goes_at l w stage found)
write_frees l w WriteStage.LoadOld found = let rest = old_frees w (write.read_as l found) in omega (arith, rest)
write_frees l w (WriteStage.ShadeOld sh) found = let one = shade_frees sh sh.stage found in let rest = after_old_frees w (shade.goes sh found) (shade.gives sh found) in omega (arith, one, rest)
write_frees l w (WriteStage.ShadeNew sh) found = let one = shade_frees sh sh.stage found in let rest = after_new_frees w (shade.goes sh found) (shade.gives sh found) in omega (arith, one, rest)
write_frees l w WriteStage.Store found = omega arith
write_frees l w WriteStage.Ended found = omega arith

pub used_few : (stage : WriteStage) → used_by stage ≤ 2
used_few stage = grind (arith, entered_few)

-- so it is with the room of the processor that writes
pub write_uses : (l : Layout) (p : Polling) (w : write.Writing) (found r : ℕ) → r ≤ ENTRIES → p.local.held ≡ held_behind_write w → r ≤ room_in p + used_by w.stage → r ≤ room_in (with_held p (held_then l w found)) + used_by (write.goes l w found).stage
write_uses l p w found r few is le = go (marking_at p) le where
  go : (b : Bool) → r ≤ (if b then free_in p.local.held else ENTRIES) + used_by w.stage → r ≤ (if b then free_in (held_then l w found) else ENTRIES) + used_by (write.goes l w found).stage
  go false h = omega (arith, few)
  go true h = let one = write_frees l w w.stage found in let same : free_in p.local.held ≡ free_in (held_behind_write w) = ap free_in is in omega (arith, one, same, h)
