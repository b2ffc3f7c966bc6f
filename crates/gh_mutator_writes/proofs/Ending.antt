-- Each operation that neither makes an object nor polls nor leaves ends after a few steps: each step leaves fewer.
use Rattle.std.proofs.Common.{◌≡◌, ℕ, zero, suc, ◌+◌, ◌≤◌, Bool, true, false, not, List, refl, sym, ap, subst, ◌∙◌, arith}
use Rattle.gh_mutator_writes.proofs.Vocabulary.{begins, begins_at, begun_with, EndsWithin, follows, Global, goes, GoesTo, is_busy_at, Layout, listing, Load, marking_at, Mutating, Op, Processor, register_of, Shape, Store, takes_at, Task, Then, told_first}
use Rattle.gh_barrier.specs.Ending.{WritingEnds}
use Rattle.gh_mutator.specs.Ending.{may_wait, most_steps, OperationsEnd}
use Rattle.gh_mutator.proofs.GlobalSteps as global
use Rattle.gh_mutator.proofs.LoadSteps as load
use Rattle.gh_mutator.proofs.StoreSteps as store

-- how many steps are left at most, where no object is made, by whether marking is on
abbrev left : (marking : Bool) → Task → ℕ
left marking Task.Idle = 0
left marking Task.Left = 0
left marking (Task.Load x) = load.left x
left marking (Task.Store x) = store.left marking x
left marking (Task.Global x) = global.left x
left marking (Task.Register x) = 1
left marking (Task.End g) = 1
left marking _ = 0

-- it may take many
abbrev is_long : Task → Bool
is_long (Task.New x) = true
is_long (Task.Gc g x) = true
is_long Task.Poll = true
is_long (Task.Leave x) = true
is_long (Task.Store x) = not (store.writes_on x.stage)
is_long (Task.Global x) = not (global.writes_on x.stage)
is_long _ = false

-- a step leaves fewer, and not many
record Fewer (marking : Bool) (t next : Task) : Type 0 where
  plain : is_long next ≡ false
  fewer : left marking next + 1 ≤ left marking t

-- where the statement goes on, so
abbrev Plain : (marking : Bool) {S : Type 0} (into : S → Task) → (most : ℕ) → Then S → Type 0
Plain marking into most then = GoesTo (λ y. (is_long (into y) ≡ false) × (left marking (into y) + 1 ≤ most)) then

from_step : (marking : Bool) {S : Type 0} (into : S → Task) (t : Task) (then : Then S) → 1 ≤ left marking t → Plain marking into (left marking t) then → Fewer marking t (follows into then)
from_step marking into t then some h = grind arith

load_plain : (marking : Bool) (most : ℕ) (then : Then Load) → GoesTo (λ (y : Load). load.left y + 1 ≤ most) then → Plain marking Task.Load most then
load_plain marking most then h = grind arith

store_plain : (marking : Bool) (most : ℕ) (then : Then Store) → store.Left marking most then → Plain marking Task.Store most then
store_plain marking most then h = grind arith

global_plain : (marking : Bool) (most : ℕ) (then : Then Global) → global.Left most then → Plain marking Task.Global most then
global_plain marking most then h = grind arith

on : (b : Bool) → not b ≡ false → b ≡ true
on b e = grind arith

module _ (l : Layout) (ends_so : WritingEnds) (shapes : List Shape) where
  abbrev marks : Processor → Bool
  marks m = marking_at m.poll

  fewer_at : (m : Processor) (t : Task) (found : ℕ) → is_long t ≡ false → is_busy_at t ≡ true → Fewer (marks m) t (takes_at l shapes m t found).task
  fewer_at m (Task.Load x) found plain busy = let h = load.nears l x found in from_step (marks m) Task.Load (Task.Load x) _ h.0 (load_plain (marks m) _ _ h.1)
  fewer_at m (Task.Store x) found plain busy = let h = store.nears ends_so l m.poll.local (register_of m x.g x.v) x found (on _ plain) in from_step (marks m) Task.Store (Task.Store x) _ h.0 (store_plain (marks m) _ _ h.1)
  fewer_at m (Task.Global x) found plain busy = let h = global.nears ends_so l (register_of m x.g x.r) x found (on _ plain) in from_step (marks m) Task.Global (Task.Global x) _ h.0 (global_plain (marks m) _ _ h.1)
  fewer_at m (Task.Register x) found plain busy = record { plain = refl; fewer = omega arith }
  fewer_at m (Task.End g) found plain busy = record { plain = refl; fewer = omega arith }
  fewer_at m _ found plain busy = absurd (cc)

  marks_stay : (m : Processor) (t : Task) (found : ℕ) → is_long t ≡ false → is_busy_at t ≡ true → marks (takes_at l shapes m t found) ≡ marks m
  marks_stay m t found plain busy = grind arith

-- one step more
later : (l : Layout) (most : ℕ) (m : Mutating) (found : ℕ → ℕ) → EndsWithin (listing l) most (goes l m (found 0)) (λ i. found (suc i)) → EndsWithin (listing l) (suc most) m found
later l most m found h =
    let few = h.few in
    record { steps = suc h.steps; few = omega arith; ended = ap (λ (x : Mutating). is_busy_at x.processor.task) (told_first (listing l) m found h.steps) ∙ h.ended }

module _ (l : Layout) (ends_so : WritingEnds) where
  ends_within : (most : ℕ) (m : Mutating) (found : ℕ → ℕ) → is_long m.processor.task ≡ false → left (marking_at m.processor.poll) m.processor.task ≤ most → EndsWithin (listing l) most m found
  ends_within zero m found plain few = by (is_busy_at m.processor.task) refl where
    by : (b : Bool) → is_busy_at m.processor.task ≡ b → EndsWithin (listing l) zero m found
    by false idle = record { steps = 0; few = omega arith; ended = idle }
    by true busy = let fewer = (fewer_at l ends_so m.shapes m.processor m.processor.task (found 0) plain busy).fewer in absurd (omega arith)
  ends_within (suc most) m found plain few = by (is_busy_at m.processor.task) refl (ends_within most (goes l m (found 0)) (λ i. found (suc i))) where
    by : (b : Bool) → is_busy_at m.processor.task ≡ b → (is_long (goes l m (found 0)).processor.task ≡ false → left (marking_at (goes l m (found 0)).processor.poll) (goes l m (found 0)).processor.task ≤ most → EndsWithin (listing l) most (goes l m (found 0)) (λ i. found (suc i))) → EndsWithin (listing l) (suc most) m found
    by false idle next = record { steps = 0; few = omega arith; ended = idle }
    by true busy next =
        let h = fewer_at l ends_so m.shapes m.processor m.processor.task (found 0) plain busy in
        let same = marks_stay l ends_so m.shapes m.processor m.processor.task (found 0) plain busy in
        let fewer = h.fewer in
        later l most m found (next h.plain (subst (λ (b : Bool). left b (goes l m (found 0)).processor.task ≤ most) (sym same) (omega arith)))

begins_few : (shapes : List Shape) (m : Processor) (o : Op) → may_wait o ≡ false → (is_long (begins_at shapes m o) ≡ false) × (left (marking_at m.poll) (begins_at shapes m o) ≤ most_steps (marking_at m.poll) o)
begins_few shapes m o h = grind arith

-- what does not wait begins with the phase that is known
same_phase : (m : Processor) (o : Op) → may_wait o ≡ false → marking_at (begun_with m.poll o) ≡ marking_at m.poll
same_phase m o h = grind arith

pub operations_end : WritingEnds → OperationsEnd
operations_end ends_so l m o found h =
    let few = begins_few m.shapes m.processor o h in
    ends_within l ends_so (most_steps (marking_at m.processor.poll) o) (begins m o) found few.0 (subst (λ (b : Bool). left b (begins_at m.shapes m.processor o) ≤ most_steps (marking_at m.processor.poll) o) (sym (same_phase m.processor o h)) few.1)
