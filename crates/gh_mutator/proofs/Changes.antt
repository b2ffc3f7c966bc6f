-- Changes of the processor's state keep what it knows of it.
use Rattle.std.proofs.Common.{◌≡◌, ℕ, List, [], get_or, refl, Option, Some, None}
use Rattle.gh_mutator.proofs.Vocabulary.{applied, at_poll, at_task, Ends, follows, GoesOn, Idle, IsNear, Layout, Polling, Processor, read_after_set, register_in_stacks, set, Shape, Sound, SoundTask, stacks_with, Step, taking, Task, Then, Value}
use Rattle.gh_mutator.proofs.Steps.{GoesTo, SetsNear, StepSound}

-- what holds of a value that a register takes, and of what all registers held before
pub registers_after : (P : Value → Type 0) (stacks : List (List Value)) (g d i j : ℕ) (v : Value) → P v → P Value.Nil → P (register_in_stacks stacks i j) → ((e : ℕ) → P (register_in_stacks stacks g e)) → P (register_in_stacks (stacks_with stacks g d v) i j)
registers_after P stacks g d i j v new nil old own =
    read_after_set (λ (stack : List Value). P (get_or stack j Value.Nil)) stacks g i (set (get_or stacks g []) d v) [] (λ e. read_after_set P (get_or stacks g []) d j v Value.Nil (λ f. new) (own j)) old

-- it knows the same of the phase, and holds the same buffer
pub record SameBuffer (p q : Polling) : Type 0 where
  pub view : p.local.view ≡ q.local.view
  pub held : p.local.held ≡ q.local.held

module _ (l : Layout) (shapes : List Shape) where
  -- it is at another task
  pub moved : (m : Processor) (t : Task) → Sound l shapes m → SoundTask l shapes m.poll m.made t → Sound l shapes (at_task m t)
  moved m t s h = record { registers = s.registers; few = s.few; task = h }

  -- its poll has changed, and its registers stay
  pub polled : (m : Processor) (p : Polling) (t : Task) → Sound l shapes m → p.local.stacks ≡ m.poll.local.stacks → SoundTask l shapes p m.made t → Sound l shapes (at_task (at_poll m p) t)
  polled m p t s stacks h = record { registers = λ g d. rw stacks (s.registers g d); few = s.few; task = h }

  -- a register took a value, if there was one
  pub taken : (m : Processor) (g d : ℕ) (v : Option Value) (t : Task) → Sound l shapes m → SetsNear l.pages v → SoundTask l shapes (taking m g d v).poll m.made t → Sound l shapes (at_task (taking m g d v) t)
  taken m g d None t s near h = moved m t s h
  taken m g d (Some v) t s near h = record { registers = λ i j. registers_after (IsNear l.pages) m.poll.local.stacks g d i j v near tt (s.registers i j) (s.registers g); few = s.few; task = h }

  -- a statement's step was made
  pub applied_sound : {S : Type 0} (P : S → Type 0) (goes : S → Task) (m : Processor) (g d : ℕ) (step : Step S) → Sound l shapes m → StepSound P l.pages step → ((x : S) (p : Polling) → SameBuffer p m.poll → P x → SoundTask l shapes p m.made (goes x)) → Sound l shapes (applied goes m g d step)
  applied_sound {S} P goes m g d step s h sound = by step.then h.next where
    buffer : (v : Option Value) → SameBuffer (taking m g d v).poll m.poll
    buffer None = record { view = refl; held = refl }
    buffer (Some v) = record { view = refl; held = refl }

    by : (t : Then S) → GoesTo P t → Sound l shapes (at_task (taking m g d step.sets) (follows goes t))
    by (Ends a) p = taken m g d step.sets Idle s h.sets tt
    by (GoesOn x) p = taken m g d step.sets (goes x) s h.sets (sound x (taking m g d step.sets).poll (buffer step.sets) p)
