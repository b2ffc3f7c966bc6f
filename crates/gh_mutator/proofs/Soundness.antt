-- Each step, and each beginning, keeps what the processor knows of its own state, whatever was found.
use Rattle.std.proofs.Common.{◌≡◌, ℕ, zero, suc, ◌^◌, ◌<◌, ◌≤◌, ◌⊎◌, inl, inr, Bool, IsTrue, true, false, length, List, [], get_or, replicate, refl, sym, subst, Option, None, arith}
use Rattle.gh_mutator.proofs.Vocabulary.{after_gc, after_leave, after_poll, at_poll, at_task, Global, GlobalRoom, Held, is_making, IsNear, IsRegister, IsRoutine, keeping, Layout, Leaving, made_by, most_objects, opening_processor, poll_stacks, Polling, Processor, read_of, read_replicate, register_in_stacks, register_of, searches, seeking, Shape, ShapesFit, Sound, SoundGlobal, SoundLoad, SoundPolling, SoundRegister, SoundStore, SoundTask, SoundWaiting, Store, StoreRoom, StoreStage, takes, takes_at, Task, Value, value_of_source, wait_fits, wait_stacks, Waiting, wanted_of, with_ended, with_held, with_register_value}
use Rattle.gh_mutator.specs.declared.register.Register.{Register}
use Rattle.gh_mutator.specs.Global as global_listing
use Rattle.gh_poll.specs.Leave as leave
use Rattle.gh_mutator.specs.Load as load_listing
use Rattle.gh_poll.specs.Poll as poll
use Rattle.gh_mutator.specs.Register.{step}
use Rattle.gh_mutator.specs.Store as store_listing
use Rattle.gh_poll.specs.declared.wait.Wait.{Wait}
use Rattle.gh_poll.specs.Wait as wait
use Rattle.gh_barrier.specs.Listing as write
use Rattle.gh_poll.specs.LeaveSound.{SoundLeaving}
use Rattle.gh_mutator.proofs.Changes.{applied_sound, moved, polled, SameBuffer}
use Rattle.gh_mutator.proofs.ClassFacts.{ClassLaws, wanted_sound}
use Rattle.gh_mutator.proofs.NewSteps.{search_sound}
use Rattle.gh_mutator.proofs.GlobalSteps as global
use Rattle.gh_mutator.proofs.LoadSteps as load
use Rattle.gh_mutator.proofs.Steps.{goes_both, StepSound}
use Rattle.gh_mutator.proofs.StoreSteps as store

-- each register is nil at first
rows_of : (n i : ℕ) → (get_or (replicate n (replicate 16 Value.Nil)) i [] ≡ replicate 16 Value.Nil) ⊎ (get_or (replicate n (replicate 16 Value.Nil)) i [] ≡ [])
rows_of zero i = inr refl
rows_of (suc n) zero = inl refl
rows_of (suc n) (suc i) = rows_of n i

nil_first : (pages g d : ℕ) → IsNear pages (register_in_stacks (replicate 32 (replicate 16 Value.Nil)) g d)
nil_first pages g d = by (get_or (replicate 32 (replicate 16 Value.Nil)) g []) (rows_of 32 g) where
  by : (row : List Value) → (row ≡ replicate 16 Value.Nil) ⊎ (row ≡ []) → IsNear pages (get_or row d Value.Nil)
  by row (inl e) = rw e (subst (IsNear pages) (sym (read_replicate 16 d Value.Nil)) tt)
  by row (inr e) = rw e tt

register_sound : (pages : ℕ) (held : Value) (x : Register) → IsNear pages held → StepSound SoundRegister pages (step held x)
register_sound pages held x near = grind arith

-- once a routine has ended or not
gc_sound : (l : Layout) (shapes : List Shape) (m : Processor) (g : ℕ) (x : Waiting) (out : Option (Unit {0})) → Sound l shapes m → x.poll.local.stacks ≡ m.poll.local.stacks → (out ≡ None → SoundWaiting x.poll x.wait) → Sound l shapes (after_gc m g x out)
gc_sound l shapes m g x out s stacks fits = grind arith

poll_sound : (l : Layout) (shapes : List Shape) (m : Processor) (p : Polling) (out : Option (Unit {0})) → Sound l shapes m → p.local.stacks ≡ m.poll.local.stacks → poll.given p.stage ≡ out → Sound l shapes (after_poll m p out)
poll_sound l shapes m p out s stacks e = grind arith

leave_sound : (l : Layout) (shapes : List Shape) (m : Processor) (x : Leaving) (out : Option (Unit {0})) → Sound l shapes m → SoundLeaving l x → leave.given x.stage ≡ out → Sound l shapes (after_leave m x out)
leave_sound l shapes m x out s h e = grind arith

-- the laws of what it runs where no object is looked for or made
pub record PlainLaws : Type 0 where
  pub classes : ClassLaws
  pub writes : (z : Layout) → IsRoutine z (write.listing z)
  pub leaves : (z : Layout) → IsRoutine z (leave.listing z)

module _ (l : Layout) (shapes : List Shape) where
  -- with another buffer
  kept : (m : Processor) (held : Option Held) → Sound l shapes m → Sound l shapes (at_task (keeping m held) Task.Idle)
  kept m held s = record { registers = s.registers; few = s.few; task = tt }

  same_store : (p q : Polling) (s : StoreStage) → SameBuffer p q → StoreRoom l q s → StoreRoom l p s
  same_store p q s same h = grind arith

  store_at : PlainLaws → (m : Processor) (x : Store) (found : ℕ) → found < 2 ^ 64 → SoundPolling l m.poll → Sound l shapes m → SoundStore l.pages x → StoreRoom l m.poll x.stage → Sound l shapes (takes_at l shapes m (Task.Store x) found)
  store_at laws m x found few fits s h room =
      let held = store_listing.held_behind l m.poll.local.held x.stage found in
      let step = store_listing.step l m.poll.local (register_of m x.g x.v) x found in
      let sound = store.step_sound laws.classes l m.poll.local (register_of m x.g x.v) x found h in
      let Own : Store → Type 0 = λ y. SoundStore l.pages y in
      let Room : Store → Type 0 = λ y. StoreRoom l (with_held m.poll held) y.stage in
      applied_sound l shapes (λ y. Own y × Room y) Task.Store (at_task (keeping m held) Task.Idle) x.g x.v step (kept m held s)
      (record { next = goes_both Own Room step.then sound.next (store.step_room l laws.writes m.poll (register_of m x.g x.v) x found few (s.registers x.g x.v) fits.local.held room); sets = sound.sets })
      (λ y p b f. (f.0, same_store p (with_held m.poll held) y.stage b f.1))

  global_at : PlainLaws → (m : Processor) (x : Global) (found : ℕ) → found < 2 ^ 64 → Sound l shapes m → SoundGlobal l.globals x → GlobalRoom l x.stage → Sound l shapes (takes_at l shapes m (Task.Global x) found)
  global_at laws m x found few s h room =
      let held = global_listing.held_behind l m.poll.local.held x.stage found in
      let step = global_listing.step l (register_of m x.g x.r) x found in
      let sound = global.step_sound l (register_of m x.g x.r) x found h in
      let Own : Global → Type 0 = λ y. SoundGlobal l.globals y in
      let Room : Global → Type 0 = λ y. GlobalRoom l y.stage in
      applied_sound l shapes (λ y. Own y × Room y) Task.Global (at_task (keeping m held) Task.Idle) x.g x.r step (kept m held s)
      (record { next = goes_both Own Room step.then sound.next (global.step_room l laws.writes m.poll (register_of m x.g x.r) x found few room); sets = sound.sets })
      (λ y p b f. f)

  -- where no object is looked for or made
  plain_at : PlainLaws → (m : Processor) (t : Task) (found : ℕ) → found < 2 ^ 64 → SoundPolling l m.poll → is_making t ≡ false → Sound l shapes m → SoundTask l shapes m.poll m.made t → Sound l shapes (takes_at l shapes m t found)
  plain_at laws m Task.Idle found few fits q s h = s
  plain_at laws m Task.Left found few fits q s h = s
  plain_at laws m (Task.Load x) found few fits q s h = applied_sound l shapes (SoundLoad l.pages) Task.Load m x.g x.d (load_listing.step l x found) s (load.step_sound laws.classes l x found h) (λ y p b f. f)
  plain_at laws m (Task.Store x) found few fits q s h = store_at laws m x found few fits s h.0 h.1
  plain_at laws m (Task.Global x) found few fits q s h = global_at laws m x found few s h.0 h.1
  plain_at laws m (Task.Register x) found few fits q s h = applied_sound l shapes SoundRegister Task.Register m x.g x.d (step (register_of m x.g (read_of x)) x) s (register_sound l.pages (register_of m x.g (read_of x)) x (s.registers _ _)) (λ y p b f. f)
  plain_at laws m (Task.New x) found few fits q s h = absurd (cc)
  plain_at laws m (Task.Gc g x) found few fits q s h = gc_sound l shapes m g (wait.goes l (wait.waiting x m.poll) found) (wait.gives l (wait.waiting x m.poll) found) s (wait_stacks l (wait.waiting x m.poll) found) (wait_fits l (wait.waiting x m.poll) found)
  plain_at laws m Task.Poll found few fits q s h = poll_sound l shapes m (poll.goes l m.poll found) (poll.gives l m.poll found) s (poll_stacks l m.poll found) refl
  plain_at laws m (Task.End g) found few fits q s h = polled l shapes m (with_ended m.poll g) Task.Idle s refl tt
  plain_at laws m (Task.Leave x) found few fits q s h = leave_sound l shapes m (leave.goes x found) (leave.gives x found) s ((laws.leaves l).keeps x found few h.sound h.busy) refl

  -- a wait of a `gc` has gone on, or stays
  pub waited : (m : Processor) (g : ℕ) (w v : Wait) (p : Polling) (found : ℕ) (went : Bool) → Sound l shapes m → m.task ≡ Task.Gc g w → (IsTrue went → v ≡ (wait.goes l (wait.waiting w m.poll) found).wait) → (IsTrue went → p ≡ (wait.goes l (wait.waiting w m.poll) found).poll) → (IsTrue went → wait.gives l (wait.waiting w m.poll) found ≡ None) → (went ≡ false → (v ≡ w) × (p ≡ m.poll)) → Sound l shapes (at_task (at_poll m p) (Task.Gc g v))
  waited m g w v p found true s is goes polls gives stays =
      let x = wait.waiting w m.poll in
      rw (goes refl) (rw (polls refl) (gc_sound l shapes m g (wait.goes l x found) None s (wait_stacks l x found) (λ e. wait_fits l x found (gives refl))))
  waited m g w v p found false s is goes polls gives stays = rw (stays refl).0 (rw (stays refl).1 (subst (λ (t : Task). Sound l shapes (at_task m t)) is s))

  -- what is begun
  pub begins_new : ClassLaws → (m : Processor) (g d t : ℕ) → ShapesFit shapes → IsRegister g d → t < length shapes → made_by m g < most_objects → SoundPolling l m.poll → Sound l shapes m → Sound l shapes (at_task m (searches (wanted_of shapes g d t) false (seeking m (wanted_of shapes g d t))))
  begins_new laws m g d t fit register there few fits s =
      let wanted = wanted_sound laws shapes g d t fit there register in
      moved l shapes m (searches (wanted_of shapes g d t) false (seeking m (wanted_of shapes g d t))) s (wanted, search_sound l laws shapes m (wanted_of shapes g d t) fits wanted, few)

  pub begins_global : (m : Processor) (g k v : ℕ) → IsRegister g v → k < l.globals → SoundPolling l m.poll → Sound l shapes m → Sound l shapes (at_task m (Task.Global (global_listing.begins_store m.poll.local g k v (register_of m g v))))
  begins_global m g k v register there fits s =
      moved l shapes m (Task.Global (global_listing.begins_store m.poll.local g k v (register_of m g v))) s
      (global.begins_sound m.poll.local l.globals g k v (register_of m g v) register there, global.begins_room l m.poll g k v (register_of m g v) there (s.registers g v) fits.local.held)

  -- once a statement on registers is made
  set_at : (m : Processor) (x : Register) → Sound l shapes m → Sound l shapes (takes_at l shapes m (Task.Register x) 0)
  set_at m x s = applied_sound l shapes SoundRegister Task.Register m x.g x.d (step (register_of m x.g (read_of x)) x) s (register_sound l.pages (register_of m x.g (read_of x)) x (s.registers _ _)) (λ y p b f. f)

  pub set_sound : (m : Processor) (p : Polling) (x : Register) → Sound l shapes m → m.task ≡ Task.Idle → p ≡ with_register_value m.poll x.g x.d (value_of_source (register_of m x.g (read_of x)) x.source) → Sound l shapes (at_poll m p)
  set_sound m p x s idle is = rw is (subst (λ (t : Task). Sound l shapes (record { poll = with_register_value m.poll x.g x.d (value_of_source (register_of m x.g (read_of x)) x.source); made = m.made; task = t })) (sym idle) (set_at m x s))

  plain_sound : PlainLaws → (m : Processor) (found : ℕ) → found < 2 ^ 64 → SoundPolling l m.poll → is_making m.task ≡ false → Sound l shapes m → Sound l shapes (takes l shapes m found)
  plain_sound laws m found few fits plain s = grind (arith, plain_at)

  -- so what the code goes to
  pub plain_next : PlainLaws → (m : Processor) (found : ℕ) (next : Processor) → found < 2 ^ 64 → SoundPolling l m.poll → is_making m.task ≡ false → Sound l shapes m → next ≡ takes l shapes m found → Sound l shapes next
  plain_next laws m found next few fits plain s goes = subst (λ (n : Processor). Sound l shapes n) (sym goes) (plain_sound laws m found few fits plain s)

  pub opening_sound : (seat : ℕ) → Sound l shapes (opening_processor seat)
  opening_sound seat = record {
    registers = nil_first l.pages;
    few = λ g. subst (λ n. n ≤ most_objects) (sym (read_replicate 32 g 0)) (omega arith);
    task = tt;
  }
