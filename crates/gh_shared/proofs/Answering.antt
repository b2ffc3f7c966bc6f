-- What an operation is answered, and what room it leaves, by what holds of its processor from its begin to its end.
use Rattle.std.proofs.Common.{◌≡◌, ℕ, ◌+◌, ◌≤◌, Bool, true, false, if◌then◌else◌, ◌&&◌, List, [], ◌∷◌, refl, sym, ap, ◌∙◌, subst, Option, Some, None, arith}
use Rattle.gh_shared.proofs.Vocabulary.{Answer, at_task, begins, Fault, Gave, gives, goes, Handle, has_field, HeapActor, is_pointer_by, IsProcessor, Layout, layout_of, Leads, Load, machine_after, machine_of, Marks, Mutating, Op, Operated, Processor, register_of, room_at, Runs, Shape, takes, Task, Value, value_of}
use Rattle.gh_barrier.specs.Listing as write
use Rattle.gh_base.specs.declared.pack.TheConstants.{ENTRIES}
use Rattle.gh_mutator.specs.Global as global
use Rattle.gh_mutator.specs.Listing as listing
use Rattle.gh_mutator.specs.Load as load
use Rattle.gh_mutator.specs.Mutating as mutating
use Rattle.gh_mutator.specs.New as new
use Rattle.gh_mutator.specs.Processor.{at_poll, keeping}
use Rattle.gh_mutator.specs.Step.{ends, goes_on}
use Rattle.gh_mutator.specs.Fields.{kinds_differ}
use Rattle.gh_mutator.specs.Store as store
use Rattle.gh_mutator.specs.Vocabulary.{Assisting, Found, is_mark, Name, Placing, PointerCell, PointerWrite, Seeking}
use Rattle.gh_mutator.specs.declared.global.Global.{Global}
use Rattle.gh_mutator.specs.declared.global.GlobalStage.{GlobalStage}
use Rattle.gh_mutator.specs.declared.new.NewStage.{NewStage}
use Rattle.gh_mutator.specs.declared.new.Wanted.{Wanted}
use Rattle.gh_mutator.specs.declared.step.Step.{Step}
use Rattle.gh_mutator.specs.declared.step.Then.{Then}
use Rattle.gh_mutator.specs.declared.store.Store.{Store}
use Rattle.gh_mutator.specs.declared.store.StoreStage.{StoreStage}
use Rattle.gh_poll.specs.Barrier.{held_behind_write, held_then, with_held, written}
use Rattle.gh_poll.specs.Local.{marking_at}
use Rattle.gh_poll.specs.Poll.{Polling}
use Rattle.gh_poll.specs.Room.{room_in}
use Rattle.gh_poll.specs.Wait as wait
use Rattle.gh_poll.specs.Wait.{Waiting}
use Rattle.gh_shared.specs.Answers.{IsDoneOrFault, IsDoneOrKind, IsNameOrFull, IsNilOrName, IsValueOrNoField}
use Rattle.gh_shared.specs.Handles.{room_of}
use Rattle.gh_shared.specs.declared.heap.Heap.{Heap}
use Rattle.gh_shared.proofs.Faults.{answered_is}
use Rattle.gh_shared.proofs.Keeping.{runs_after}
use Rattle.gh_shared.proofs.Rooms.{room_few, room_register, used_by, used_few, write_uses}

-- ---- of any operation

-- what it leaves of the room that there was, and what it is answered
abbrev pub Served : (leaves : (before after : ℕ) → Type 0) → (answers : Answer → Type 0) → (h h' : Handle) → Answer → Type 0
Served leaves answers h h' given = leaves (room_of h) (room_of h') × answers given

-- P holds of its processor behind each of its steps, where r was the room
module _ (o : Op) (leaves : ℕ → ℕ → Type 0) (answers : Answer → Type 0) (P : ℕ → Processor → Type 0)
    (first : (shapes : List Shape) (m : Processor) → P (room_in m.poll) (listing.begins shapes m o))
    (next : (l : Layout) (shapes : List Shape) (r : ℕ) (m : Processor) (found : ℕ) → P r m → P r (listing.takes l shapes m found))
    (room : (r : ℕ) (m : Processor) → P r m → leaves r (room_in m.poll))
    (told : (l : Layout) (r : ℕ) (m : Processor) (found : ℕ) (a : Answer) → P r m → listing.gives l m found ≡ Some a → answers a) where
  holds_after : (l : Layout) (r : ℕ) (m : Mutating) (founds : List ℕ) → P r m.processor → P r (machine_after (mutating.goes l) m founds).processor
  holds_after l r m [] p = p
  holds_after l r m (n ∷ ns) p = let before = machine_after (mutating.goes l) m ns in next l before.shapes r before.processor n (holds_after l r m ns p)

  by_steps : (l : Layout) (x x' : HeapActor) (founds : List ℕ) (given : Answer) → IsProcessor x → x' ≡ machine_after (goes l) (begins x o) founds → Gave (goes l) (gives l) (begins x o) founds (Some given) → leaves (room_at x) (room_at x') × answers given
  by_steps l (Marks w) x' founds given is after gave = absurd is
  by_steps l (Leads c) x' founds given is after gave = absurd is
  by_steps l (Runs m) x' [] given is after gave = absurd gave
  by_steps l (Runs m) x' (n ∷ ns) given is after gave =
      let b = mutating.begins m o in
      let r = room_in m.processor.poll in
      let begun : P r b.processor = first m.shapes m.processor in
      let end : x' ≡ Runs (machine_after (mutating.goes l) b (n ∷ ns)) = after ∙ runs_after l b (n ∷ ns) in
      let by_last : mutating.gives l (machine_after (mutating.goes l) b ns) n ≡ Some given = answered_is (mutating.gives l (machine_after (mutating.goes l) b ns) n) given (subst (λ (y : HeapActor). gives l y n ≡ Some (Some given)) (runs_after l b ns) gave) in (
        subst (λ (y : HeapActor). leaves r (room_at y)) (sym end) (room r (machine_after (mutating.goes l) b (n ∷ ns)).processor (holds_after l r b (n ∷ ns) begun)),
        told l r (machine_after (mutating.goes l) b ns).processor n given (holds_after l r b ns begun) by_last,
      )

  served : (heap : Heap) (h h' : Handle) (given : Answer) (founds : List ℕ) → IsProcessor (machine_of h) → Operated heap o h h' given founds → Served leaves answers h h' given
  served heap h h' given founds is did = by_steps (layout_of h) (machine_of h) (machine_of h') founds given is did.ran.machine did.gave

-- as much room as before
abbrev pub Stays : ℕ → ℕ → Type 0
Stays before after = after ≡ before

-- at most two entries less
abbrev pub AtMostTwoLess : ℕ → ℕ → Type 0
AtMostTwoLess before after = before ≤ after + 2

-- it may be other
abbrev Any : ℕ → ℕ → Type 0
Any before after = Unit {0}

-- ---- statements that leave the room as it is

-- the processor is at such a task, with this room
module _ (At : Task → Type 0) where
  abbrev Rests : ℕ → Processor → Type 0
  Rests r m = At m.task × (room_in m.poll ≡ r)

abbrev AtLoad : Task → Type 0
AtLoad (Task.Load x) = Unit {0}
AtLoad Task.Idle = Unit {0}
AtLoad _ = ⊥

load_follows : (t : Then Load) → AtLoad (listing.follows Task.Load t)
load_follows t = grind arith

load_next : (l : Layout) (shapes : List Shape) (r : ℕ) (m : Processor) (found : ℕ) → Rests AtLoad r m → Rests AtLoad r (listing.takes l shapes m found)
load_next l shapes r m found p = go m.task refl p.0 where
  go : (t : Task) → m.task ≡ t → AtLoad t → Rests AtLoad r (listing.takes_at l shapes m t found)
  go (Task.Load x) e at = (load_follows (load.step l x found).then, room_register m.poll x.g x.d (load.step l x found).sets ∙ p.1)
  go Task.Idle e at = p
  go _ e at = absurd at

load_told : (l : Layout) (r : ℕ) (m : Processor) (found : ℕ) (a : Answer) → Rests AtLoad r m → listing.gives l m found ≡ Some a → IsValueOrNoField a
load_told l r m found a p e = grind arith

pub load_served : (heap : Heap) (g d b k : ℕ) (h h' : Handle) (given : Answer) (founds : List ℕ) → IsProcessor (machine_of h) → Operated heap (Op.Load g d b k) h h' given founds → Served Stays IsValueOrNoField h h' given
load_served heap g d b k = served (Op.Load g d b k) Stays IsValueOrNoField (Rests AtLoad) (λ shapes m. (tt, refl)) load_next (λ r m p. p.1) load_told heap

abbrev IsLoading : GlobalStage → Type 0
IsLoading GlobalStage.Load = Unit {0}
IsLoading (GlobalStage.Birth at) = Unit {0}
IsLoading _ = ⊥

abbrev AtGlobalLoad : Task → Type 0
AtGlobalLoad (Task.Global x) = IsLoading x.stage
AtGlobalLoad Task.Idle = Unit {0}
AtGlobalLoad _ = ⊥

global_load_next : (l : Layout) (shapes : List Shape) (r : ℕ) (m : Processor) (found : ℕ) → Rests AtGlobalLoad r m → Rests AtGlobalLoad r (listing.takes l shapes m found)
global_load_next l shapes r m found p = go m.task refl p.0 where
  at_stage : (x : Global) (stage : GlobalStage) → IsLoading stage → Rests AtGlobalLoad r (listing.applied Task.Global (keeping m (global.held_behind l m.poll.local.held stage found)) x.g x.r (global.step_at l (register_of m x.g x.r) x stage found))
  at_stage x GlobalStage.Load is = value (value_of l.pages true found) where
    value : (v : Value) → Rests AtGlobalLoad r (listing.applied Task.Global (keeping m m.poll.local.held) x.g x.r (takes (global.naming x) v))
    value Value.Nil = (tt, p.1)
    value (Value.Int n) = (tt, p.1)
    value (Value.Ref n) = (tt, p.1)
  at_stage x (GlobalStage.Birth at) is = (tt, p.1)
  at_stage x _ is = absurd is

  go : (t : Task) → m.task ≡ t → AtGlobalLoad t → Rests AtGlobalLoad r (listing.takes_at l shapes m t found)
  go (Task.Global x) e at = at_stage x x.stage at
  go Task.Idle e at = p
  go _ e at = absurd at

global_load_told : (l : Layout) (r : ℕ) (m : Processor) (found : ℕ) (a : Answer) → Rests AtGlobalLoad r m → listing.gives l m found ≡ Some a → IsNilOrName a
global_load_told l r m found a p e = grind arith

pub global_load_served : (heap : Heap) (g d k : ℕ) (h h' : Handle) (given : Answer) (founds : List ℕ) → IsProcessor (machine_of h) → Operated heap (Op.GetGlobal g d k) h h' given founds → Served Stays IsNilOrName h h' given
global_load_served heap g d k = served (Op.GetGlobal g d k) Stays IsNilOrName (Rests AtGlobalLoad) (λ shapes m. (tt, refl)) global_load_next (λ r m p. p.1) global_load_told heap

-- a statement on registers alone, and the end of a goroutine
abbrev AtOneStep : Task → Type 0
AtOneStep (Task.Register x) = Unit {0}
AtOneStep (Task.End g) = Unit {0}
AtOneStep Task.Idle = Unit {0}
AtOneStep _ = ⊥

abbrev IsDone : Answer → Type 0
IsDone a = a ≡ Answer.Done

one_step_next : (l : Layout) (shapes : List Shape) (r : ℕ) (m : Processor) (found : ℕ) → Rests AtOneStep r m → Rests AtOneStep r (listing.takes l shapes m found)
one_step_next l shapes r m found p = go m.task refl p.0 where
  go : (t : Task) → m.task ≡ t → AtOneStep t → Rests AtOneStep r (listing.takes_at l shapes m t found)
  go (Task.Register x) e at = (tt, p.1)
  go (Task.End g) e at = (tt, p.1)
  go Task.Idle e at = p
  go _ e at = absurd at

one_step_told : (l : Layout) (r : ℕ) (m : Processor) (found : ℕ) (a : Answer) → Rests AtOneStep r m → listing.gives l m found ≡ Some a → IsDone a
one_step_told l r m found a p e = grind arith

pub one_step_served : (heap : Heap) (o : Op) (h h' : Handle) (given : Answer) (founds : List ℕ) → ((shapes : List Shape) (m : Processor) → Rests AtOneStep (room_in m.poll) (listing.begins shapes m o)) → IsProcessor (machine_of h) → Operated heap o h h' given founds → Served Stays IsDone h h' given
one_step_served heap o h h' given founds first = served o Stays IsDone (Rests AtOneStep) first one_step_next (λ r m p. p.1) one_step_told heap h h' given founds

-- ---- stores

-- how many entries the store has made
abbrev used_of_store : StoreStage → ℕ
used_of_store (StoreStage.Writing w) = used_by w.stage
used_of_store _ = 0

abbrev used_of_global : GlobalStage → ℕ
used_of_global (GlobalStage.Writing w) = used_by w.stage
used_of_global _ = 0

abbrev used_at : Task → ℕ
used_at (Task.Store x) = used_of_store x.stage
used_at (Task.Global x) = used_of_global x.stage
used_at _ = 2

-- the write has the buffer that is held
abbrev HeldInStore : Polling → StoreStage → Type 0
HeldInStore p (StoreStage.Writing w) = p.local.held ≡ held_behind_write w
HeldInStore p _ = Unit {0}

abbrev HeldInGlobal : Polling → GlobalStage → Type 0
HeldInGlobal p (GlobalStage.Writing w) = p.local.held ≡ held_behind_write w
HeldInGlobal p _ = Unit {0}

abbrev HeldSo : Polling → Task → Type 0
HeldSo p (Task.Store x) = HeldInStore p x.stage
HeldSo p (Task.Global x) = HeldInGlobal p x.stage
HeldSo p _ = Unit {0}

-- where r was the room, what is left of it and what was entered are no less
record Spends (At : Task → Type 0) (r : ℕ) (m : Processor) : Type 0 where
  few : r ≤ ENTRIES
  at : At m.task
  held : HeldSo m.poll m.task
  room : r ≤ room_in m.poll + used_at m.task

used_at_few : (t : Task) → used_at t ≤ 2
used_at_few t = grind (arith, used_few)

spends_two : (At : Task → Type 0) (r : ℕ) (m : Processor) → Spends At r m → AtMostTwoLess r (room_in m.poll)
spends_two At r m p = let le = p.room in let few = used_at_few m.task in omega (arith, le, few)

abbrev AtStore : Task → Type 0
AtStore (Task.Store x) = Unit {0}
AtStore Task.Idle = Unit {0}
AtStore _ = ⊥

module _ (l : Layout) (r : ℕ) (m : Processor) (found : ℕ) (few : r ≤ ENTRIES) where
  -- a statement that has ended, or goes on and has entered nothing yet
  abbrev Behind : (S : Type 0) → (S → Task) → (g d : ℕ) → Step S → Processor
  Behind S goes g d step = listing.applied goes (keeping m m.poll.local.held) g d step

  module _ (x : Store) where
    abbrev StoreThen : Step Store → Type 0
    StoreThen step = Spends AtStore r (Behind Store Task.Store x.g x.v step)

    store_ends : (a : Answer) → r ≤ room_in m.poll + 0 → StoreThen (ends a)
    store_ends a le = let more : r ≤ room_in m.poll + 2 = omega (arith, le) in record { few = few; at = tt; held = tt; room = more }

    store_page : (has : Bool) → r ≤ room_in m.poll + 0 → StoreThen (if has then goes_on (store.at_stage x StoreStage.Bits) else ends (Answer.Fault Fault.Field))
    store_page true le = record { few = few; at = tt; held = tt; room = le }
    store_page false le = store_ends (Answer.Fault Fault.Field) le

    store_kind : (differ writes : Bool) (v : Value) (at : PointerCell) → r ≤ room_in m.poll + 0 → StoreThen (if differ then ends (Answer.Fault Fault.Kind) else goes_on (store.at_stage x (if writes then StoreStage.Writing (written m.poll.local at v) else StoreStage.Field)))
    store_kind true writes v at le = store_ends (Answer.Fault Fault.Kind) le
    store_kind false true v at le = record { few = few; at = tt; held = refl; room = le }
    store_kind false false v at le = record { few = few; at = tt; held = tt; room = le }

    store_written : (w : PointerWrite) (given : Option (Unit {0})) → r ≤ room_in (with_held m.poll (held_then l w found)) + used_by (write.goes l w found).stage →
        Spends AtStore r (listing.applied Task.Store (keeping m (held_then l w found)) x.g x.v (store.after_write x (write.goes l w found) given))
    store_written w None le = record { few = few; at = tt; held = refl; room = le }
    store_written w (Some y) le = let used = used_few (write.goes l w found).stage in let more : r ≤ room_in (with_held m.poll (held_then l w found)) + 2 = omega (arith, le, used) in record { few = few; at = tt; held = tt; room = more }

    store_at : (stage : StoreStage) → HeldInStore m.poll stage → r ≤ room_in m.poll + used_of_store stage →
        Spends AtStore r (listing.applied Task.Store (keeping m (store.held_behind l m.poll.local.held stage found)) x.g x.v (store.step_at l m.poll.local (register_of m x.g x.v) x stage found))
    store_at StoreStage.NilBase held le = store_ends (Answer.Fault Fault.NilBase) le
    store_at StoreStage.Page held le = store_page (has_field x.k found) le
    store_at StoreStage.Bits held le = store_kind (kinds_differ (is_pointer_by l (x.at + x.k) found) (register_of m x.g x.v)) (is_pointer_by l (x.at + x.k) found && is_mark m.poll.local.view.phase) (register_of m x.g x.v) (store.pointer_cell_at l (x.at + x.k)) le
    store_at StoreStage.Field held le = store_ends Answer.Done le
    store_at (StoreStage.Writing w) held le = store_written w (write.gives l w found) (write_uses l m.poll w found r few held le)

store_next : (l : Layout) (shapes : List Shape) (r : ℕ) (m : Processor) (found : ℕ) → Spends AtStore r m → Spends AtStore r (listing.takes l shapes m found)
store_next l shapes r m found p = go m.task refl p.at p.held p.room where
  go : (t : Task) → m.task ≡ t → AtStore t → HeldSo m.poll t → r ≤ room_in m.poll + used_at t → Spends AtStore r (listing.takes_at l shapes m t found)
  go (Task.Store x) e at held room = store_at l r m found p.few x x.stage held room
  go Task.Idle e at held room = p
  go _ e at held room = absurd at

store_told : (l : Layout) (r : ℕ) (m : Processor) (found : ℕ) (a : Answer) → Spends AtStore r m → listing.gives l m found ≡ Some a → IsDoneOrFault a
store_told l r m found a p e = go m.task p.at e where
  go : (t : Task) → AtStore t → listing.gives_at l m t found ≡ Some a → IsDoneOrFault a
  go t at e = grind arith

store_first : (g b k v : ℕ) (shapes : List Shape) (m : Processor) → Spends AtStore (room_in m.poll) (listing.begins shapes m (Op.Store g b k v))
store_first g b k v shapes m = go (register_of m g b) where
  le : room_in m.poll ≤ room_in m.poll + 0
  le = omega arith

  go : (held : Value) → Spends AtStore (room_in m.poll) (at_task (at_poll m m.poll) (Task.Store (store.begins g b k v held)))
  go (Value.Ref n) = record { few = room_few m.poll; at = tt; held = tt; room = le }
  go (Value.Int n) = record { few = room_few m.poll; at = tt; held = tt; room = le }
  go Value.Nil = record { few = room_few m.poll; at = tt; held = tt; room = le }

pub store_served : (heap : Heap) (g b k v : ℕ) (h h' : Handle) (given : Answer) (founds : List ℕ) → IsProcessor (machine_of h) → Operated heap (Op.Store g b k v) h h' given founds → Served AtMostTwoLess IsDoneOrFault h h' given
store_served heap g b k v = served (Op.Store g b k v) AtMostTwoLess IsDoneOrFault (Spends AtStore) (store_first g b k v) store_next (spends_two AtStore) store_told heap

-- ---- stores of globals

abbrev IsStoring : GlobalStage → Type 0
IsStoring GlobalStage.Store = Unit {0}
IsStoring (GlobalStage.Writing w) = Unit {0}
IsStoring GlobalStage.Number = Unit {0}
IsStoring _ = ⊥

abbrev AtGlobalStore : Task → Type 0
AtGlobalStore (Task.Global x) = IsStoring x.stage
AtGlobalStore Task.Idle = Unit {0}
AtGlobalStore _ = ⊥

module _ (l : Layout) (r : ℕ) (m : Processor) (found : ℕ) (few : r ≤ ENTRIES) (x : Global) where
  global_ends : (a : Answer) → r ≤ room_in m.poll + 0 → Spends AtGlobalStore r (Behind l r m found few Global Task.Global x.g x.r (ends a))
  global_ends a le = let more : r ≤ room_in m.poll + 2 = omega (arith, le) in record { few = few; at = tt; held = tt; room = more }

  global_written : (w : PointerWrite) (given : Option (Unit {0})) → r ≤ room_in (with_held m.poll (held_then l w found)) + used_by (write.goes l w found).stage →
      Spends AtGlobalStore r (listing.applied Task.Global (keeping m (held_then l w found)) x.g x.r (global.after_write x (write.goes l w found) given))
  global_written w None le = record { few = few; at = tt; held = refl; room = le }
  global_written w (Some y) le = let used = used_few (write.goes l w found).stage in let more : r ≤ room_in (with_held m.poll (held_then l w found)) + 2 = omega (arith, le, used) in record { few = few; at = tt; held = tt; room = more }

  global_at : (stage : GlobalStage) → IsStoring stage → HeldInGlobal m.poll stage → r ≤ room_in m.poll + used_of_global stage →
      Spends AtGlobalStore r (listing.applied Task.Global (keeping m (global.held_behind l m.poll.local.held stage found)) x.g x.r (global.step_at l (register_of m x.g x.r) x stage found))
  global_at GlobalStage.Store is held le = global_ends Answer.Done le
  global_at GlobalStage.Number is held le = global_ends (Answer.Fault Fault.Kind) le
  global_at (GlobalStage.Writing w) is held le = global_written w (write.gives l w found) (write_uses l m.poll w found r few held le)
  global_at _ is held le = absurd is

global_store_next : (l : Layout) (shapes : List Shape) (r : ℕ) (m : Processor) (found : ℕ) → Spends AtGlobalStore r m → Spends AtGlobalStore r (listing.takes l shapes m found)
global_store_next l shapes r m found p = go m.task refl p.at p.held p.room where
  go : (t : Task) → m.task ≡ t → AtGlobalStore t → HeldSo m.poll t → r ≤ room_in m.poll + used_at t → Spends AtGlobalStore r (listing.takes_at l shapes m t found)
  go (Task.Global x) e at held room = global_at l r m found p.few x x.stage at held room
  go Task.Idle e at held room = p
  go _ e at held room = absurd at

global_store_told : (l : Layout) (r : ℕ) (m : Processor) (found : ℕ) (a : Answer) → Spends AtGlobalStore r m → listing.gives l m found ≡ Some a → IsDoneOrKind a
global_store_told l r m found a p e = go m.task p.at e where
  go : (t : Task) → AtGlobalStore t → listing.gives_at l m t found ≡ Some a → IsDoneOrKind a
  go t at e = grind arith

module _ (g k v : ℕ) (m : Processor) where
  abbrev Begun : Global → Type 0
  Begun x = Spends AtGlobalStore (room_in m.poll) (at_task (at_poll m m.poll) (Task.Global x))

  none_yet : room_in m.poll ≤ room_in m.poll + 0
  none_yet = omega arith

  begun_write : (held : Value) (b : Bool) → Begun (record { g = g; r = v; k = k; stage = if b then GlobalStage.Writing (written m.poll.local (PointerCell.Global k) held) else GlobalStage.Store })
  begun_write held true = record { few = room_few m.poll; at = tt; held = refl; room = none_yet }
  begun_write held false = record { few = room_few m.poll; at = tt; held = tt; room = none_yet }

  begun_store : (held : Value) → Begun (global.begins_store m.poll.local g k v held)
  begun_store (Value.Int n) = record { few = room_few m.poll; at = tt; held = tt; room = none_yet }
  begun_store (Value.Ref n) = begun_write (Value.Ref n) (is_mark m.poll.local.view.phase)
  begun_store Value.Nil = begun_write Value.Nil (is_mark m.poll.local.view.phase)

global_store_first : (g k v : ℕ) (shapes : List Shape) (m : Processor) → Spends AtGlobalStore (room_in m.poll) (listing.begins shapes m (Op.SetGlobal g k v))
global_store_first g k v shapes m = begun_store g k v m (register_of m g v)

pub global_store_served : (heap : Heap) (g k v : ℕ) (h h' : Handle) (given : Answer) (founds : List ℕ) → IsProcessor (machine_of h) → Operated heap (Op.SetGlobal g k v) h h' given founds → Served AtMostTwoLess IsDoneOrKind h h' given
global_store_served heap g k v = served (Op.SetGlobal g k v) AtMostTwoLess IsDoneOrKind (Spends AtGlobalStore) (global_store_first g k v) global_store_next (spends_two AtGlobalStore) global_store_told heap

-- ---- operations that may wait

module _ (At : Task → Type 0) where
  abbrev IsAt : ℕ → Processor → Type 0
  IsAt r m = At m.task

abbrev AtNew : Task → Type 0
AtNew (Task.New x) = Unit {0}
AtNew Task.Idle = Unit {0}
AtNew _ = ⊥

search_then : (shapes : List Shape) (m : Processor) (w : Wanted) (waited : Bool) (s : Seeking) (given : Option Found) → AtNew (new.after_search shapes m w waited s given).task
search_then shapes m w waited s None = tt
search_then shapes m w waited s (Some (Found.At a)) = tt
search_then shapes m w true s (Some Found.NoRoom) = tt
search_then shapes m w false s (Some Found.NoRoom) = tt

wait_then : (m : Processor) (w : Wanted) (x : Waiting) (given : Option (Unit {0})) → AtNew (new.after_wait m w x given).task
wait_then m w x None = tt
wait_then m w x (Some y) = tt

made_then : (p : Polling) (w : Wanted) (n : Name) (marking : Bool) → AtNew (if marking then new.assists w n (new.assisting p w) else Task.Idle)
made_then p w n true = tt
made_then p w n false = tt

place_then : (p : Polling) (w : Wanted) (x : Placing) (given : Option Bool) → AtNew (new.made_task p w x given)
place_then p w x None = tt
place_then p w x (Some true) = tt
place_then p w x (Some false) = made_then p w x.name (marking_at p)

assist_then : (m : Processor) (w : Wanted) (n : Name) (x : Assisting) (given : Option (Unit {0})) → AtNew (new.after_assist m w n x given).task
assist_then m w n x None = tt
assist_then m w n x (Some y) = tt

new_next : (l : Layout) (shapes : List Shape) (r : ℕ) (m : Processor) (found : ℕ) → IsAt AtNew r m → IsAt AtNew r (listing.takes l shapes m found)
new_next l shapes r m found p = go m.task refl p where
  at_stage : (w : Wanted) (stage : NewStage) → AtNew (new.takes_at l shapes m w stage found).task
  at_stage w (NewStage.Search waited s) = grind (arith, search_then)
  at_stage w (NewStage.Wait x) = wait_then m w (wait.goes l (wait.waiting x m.poll) found) (wait.gives l (wait.waiting x m.poll) found)
  at_stage w (NewStage.Place x) = place_then m.poll w _ _
  at_stage w (NewStage.Want n) = tt
  at_stage w (NewStage.Assist n x) = assist_then m w n _ _

  go : (t : Task) → m.task ≡ t → AtNew t → AtNew (listing.takes_at l shapes m t found).task
  go (Task.New x) e at = at_stage x.wanted x.stage
  go Task.Idle e at = p
  go _ e at = absurd at

new_told : (l : Layout) (r : ℕ) (m : Processor) (found : ℕ) (a : Answer) → IsAt AtNew r m → listing.gives l m found ≡ Some a → IsNameOrFull a
new_told l r m found a p e = go m.task p e where
  named : (n : Name) → Some (Answer.Ref n) ≡ Some a → IsNameOrFull a
  named n e = let same : Answer.Ref n ≡ a = cc in subst IsNameOrFull same tt

  searched : (waited : Bool) (given : Option Found) → new.answer_search waited given ≡ Some a → IsNameOrFull a
  searched waited None e = absurd cc
  searched waited (Some (Found.At x)) e = absurd cc
  searched true (Some Found.NoRoom) e = let same : Answer.Full ≡ a = cc in subst IsNameOrFull same tt
  searched false (Some Found.NoRoom) e = absurd cc

  placed : (marking : Bool) (n : Name) (given : Option Bool) → new.answer_made marking n given ≡ Some a → IsNameOrFull a
  placed marking n None e = absurd cc
  placed marking n (Some true) e = absurd cc
  placed true n (Some false) e = absurd cc
  placed false n (Some false) e = named n e

  assisted : (n : Name) (given : Option (Unit {0})) → new.answer_assist n given ≡ Some a → IsNameOrFull a
  assisted n None e = absurd cc
  assisted n (Some y) e = named n e

  at_stage : (stage : NewStage) → new.gives_at l (marking_at m.poll) stage found ≡ Some a → IsNameOrFull a
  at_stage (NewStage.Search waited s) e = searched waited _ e
  at_stage (NewStage.Wait x) e = absurd cc
  at_stage (NewStage.Place x) e = placed (marking_at m.poll) x.name _ e
  at_stage (NewStage.Want n) e = named n e
  at_stage (NewStage.Assist n x) e = assisted n _ e

  go : (t : Task) → AtNew t → listing.gives_at l m t found ≡ Some a → IsNameOrFull a
  go (Task.New x) at e = at_stage x.stage e
  go Task.Idle at e = absurd cc
  go _ at e = absurd at

pub new_served : (heap : Heap) (g d t : ℕ) (h h' : Handle) (given : Answer) (founds : List ℕ) → IsProcessor (machine_of h) → Operated heap (Op.New g d t) h h' given founds → IsNameOrFull given
new_served heap g d t h h' given founds is did = (served (Op.New g d t) Any IsNameOrFull (IsAt AtNew) (λ shapes m. tt) new_next (λ r m p. tt) new_told heap h h' given founds is did).1

abbrev AtGc : Task → Type 0
AtGc (Task.Gc g x) = Unit {0}
AtGc Task.Idle = Unit {0}
AtGc _ = ⊥

abbrev IsSwept : Answer → Type 0
IsSwept a = a ≡ Answer.Swept

gc_next : (l : Layout) (shapes : List Shape) (r : ℕ) (m : Processor) (found : ℕ) → IsAt AtGc r m → IsAt AtGc r (listing.takes l shapes m found)
gc_next l shapes r m found p = go m.task refl p where
  behind : (g : ℕ) (x : Waiting) (given : Option (Unit {0})) → AtGc (listing.after_gc m g x given).task
  behind g x None = tt
  behind g x (Some y) = tt

  go : (t : Task) → m.task ≡ t → AtGc t → AtGc (listing.takes_at l shapes m t found).task
  go (Task.Gc g x) e at = behind g (wait.goes l (wait.waiting x m.poll) found) (wait.gives l (wait.waiting x m.poll) found)
  go Task.Idle e at = p
  go _ e at = absurd at

gc_told : (l : Layout) (r : ℕ) (m : Processor) (found : ℕ) (a : Answer) → IsAt AtGc r m → listing.gives l m found ≡ Some a → IsSwept a
gc_told l r m found a p e = go m.task p e where
  once : (given : Option (Unit {0})) → listing.once_ended given Answer.Swept ≡ Some a → IsSwept a
  once None e = absurd cc
  once (Some y) e = cc

  go : (t : Task) → AtGc t → listing.gives_at l m t found ≡ Some a → IsSwept a
  go (Task.Gc g x) at e = once (wait.gives l (wait.waiting x m.poll) found) e
  go Task.Idle at e = absurd cc
  go _ at e = absurd at

pub gc_served : (heap : Heap) (g : ℕ) (h h' : Handle) (given : Answer) (founds : List ℕ) → IsProcessor (machine_of h) → Operated heap (Op.Gc g) h h' given founds → IsSwept given
gc_served heap g h h' given founds is did = (served (Op.Gc g) Any IsSwept (IsAt AtGc) (λ shapes m. tt) gc_next (λ r m p. tt) gc_told heap h h' given founds is did).1
