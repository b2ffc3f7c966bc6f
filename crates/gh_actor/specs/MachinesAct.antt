-- An actor is what it is in the lists of its heap: it asks for what that asks for, and goes over to what that goes over to. It has given nothing exactly where it asks for a further step.
use Rattle.std.proofs.Common.{ap, arith, ◌≡◌, ◌↔◌, ℕ, false, true, Option, IsNone}
use Rattle.gh_actor.specs.Vocabulary.{Answer, Coordinating, HeapActor, is_store, Layout, Leads, Marks, Op, Runs}
use Rattle.gh_coord.specs.Blind as leads_blindly
use Rattle.gh_coord.specs.Listing as leading
use Rattle.gh_coord.specs.Stays as coord
use Rattle.gh_mutator_writes.specs.Blind as runs_blindly
use Rattle.gh_mutator.specs.Stays as mutator
use Rattle.gh_mutator.specs.Mutating as mutating
use Rattle.gh_worker.specs.Blind as marks_blindly
use Rattle.gh_worker.specs.Listing.{Working}
use Rattle.gh_worker.specs.Listing as working
use Rattle.gh_worker.specs.Stays as worker
use Rattle.gh_actor.specs.Machines.{asks, begins, ends_with_answer, ends_with_none, gives, goes, HasShapes, is_busy, machine_actor, MachineMayBegin}
use Rattle.gh_actor.specs.Plans.{Planned, setting}

pub busy_is : (p : Planned) (x : HeapActor) → (setting p).kind.busy (machine_actor x) ≡ is_busy x
busy_is p x = grind arith

pub asks_is : (p : Planned) (x : HeapActor) → (setting p).kind.asks (machine_actor x) ≡ asks p.layout x
asks_is p x = grind arith

pub takes_is : (p : Planned) (x : HeapActor) (found : ℕ) → HasShapes p x → (setting p).kind.takes (machine_actor x) found ≡ machine_actor (goes p.layout x found)
takes_is p x found shapes = grind arith

pub stores_blindly : (l : Layout) (x : HeapActor) (found other : ℕ) → is_store (asks l x) ≡ true → (goes l x found ≡ goes l x other) × (gives l x found ≡ gives l x other)
stores_blindly l (Runs m) found other e = (ap Runs (runs_blindly.blind l m found other e), ap ends_with_answer (runs_blindly.blind_gives l m found other e))
stores_blindly l (Marks w) found other e = let same = marks_blindly.blind l w found other e in (ap Marks same, ap (λ (x : Working). ends_with_none (working.given x)) same)
stores_blindly l (Leads c) found other e = let same = leads_blindly.blind l c found other e in (ap Leads same, ap (λ (x : Coordinating). ends_with_none (leading.given x)) same)

pub same_shapes : (p : Planned) (l : Layout) (x : HeapActor) (found : ℕ) → HasShapes p x → HasShapes p (goes l x found)
same_shapes p l x found shapes = grind arith

-- ---- where it ends

answered_none : (P : Type 0) (x : Option Answer) → (IsNone x ↔ P) → IsNone (ends_with_answer x) ↔ P
answered_none P x h = grind arith

ended_none : (P : Type 0) (x : Option (Unit {0})) → (IsNone x ↔ P) → IsNone (ends_with_none x) ↔ P
ended_none P x h = grind arith

pub ends : (l : Layout) (x : HeapActor) (found : ℕ) → is_busy x ≡ true → (IsNone (gives l x found) ↔ (is_busy (goes l x found) ≡ true))
ends l (Runs m) found busy = answered_none (mutating.is_busy (mutating.goes l m found) ≡ true) (mutating.gives l m found) (mutator.ends l m found busy)
ends l (Marks w) found busy = ended_none (working.is_busy (working.goes l w found).stage ≡ true) (working.given (working.goes l w found)) (worker.ends l w found busy)
ends l (Leads c) found busy = ended_none (leading.is_busy (leading.goes l c found).stage ≡ true) (leading.given (leading.goes l c found)) (coord.ends l c found busy)

-- ---- what a processor begins

pub idle : (l : Layout) (x : HeapActor) (o : Op) → MachineMayBegin l x o → is_busy x ≡ false
idle l (Runs m) o may = may.idle
idle l (Marks w) o may = absurd may
idle l (Leads c) o may = absurd may

pub runs : (l : Layout) (x : HeapActor) (o : Op) → MachineMayBegin l x o → is_busy (begins x o) ≡ true
runs l x o may = grind arith

pub begins_is : (p : Planned) (l : Layout) (x : HeapActor) (o : Op) → HasShapes p x → MachineMayBegin l x o → (setting p).kind.begins (machine_actor x) o ≡ machine_actor (begins x o)
begins_is p l x o shapes may = grind arith

pub shapes_begun : (p : Planned) (x : HeapActor) (o : Op) → HasShapes p x → HasShapes p (begins x o)
shapes_begun p x o shapes = grind arith
