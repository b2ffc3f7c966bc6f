-- The same of an actor with the layout of its heap.
use Rattle.std.proofs.Common.{ap, sym, refl, ◌∙◌, ◌≡◌, ◌↔◌, ℕ, false, true, IsNone}
use Rattle.std.proofs.Props.{props}
use Rattle.gh_actor.specs.Vocabulary.{HeapActor, is_store, Layout, Leads, Marks, Op, Runs}
use Rattle.gh_actor.specs.Acting.{Acting, acts_as, asks, begins, Belongs, BelongsTo, gives, goes, is_busy, layout_of, MayBegin}
use Rattle.gh_actor.specs.Machines as actor
use Rattle.gh_actor.specs.Machines.{machine_actor}
use Rattle.gh_actor.specs.MachinesAct as proved
use Rattle.gh_actor.specs.Plans.{Planned, setting}

once : (p : Planned) (l : Layout) (x : HeapActor) → IsProp (BelongsTo p l x)
once p l (Runs m) = Prim.hlevel props
once p l (Marks w) = Prim.hlevel props
once p l (Leads c) = Prim.hlevel props

pub belongs_once : (p : Planned) (x : Acting) → IsProp (Belongs p x)
belongs_once p x = once p x.layout x.actor

pub layout_is : (p : Planned) (x : Acting) → Belongs p x → layout_of x ≡ (setting p).layout
layout_is p x of = of.0

pub busy_is : (p : Planned) (x : Acting) → Belongs p x → (setting p).kind.busy (acts_as x) ≡ is_busy x
busy_is p x of = proved.busy_is p x.actor

pub asks_is : (p : Planned) (x : Acting) → Belongs p x → (setting p).kind.asks (acts_as x) ≡ asks x
asks_is p x of = proved.asks_is p x.actor ∙ ap (λ (l : Layout). actor.asks l x.actor) (sym of.0)

pub takes_is : (p : Planned) (x : Acting) (found : ℕ) → Belongs p x → (setting p).kind.takes (acts_as x) found ≡ acts_as (goes x found)
takes_is p x found of = proved.takes_is p x.actor found of.1 ∙ ap (λ (l : Layout). machine_actor (actor.goes l x.actor found)) (sym of.0)

pub stores_blindly : (x : Acting) (found other : ℕ) → is_store (asks x) ≡ true → (goes x found ≡ goes x other) × (gives x found ≡ gives x other)
stores_blindly x found other e = let same = proved.stores_blindly x.layout x.actor found other e in (ap (λ (y : HeapActor). record x { actor = y }) same.0, same.1)

pub still_belongs : (p : Planned) (x : Acting) (found : ℕ) → Belongs p x → Belongs p (goes x found)
still_belongs p x found of = (of.0, proved.same_shapes p x.layout x.actor found of.1)

pub ends : (x : Acting) (found : ℕ) → is_busy x ≡ true → (IsNone (gives x found) ↔ (is_busy (goes x found) ≡ true))
ends x found busy = proved.ends x.layout x.actor found busy

pub stays : (x : Acting) (found : ℕ) → layout_of (goes x found) ≡ layout_of x
stays x found = refl

pub idle : (x : Acting) (o : Op) → MayBegin x o → is_busy x ≡ false
idle x o may = proved.idle x.layout x.actor o may

pub runs : (x : Acting) (o : Op) → MayBegin x o → is_busy (begins x o) ≡ true
runs x o may = proved.runs x.layout x.actor o may

pub begins_is : (p : Planned) (x : Acting) (o : Op) → Belongs p x → MayBegin x o → (setting p).kind.begins (acts_as x) o ≡ acts_as (begins x o)
begins_is p x o of may = proved.begins_is p x.layout x.actor o of.1 may

pub belongs_begun : (p : Planned) (x : Acting) (o : Op) → Belongs p x → Belongs p (begins x o)
belongs_begun p x o of = (of.0, proved.shapes_begun p x.actor o of.1)
