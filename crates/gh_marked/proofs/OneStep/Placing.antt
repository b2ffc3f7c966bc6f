-- What a processor has placed and not counted, over a step of it: the step that makes an object adds the bytes of its slot, the one that counts them takes them off, and no other changes that or makes anything.
use Rattle.std.proofs.Common.{◌≡◌, ℕ, ◌+◌, ◌*◌, ◌%◌, ◌^◌, nat_le, Bool, true, false, cond, refl, ◌⊎◌, inl, inr, List, Option, Some, arith, is_none, is_some, nat_lt}
use Rattle.gh_marked.proofs.Vocabulary.{acted, acting, acts_at, Add, after_assist, after_gc, after_leave, after_poll, asks_at, Assist, assisting, assists, cache_span, Cell, CountsAlone, CountsObject, Ever, follows, Heap, is_busy_at, Layout, Name, NewStage, Op, Place, PlaceStage, Processor, register_of, Search, Shape, sweep_at, Sweeping, takes_at, Task, uncounted, Wait, Want, Wanted}
use Rattle.gh_alloc.specs.Place as place
use Rattle.gh_alloc.specs.Search as search
use Rattle.gh_assist.specs.Listing as assist
use Rattle.gh_bitmap.specs.SetPointers as bits
use Rattle.gh_mutator.specs.Global as global
use Rattle.gh_poll.specs.Leave as leave
use Rattle.gh_mutator.specs.Load as load
use Rattle.gh_poll.specs.Local.{marking_at}
use Rattle.gh_mutator.specs.New as new
use Rattle.gh_poll.specs.Poll as poll
use Rattle.gh_mutator.specs.Register as register
use Rattle.gh_mutator.specs.Store as store
use Rattle.gh_poll.specs.Wait as wait
use Rattle.gh_assist.specs.Listing.{Assisting}
use Rattle.gh_alloc.specs.declared.sought.Found.{Found}
use Rattle.gh_mutator.specs.declared.global.Global.{Global}
use Rattle.gh_mutator.specs.declared.global.GlobalStage.{GlobalStage}
use Rattle.gh_alloc.specs.Place.{Placing}
use Rattle.gh_mutator.specs.declared.register.Register.{Register}
use Rattle.gh_mutator.specs.declared.register.Source.{Source}
use Rattle.gh_mutator.specs.declared.step.Then.{Then}

-- No object is made but by a `new`.

abbrev IsNoNew : Op → Type 0
IsNoNew (Op.New g d t) = ⊥
IsNoNew _ = Unit {0}

module _ (shapes : List Shape) where
  acting_made : (b : Bool) (o : Op) → IsNoNew o → (e : Ever) (h : ℕ) → (acted shapes e (acting b o false)).made h ≡ e.made h
  acting_made b o plain e h = grind arith

  refused_made : (b : Bool) (w : Wanted) (e : Ever) (h : ℕ) → (acted shapes e (acting b (new.op_of w) true)).made h ≡ e.made h
  refused_made b w e h = grind arith

no_new_global : (x : Global) (s : GlobalStage) → IsNoNew (global.op_in x s)
no_new_global x s = grind arith

no_new_register : (x : Register) (s : Source) → IsNoNew (register.op_from x s)
no_new_register x s = grind arith

-- The task behind a step.

-- nothing placed is uncounted there
abbrev IsPlain : Task → Type 0
IsPlain t = uncounted t ≡ 0

followed : {S : Type 0} (goes : S → Task) → ((s : S) → IsPlain (goes s)) → (x : Then S) → IsPlain (follows goes x)
followed goes plain x = grind arith

module _ (l : Layout) (shapes : List Shape) (m : Processor) (found : ℕ) where
  pub record Counts (t : Task) : Type 0 where
    pub asks_is : asks_at l m t ≡ Add Cell.Heap (uncounted t)
    pub then : uncounted (takes_at l shapes m t found).task ≡ 0
    pub nothing : (e : Ever) (g : ℕ) → (acted shapes e (acts_at l m t found)).made g ≡ e.made g
    -- words alone change
    pub alone : (u v : Heap) → CountsAlone t u v → v ≡ record u { words = v.words }

  pub record Makes (t : Task) : Type 0 where
    pub wanted : Wanted
    pub placing : Placing
    pub is : t ≡ Task.New (record { wanted = wanted; stage = Place placing })
    pub stage : placing.stage ≡ PlaceStage.Alloc
    pub silent : CountsObject (asks_at l m t) t → ⊥

  pub record Keeps (t : Task) : Type 0 where
    pub same : uncounted (takes_at l shapes m t found).task ≡ uncounted t
    pub silent : CountsObject (asks_at l m t) t → ⊥
    pub nothing : (e : Ever) (g : ℕ) → (acted shapes e (acts_at l m t found)).made g ≡ e.made g

  abbrev StepOf : Task → Type 0
  StepOf t = Counts t ⊎ (Makes t ⊎ Keeps t)

  -- a search
  searched : (w : Wanted) (waited : Bool) (q : search.Seeking) (y : Processor) (out : Option Found) → IsPlain (new.after_search shapes y w waited q out).task
  searched w waited q y out = grind arith

  waited_for : (w : Wanted) (x : wait.Waiting) (out : Option (Unit {0})) → IsPlain (new.after_wait m w x out).task
  waited_for w x out = grind arith

  -- the making of an object
  abbrev placing_at : Wanted → Placing → Task
  placing_at w p = Task.New (record { wanted = w; stage = Place p })

  -- behind it an assist may run
  then_plain : (w : Wanted) (n : Name) (marking : Bool) → IsPlain (cond marking (assists w n (assisting m.poll w)) Task.Idle)
  then_plain w n marking = grind arith

  assisted : (w : Wanted) (n : Name) (x : Assisting) (out : Option (Unit {0})) → IsPlain (after_assist m w n x out).task
  assisted w n x out = grind arith

  placed : (w : Wanted) (p : Placing) (s : PlaceStage) → StepOf (placing_at w (place.at_stage p s))
  placed w p (PlaceStage.Clear k) = inr (inr (record { same = by (nat_lt (k + 1) p.slot); silent = λ y. absurd (let x = y.0 in cc); nothing = λ e g. refl })) where
    by : (b : Bool) → uncounted (new.made_task m.poll w (place.at_stage p (cond b (PlaceStage.Clear (k + 1)) PlaceStage.Birth)) (place.given_at (cond b (PlaceStage.Clear (k + 1)) PlaceStage.Birth))) ≡ 0
    by true = refl
    by false = refl
  placed w p PlaceStage.Birth = inr (inr (record { same = refl; silent = λ y. absurd (let x = y.0 in cc); nothing = λ e g. refl }))
  placed w p (PlaceStage.Bits q) = inr (inr (record { same = by (is_none (bits.given (bits.goes q found))); silent = λ y. absurd (let x = y.0 in cc); nothing = λ e g. refl })) where
    by : (b : Bool) → uncounted (new.made_task m.poll w (place.at_stage p (cond b (PlaceStage.Bits (bits.goes q found)) (place.filled p.marking))) (place.given_at (cond b (PlaceStage.Bits (bits.goes q found)) (place.filled p.marking)))) ≡ 0
    by b = grind arith
  placed w p PlaceStage.Mark = inr (inr (record { same = refl; silent = λ y. absurd (let x = y.0 in cc); nothing = λ e g. refl }))
  placed w p PlaceStage.Alloc = inr (inl (record { wanted = w; placing = place.at_stage p PlaceStage.Alloc; is = refl; stage = refl; silent = λ y. absurd (let x = y.0 in cc) }))
  placed w p (PlaceStage.Give g) = inr (inr (record { same = refl; silent = λ y. absurd (let x = y.0 in cc); nothing = λ e g. refl }))
  placed w p PlaceStage.Count = inl (record { asks_is = refl; then = by p.marking; nothing = λ e g. refl; alone = λ u v x. x }) where
    by : (marking : Bool) → uncounted (new.made_task m.poll w (place.at_stage p (cond marking (PlaceStage.Ended false) (PlaceStage.LoadTrigger ((found + 8 * p.slot) % 2 ^ 64)))) (place.given_at (cond marking (PlaceStage.Ended false) (PlaceStage.LoadTrigger ((found + 8 * p.slot) % 2 ^ 64))))) ≡ 0
    by true = then_plain w p.name (marking_at m.poll)
    by false = refl
  placed w p (PlaceStage.LoadTrigger bytes) = inr (inr (record { same = by (nat_le found bytes); silent = λ y. absurd (let x = y.0 in cc); nothing = λ e g. refl })) where
    by : (reached : Bool) → uncounted (new.made_task m.poll w (place.at_stage p (PlaceStage.Ended reached)) (Some reached)) ≡ 0
    by true = refl
    by false = then_plain w p.name (marking_at m.poll)
  placed w p (PlaceStage.Ended wants) = inr (inr (record { same = then_plain w p.name (marking_at m.poll); silent = λ y. absurd (let x = y.0 in cc); nothing = λ e g. refl }))

  ended_gc : (g : ℕ) (x : wait.Waiting) (out : Option (Unit {0})) → uncounted (after_gc m g x out).task ≡ 0
  ended_gc g x out = grind arith

  ended_poll : (x : poll.Polling) (out : Option (Unit {0})) → uncounted (after_poll m x out).task ≡ 0
  ended_poll x out = grind arith

  ended_leave : (x : leave.Leaving) (out : Option (Unit {0})) → uncounted (after_leave m x out).task ≡ 0
  ended_leave x out = grind arith

  pub kind : (t : Task) → is_busy_at t ≡ true → StepOf t
  kind Task.Idle busy = absurd (cc)
  kind Task.Left busy = absurd (cc)
  kind (Task.Load x) busy = inr (inr (record { same = followed Task.Load (λ s. refl) (load.step l x found).then; silent = λ y. y; nothing = acting_made shapes (load.step l x found).acts (load.op_of x) tt }))
  kind (Task.Store x) busy = inr (inr (record { same = followed Task.Store (λ s. refl) (store.step l m.poll.local (register_of m x.g x.v) x found).then; silent = λ y. y; nothing = acting_made shapes (store.step l m.poll.local (register_of m x.g x.v) x found).acts (store.op_of x) tt }))
  kind (Task.Global x) busy = inr (inr (record { same = followed Task.Global (λ s. refl) (global.step l (register_of m x.g x.r) x found).then; silent = λ y. y; nothing = acting_made shapes (global.step l (register_of m x.g x.r) x found).acts (global.op_of x) (no_new_global x x.stage) }))
  kind (Task.Register x) busy = inr (inr (record { same = refl; silent = λ y. y; nothing = acting_made shapes true (register.op_of x) (no_new_register x x.source) }))
  kind (Task.New x) busy = new_kind x.wanted x.stage where
    new_kind : (w : Wanted) (s : NewStage) → StepOf (Task.New (record { wanted = w; stage = s }))
    new_kind w (Search waited q) = inr (inr (record { same = searched w waited (search.goes l q found) (cache_span m w.sought (search.goes l q found).find.cached) (search.gives l q found); silent = λ y. y; nothing = refused_made shapes (new.refuses_behind_wait waited (search.gives l q found)) w }))
    new_kind w (Wait y) = inr (inr (record { same = waited_for w (wait.goes l (wait.waiting y m.poll) found) (wait.gives l (wait.waiting y m.poll) found); silent = λ y. y; nothing = λ e g. refl }))
    new_kind w (Place p) = placed w p p.stage
    new_kind w (Want n) = inr (inr (record { same = refl; silent = λ y. y; nothing = λ e g. refl }))
    new_kind w (Assist n x) = inr (inr (record { same = assisted w n (assist.goes l x found) (assist.gives l x found); silent = λ y. y; nothing = λ e g. refl }))
  kind (Task.Gc g x) busy = inr (inr (record { same = ended_gc g (wait.goes l (wait.waiting x m.poll) found) (wait.gives l (wait.waiting x m.poll) found); silent = λ y. y; nothing = acting_made shapes (is_some (wait.gives l (wait.waiting x m.poll) found)) (Op.Gc g) tt }))
  kind Task.Poll busy = inr (inr (record { same = ended_poll (poll.goes l m.poll found) (poll.gives l m.poll found); silent = λ y. y; nothing = acting_made shapes (is_some (poll.gives l m.poll found)) Op.Poll tt }))
  kind (Task.End g) busy = inr (inr (record { same = refl; silent = λ y. y; nothing = λ e h. refl }))
  kind (Task.Leave x) busy = inr (inr (record { same = ended_leave (leave.goes x found) (leave.gives x found); silent = λ y. y; nothing = acting_made shapes (is_some (leave.gives x found)) Op.Leave tt }))

  -- a step of a sweep is one of a search
  pub sweeps_plain : (t : Task) (sw : Sweeping) → sweep_at t ≡ Some sw → (uncounted t ≡ 0) × (uncounted (takes_at l shapes m t found).task ≡ 0)
  sweeps_plain t sw is = grind arith

pub idle_plain : (t : Task) → is_busy_at t ≡ false → uncounted t ≡ 0
idle_plain t idle = grind arith
