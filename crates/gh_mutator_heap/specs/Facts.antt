-- What is known of a processor while any number of them change the heap: of what it alone knows, and of its rights, at every moment, and of the operation that it is at; and the laws: what each step of its own is, and that what is known lasts whatever others do. What is known while it polls, waits or leaves is in PollHeap.
use Rattle.std.specs.Prelude.{◌≡◌, ◌≢◌, ℕ, ◌+◌, ◌^◌, ◌<◌, ◌≤◌, Bool, true, false, List, ◌++◌, length, slice_index, Option, Some, None}
use Rattle.gh_mutator_heap.specs.Vocabulary.{Act, acted, acts, Answer, answer_at, Arena, asks, cache_with, cached_for, cell_of, Ever, fits, gives, Good, GoroutineRuns, is_number, IsMade, IsOf, MOST_GOROUTINES, MOST_STATEMENTS, Op, option_to_list, Others, own_found, points, Polling, Processor, register_at, REGISTERS, Rights, Shape, Shared, size_for, Small, SpanClass, Steps, takes, Task, View, view, waiting, with_span}
use Rattle.gh_mutator.specs.Vocabulary.{Name, Placing, Seeking, shape_at, Sought}
use Rattle.gh_model.specs.Ever.{names}
use Rattle.gh_model.specs.declared.EverValue.{EverValue}
use Rattle.gh_base.specs.Shapes.{FitsShape, bits_at}
use Rattle.gh_base.specs.Packing.{page_of}
use Rattle.gh_base.specs.declared.pack.SpanHead.{SpanHead}
use Rattle.gh_mutator.specs.declared.new.NewStage.TheVariants.{Assist, Place, Search, Wait, Want}
use Rattle.gh_mutator.specs.declared.global.Global.{Global}
use Rattle.gh_mutator.specs.declared.global.GlobalStage.{GlobalStage}
use Rattle.gh_mutator.specs.declared.load.Load.{Load}
use Rattle.gh_mutator.specs.declared.load.LoadStage.{LoadStage}
use Rattle.gh_mutator.specs.declared.new.NewStage.{NewStage}
use Rattle.gh_mutator.specs.declared.register.Register.{Register}
use Rattle.gh_mutator.specs.declared.register.Source.{Source}
use Rattle.gh_mutator.specs.declared.store.Store.{Store}
use Rattle.gh_mutator.specs.declared.store.StoreStage.{StoreStage}
use Rattle.gh_mutator.specs.declared.new.Wanted.{Wanted}
use Rattle.gh_base.specs.declared.pack.PageWord.{PageWord}
use Rattle.gh_class.specs.declared.class.SizeClass.{SizeClass}
use Rattle.gh_heap.specs.Spans.{Freeing, IsFull, IsInUse, Laying}
use Rattle.gh_alloc.specs.Find.{span_for}
use Rattle.gh_alloc.specs.PlaceFacts as place
use Rattle.gh_alloc.specs.SearchFacts as search
use Rattle.gh_assist.specs.Within.{AssistWithin}
use Rattle.gh_barrier.specs.declared.pointer_cell.PointerCell.{PointerCell}
use Rattle.gh_poll.specs.Barrier.{WritesIt}
use Rattle.gh_mutator.specs.New.{is_made, own_span, sought_for, wanted_of}
use Rattle.gh_mutator_heap.specs.PollHeap.{KnowsAtAnyTime, leave_held, leave_locked, LeaveFacts, lists, no_page, poll_held, poll_locked, PollFacts, Rests, WaitFacts, waits_held, waits_locked}
use Rattle.gh_mutator.specs.Store.{pointer_cell_at}

-- what is answered where it acts, in the heap that never frees
abbrev pub answered_at : List Shape → Ever → Option Act → Option Answer
answered_at shapes e None = None
answered_at shapes e (Some x) = Some (answer_at shapes e x)

-- the types' shapes fit, and their bits are words
pub record ShapesAreGood (shapes : List Shape) : Type 0 where
  pub fit : (t : ℕ) → t < length shapes → FitsShape (shape_at shapes t)
  pub narrow : (t i : ℕ) → t < length shapes → bits_at (shape_at shapes t) i < 2 ^ 64

-- it knows how many objects its goroutines have made
pub record KnowsCounts (z : Arena) (a : ℕ) (v : View) (made : List ℕ) : Type 0 where
  pub places : length made ≡ MOST_GOROUTINES
  pub each : (g : ℕ) → IsOf z a g → slice_index made g ≡ v.ever.made g

-- Its rights.

-- what it has cached but for such objects
abbrev pub rest : Processor → Wanted → ℕ → Bool
rest m w = lists (cache_with m.poll.local.cache w.sought None)

-- the spans that it holds: those that it has cached, and a large object's own while it is made; the poll, the wait and the leave say themselves what they hold
module _ (m : Processor) where
  abbrev pub held_new : Wanted → NewStage → ℕ → Bool
  held_new w (Search waited q) = search.held q.find q.stage (rest m w)
  held_new w (Wait x) = waits_held (waiting x m.poll)
  held_new w (Place p) = place.held_in p (with_span (own_found w.sought p.at) (lists m.poll.local.cache))
  held_new w (Want n) = lists m.poll.local.cache
  held_new w (Assist n x) = lists m.poll.local.cache

  abbrev pub held_at : Task → ℕ → Bool
  held_at Task.Left = no_page
  held_at (Task.New x) = held_new x.wanted x.stage
  held_at (Task.Gc g x) = waits_held (waiting x m.poll)
  held_at Task.Poll = poll_held m.poll
  held_at (Task.Leave x) = leave_held x
  held_at _ = lists m.poll.local.cache

  abbrev pub locked_new : NewStage → Bool
  locked_new (Search waited q) = search.is_locked q.find q.stage
  locked_new (Wait x) = waits_locked (waiting x m.poll)
  locked_new (Place p) = false
  locked_new (Want n) = false
  locked_new (Assist n x) = false

  abbrev pub is_locked_at : Task → Bool
  is_locked_at (Task.New x) = locked_new x.stage
  is_locked_at (Task.Gc g x) = waits_locked (waiting x m.poll)
  is_locked_at Task.Poll = poll_locked m.poll
  is_locked_at (Task.Leave x) = leave_locked x
  is_locked_at _ = false

-- what it lays out, and what it frees
abbrev pub laying_new : NewStage → Option Laying
laying_new (Search waited q) = search.laying q.find q.stage
laying_new _ = None

abbrev pub laying_at : Task → Option Laying
laying_at (Task.New x) = laying_new x.stage
laying_at _ = None

abbrev pub freeing_new : NewStage → Option Freeing
freeing_new (Search waited q) = search.freeing q.stage
freeing_new _ = None

abbrev pub freeing_at : Task → Option Freeing
freeing_at (Task.New x) = freeing_new x.stage
freeing_at _ = None

abbrev pub HasAt : (a : ℕ) → View → Processor → Task → Type 0
HasAt a v m q = Rights a v (is_locked_at m q) (held_at m q) (laying_at q) (freeing_at q)

-- What it alone knows: between two operations, and while it runs a statement, all of it; while it polls, waits or leaves, what that says; once it has left it holds nothing, and its registers are still read.

module _ (z : Arena) (a : ℕ) (v : View) (p : Polling) where
  abbrev pub KnowsNew : NewStage → Type 0
  KnowsNew (Wait x) = WaitFacts z a v (waiting x p)
  KnowsNew _ = Rests z a v p

  abbrev pub KnowsAt : Task → Type 0
  KnowsAt Task.Left = KnowsAtAnyTime z a v p
  KnowsAt (Task.New x) = KnowsNew x.stage
  KnowsAt (Task.Gc g x) = WaitFacts z a v (waiting x p)
  KnowsAt Task.Poll = PollFacts z a v p
  KnowsAt (Task.Leave x) = LeaveFacts z a v p x
  KnowsAt _ = Rests z a v p

-- The operation that it is at. One has its answer from its point on, until the processor gives it: that is pending.

-- the value names no object
abbrev pub IsPlain : EverValue → Type 0
IsPlain (EverValue.Ref n) = ⊥
IsPlain _ = Unit {0}

-- register b of goroutine g names the object at heap word a
pub record Through (z : Arena) (a : ℕ) (v : View) (g b at : ℕ) (n : Name) : Type 0 where
  pub runs : GoroutineRuns z v a g
  pub register : b < REGISTERS
  pub names : names (v.ever.register g b) ≡ Some n
  pub made : IsMade v.ever.made n
  pub here : at ≡ v.place n

-- the register has taken a reference: the name of its object is loaded next
pub record Takes (z : Arena) (a : ℕ) (v : View) (g d at : ℕ) (pending : Option Answer) : Type 0 where
  pub n : Name
  pub through : Through z a v g d at n
  pub answers : pending ≡ Some (Answer.Ref n)

-- a field of the object that register b names is loaded
pub record Loads (z : Arena) (a : ℕ) (v : View) (x : Load) (pending : Option Answer) : Type 0 where
  pub n : Name
  pub through : Through z a v x.g x.b x.at n
  pub register : x.d < REGISTERS
  pub unanswered : pending ≡ None

abbrev pub LoadFacts : Arena → (a : ℕ) → View → Load → Option Answer → LoadStage → Type 0
LoadFacts z a v x pending LoadStage.Page = Loads z a v x pending
LoadFacts z a v x pending LoadStage.Bits = (l : Loads z a v x pending) × (x.k < size_for z.shapes v.ever.type_of l.n)
LoadFacts z a v x pending (LoadStage.Field p) = (l : Loads z a v x pending) × (x.k < size_for z.shapes v.ever.type_of l.n) × (p ≡ points z.shapes v.ever.type_of l.n x.k)
LoadFacts z a v x pending (LoadStage.Birth at) = Takes z a v x.g x.d at pending
LoadFacts z a v x pending LoadStage.NilBase = GoroutineRuns z v a x.g × (x.b < REGISTERS) × IsPlain (v.ever.register x.g x.b) × (pending ≡ None)

pub record Stores (z : Arena) (a : ℕ) (v : View) (x : Store) (pending : Option Answer) : Type 0 where
  pub n : Name
  pub through : Through z a v x.g x.b x.at n
  pub register : x.v < REGISTERS
  pub unanswered : pending ≡ None

-- behind the barrier it writes what its register holds
abbrev pub StoreFacts : Arena → (a : ℕ) → View → Polling → Store → Option Answer → StoreStage → Type 0
StoreFacts z a v p x pending StoreStage.Page = Stores z a v x pending
StoreFacts z a v p x pending StoreStage.Bits = (l : Stores z a v x pending) × (x.k < size_for z.shapes v.ever.type_of l.n)
StoreFacts z a v p x pending StoreStage.Field = (l : Stores z a v x pending) × (x.k < size_for z.shapes v.ever.type_of l.n) × (fits (points z.shapes v.ever.type_of l.n x.k) (v.ever.register x.g x.v) ≡ true)
StoreFacts z a v p x pending (StoreStage.Writing w) =
    (l : Stores z a v x pending) × (x.k < size_for z.shapes v.ever.type_of l.n) × (fits (points z.shapes v.ever.type_of l.n x.k) (v.ever.register x.g x.v) ≡ true) × WritesIt z.layout (pointer_cell_at z.layout (x.at + x.k)) (register_at p x.g x.v) w
StoreFacts z a v p x pending StoreStage.NilBase = GoroutineRuns z v a x.g × (x.b < REGISTERS) × IsPlain (v.ever.register x.g x.b) × (pending ≡ None)

abbrev pub GlobalFacts : Arena → (a : ℕ) → View → Polling → Global → Option Answer → GlobalStage → Type 0
GlobalFacts z a v p x pending GlobalStage.Load = GoroutineRuns z v a x.g × (x.r < REGISTERS) × (x.k < z.layout.globals) × (pending ≡ None)
GlobalFacts z a v p x pending (GlobalStage.Birth at) = Takes z a v x.g x.r at pending
GlobalFacts z a v p x pending GlobalStage.Store = GoroutineRuns z v a x.g × (x.r < REGISTERS) × (x.k < z.layout.globals) × (is_number (v.ever.register x.g x.r) ≡ false) × (pending ≡ None)
GlobalFacts z a v p x pending (GlobalStage.Writing w) =
    GoroutineRuns z v a x.g × (x.r < REGISTERS) × (x.k < z.layout.globals) × (is_number (v.ever.register x.g x.r) ≡ false) × WritesIt z.layout (PointerCell.Global x.k) (register_at p x.g x.r) w × (pending ≡ None)
GlobalFacts z a v p x pending GlobalStage.Number = GoroutineRuns z v a x.g × (is_number (v.ever.register x.g x.r) ≡ true) × (pending ≡ None)

abbrev pub RegisterFacts : Arena → (a : ℕ) → View → Register → Option Answer → Source → Type 0
RegisterFacts z a v x pending (Source.Move s) = GoroutineRuns z v a x.g × (x.d < REGISTERS) × (s < REGISTERS) × (pending ≡ None)
RegisterFacts z a v x pending _ = GoroutineRuns z v a x.g × (x.d < REGISTERS) × (pending ≡ None)

-- an object is to be made
pub record Wants (z : Arena) (a : ℕ) (v : View) (w : Wanted) : Type 0 where
  pub runs : GoroutineRuns z v a w.g
  pub register : w.d < REGISTERS
  pub type : w.t < length z.shapes
  pub few : v.ever.made w.g < MOST_STATEMENTS
  pub is : w ≡ wanted_of z.shapes w.g w.d w.t

-- its slot is searched for by this processor, which has cached what the search has
pub record Searches (z : Arena) (a : ℕ) (v : View) (m : Processor) (w : Wanted) (q : Seeking) (pending : Option Answer) : Type 0 where
  pub wants : Wants z a v w
  pub wanted : q.find.wanted ≡ w.sought
  pub cached : q.find.cached ≡ cached_for m w.sought
  pub facts : search.Facts z a v (rest m w) q
  pub unanswered : pending ≡ None

abbrev pub for_whom : Wanted → place.For
for_whom w = record { g = w.g; d = w.d; t = w.t }

-- an object has its name from its point on
abbrev pub NamedFrom : (made : Bool) → Name → Option Answer → Type 0
NamedFrom true n pending = pending ≡ Some (Answer.Ref n)
NamedFrom false n pending = pending ≡ None

-- it is made in its slot
pub record Makes (z : Arena) (a : ℕ) (v : View) (m : Processor) (w : Wanted) (p : Placing) (pending : Option Answer) : Type 0 where
  pub facts : place.Facts z a v (for_whom w) p
  pub register : w.d < REGISTERS
  pub of : IsOf z a w.g
  pub span : p.span ≡ own_span m.poll.seat m.poll.local.view.generation w.sought
  pub apart : (x : ℕ) → own_found w.sought p.at ≡ Some x → lists m.poll.local.cache x ≡ false
  pub named : NamedFrom (is_made p.stage) p.name pending

abbrev pub NewFacts : Arena → (a : ℕ) → View → Processor → Wanted → Option Answer → NewStage → Type 0
NewFacts z a v m w pending (Search waited q) = Searches z a v m w q pending
NewFacts z a v m w pending (Wait x) = Wants z a v w × (pending ≡ None)
NewFacts z a v m w pending (Place p) = Makes z a v m w p pending
NewFacts z a v m w pending (Want n) = pending ≡ Some (Answer.Ref n)
NewFacts z a v m w pending (Assist n x) = (pending ≡ Some (Answer.Ref n)) × AssistWithin z.layout x

abbrev pub FactsAt : Arena → (a : ℕ) → View → Processor → Option Answer → Task → Type 0
FactsAt z a v m pending (Task.Load x) = LoadFacts z a v x pending x.stage
FactsAt z a v m pending (Task.Store x) = StoreFacts z a v m.poll x pending x.stage
FactsAt z a v m pending (Task.Global x) = GlobalFacts z a v m.poll x pending x.stage
FactsAt z a v m pending (Task.Register x) = RegisterFacts z a v x pending x.source
FactsAt z a v m pending (Task.New x) = NewFacts z a v m x.wanted pending x.stage
FactsAt z a v m pending (Task.End g) = GoroutineRuns z v a g × (pending ≡ None)
FactsAt z a v m pending _ = pending ≡ None

pub record ProcessorFacts (z : Arena) (a : ℕ) (v : View) (m : Processor) (pending : Option Answer) : Type 0 where
  pub counts : KnowsCounts z a v m.made
  pub knows : KnowsAt z a v m.poll m.task
  pub right : HasAt a v m m.task
  pub task : FactsAt z a v m pending m.task

-- The laws.

-- There is no room for the object that the operation is to make, by all that its processor knows: it owns no span of the span class, and each that nobody owns is full; each span of any class is swept, and in each that nobody owns an object stands; and no run of pages fits, also if the pages of empty spans were free.
pub record FoundNone (z : Arena) (a : ℕ) (v : View) (m : Processor) (sought : Sought) : Type 0 where
  pub cached : cached_for m sought ≡ None
  pub own_none : (c : SpanClass) (p : ℕ) (h : SpanHead) → sought ≡ Small c → page_of (v.page p) ≡ PageWord.Head h → h.class ≡ SizeClass.Small c.class → h.noscan ≡ c.noscan → h.owner ≢ a + 1
  pub full : (c : SpanClass) (p : ℕ) (h : SpanHead) → sought ≡ Small c → page_of (v.page p) ≡ PageWord.Head h → h.class ≡ SizeClass.Small c.class → h.noscan ≡ c.noscan → h.owner ≡ 0 → IsFull v.alloc p h
  pub swept : (p : ℕ) (h : SpanHead) → page_of (v.page p) ≡ PageWord.Head h → h.number ≡ v.generation
  pub in_use : (p : ℕ) (h : SpanHead) → page_of (v.page p) ≡ PageWord.Head h → h.owner ≡ 0 → IsInUse v.alloc p h
  pub no_run : (first : ℕ) → first + (span_for sought).pages ≤ z.layout.pages → (d : ℕ) × (d < (span_for sought).pages) × search.PageIsTaken z v (first + d)

abbrev pub FullAt : Arena → (a : ℕ) → View → Processor → Op → Type 0
FullAt z a v m (Op.New g d t) = FoundNone z a v m (sought_for (shape_at z.shapes t))
FullAt z a v m _ = ⊥

-- Where an object's bytes are counted, words alone change.
abbrev pub CountsNew : NewStage → (s t : Shared) → Type 0
CountsNew (Place p) s t = place.CountsAlone p.stage s t
CountsNew _ s t = Unit {0}

abbrev pub CountsAlone : Task → (s t : Shared) → Type 0
CountsAlone (Task.New x) s t = CountsNew x.stage s t
CountsAlone _ s t = Unit {0}

-- What a step that found this comes to in t, from s: what is known of the processor then, with the answer that is pending; the heap that never frees, if it was a point; what is answered; that there was no room where it says so; and what changes where it counts an object's bytes.
pub record Does (z : Arena) (a : ℕ) (s t : Shared) (m : Processor) (pending : Option Answer) (found : ℕ) : Type 0 where
  pub after : Option Answer
  pub fine : ProcessorFacts z a (view t) (takes z.layout z.shapes m found) after
  pub ever : t.ever ≡ acted z.shapes s.ever (acts z.layout m found)
  pub answers : option_to_list (answered_at z.shapes s.ever (acts z.layout m found)) ++ option_to_list pending ≡ option_to_list after ++ option_to_list (gives z.layout m found)
  pub full : (x : Act) → acts z.layout m found ≡ Some x → x.full ≡ true → FullAt z a (view s) m x.op
  -- the step that counts an object's bytes changes words alone
  pub counts : CountsAlone m.task s t

-- a step of its own, at this task
abbrev pub OwnStepAt : Task → Type 0
OwnStepAt q = (z : Arena) (a : ℕ) (s : Shared) (m : Processor) (pending : Option Answer) → ShapesAreGood z.shapes → m.task ≡ q → Good z (view s) → ProcessorFacts z a (view s) m pending →
    Steps z a s (asks z.layout m) (λ t. Does z a s t m pending (s.words (cell_of (asks z.layout m))))

-- the steps of others
abbrev pub Lasts : Type 0
Lasts = (z : Arena) (a : ℕ) (v w : View) (m : Processor) (pending : Option Answer) → Good z v → Others z a v w → ProcessorFacts z a v m pending → ProcessorFacts z a w m pending

-- What may begin: of a goroutine of this processor that has not ended, with registers, global and type in range, and a name for what is to be made; and at any time a `gc`, a poll and a leave.
abbrev pub MayBegin : Arena → (a : ℕ) → View → Op → Type 0
MayBegin z a v (Op.New g d t) = GoroutineRuns z v a g × (d < REGISTERS) × (t < length z.shapes) × (v.ever.made g < MOST_STATEMENTS)
MayBegin z a v (Op.Load g d b k) = GoroutineRuns z v a g × (d < REGISTERS) × (b < REGISTERS)
MayBegin z a v (Op.Store g b k x) = GoroutineRuns z v a g × (b < REGISTERS) × (x < REGISTERS)
MayBegin z a v (Op.GetGlobal g d k) = GoroutineRuns z v a g × (d < REGISTERS) × (k < z.layout.globals)
MayBegin z a v (Op.SetGlobal g k x) = GoroutineRuns z v a g × (x < REGISTERS) × (k < z.layout.globals)
MayBegin z a v (Op.Int g d n) = GoroutineRuns z v a g × (d < REGISTERS)
MayBegin z a v (Op.Move g d s) = GoroutineRuns z v a g × (d < REGISTERS) × (s < REGISTERS)
MayBegin z a v (Op.Nil g d) = GoroutineRuns z v a g × (d < REGISTERS)
MayBegin z a v (Op.End g) = GoroutineRuns z v a g
MayBegin z a v _ = Unit {0}
