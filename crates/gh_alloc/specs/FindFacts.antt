-- What is known at each stage of the search for a slot while any number of processors change the heap, under which rights, and the laws: what each step of its own is, that it is on a word that there is, that what is known lasts whatever others do, and what is true where it finds no room.
use Rattle.std.specs.Prelude.{◌≡◌, ℕ, ◌+◌, ◌*◌, ◌/◌, ◌^◌, ◌<◌, ◌≤◌, Bool, true, false, Option, Some, None}
use Rattle.gh_alloc.specs.Vocabulary.{Again, Arena, At, CachedSpan, Carve, cell_of, Claims, effect, End, Ended, FindStage, Found, Give, Good, InRange, KeepsObjects, Large, Laying, Leaves, Lock, NoRoom, Others, Pass, Right, Shared, SizeClass, slot_words_of, Slots, slots_of, Small, Sought, SpanClass, SpanHead, Steps, Sweeping, SweepLeaves, Unlock, Unswept, update, View, view}
use Rattle.gh_cache.specs.Facts.{SpanIsHeld, TakenBelow}
use Rattle.gh_cache.specs.Listing as slots
use Rattle.gh_central.specs.declared.pass.PassStage.{PassStage}
use Rattle.gh_central.specs.GiveBack as give
use Rattle.gh_central.specs.PassFacts as passing
use Rattle.gh_central.specs.SweptPass as pass
use Rattle.gh_central.specs.UnsweptFacts as sweeping
use Rattle.gh_central.specs.UnsweptPass as unswept
use Rattle.gh_central.specs.declared.unswept.UnsweptStage.{UnsweptStage}
use Rattle.gh_pages.specs.declared.carve.CarveStage.{CarveStage}
use Rattle.gh_pages.specs.Facts as carving
use Rattle.gh_pages.specs.Listing as carve
use Rattle.gh_alloc.specs.Find.{Finding, asks, at_stage, given_head, gives, goes, opening, refuses, span_at, span_for, spans_for, sweep_generation, sweep_in}
use Rattle.gh_alloc.specs.FindSound.{IsSought}

-- The cached span.

-- the seat holds the span that is cached for the span class, and its slots before the cursor are taken
pub record IsCached (a : ℕ) (v : View) (c : SpanClass) (k : CachedSpan) : Type 0 where
  pub span : SpanIsHeld a v (span_at c.class k) c.noscan
  pub few : k.cursor ≤ slots_of c.class
  pub taken : TakenBelow v.alloc (span_at c.class k)

-- a large object's search has none cached
abbrev pub Caches : (a : ℕ) → View → Sought → Option CachedSpan → Type 0
Caches a v (Small c) (Some k) = IsCached a v c k
Caches a v (Small c) None = Unit {0}
Caches a v (Large pages noscan) (Some k) = ⊥
Caches a v (Large pages noscan) None = Unit {0}

-- all slots of the cached span are taken, if one is cached
abbrev pub IsUsedUp : Sought → Option CachedSpan → Type 0
IsUsedUp (Small c) (Some k) = slots_of c.class ≤ k.cursor
IsUsedUp _ _ = Unit {0}

-- what is cached is cached for a span class
pub record IsCachedFor (f : Finding) (c : SpanClass) (k : CachedSpan) : Type 0 where
  pub wanted : f.wanted ≡ Small c
  pub cached : f.cached ≡ Some k

-- The rights at a stage.

-- it has the lock
abbrev pub is_locked : FindStage → Bool
is_locked (Give g) = true
is_locked (Pass p) = true
is_locked (Unswept u) = true
is_locked (Carve c) = true
is_locked (Unlock after) = true
is_locked _ = false

-- it looks for a span under the lock, or is about to free it
abbrev pub looks : FindStage → Bool
looks (Pass p) = true
looks (Unswept u) = true
looks (Carve c) = true
looks (Unlock after) = true
looks _ = false

abbrev pub laying : FindStage → Option Laying
laying (Carve c) = carving.laying c
laying _ = None

-- the span of a large object, which no cache lists
abbrev pub own : FindStage → Option ℕ
own (Unlock (End (At x))) = Some (x / 1024)
own _ = None

abbrev pub cached_head : Option CachedSpan → Option ℕ
cached_head None = None
cached_head (Some k) = Some k.head

-- what the seat holds with that span, where it holds those beside it
abbrev pub with_span : Option ℕ → (ℕ → Bool) → ℕ → Bool
with_span None rest = rest
with_span (Some p) rest = update rest p true

abbrev pub held : Finding → (ℕ → Bool) → ℕ → Bool
held f rest = with_span (own f.stage) (with_span (cached_head f.cached) rest)

-- The facts.

-- the search is this seat's, in this arena
pub record Seeks (z : Arena) (a : ℕ) (v : View) (f : Finding) : Type 0 where
  pub seat : f.seat ≡ a
  pub few : a + 1 < 2 ^ 8
  pub number : f.generation ≡ v.generation
  pub wanted : IsSought f.wanted

-- the head of a span that is looked for
abbrev pub head_for : Finding → SpanHead
head_for f = record { class = (span_for f.wanted).class; noscan = (span_for f.wanted).noscan; pages = (span_for f.wanted).pages; owner = 0; number = f.generation }

-- in the last round each span of the span class that nobody owns is swept and full; a large object has none
abbrev pub NoneLeft : Arena → (sure : Bool) → View → Finding → Sought → Type 0
NoneLeft z sure v f (Small c) = passing.HasPassed sure (head_for f) v z.layout.pages
NoneLeft z sure v f (Large pages noscan) = Unit {0}

-- there is no room: that, no span of the span class is cached, and no run of free pages fits
pub record FindsNone (z : Arena) (sure : Bool) (v : View) (f : Finding) : Type 0 where
  pub cached : f.cached ≡ None
  pub none : NoneLeft z sure v f f.wanted
  pub no_run : carving.NoRun v.page (span_for f.wanted).pages z.layout.pages

-- a slot of a fresh span for a large object
pub record OwnsLarge (z : Arena) (a : ℕ) (v : View) (f : Finding) (x : ℕ) : Type 0 where
  pub pages : ℕ
  pub noscan : Bool
  pub wanted : f.wanted ≡ Large pages noscan
  pub claim : Claims z v a x (1024 * pages)
  pub class : claim.h.class ≡ SizeClass.Large
  pub noscan_is : claim.h.noscan ≡ noscan
  pub first : claim.p ≡ x / 1024
  pub head : claim.h ≡ record { class = SizeClass.Large; noscan = noscan; pages = pages; owner = a + 1; number = v.generation }

pub record InSlots (f : Finding) (s : slots.Searching) : Type 0 where
  pub c : SpanClass
  pub k : CachedSpan
  pub for : IsCachedFor f c k
  pub is : s ≡ slots.opening (span_at c.class k)
  pub left : k.cursor < slots_of c.class

pub record InGive (f : Finding) (g : give.SpanGiving) : Type 0 where
  pub c : SpanClass
  pub k : CachedSpan
  pub for : IsCachedFor f c k
  pub is : g ≡ give.opening k.head (given_head f.generation c)
  pub used : slots_of c.class ≤ k.cursor

abbrev pub pass_at : Finding → SpanClass → PassStage → pass.Pass
pass_at f c q = record { seat = f.seat; generation = f.generation; wanted = c; stage = q }

pub record InPass (z : Arena) (a : ℕ) (sure : Bool) (v : View) (f : Finding) (p : pass.Pass) : Type 0 where
  pub c : SpanClass
  pub wanted : f.wanted ≡ Small c
  pub cached : f.cached ≡ None
  pub is : p ≡ pass_at f c p.stage
  pub facts : passing.Facts z a sure v p

abbrev pub unswept_at : Finding → SpanClass → UnsweptStage → unswept.Unswept
unswept_at f c q = record { seat = f.seat; generation = f.generation; wanted = c; stage = q }

pub record InUnswept (z : Arena) (a : ℕ) (v : View) (f : Finding) (u : unswept.Unswept) : Type 0 where
  pub c : SpanClass
  pub wanted : f.wanted ≡ Small c
  pub cached : f.cached ≡ None
  pub first : f.sweeps ≡ true
  pub is : u ≡ unswept_at f c u.stage
  pub facts : sweeping.Facts z a v u

abbrev pub carve_at : Finding → CarveStage → carve.Carving
carve_at f q = record { seat = f.seat; generation = f.generation; span = span_for f.wanted; stage = q }

pub record InCarve (z : Arena) (a : ℕ) (sure : Bool) (v : View) (f : Finding) (m : carve.Carving) : Type 0 where
  pub cached : f.cached ≡ None
  pub none : NoneLeft z sure v f f.wanted
  pub is : m ≡ carve_at f m.stage
  pub facts : carving.Facts z a v m

pub record InAgain (f : Finding) : Type 0 where
  pub c : SpanClass
  pub k : CachedSpan
  pub for : IsCachedFor f c k

abbrev pub FactsAt : Arena → (a : ℕ) → (sure : Bool) → View → Finding → FindStage → Type 0
FactsAt z a sure v f (Slots s) = InSlots f s
FactsAt z a sure v f Lock = IsUsedUp f.wanted f.cached
FactsAt z a sure v f (Give g) = InGive f g
FactsAt z a sure v f (Pass p) = InPass z a sure v f p
FactsAt z a sure v f (Unswept u) = InUnswept z a v f u
FactsAt z a sure v f (Carve m) = InCarve z a sure v f m
FactsAt z a sure v f (Unlock Again) = InAgain f
FactsAt z a sure v f (Unlock (End (At x))) = OwnsLarge z a v f x
FactsAt z a sure v f (Unlock (End NoRoom)) = FindsNone z sure v f
FactsAt z a sure v f (Ended out) = ⊥

-- with what the seat holds beside the cached span and a large object's, neither of which is among it; in the last round it looks for a span, and for no unswept one
pub record Facts (z : Arena) (a : ℕ) (sure : Bool) (v : View) (rest : ℕ → Bool) (f : Finding) : Type 0 where
  pub seeks : Seeks z a v f
  pub caches : Caches a v f.wanted f.cached
  pub apart : (k : CachedSpan) → f.cached ≡ Some k → rest k.head ≡ false
  pub own_apart : (p : ℕ) → own f.stage ≡ Some p → rest p ≡ false
  pub round : sure ≡ true → (looks f.stage ≡ true) × (f.sweeps ≡ false)
  pub stage : FactsAt z a sure v f f.stage

-- The slot that is found: of the cached span, or of a large object's own.

pub record FindsSlot (z : Arena) (a : ℕ) (v : View) (c : SpanClass) (k : CachedSpan) (x : ℕ) : Type 0 where
  pub claim : Claims z v a x (slot_words_of c.class)
  pub class : claim.h.class ≡ SizeClass.Small c.class
  pub noscan_is : claim.h.noscan ≡ c.noscan

abbrev pub SlotIsFound : Arena → (a : ℕ) → View → Finding → Sought → Option CachedSpan → (x : ℕ) → Type 0
SlotIsFound z a v f (Small c) (Some k) x = FindsSlot z a v c k x
SlotIsFound z a v f (Small c) None x = ⊥
SlotIsFound z a v f (Large pages noscan) cached x = OwnsLarge z a v f x

-- the span in which it lies, if no cache lists it
abbrev pub own_found : Sought → (x : ℕ) → Option ℕ
own_found (Small c) x = None
own_found (Large pages noscan) x = Some (x / 1024)

pub record HasFound (z : Arena) (a : ℕ) (v : View) (rest : ℕ → Bool) (f : Finding) (x : ℕ) : Type 0 where
  pub right : Right a v false (with_span (own_found f.wanted x) (with_span (cached_head f.cached) rest)) None
  pub caches : Caches a v f.wanted f.cached
  pub apart : (k : CachedSpan) → f.cached ≡ Some k → rest k.head ≡ false
  pub own_apart : (p : ℕ) → own_found f.wanted x ≡ Some p → rest p ≡ false
  pub found : SlotIsFound z a v f f.wanted f.cached x

-- What a step comes to in w: the right that its seat has then; and the facts of the next stage, or the slot. A search that finds none ends by a step of who runs it.
abbrev pub Comes : Arena → (a : ℕ) → (sure : Bool) → (w : View) → (ℕ → Bool) → Option Found → Finding → Type 0
Comes z a sure w rest None f = Right a w (is_locked f.stage) (held f rest) (laying f.stage) × Facts z a sure w rest f
Comes z a sure w rest (Some (At x)) f = HasFound z a w rest f x
Comes z a sure w rest (Some NoRoom) f = ⊥

-- begun with what is cached
abbrev pub Opens : Type 0
Opens = (z : Arena) (a : ℕ) (v : View) (rest : ℕ → Bool) (f : Finding) → Seeks z a v f → Caches a v f.wanted f.cached → ((k : CachedSpan) → f.cached ≡ Some k → rest k.head ≡ false) → Right a v false (with_span (cached_head f.cached) rest) None →
    f ≡ opening f.seat f.generation f.wanted f.cached → Right a v (is_locked f.stage) (held f rest) (laying f.stage) × Facts z a false v rest f

-- with the lock and nothing cached, a span is looked for once more
abbrev pub LooksAgain : Type 0
LooksAgain = (z : Arena) (a : ℕ) (sure : Bool) (s : Shared) (rest : ℕ → Bool) (f : Finding) → Good z (view s) → passing.IsSure z sure (view s) → Seeks z a (view s) f → f.cached ≡ None → (sure ≡ true → f.sweeps ≡ false) → Right a (view s) true rest None →
    Right a (view s) (is_locked (spans_for f f.wanted)) (held (at_stage f (spans_for f f.wanted)) rest) (laying (spans_for f f.wanted)) × Facts z a sure (view s) rest (at_stage f (spans_for f f.wanted))

-- once the lock is freed a further round is the first
abbrev pub still : (sure : Bool) → FindStage → Bool
still sure (Unlock after) = false
still sure _ = sure

-- a step of its own, short of the one that finds no room, where it runs no sweep; and while it looks for a span, what that leaves to who runs it
abbrev pub OwnStep : Type 0
OwnStep = (z : Arena) (a : ℕ) (sure : Bool) (s : Shared) (rest : ℕ → Bool) (f : Finding) → Good z (view s) → passing.IsSure z sure (view s) → Right a (view s) (is_locked f.stage) (held f rest) (laying f.stage) → Facts z a sure (view s) rest f → refuses f ≡ false → sweep_in f ≡ None →
    Steps z a s (asks z.layout f) (λ t. KeepsObjects (view s) (view t) × (looks f.stage ≡ true → Leaves (view s) (view t)) × Comes z a (still sure f.stage) (view t) rest (gives z.layout f (s.words (cell_of (asks z.layout f)))) (goes z.layout f (s.words (cell_of (asks z.layout f)))))

-- a step of the sweep that it runs
abbrev pub SweepStep : Type 0
SweepStep = (z : Arena) (a : ℕ) (sure : Bool) (s t : Shared) (rest : ℕ → Bool) (f : Finding) (sw : Sweeping) → Good z (view s) → Good z (view t) → Right a (view s) (is_locked f.stage) (held f rest) (laying f.stage) → Facts z a sure (view s) rest f → sweep_in f ≡ Some sw → SweepLeaves (view s) (view t) → t.words ≡ effect s.words (asks z.layout f) →
    KeepsObjects (view s) (view t) × Comes z a sure (view t) rest (gives z.layout f (s.words (cell_of (asks z.layout f)))) (goes z.layout f (s.words (cell_of (asks z.layout f))))

-- the routine that it runs sweeps for the sweep generation of this heap
abbrev pub SweepsHere : Type 0
SweepsHere = (z : Arena) (a : ℕ) (sure : Bool) (v : View) (rest : ℕ → Bool) (f : Finding) → Facts z a sure v rest f → sweep_generation f ≡ v.generation

-- each is on a word that there is
abbrev pub Within : Type 0
Within = (z : Arena) (a : ℕ) (sure : Bool) (v : View) (rest : ℕ → Bool) (f : Finding) → Good z v → Facts z a sure v rest f → InRange z.layout (cell_of (asks z.layout f))

-- where it finds none there is no room, and it asks for the lock's word to be freed
pub record Refuses (z : Arena) (sure : Bool) (v : View) (f : Finding) : Type 0 where
  pub none : FindsNone z sure v f
  pub stage : f.stage ≡ Unlock (End NoRoom)

abbrev pub NoneIsTrue : Type 0
NoneIsTrue = (z : Arena) (a : ℕ) (sure : Bool) (v : View) (rest : ℕ → Bool) (f : Finding) → Facts z a sure v rest f → refuses f ≡ true → Refuses z sure v f

-- the steps of others
abbrev pub Lasts : Type 0
Lasts = (z : Arena) (a : ℕ) (sure : Bool) (v w : View) (rest : ℕ → Bool) (f : Finding) → Good z v → Others z a v w → v.locked a ≡ is_locked f.stage → Facts z a sure v rest f → Facts z a sure w rest f

pub record FindsByItsRights : Type 0 where
  pub opens : Opens
  pub again : LooksAgain
  pub own_step : OwnStep
  pub sweep_step : SweepStep
  pub here : SweepsHere
  pub within : Within
  pub none : NoneIsTrue
  pub lasts : Lasts
