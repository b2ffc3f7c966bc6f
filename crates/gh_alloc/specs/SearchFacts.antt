-- What is known at each stage of the search where a collector runs, while any number of processors change the heap, under which rights, and the laws: what each step of its own is, that it is on a word that there is, that what is known lasts whatever others do, and what is true where it finds no room.
use Rattle.std.specs.Prelude.{◌≡◌, ◌≢◌, ℕ, ◌+◌, ◌<◌, ◌≤◌, Bool, true, false, Option, Some, None}
use Rattle.gh_alloc.specs.Vocabulary.{Arena, At, CachedSpan, cell_of, effect, End, First, Found, Free, Freeing, Good, InRange, IsSpan, IsVacant, KeepsObjects, Laying, NoRoom, Others, page_of, Reclaiming, Right, Rights, SearchStage, Second, Shared, SpanHead, Steps, Sweeping, SweepLeaves, TidyBefore, Unlock, View, view}
use Rattle.gh_base.specs.declared.pack.PageWord.{PageWord}
use Rattle.gh_central.specs.ReclaimFacts as reclaiming
use Rattle.gh_central.specs.declared.reclaim.ReclaimStage.{ReclaimStage}
use Rattle.gh_alloc.specs.Find.{Finding, span_for}
use Rattle.gh_alloc.specs.Find as find
use Rattle.gh_alloc.specs.FindFacts as finding
use Rattle.gh_alloc.specs.Search.{Seeking, asks, gives, goes, opening, refuses, sweep_generation, sweep_in}

-- The rights at a stage.

abbrev pub is_locked : Finding → SearchStage → Bool
is_locked f (Free r) = true
is_locked f _ = finding.is_locked f.stage

abbrev pub laying : Finding → SearchStage → Option Laying
laying f (Free r) = None
laying f _ = finding.laying f.stage

abbrev pub freeing : SearchStage → Option Freeing
freeing (Free r) = reclaiming.freeing r
freeing _ = None

-- what the seat holds, where it holds those beside the search's
abbrev pub held : Finding → SearchStage → (ℕ → Bool) → ℕ → Bool
held f (Free r) rest = rest
held f _ rest = finding.held f rest

abbrev pub Has : (a : ℕ) → View → (ℕ → Bool) → Seeking → Type 0
Has a v rest q = Rights a v (is_locked q.find q.stage) (held q.find q.stage rest) (laying q.find q.stage) (freeing q.stage)

-- The facts.

abbrev pub reclaim_at : Finding → ReclaimStage → Reclaiming
reclaim_at f q = record { generation = f.generation; stage = q }

-- the first search has ended with none, and pages of empty spans are freed: nothing is cached
pub record FreesEmptySpans (z : Arena) (a : ℕ) (v : View) (f : Finding) (r : Reclaiming) : Type 0 where
  pub seeks : finding.Seeks z a v f
  pub cached : f.cached ≡ None
  pub is : r ≡ reclaim_at f r.stage
  pub facts : reclaiming.Facts z v r

-- in the second search each span that nobody owns is swept, and an object stands in it
pub record LooksAgain (z : Arena) (a : ℕ) (v : View) (rest : ℕ → Bool) (f : Finding) : Type 0 where
  pub facts : finding.Facts z a true v rest f
  pub tidy : TidyBefore v.page v.alloc v.generation z.layout.pages

-- the first search goes on to the freeing where it would end with none
pub record LooksFirst (z : Arena) (a : ℕ) (v : View) (rest : ℕ → Bool) (f : Finding) : Type 0 where
  pub facts : finding.Facts z a false v rest f
  pub on : find.refuses f ≡ false

abbrev pub FactsAt : Arena → (a : ℕ) → View → (ℕ → Bool) → Finding → SearchStage → Type 0
FactsAt z a v rest f First = LooksFirst z a v rest f
FactsAt z a v rest f (Free r) = FreesEmptySpans z a v f r
FactsAt z a v rest f Second = LooksAgain z a v rest f

abbrev pub Facts : Arena → (a : ℕ) → View → (ℕ → Bool) → Seeking → Type 0
Facts z a v rest q = FactsAt z a v rest q.find q.stage

-- There is no room.

-- the page is not free, nor in a span that nobody owns and in which no object stands
pub record PageIsTaken (z : Arena) (v : View) (q : ℕ) : Type 0 where
  pub taken : page_of (v.page q) ≢ PageWord.Free
  pub used : (p : ℕ) (h : SpanHead) → IsSpan z.layout.pages v.page p h → p ≤ q → q < p + h.pages → h.owner ≡ 0 → ¬ IsVacant v.alloc p h

-- No span of the span class is cached, each that nobody owns is full, and no run of pages fits, also if those of spans without an owner and an object are counted as free.
pub record FindsNone (z : Arena) (v : View) (f : Finding) : Type 0 where
  pub none : finding.FindsNone z true v f
  pub tidy : TidyBefore v.page v.alloc v.generation z.layout.pages
  pub run : (first : ℕ) → first + (span_for f.wanted).pages ≤ z.layout.pages → (d : ℕ) × (d < (span_for f.wanted).pages) × PageIsTaken z v (first + d)

-- The laws.

-- What a step comes to in w: the right that its seat has then; and the facts of the next stage, or the slot. A search that finds none ends by a step of who runs it.
abbrev pub Comes : Arena → (a : ℕ) → (w : View) → (ℕ → Bool) → Option Found → Seeking → Type 0
Comes z a w rest None q = Has a w rest q × Facts z a w rest q
Comes z a w rest (Some (At x)) q = finding.HasFound z a w rest q.find x
Comes z a w rest (Some NoRoom) q = ⊥

-- begun with what is cached
abbrev pub Opens : Type 0
Opens = (z : Arena) (a : ℕ) (v : View) (rest : ℕ → Bool) (q : Seeking) → finding.Seeks z a v q.find → finding.Caches a v q.find.wanted q.find.cached → ((k : CachedSpan) → q.find.cached ≡ Some k → rest k.head ≡ false) → Right a v false (finding.with_span (finding.cached_head q.find.cached) rest) None →
    q ≡ opening q.find.seat q.find.generation q.find.wanted q.find.cached → Has a v rest q × Facts z a v rest q

-- a step of its own, short of the one that finds no room, where it runs no sweep
abbrev pub OwnStep : Type 0
OwnStep = (z : Arena) (a : ℕ) (s : Shared) (rest : ℕ → Bool) (q : Seeking) → Good z (view s) → Has a (view s) rest q → Facts z a (view s) rest q → refuses q ≡ false → sweep_in q ≡ None →
    Steps z a s (asks z.layout q) (λ t. KeepsObjects (view s) (view t) × Comes z a (view t) rest (gives z.layout q (s.words (cell_of (asks z.layout q)))) (goes z.layout q (s.words (cell_of (asks z.layout q)))))

-- a step of the sweep that it runs
abbrev pub SweepStep : Type 0
SweepStep = (z : Arena) (a : ℕ) (s t : Shared) (rest : ℕ → Bool) (q : Seeking) (sw : Sweeping) → Good z (view s) → Good z (view t) → Has a (view s) rest q → Facts z a (view s) rest q → sweep_in q ≡ Some sw → SweepLeaves (view s) (view t) → t.words ≡ effect s.words (asks z.layout q) →
    KeepsObjects (view s) (view t) × Comes z a (view t) rest (gives z.layout q (s.words (cell_of (asks z.layout q)))) (goes z.layout q (s.words (cell_of (asks z.layout q))))

-- the routine that it runs sweeps for the sweep generation of this heap
abbrev pub SweepsHere : Type 0
SweepsHere = (z : Arena) (a : ℕ) (v : View) (rest : ℕ → Bool) (q : Seeking) → Facts z a v rest q → sweep_generation q ≡ v.generation

-- each is on a word that there is
abbrev pub Within : Type 0
Within = (z : Arena) (a : ℕ) (v : View) (rest : ℕ → Bool) (q : Seeking) → Good z v → Facts z a v rest q → InRange z.layout (cell_of (asks z.layout q))

-- where it finds none there is no room, and it asks for the lock's word to be freed
pub record Refuses (z : Arena) (v : View) (q : Seeking) : Type 0 where
  pub none : FindsNone z v q.find
  pub stage : q.stage ≡ Second
  pub unlocks : q.find.stage ≡ Unlock (End NoRoom)

abbrev pub NoneIsTrue : Type 0
NoneIsTrue = (z : Arena) (a : ℕ) (v : View) (rest : ℕ → Bool) (q : Seeking) → Facts z a v rest q → refuses q ≡ true → Refuses z v q

-- the steps of others
abbrev pub Lasts : Type 0
Lasts = (z : Arena) (a : ℕ) (v w : View) (rest : ℕ → Bool) (q : Seeking) → Good z v → Others z a v w → Has a v rest q → Facts z a v rest q → Facts z a w rest q

pub record SeeksByItsRights : Type 0 where
  pub opens : Opens
  pub own_step : OwnStep
  pub sweep_step : SweepStep
  pub here : SweepsHere
  pub within : Within
  pub none : NoneIsTrue
  pub lasts : Lasts
