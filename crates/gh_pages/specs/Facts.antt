-- What is known at each stage of the search for fresh pages while any number of processors change the heap, under which rights, and the laws: what each step of its own is, that it is on a word that there is, and that what is known lasts whatever others do.
use Rattle.std.specs.Prelude.{◌≡◌, ◌≢◌, ℕ, ◌+◌, ◌-◌, ◌<◌, ◌≤◌, Bool, true, false, Option, Some, None}
use Rattle.gh_pages.specs.Vocabulary.{Ask, Body, CarveStage, Ended, FitsHead, Head, InRange, Load, Look, Page, page_of, PageWord, Span, Store}
use Rattle.gh_base.specs.Rows.{Row}
use Rattle.gh_base.specs.Steps.{cell_of}
use Rattle.gh_heap.specs.Moves.{KeepsObjects, Leaves, Others, Steps, laid_so_far, update}
use Rattle.gh_heap.specs.Rights.{Arena, Good, Right, Shared, View, view}
use Rattle.gh_heap.specs.Spans.{FitsClass, IsEmpty, IsSpan, LaidOut, Laying}
use Rattle.gh_pages.specs.Listing.{Carving, asks, fresh_head, given, goes}

-- the span from page `first` on, of whose further pages those below this distance are written
abbrev pub fresh_from : Carving → (first next : ℕ) → Laying
fresh_from c first next = record { first = first; head = fresh_head c; next = next }

-- The right that a stage stands for, beside the lock: what is being laid out.
abbrev pub laying_at : Carving → CarveStage → Option Laying
laying_at c (Body first distance) = laid_so_far (fresh_from c first distance)
laying_at c (Head first) = laid_so_far (fresh_from c first c.span.pages)
laying_at c _ = None

abbrev pub laying : Carving → Option Laying
laying c = laying_at c c.stage

-- the routine is this seat's, in this arena, and the head that it will write fits
pub record Carves (z : Arena) (a : ℕ) (v : View) (c : Carving) : Type 0 where
  pub seat : c.seat ≡ a
  pub number : c.generation ≡ v.generation
  pub class : FitsClass (fresh_head c)
  pub word : FitsHead (fresh_head c)

-- so many free pages stand right before page p
pub record FreeBefore (page_words : Row) (p run : ℕ) : Type 0 where
  pub fits : run ≤ p
  pub free : (q : ℕ) → p < q + run + 1 → q < p → page_of (page_words q) ≡ PageWord.Free

-- no run of so many free pages lies before page p
abbrev pub NoRun : (page_words : Row) → (need p : ℕ) → Type 0
NoRun page_words need p = (first : ℕ) → first + need ≤ p → (d : ℕ) × (d < need) × (page_of (page_words (first + d)) ≢ PageWord.Free)

-- and the run right before it is no longer than this
pub record NoRunBefore (page_words : Row) (need p run : ℕ) : Type 0 where
  pub none : NoRun page_words need p
  pub ends : run < p → page_of (page_words (p - run - 1)) ≢ PageWord.Free

-- a look at page p
pub record Looks (z : Arena) (page_words : Row) (need p run : ℕ) : Type 0 where
  pub there : p < z.layout.pages
  pub few : run < need
  pub before : FreeBefore page_words p run
  pub no_run : NoRunBefore page_words need p run

abbrev pub FactsAt : Arena → Carving → Row → CarveStage → Type 0
FactsAt z c page_words (Look p run) = Looks z page_words c.span.pages p run
FactsAt z c page_words (Body first distance) = LaidOut z.layout.pages page_words (fresh_from c first distance) × (distance < c.span.pages)
FactsAt z c page_words (Head first) = LaidOut z.layout.pages page_words (fresh_from c first c.span.pages)
FactsAt z c page_words (Ended taken) = ⊥

pub record Facts (z : Arena) (a : ℕ) (v : View) (c : Carving) : Type 0 where
  pub whose : Carves z a v c
  pub stage : FactsAt z c v.page c.stage

-- a fresh span stands at page `first`, held by who laid it out
pub record SpanIsFresh (z : Arena) (v : View) (c : Carving) (first : ℕ) : Type 0 where
  pub span : IsSpan z.layout.pages v.page first (fresh_head c)
  pub empty : IsEmpty v.alloc first c.span.pages

-- What a step from v comes to in w, where the seat held those spans: what it leaves to who runs the routine; the right that its seat has then; and the facts of the next stage, or of the end. The fresh span is not one that it held.
abbrev pub Comes : Arena → (a : ℕ) → (v w : View) → (ℕ → Bool) → Option (Option ℕ) → Carving → Type 0
Comes z a v w held None c = Leaves v w × Right a w true held (laying c) × Facts z a w c
Comes z a v w held (Some None) c = Leaves v w × Right a w true held None × NoRun w.page c.span.pages z.layout.pages
Comes z a v w held (Some (Some first)) c = Leaves v w × Right a w true (update held first true) None × SpanIsFresh z w c first × (held first ≡ false)

abbrev pub Opens : Type 0
Opens = (z : Arena) (a : ℕ) (v : View) (c : Carving) → Carves z a v c → c.stage ≡ Look 0 0 → Facts z a v c

-- a step of its own
abbrev pub OwnStep : Type 0
OwnStep = (z : Arena) (a : ℕ) (s : Shared) (held : ℕ → Bool) (c : Carving) → Good z (view s) → Right a (view s) true held (laying c) → Facts z a (view s) c →
    Steps z a s (asks c) (λ t. KeepsObjects (view s) (view t) × Comes z a (view s) (view t) held (given (goes z.layout c (s.words (cell_of (asks c))))) (goes z.layout c (s.words (cell_of (asks c)))))

-- it is on a word that there is
abbrev pub Within : Type 0
Within = (z : Arena) (a : ℕ) (v : View) (c : Carving) → Facts z a v c → InRange z.layout (cell_of (asks c))

-- what it writes is a page word of the span: of its first page, or of one further on
abbrev pub IsPageOf : Span → PageWord → Type 0
IsPageOf span PageWord.Free = ⊥
IsPageOf span (PageWord.Head h) = (h.class ≡ span.class) × (h.noscan ≡ span.noscan) × (h.pages ≡ span.pages)
IsPageOf span (PageWord.Body b) = (b.class ≡ span.class) × (b.noscan ≡ span.noscan) × (0 < b.distance) × (b.distance < span.pages)

abbrev pub LaysPage : Span → Ask → Type 0
LaysPage span (Load c) = Unit {0}
LaysPage span (Store (Page p) word) = IsPageOf span (page_of word)
LaysPage span _ = ⊥

abbrev pub LaysPages : Type 0
LaysPages = (z : Arena) (a : ℕ) (v : View) (c : Carving) → Facts z a v c → LaysPage c.span (asks c)

-- the steps of others
abbrev pub Lasts : Type 0
Lasts = (z : Arena) (a : ℕ) (v w : View) (c : Carving) → Others z a v w → v.locked a ≡ true → Facts z a v c → Facts z a w c

pub record CarvesByItsRights : Type 0 where
  pub opens : Opens
  pub own_step : OwnStep
  pub within : Within
  pub lays : LaysPages
  pub lasts : Lasts
