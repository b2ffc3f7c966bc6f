-- What is known while a cached span is searched for a clear slot and any number of processors change the heap; what each step of its own is, that it is on a word that there is, and that what is known lasts whatever others do. The seat holds the span, so no other sets a bit in it.
use Rattle.std.specs.Prelude.{◌≡◌, ℕ, ◌<◌, Bool, true, Option, Some, None}
use Rattle.gh_cache.specs.Vocabulary.{Cached, Look, slot_words_of, slots_of}
use Rattle.gh_base.specs.declared.pack.PageWord.{PageWord}
use Rattle.gh_base.specs.declared.pack.SpanHead.{SpanHead}
use Rattle.gh_base.specs.Cells.{InRange}
use Rattle.gh_base.specs.Packing.{page_of}
use Rattle.gh_base.specs.Rows.{Row, row_bit}
use Rattle.gh_base.specs.Steps.{cell_of}
use Rattle.gh_class.specs.declared.class.SizeClass.TheVariants.{Small}
use Rattle.gh_heap.specs.Moves.{KeepsObjects, Others, Steps}
use Rattle.gh_heap.specs.Rights.{Arena, Claims, Good, Right, Shared, View, view}
use Rattle.gh_heap.specs.Spans.{IsFull, Laying}
use Rattle.gh_cache.specs.Listing.{Searching, asks, given, goes, slot_at}

-- the seat holds the span, which begins at its head page and is of its class and noscan or not
pub record SpanIsHeld (a : ℕ) (v : View) (span : Cached) (noscan : Bool) : Type 0 where
  pub h : SpanHead
  pub head : page_of (v.page span.head) ≡ PageWord.Head h
  pub class : h.class ≡ Small span.class
  pub noscan_is : h.noscan ≡ noscan
  pub held : v.holds a span.head ≡ true

-- the slots before the cursor are taken
abbrev pub TakenBelow : (alloc : Row) → Cached → Type 0
TakenBelow alloc span = (j : ℕ) → j < span.cursor → row_bit alloc (slot_at span j) ≡ 1

pub record Facts (z : Arena) (a : ℕ) (v : View) (noscan : Bool) (s : Searching) : Type 0 where
  pub span : SpanIsHeld a v s.span noscan
  pub stage : s.stage ≡ Look
  pub cursor : s.span.cursor < slots_of s.span.class
  pub taken : TakenBelow v.alloc s.span

-- a clear slot of it: the seat may have it, and those before it are taken
pub record Finds (z : Arena) (a : ℕ) (v : View) (noscan : Bool) (span : Cached) (slot : ℕ) : Type 0 where
  pub claim : Claims z v a (slot_at span slot) (slot_words_of span.class)
  pub class : claim.h.class ≡ Small span.class
  pub noscan_is : claim.h.noscan ≡ noscan
  pub span_held : SpanIsHeld a v span noscan
  pub here : slot ≡ span.cursor
  pub below : span.cursor < slots_of span.class
  pub taken : TakenBelow v.alloc span

-- all its slots are taken
pub record AllSlotsAreTaken (a : ℕ) (v : View) (noscan : Bool) (span : Cached) : Type 0 where
  pub span_held : SpanIsHeld a v span noscan
  pub full : IsFull v.alloc span.head span_held.h

-- What a step comes to in w: the facts of the next stage, or of the end.
abbrev pub Comes : Arena → (a : ℕ) → (w : View) → (noscan : Bool) → Option (Option ℕ) → Searching → Type 0
Comes z a w noscan None s = Facts z a w noscan s
Comes z a w noscan (Some None) s = AllSlotsAreTaken a w noscan s.span
Comes z a w noscan (Some (Some slot)) s = Finds z a w noscan s.span slot

-- a step of its own; it needs no lock
abbrev pub OwnStep : Type 0
OwnStep = (z : Arena) (a : ℕ) (s : Shared) (l : Bool) (held : ℕ → Bool) (y : Option Laying) (noscan : Bool) (m : Searching) → Good z (view s) → Right a (view s) l held y → Facts z a (view s) noscan m →
    Steps z a s (asks z.layout m) (λ t. KeepsObjects (view s) (view t) × Right a (view t) l held y × Comes z a (view t) noscan (given (goes m (s.words (cell_of (asks z.layout m))))) (goes m (s.words (cell_of (asks z.layout m)))))

-- it is on a word that there is
abbrev pub Within : Type 0
Within = (z : Arena) (a : ℕ) (v : View) (noscan : Bool) (m : Searching) → Facts z a v noscan m → InRange z.layout (cell_of (asks z.layout m))

-- the steps of others
abbrev pub Lasts : Type 0
Lasts = (z : Arena) (a : ℕ) (v w : View) (noscan : Bool) (m : Searching) → Good z v → Others z a v w → Facts z a v noscan m → Facts z a w noscan m

pub record SearchesByItsRights : Type 0 where
  pub own_step : OwnStep
  pub within : Within
  pub lasts : Lasts
