-- What is known at each stage of the freeing of empty spans while any number of processors change the heap and sweep spans, under which rights, and the laws: what each step of its own is, that it is on a word that there is, that what is known lasts whatever others do, and that each span that nobody owns is swept and has an object when it ends.
use Rattle.std.specs.Prelude.{◌≡◌, ℕ, ◌+◌, ◌*◌, ◌<◌, ◌≤◌, Bool, true, Option, Some, None}
use Rattle.gh_central.specs.Vocabulary.{Arena, BeingFreed, Bits, Body, cell_of, effect, Ended, FitsHead, freed_yet, Freeing, Good, InRange, is_busy, IsEmpty, KeepsObjects, Layout, Leaves, Look, Others, page_of, PageWord, ReclaimStage, Right, Rights, Row, row_bit, Shared, SpanHead, Steps, Sweep, Sweeping, TidyBefore, View, view, Wait}
use Rattle.gh_central.specs.declared.reclaim.ReclaimStage.TheVariants.{Head}
use Rattle.gh_central.specs.Owning.{FreesPage}
use Rattle.gh_central.specs.Reclaim.{Reclaiming, asks, given, goes, sweep_in}
use Rattle.gh_central.specs.Sweeping.{SweepLeaves}

-- The right that a stage stands for, beside the lock.

-- a span whose further pages below this distance are free
abbrev pub freed_to : (page count distance : ℕ) → Freeing
freed_to page count distance = record { first = page; pages = count; next = distance }

abbrev pub freeing_at : ReclaimStage → Option Freeing
freeing_at (Body page pages distance) = freed_yet (freed_to page pages distance)
freeing_at (Head page pages) = freed_yet (freed_to page pages pages)
freeing_at _ = None

abbrev pub freeing : Reclaiming → Option Freeing
freeing m = freeing_at m.stage

-- The facts.

-- the routine is run in this sweep generation
abbrev pub Reclaims : View → Reclaiming → Type 0
Reclaims v m = m.generation ≡ v.generation

pub record LooksAt (z : Arena) (v : View) (p : ℕ) : Type 0 where
  pub there : p < z.layout.pages
  pub tidy : TidyBefore v.page v.alloc v.generation p

-- a span that nobody owns begins at page p: so it was found, and only its number may have changed since
pub record IsUnowned (page_words : Row) (p : ℕ) : Type 0 where
  pub h : SpanHead
  pub head : page_of (page_words p) ≡ PageWord.Head h
  pub owner : h.owner ≡ 0

pub record WaitsFor (z : Arena) (v : View) (p : ℕ) : Type 0 where
  pub there : p < z.layout.pages
  pub tidy : TidyBefore v.page v.alloc v.generation p
  pub unowned : IsUnowned v.page p

-- that span is swept, which had so many pages by its head
pub record SweepsIt (z : Arena) (v : View) (p count : ℕ) (sw : Sweeping) : Type 0 where
  pub waits : WaitsFor z v p
  pub page_is : sw.page ≡ p
  pub size : sw.head.pages ≡ count
  pub fits : FitsHead sw.head
  pub number : sw.head.number + 2 ≡ v.generation
  pub busy : is_busy sw.stage ≡ true

-- a swept span of so many pages that nobody owns begins at page p
pub record IsIdleSpan (page_words : Row) (generation p count : ℕ) : Type 0 where
  pub h : SpanHead
  pub head : page_of (page_words p) ≡ PageWord.Head h
  pub owner : h.owner ≡ 0
  pub size : h.pages ≡ count
  pub number : h.number ≡ generation

-- no object stands in the span before alloc word i of it
abbrev pub ClearBelow : (alloc : Row) → (p i : ℕ) → Type 0
ClearBelow alloc p i = (x : ℕ) → 1024 * p ≤ x → x < 1024 * p + 64 * i → row_bit alloc x ≡ 0

pub record LooksInto (v : View) (p count i : ℕ) : Type 0 where
  pub idle : IsIdleSpan v.page v.generation p count
  pub tidy : TidyBefore v.page v.alloc v.generation p
  pub within : i < 16 * count
  pub clear : ClearBelow v.alloc p i

-- a span that nobody owns begins at page p, and no object stands in it
pub record IsReadyToFree (v : View) (p count : ℕ) : Type 0 where
  pub being : BeingFreed v.page (freed_to p count 1)
  pub swept : being.h.number ≡ v.generation
  pub empty : IsEmpty v.alloc p count

-- The page at this distance is freed next. Once a further page is free, the right says what stands.
pub record FreesFrom (z : Arena) (v : View) (p count distance : ℕ) : Type 0 where
  pub tidy : TidyBefore v.page v.alloc v.generation p
  pub there : p + count ≤ z.layout.pages
  pub some : 0 < distance
  pub few : distance ≤ count
  pub vacant : distance ≡ 1 → IsReadyToFree v p count

abbrev pub FactsAt : Arena → View → ReclaimStage → Type 0
FactsAt z v (Look p) = LooksAt z v p
FactsAt z v (Sweep p count sw) = SweepsIt z v p count sw
FactsAt z v (Wait p) = WaitsFor z v p
FactsAt z v (Bits p count i) = LooksInto v p count i
FactsAt z v (Body p count distance) = FreesFrom z v p count distance × (distance < count)
FactsAt z v (Head p count) = FreesFrom z v p count count
FactsAt z v Ended = ⊥

pub record Facts (z : Arena) (v : View) (m : Reclaiming) : Type 0 where
  pub whose : Reclaims v m
  pub stage : FactsAt z v m.stage

-- What a step from v comes to in w, where the seat holds those spans: what it leaves to who runs the routine; the right that its seat has then; and the facts of the next stage, or that in each span which nobody owns an object stands.
abbrev pub Comes : Arena → (a : ℕ) → (v w : View) → (ℕ → Bool) → Option (Unit {0}) → Reclaiming → Type 0
Comes z a v w held None m = Leaves v w × Rights a w true held None (freeing m) × Facts z w m
Comes z a v w held (Some _) m = Leaves v w × Right a w true held None × TidyBefore w.page w.alloc w.generation z.layout.pages

abbrev pub Opens : Type 0
Opens = (z : Arena) (v : View) (m : Reclaiming) → Reclaims v m → m.stage ≡ Look 0 → Facts z v m

-- a step of its own, where it runs no sweep
abbrev pub OwnStep : Type 0
OwnStep = (z : Arena) (a : ℕ) (s : Shared) (held : ℕ → Bool) (m : Reclaiming) → Good z (view s) → Rights a (view s) true held None (freeing m) → Facts z (view s) m → sweep_in m ≡ None →
    Steps z a s (asks z.layout m) (λ t. KeepsObjects (view s) (view t) × Comes z a (view s) (view t) held (given (goes z.layout m (s.words (cell_of (asks z.layout m))))) (goes z.layout m (s.words (cell_of (asks z.layout m)))))

-- a step of the sweep that it runs
abbrev pub SweepStep : Type 0
SweepStep = (z : Arena) (a : ℕ) (s t : Shared) (held : ℕ → Bool) (m : Reclaiming) (sw : Sweeping) → Good z (view s) → Rights a (view s) true held None (freeing m) → Facts z (view s) m → sweep_in m ≡ Some sw → SweepLeaves (view s) (view t) → t.words ≡ effect s.words (asks z.layout m) →
    KeepsObjects (view s) (view t) × Comes z a (view s) (view t) held (given (goes z.layout m (s.words (cell_of (asks z.layout m))))) (goes z.layout m (s.words (cell_of (asks z.layout m))))

-- it is on a word that there is
abbrev pub Within : Type 0
Within = (z : Arena) (v : View) (m : Reclaiming) → Good z v → Facts z v m → InRange z.layout (cell_of (asks z.layout m))

-- where it runs no sweep, what it writes makes a page free
abbrev pub FreesPages : Type 0
FreesPages = (l : Layout) (m : Reclaiming) → sweep_in m ≡ None → FreesPage (asks l m)

-- the steps of others
abbrev pub Lasts : Type 0
Lasts = (z : Arena) (a : ℕ) (v w : View) (held : ℕ → Bool) (m : Reclaiming) → Good z v → Others z a v w → Rights a v true held None (freeing m) → Facts z v m → Facts z w m

pub record ReclaimsByItsRights : Type 0 where
  pub opens : Opens
  pub own_step : OwnStep
  pub sweep_step : SweepStep
  pub within : Within
  pub frees : FreesPages
  pub lasts : Lasts
