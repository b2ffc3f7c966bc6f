-- Which spans there are and how many of them one seat owns, in every legal list of steps of all actors: over the page words.
use Rattle.std.specs.Prelude.{◌≡◌, ◌≢◌, ℕ, ◌+◌, ◌<◌, ◌⊎◌, List, length}
use Rattle.gh_marked.specs.Vocabulary.{Cell, Layout, page_of, Shape, sought_for, Words}
use Rattle.gh_base.specs.declared.pack.PageWord.{PageWord}
use Rattle.gh_base.specs.declared.pack.PageWord.TheVariants.{Body, Free, Head}
use Rattle.gh_base.specs.declared.pack.SpanBody.{SpanBody}
use Rattle.gh_base.specs.declared.pack.SpanHead.{SpanHead}
use Rattle.gh_base.specs.Shapes.{shape_at}
use Rattle.gh_alloc.specs.Find.{span_for}

-- the head of a span for objects of this shape: it is of their span class, and has as many pages as such a span
pub record IsHeadFor (s : Shape) (h : SpanHead) : Type 0 where
  pub class : h.class ≡ (span_for (sought_for s)).class
  pub noscan : h.noscan ≡ (span_for (sought_for s)).noscan
  pub pages : h.pages ≡ (span_for (sought_for s)).pages

-- a further page of such a span
pub record IsBodyFor (s : Shape) (b : SpanBody) : Type 0 where
  pub class : b.class ≡ (span_for (sought_for s)).class
  pub noscan : b.noscan ≡ (span_for (sought_for s)).noscan
  pub distance : (0 < b.distance) × (b.distance < (span_for (sought_for s)).pages)

-- a page of such a span, by what its word says
abbrev pub IsPageFor : Shape → PageWord → Type 0
IsPageFor s Free = ⊥
IsPageFor s (Head h) = IsHeadFor s h
IsPageFor s (Body b) = IsBodyFor s b

-- the page is free, or one of a span for objects of one of these types
abbrev pub IsForTypes : List Shape → PageWord → Type 0
IsForTypes shapes page = (page ≡ Free) ⊎ ((t : ℕ) × (t < length shapes) × IsPageFor (shape_at shapes t) page)

-- So is each page.
abbrev pub PagesAreForTypes : List Shape → Words → Type 0
PagesAreForTypes shapes words = (p : ℕ) → IsForTypes shapes (page_of (words (Cell.Page p)))

-- Who owns a span is a processor.
abbrev pub OwnersAreProcessors : Layout → Words → Type 0
OwnersAreProcessors l words = (p : ℕ) (h : SpanHead) → page_of (words (Cell.Page p)) ≡ Head h → h.owner ≢ 0 → (a : ℕ) × (a < l.procs) × (h.owner ≡ a + 1)

-- It owns no two spans of one span class.
abbrev pub OwnsOneOfEach : Words → Type 0
OwnsOneOfEach words = (p q : ℕ) (h k : SpanHead) → page_of (words (Cell.Page p)) ≡ Head h → page_of (words (Cell.Page q)) ≡ Head k → h.owner ≢ 0 → h.owner ≡ k.owner → h.class ≡ k.class → h.noscan ≡ k.noscan → p ≡ q

pub record SpansStand (shapes : List Shape) (l : Layout) (words : Words) : Type 0 where
  pub types : PagesAreForTypes shapes words
  pub owners : OwnersAreProcessors l words
  pub owned : OwnsOneOfEach words
