-- What the routine knows of its own numbers, whatever it is told.
use Rattle.std.specs.Prelude.{◌+◌, ◌^◌, ◌<◌, ◌≤◌, Some, None}
use Rattle.gh_pages.specs.Vocabulary.{Body, Carve, CarveStage, Ended, Head, Layout, Look, seats_of, Span}
use Rattle.gh_class.specs.Classes.{IsSizeClass}
use Rattle.gh_class.specs.declared.class.TheConstants.{MOST_SPAN_PAGES}

-- a span of a class there is, of 1 to MOST_SPAN_PAGES pages
pub record FitsSpan (span : Span) : Type 0 where
  pub class : IsSizeClass span.class
  pub some : 1 ≤ span.pages
  pub few : span.pages ≤ MOST_SPAN_PAGES

-- the pages that a stage speaks of are pages of the arena, those of the span that it took too
abbrev pub IsStage : Layout → Span → CarveStage → Type 0
IsStage l span (Look page run) = (page < l.pages) × (run ≤ page) × (run < span.pages)
IsStage l span (Body first distance) = (first + span.pages ≤ l.pages) × (1 ≤ distance) × (distance < span.pages)
IsStage l span (Head first) = first + span.pages ≤ l.pages
IsStage l span (Ended None) = Unit {0}
IsStage l span (Ended (Some first)) = first + span.pages ≤ l.pages

pub record Sound (l : Layout) (c : Carve) : Type 0 where
  pub seat : c.seat < seats_of l
  pub generation : c.generation < 2 ^ 34
  pub span : FitsSpan c.span
  pub stage : IsStage l c.span c.stage
