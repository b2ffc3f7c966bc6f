-- What the routine knows of its own numbers, whatever it is told.
use Rattle.std.specs.Prelude.{◌+◌, ◌<◌, ◌≤◌}
use Rattle.gh_cache.specs.Vocabulary.{Cached, Ended, Layout, Look, NextSlot, pages_of, slots_of, SlotStage}
use Rattle.gh_class.specs.declared.class.TheConstants.{CLASSES}

-- a span of a size class, in the arena
pub record FitsArena (l : Layout) (span : Cached) : Type 0 where
  pub class : span.class < CLASSES
  pub pages : span.head + pages_of span.class ≤ l.pages

-- it looks at a slot that there is
abbrev pub IsStage : Cached → SlotStage → Type 0
IsStage span Look = span.cursor < slots_of span.class
IsStage span (Ended slot) = span.cursor ≤ slots_of span.class

pub record Sound (l : Layout) (s : NextSlot) : Type 0 where
  pub span : FitsArena l s.span
  pub few : s.span.cursor ≤ 1024
  pub stage : IsStage s.span s.stage
