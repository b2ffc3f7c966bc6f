-- The slot that the search ends with lies in the arena.
use Rattle.std.specs.Prelude.{ℕ, ◌+◌, ◌*◌, ◌≤◌}
use Rattle.gh_alloc.specs.Vocabulary.{At, Found, Large, Layout, NoRoom, pages_of, SizeClass, slot_for, Small, Sought}
use Rattle.gh_pages.specs.declared.carve.Span.{Span}

-- what a fresh span is cut for
abbrev pub span_for : Sought → Span
span_for (Small c) = record { class = SizeClass.Small c.class; noscan = c.noscan; pages = pages_of c.class }
span_for (Large pages noscan) = record { class = SizeClass.Large; noscan = noscan; pages = pages }

-- the words of the slot that is looked for
abbrev pub words_sought : Sought → ℕ
words_sought w = slot_for (span_for w).class (span_for w).pages

-- the slot that was found lies in the arena
abbrev pub LiesWithin : Layout → Sought → Found → Type 0
LiesWithin l w (At a) = a + words_sought w ≤ 1024 * l.pages
LiesWithin l w NoRoom = Unit {0}
