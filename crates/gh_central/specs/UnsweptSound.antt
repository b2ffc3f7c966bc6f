-- What the pass for an unswept span knows of its own numbers, whatever it is told.
use Rattle.std.specs.Prelude.{◌^◌, ◌<◌}
use Rattle.gh_central.specs.Vocabulary.{CLASSES, FitsHead, Layout, Runs, seats_of, Take, UnsweptPass, UnsweptStage}
use Rattle.gh_sweep.specs.Listing as sweep
use Rattle.gh_sweep.specs.Sound.{FitsSweep}
use Rattle.gh_central.specs.declared.unswept.UnsweptStage.TheVariants.{Look, Sweep, Ended}

-- the page is one of the arena, and the head fits its word; the sweep that it runs is sound, and asks for a step
abbrev pub IsStage : Layout → UnsweptStage → Type 0
IsStage l (Look page) = page < l.pages
IsStage l (Sweep page h sw) = (page < l.pages) × FitsSweep h × Runs (sweep.listing l) sw
IsStage l (Take page h) = (page < l.pages) × FitsHead h
IsStage l (Ended taken) = Unit {0}

pub record Sound (l : Layout) (m : UnsweptPass) : Type 0 where
  pub seat : m.seat < seats_of l
  pub generation : m.generation < 2 ^ 34
  pub class : m.wanted.class < CLASSES
  pub stage : IsStage l m.stage
