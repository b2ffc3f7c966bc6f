-- Each step of the writing of a pointer leaves fewer steps, by its stages.
use Rattle.std.proofs.Common.{◌≡◌, ℕ, ◌+◌, ◌≤◌, true, Option, None, arith}
use Rattle.gh_barrier.proofs.Vocabulary.{after_new, after_old, goes_at, is_busy, Layout, Shaded, shades_old, WriteStage, Writing}
use Rattle.gh_shade.specs.declared.shade.ShadeStage.{ShadeStage}
use Rattle.gh_shade.specs.Listing as shade
use Rattle.gh_barrier.specs.Ending.{shade_left, write_left, WritingEnds}

some-left : (q : ShadeStage) → 1 ≤ shade_left q
some-left q = grind arith

-- unless it has ended then
shade-fewer : (sh : shade.Shading) (q : ShadeStage) (found : ℕ) → shade.given (shade.goes_at sh q found) ≡ None → shade_left (shade.goes_at sh q found).stage + 1 ≤ shade_left q
shade-fewer sh q found e = grind arith

old-left : (w : Writing) (old : Option ℕ) → write_left (shades_old w old).stage ≤ 7
old-left w old = grind arith

-- a step of shading leaves it with fewer, or it is behind it
after-old-left : (w : Writing) (sh : shade.Shading) (few : ℕ) (out : Option Shaded) → 1 ≤ few → (out ≡ None → shade_left sh.stage + 1 ≤ few) → write_left (after_old w sh out).stage + 1 ≤ few + 4
after-old-left w sh few out some less = grind arith

after-new-left : (w : Writing) (sh : shade.Shading) (few : ℕ) (out : Option Shaded) → 1 ≤ few → (out ≡ None → shade_left sh.stage + 1 ≤ few) → write_left (after_new w sh out).stage + 1 ≤ few + 1
after-new-left w sh few out some less = grind arith

some-at : (q : WriteStage) → is_busy q ≡ true → 1 ≤ write_left q
some-at q e = grind arith

fewer-at : (l : Layout) (w : Writing) (q : WriteStage) (found : ℕ) → is_busy q ≡ true → write_left (goes_at l w q found).stage + 1 ≤ write_left q
fewer-at l w q found e = grind (arith, after-new-left, after-old-left, old-left, shade-fewer, some-left)

pub writing-ends : WritingEnds
writing-ends = grind (arith, fewer-at, some-at)
