-- The page that the pass for an unswept span is at stays one of the arena, the sweep that it runs stays sound, and each step lies in the heap.
use Rattle.std.proofs.Common.{◌≡◌, ℕ, ◌^◌, ◌<◌, Option, refl, arith}
use Rattle.gh_central.proofs.Vocabulary.{FitsPage, IsRoutine, Layout, nat_tests, PackedWordsAreReadBack, PageWord, SpanHead, SweepEnd, Sweeping, Unswept, UnsweptStage}
use Rattle.gh_central.specs.declared.unswept.UnsweptStage.TheVariants.{Sweep}
use Rattle.gh_central.specs.UnsweptPass.{after_page, after_sweep, goes_at, listing}
use Rattle.gh_central.specs.UnsweptSound.{IsStage}
use Rattle.gh_sweep.specs.Listing as sweep
use Rattle.gh_sweep.specs.Sound.{FitsSweep}
use Rattle.gh_sweep.specs.Sound as sweep_sound

page_kept : (l : Layout) (m : Unswept) (page : ℕ) (w : PageWord) → m.generation < 2 ^ 34 → page < l.pages → FitsPage w → IsStage l (after_page l m page w)
page_kept l m page w generation here f = grind (arith, nat_tests)

sweep_kept : (l : Layout) (page : ℕ) (h : SpanHead) (sw : Sweeping) (end : Option SweepEnd) → sweep.given sw ≡ end → page < l.pages → FitsSweep h → sweep_sound.Sound l sw → IsStage l (after_sweep l page h sw end)
sweep_kept l page h sw end e here f x = grind arith

pub keeps_at : PackedWordsAreReadBack → (l : Layout) → IsRoutine l (sweep.listing l) → (m : Unswept) (p : UnsweptStage) (found : ℕ) → m.generation < 2 ^ 34 → found < 2 ^ 64 → IsStage l p → IsStage l (goes_at l m p found)
keeps_at packed l sweeps m (Sweep page h sw) found generation w x = sweep_kept l page h (sweep.goes sw found) _ refl x.0 x.1 (sweeps.keeps sw found w x.2.sound x.2.busy)
keeps_at packed l sweeps m p found generation w x = grind (arith, page_kept)

pub is_routine : PackedWordsAreReadBack → (l : Layout) → IsRoutine l (sweep.listing l) → IsRoutine l (listing l)
is_routine packed l sweeps = grind (arith, keeps_at)
