-- The page that is looked at stays one of the arena, the sweep that is run stays sound, and each step lies in the heap.
use Rattle.std.proofs.Common.{◌≡◌, ℕ, ◌^◌, ◌<◌, Option, refl, arith}
use Rattle.gh_central.proofs.Vocabulary.{after_sweep, after_wait, FitsPage, IsRoutine, Layout, mod-lt, nat_tests, PackedWordsAreReadBack, page_of, PageWord, Reclaiming, ReclaimStage, Sweep, SweepEnd, Sweeping, Wait}
use Rattle.gh_central.specs.Reclaim.{after_bits, after_page, goes_at, listing}
use Rattle.gh_central.specs.ReclaimSound.{CanBeASpan, IsStage}
use Rattle.gh_sweep.specs.Listing as sweep
use Rattle.gh_sweep.specs.Sound as sweep_sound

page_kept : (l : Layout) (m : Reclaiming) (page : ℕ) (w : PageWord) → m.generation < 2 ^ 34 → page < l.pages → FitsPage w → IsStage l (after_page l m page w)
page_kept l m page w generation here f = grind (arith, nat_tests)

wait_kept : (l : Layout) (m : Reclaiming) (page : ℕ) (w : PageWord) → page < l.pages → FitsPage w → IsStage l (after_wait m page w)
wait_kept l m page w here f = grind (arith, nat_tests)

sweep_kept : (l : Layout) (page pages : ℕ) (sw : Sweeping) (end : Option SweepEnd) → sweep.given sw ≡ end → CanBeASpan l page pages → sweep_sound.Sound l sw → IsStage l (after_sweep page pages sw end)
sweep_kept l page pages sw end e s x = grind arith

bits_kept : (l : Layout) (page pages i found : ℕ) → CanBeASpan l page pages → IsStage l (after_bits l page pages i found)
bits_kept l page pages i found s = grind arith

pub keeps_at : PackedWordsAreReadBack → (l : Layout) → IsRoutine l (sweep.listing l) → (m : Reclaiming) (p : ReclaimStage) (found : ℕ) → m.generation < 2 ^ 34 → found < 2 ^ 64 → IsStage l p → IsStage l (goes_at l m p found)
keeps_at packed l sweeps m (Sweep page pages sw) found generation w h = sweep_kept l page pages (sweep.goes sw found) _ refl h.0 (sweeps.keeps sw found w h.1.sound h.1.busy)
keeps_at packed l sweeps m (Wait page) found generation w h = wait_kept l m page (page_of found) h (packed.page_reads found w)
keeps_at packed l sweeps m p found generation w h = grind (arith, bits_kept, page_kept)

pub is_routine : PackedWordsAreReadBack → (l : Layout) → IsRoutine l (sweep.listing l) → IsRoutine l (listing l)
is_routine packed l sweeps = let fit = l.limits.pages_fit.0 in grind (arith, keeps_at, mod-lt)
