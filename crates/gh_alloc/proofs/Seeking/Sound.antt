-- The search where a collector runs keeps its numbers in their limits, and each of its steps lies in the heap: by its stages.
use Rattle.std.proofs.Common.{◌≡◌, ℕ, ◌^◌, ◌<◌, Bool, cond, Option, refl, arith}
use Rattle.gh_alloc.proofs.Vocabulary.{after_free, Finding, First, Free, frees_at, goes_at, IsBusy, IsRoutine, Layout, listing, Reclaiming, reclaiming, SearchStage, Second}
use Rattle.gh_central.specs.Reclaim as reclaim
use Rattle.gh_alloc.specs.Find as find
use Rattle.gh_alloc.specs.FindSound as find_sound
use Rattle.gh_alloc.specs.SearchSound.{IsStage, Sound}
use Rattle.gh_alloc.proofs.Finding.Sound.{PagesAreFew, spans_open}

module _ (l : Layout) (f : Finding) (x : find_sound.Sound l f) where
  first_kept : (b : Bool) → Sound l (record { find = f; stage = cond b (Free (reclaiming f)) First })
  first_kept b = let fit = l.limits.pages_fit.0 in grind arith

  second_kept : (b : Bool) → Sound l (record { find = f; stage = cond b First Second })
  second_kept b = grind arith

  free_kept : PagesAreFew → (r : Reclaiming) (out : Option (Unit {0})) → reclaim.given r ≡ out → (reclaim.listing l).sound r → Sound l (after_free f r out)
  free_kept pages r out e z = let spans = spans_open pages l f x f.wanted refl x.wanted in grind arith

module _ (pages : PagesAreFew) (l : Layout) (finds : IsRoutine l (find.listing l)) (reclaims : IsRoutine l (reclaim.listing l)) where
  keeps_at : (f : Finding) (p : SearchStage) (found : ℕ) → find_sound.Sound l f → found < 2 ^ 64 → IsStage l p → IsBusy (listing l) (record { find = f; stage = p }) → Sound l (goes_at l f p found)
  keeps_at f First found x w y busy = first_kept l (find.goes l f found) (finds.keeps f found w x busy) (find.finds_none (find.goes l f found))
  keeps_at f (Free r) found x w y busy = free_kept l f x pages (reclaim.goes l r found) _ refl (reclaims.keeps r found w y.sound y.busy)
  keeps_at f Second found x w y busy = second_kept l (find.goes l f found) (finds.keeps f found w x busy) (frees_at f.stage)

  pub is_routine : IsRoutine l (listing l)
  is_routine = grind (arith, keeps_at)
