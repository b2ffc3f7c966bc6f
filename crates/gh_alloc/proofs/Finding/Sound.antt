-- The search keeps its numbers in their limits, and each of its steps lies in the heap: by its stages. Of the routines that it runs it is known that they are routines.
use Rattle.std.proofs.Common.{IfSome, ◌≡◌, ℕ, ◌+◌, ◌*◌, ◌^◌, ◌<◌, ◌≤◌, Bool, true, cond, eqb, Option, refl, ap, ◌∙◌, arith}
use Rattle.gh_alloc.proofs.Vocabulary.{after_carve, after_give, after_pass, after_slots, after_unswept, Again, At, at_stage, begin, behind_for, CachedSpan, Carve, End, Ended, Finding, FindStage, first_page, Give, IsRoutine, IsSearched, IsSought, IsStage, Layout, LiesWithin, Lock, locked_for, move_cursor, nat_tests, pages_of, Pass, searched, SizeClass, slot_of, Slots, slots_of, Small, Sought, Sound, span_for, spans_for, Unlock, Unswept, word_at_cursor}
use Rattle.gh_cache.specs.Listing as slots
use Rattle.gh_cache.specs.Sound as slots_sound
use Rattle.gh_central.specs.GiveBack as give
use Rattle.gh_central.specs.SweptPass as pass
use Rattle.gh_central.specs.UnsweptPass as unswept
use Rattle.gh_pages.specs.Listing as carve
use Rattle.gh_pages.specs.Sound as carve_sound
use Rattle.gh_alloc.specs.Find.{goes_at, listing}
use Rattle.gh_alloc.specs.FindSound.{IsCached}
use Rattle.gh_alloc.proofs.Finding.Within.{slot_fits_heap}

-- a span of each size class has pages, and few
pub record PagesAreFew : Type 0 where
  pub some : (c : ℕ) → c < 25 → 1 ≤ pages_of c
  pub few : (c : ℕ) → c < 25 → pages_of c ≤ 4

pub record Known : Type 0 where
  pub slots : (l : Layout) → IsRoutine l (slots.listing l)
  pub give : (l : Layout) → IsRoutine l (give.listing l)
  pub pass : (l : Layout) → IsRoutine l (pass.listing l)
  pub unswept : (l : Layout) → IsRoutine l (unswept.listing l)
  pub carve : (l : Layout) → IsRoutine l (carve.listing l)
  pub pages : PagesAreFew
  pub few_slots : (c : ℕ) → c < 25 → slots_of c ≤ 1024
  pub fit : (c : ℕ) → c < 25 → slots_of c * slot_of c ≤ 8192 * pages_of c

-- the cached span stays one, with the cursor of its search
same_class : (s : slots.Searching) (found : ℕ) → (slots.goes s found).span.class ≡ s.span.class
same_class s found = grind arith

cached_kept : (l : Layout) (w : Sought) (cached : Option CachedSpan) (s : slots.Searching) → slots_sound.Sound l s → SizeClass.Small s.span.class ≡ (span_for w).class → IsCached l w cached → IsCached l w (move_cursor s.span.cursor cached)
cached_kept l w cached s x same within = grind arith

-- and it is the one that is searched
searched_kept : (cached : Option CachedSpan) (s : slots.Searching) (found : ℕ) → IsSearched cached (Slots s) → IsSearched (move_cursor (slots.goes s found).span.cursor cached) (Slots (slots.goes s found))
searched_kept cached s found tied = grind arith

begins_searched : (w : Sought) (c : Option CachedSpan) → IsSearched c (begin w c)
begins_searched w c = grind arith

first_fits : (l : Layout) (pages page : ℕ) → pages ≤ l.pages → first_page l pages page + pages ≤ l.pages
first_fits l pages page few = grind (arith, nat_tests)

module _ (p : PagesAreFew) (l : Layout) (f : Finding) (x : Sound l f) where
  -- where it goes
  pub spans_open : (w : Sought) → f.wanted ≡ w → IsSought w → IsStage l w (spans_for f w)
  spans_open w e s = let fit = l.limits.pages_fit.0 in grind (arith, p.some, p.few)

  behind_opens : (w : Sought) → f.wanted ≡ w → IsSought w → IsStage l w (behind_for f w)
  behind_opens w e s = let fit = l.limits.pages_fit.0 in grind (arith, p.some, p.few)

  locked_opens : (w : Sought) (c : Option CachedSpan) → f.wanted ≡ w → IsSought w → IsCached l w c → IsStage l w (locked_for f w c)
  locked_opens w c e s h = let fit = l.limits.pages_fit.0 in grind (arith, p.some, p.few)

  begins : ((c : ℕ) → c < 25 → slots_of c ≤ 1024) → (w : Sought) (c : Option CachedSpan) → IsSought w → IsCached l w c → IsStage l w (begin w c)
  begins few w c s h = grind (arith, nat_tests, few)

module _ (k : Known) (l : Layout) (f : Finding) (x : Sound l f) where
  -- after a step of the routine that it runs, by what that has given
  slots_then : (s : slots.Searching) (out : Option (Option ℕ)) → slots.given s ≡ out → SizeClass.Small s.span.class ≡ (span_for f.wanted).class → slots_sound.Sound l s → IsSearched (move_cursor s.span.cursor f.cached) (Slots s) →
      IfSome out (λ slot. IfSome slot (λ _. LiesWithin l f.wanted (At (word_at_cursor f.wanted (move_cursor s.span.cursor f.cached))))) → Sound l (after_slots (searched f s) out)
  slots_then s out e class z tied lies = let cached = cached_kept l f.wanted f.cached s z class x.cached in grind arith

  slots_to : (s : slots.Searching) (found : ℕ) → IsStage l f.wanted (Slots s) → IsSearched f.cached (Slots s) → slots_sound.Sound l (slots.goes s found) → Sound l (goes_at l f (Slots s) found)
  slots_to s found y tied z = slots_then (slots.goes s found) _ refl (ap (λ (c : ℕ). SizeClass.Small c) (same_class s found) ∙ y.1) z (searched_kept f.cached s found tied) (slot_fits_heap k.fit l f s found y x.cached)

  give_to : (g : give.SpanGiving) (out : Option (Unit {0})) → give.given g ≡ out → (give.listing l).sound g → Sound l (after_give (at_stage f (Give g)) out)
  give_to g out e z = let spans = spans_open k.pages l f x f.wanted refl x.wanted in grind arith

  pass_to : (m : pass.Pass) (out : Option (Option ℕ)) → pass.given m ≡ out → f.wanted ≡ Small m.wanted → pass.Sound l m → Sound l (after_pass l (at_stage f (Pass m)) out)
  pass_to m out e w z = let behind = behind_opens k.pages l f x f.wanted refl x.wanted in grind (arith, k.pages.few, first_fits)

  unswept_to : (m : unswept.Unswept) (out : Option (Option ℕ)) → unswept.given m ≡ out → f.wanted ≡ Small m.wanted → (unswept.listing l).sound m → Sound l (after_unswept l (at_stage f (Unswept m)) out)
  unswept_to m out e w z = let fit = l.limits.pages_fit.0 in grind (arith, k.pages.some, k.pages.few, first_fits)

  carve_to : (m : carve.Carving) (out : Option (Option ℕ)) → carve.given m ≡ out → m.span ≡ span_for f.wanted → carve_sound.Sound l m → Sound l (after_carve l (at_stage f (Carve m)) out)
  carve_to m out e w z = let fit = l.limits.pages_fit.0 in grind (arith, k.pages.few, first_fits)

  lock_to : (b : Bool) → Sound l (at_stage f (cond b (locked_for f f.wanted f.cached) Lock))
  lock_to b = let locked = locked_opens k.pages l f x f.wanted f.cached refl x.wanted x.cached in grind arith

  unlock_to : (q : FindStage) → IsStage l f.wanted q → IsSearched f.cached q → Sound l (record f { sweeps = true; stage = q })
  unlock_to q y tied = grind arith

  keeps_at : (q : FindStage) (found : ℕ) → found < 2 ^ 64 → IsStage l f.wanted q → IsSearched f.cached q → Sound l (goes_at l f q found)
  keeps_at (Slots s) found w y tied = slots_to s found y tied ((k.slots l).keeps s found w y.0.sound y.0.busy)
  keeps_at Lock found w y tied = lock_to (eqb found 0)
  keeps_at (Give g) found w y tied = give_to (give.goes g found) _ refl ((k.give l).keeps g found w y.sound y.busy)
  keeps_at (Pass m) found w y tied = pass_to (pass.goes l m found) _ refl y.1 ((k.pass l).keeps m found w y.0.sound y.0.busy)
  keeps_at (Unswept m) found w y tied = unswept_to (unswept.goes l m found) _ refl y.1 ((k.unswept l).keeps m found w y.0.sound y.0.busy)
  keeps_at (Carve m) found w y tied = carve_to (carve.goes l m found) _ refl y.1 ((k.carve l).keeps m found w y.0.sound y.0.busy)
  keeps_at (Unlock Again) found w y tied = unlock_to _ (begins k.pages l f x k.few_slots f.wanted f.cached x.wanted x.cached) (begins_searched f.wanted f.cached)
  keeps_at (Unlock (End out)) found w y tied = unlock_to _ y tt
  keeps_at (Ended out) found w y tied = grind arith

pub is_routine : Known → (l : Layout) → IsRoutine l (listing l)
is_routine k l = let slots = k.slots l in let give = k.give l in let pass = k.pass l in let unswept = k.unswept l in let carve = k.carve l in grind (arith, keeps_at)
