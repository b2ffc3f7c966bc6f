-- The coordinator runs the steps of sweeps, and begins one where it finds the head of an unswept span.
use Rattle.std.proofs.Common.{◌≡◌, ℕ, ◌+◌, ◌==◌, Bool, cond, Option, Some, None, refl, sym, ◌∙◌, arith}
use Rattle.gh_coord.proofs.Vocabulary.{after_sweep, asks_at, at_stage, Body, by_event, Coordinating, CoordStage, counted, Free, goes_at, Head, Layout, page_of, PageWord, PartsAreRoutines, SoundAt, Sweep, sweep_at, sweep_in, SweepAllStage}
use Rattle.gh_sweep.specs.Listing as sweep
use Rattle.gh_sweep.specs.Running.{BeginsSweep, on_from}
use Rattle.gh_coord.specs.Sweeping.{TheCoordinatorRunsSweeps}
use Rattle.gh_coord.specs.SweepingAll as all
use Rattle.gh_coord.proofs.SweptPages.{tells_once_swept}

-- The walk over all spans.
behind_none : (pages page : ℕ) → all.sweep_at (all.behind_of pages page) ≡ None
behind_none pages page = grind arith

walk_on : (l : Layout) (w : all.SweepingAll) (sw : sweep.Sweeping) (p : SweepAllStage) → all.sweep_at p ≡ Some sw → (all.asks_at l p ≡ sweep.asks l sw) × ((found : ℕ) → all.sweep_at (all.goes_at l w p found).stage ≡ on_from sw found)
walk_on l w sw p is = grind arith

module _ (l : Layout) (w : all.SweepingAll) (found : ℕ) (sw : sweep.Sweeping) where
  abbrev WalkBegins : SweepAllStage → Type 0
  WalkBegins p = BeginsSweep w.generation (all.asks_at l p) found sw

  loads : (page : ℕ) (word : PageWord) → page_of found ≡ word → all.sweep_at (all.after_load l w page word).stage ≡ Some sw → WalkBegins (SweepAllStage.LoadPage page)
  loads page (Head h) is some = by (h.number + 2 == w.generation) (h.number + 1 == w.generation) refl some where
    by : (b c : Bool) → (h.number + 2 == w.generation) ≡ b → all.sweep_at (cond b (SweepAllStage.Sweep page (sweep.opening page h)) (cond c (SweepAllStage.Await page) (all.behind l page))) ≡ Some sw → WalkBegins (SweepAllStage.LoadPage page)
    by b c e some = grind arith
  loads page Free is some = absurd (let none = behind_none l.pages page in cc)
  loads page (Body b) is some = absurd (let none = behind_none l.pages page in cc)

  awaits : (page : ℕ) (b : Bool) → all.sweep_at (cond b (SweepAllStage.Await page) (all.behind l page)) ≡ None
  awaits page b = grind arith

  walk_begins : (p : SweepAllStage) → all.sweep_at p ≡ None → all.sweep_at (all.goes_at l w p found).stage ≡ Some sw → WalkBegins p
  walk_begins p none some = grind (arith, awaits, loads)

walk_then : (m : Coordinating) (v : all.SweepingAll) (out : Option (Unit {0})) → all.given v ≡ out → sweep_in (after_sweep (at_stage m (Sweep v)) out) ≡ all.sweep_at v.stage
walk_then m v out e = grind arith

on_at : (l : Layout) (s m : Coordinating) (sw : sweep.Sweeping) (p : CoordStage) → sweep_at p ≡ Some sw → (asks_at l s p ≡ sweep.asks l sw) × ((found : ℕ) → sweep_in (goes_at l m p found) ≡ on_from sw found)
on_at l s m sw (Sweep w) is =
    let o = walk_on l w sw w.stage is in
    (o.0, λ found. walk_then m (all.goes l w found) (all.given (all.goes l w found)) refl ∙ o.1 found)
on_at l s m sw _ is = absurd (cc)

module _ (l : Layout) (s m : Coordinating) (found : ℕ) (sw : sweep.Sweeping) where
  abbrev Begins : CoordStage → Type 0
  Begins p = BeginsSweep s.generation (asks_at l s p) found sw

  abbrev None_in : Coordinating → Type 0
  None_in to = sweep_in to ≡ None

  none_so : (to : Coordinating) → None_in to → sweep_in to ≡ Some sw → ⊥
  none_so to none some = cc

  walked : (w : all.SweepingAll) → w.generation ≡ s.generation → all.sweep_at w.stage ≡ None → sweep_in (goes_at l m (Sweep w) found) ≡ Some sw → Begins (Sweep w)
  walked w is none some =
      let b = walk_begins l w found sw w.stage none (sym (walk_then m (all.goes l w found) (all.given (all.goes l w found)) refl) ∙ some) in
      record { page = b.page; head = b.head; step_is = b.step_is; head_is = b.head_is; number = b.number ∙ is; sweep_is = b.sweep_is }

  begins_at : (p : CoordStage) → SoundAt s p → sweep_at p ≡ None → None_in m → sweep_in (goes_at l m p found) ≡ Some sw → Begins p
  begins_at (Sweep w) e none here some = walked w e none some
  begins_at p e none here some = absurd (none_so (goes_at l m p found) (by_event l m found None_in p (λ x may. grind arith)) some)

pub runs_sweeps : ((l : Layout) → PartsAreRoutines l) → TheCoordinatorRunsSweeps
runs_sweeps parts = record {
  at_first = λ l seat gogc minheap room. refl;
  on = λ l s sw is busy. let o = on_at l s (counted s) sw s.stage is in record { asks_so = o.0; goes_so = o.1 };
  begins = λ l s found sw sound none some. begins_at l s (counted s) found sw s.stage sound.1 none none some;
  tells = tells_once_swept parts;
}
