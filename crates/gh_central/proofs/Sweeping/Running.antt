-- Each of the two passes that sweep runs a sweep on until it has ended, and begins one where it finds an unswept head.
use Rattle.std.proofs.Common.{◌≡◌, ℕ, ◌+◌, Bool, true, false, cond, eqb, Some, None, refl, arith}
use Rattle.gh_central.proofs.Vocabulary.{Layout, page_of, PageWord, Reclaiming, ReclaimStage, Sweeping, Unswept, UnsweptStage}
use Rattle.gh_central.specs.Reclaim as reclaim
use Rattle.gh_central.specs.Sweeping.{BeginsSweep, RunsSweeps, SweepsOn}
use Rattle.gh_central.specs.UnsweptPass as pass
use Rattle.gh_central.proofs.HeadTests.{unswept-is}
use Rattle.gh_sweep.specs.Listing as sweep

-- The freeing of empty spans.

module _ (l : Layout) (m : Reclaiming) where
  none_looked : (p : ℕ) → reclaim.sweep_at (reclaim.look_from l p) ≡ None
  none_looked p = grind arith

  none_freed : (p count d : ℕ) → reclaim.sweep_at (reclaim.free_from p count d) ≡ None
  none_freed p count d = grind arith

  none_in_bits : (p count i found : ℕ) → reclaim.sweep_at (reclaim.after_bits l p count i found) ≡ None
  none_in_bits p count i found = grind arith

  none_waited : (p : ℕ) (w : PageWord) → reclaim.sweep_at (reclaim.after_wait m p w) ≡ None
  none_waited p w = grind arith

  abbrev Begins : ReclaimStage → ℕ → Sweeping → Type 0
  Begins q found sw = BeginsSweep m.generation (reclaim.asks_at l q) found sw

  reclaim_looks : (p found : ℕ) (sw : Sweeping) (w : PageWord) → page_of found ≡ w → reclaim.sweep_at (reclaim.after_page l m p w) ≡ Some sw → Begins (ReclaimStage.Look p) found sw
  reclaim_looks p found sw PageWord.Free is e = absurd (cc (e, none_looked (p + 1)))
  reclaim_looks p found sw (PageWord.Body b) is e = absurd (cc (e, none_looked (p + 1)))
  reclaim_looks p found sw (PageWord.Head h) is e = go (eqb h.owner 0) (eqb h.number m.generation) (eqb (h.number + 2) m.generation) refl e where
    go : (b c d : Bool) → eqb (h.number + 2) m.generation ≡ d →
        reclaim.sweep_at (cond b (cond c (ReclaimStage.Bits p h.pages 0) (cond d (ReclaimStage.Sweep p h.pages (sweep.opening p h)) (ReclaimStage.Wait p))) (reclaim.look_from l (p + h.pages))) ≡ Some sw → Begins (ReclaimStage.Look p) found sw
    go b c d t e = grind arith

  reclaim_begins : (q : ReclaimStage) (found : ℕ) (sw : Sweeping) → reclaim.sweep_at q ≡ None → reclaim.sweep_at (reclaim.goes_at l m q found) ≡ Some sw → Begins q found sw
  reclaim_begins q found sw none e = grind (arith, none_freed, none_in_bits, none_looked, none_waited, reclaim_looks)

  reclaim_runs : (q : ReclaimStage) (sw : Sweeping) → reclaim.sweep_at q ≡ Some sw → SweepsOn l (reclaim.asks l) (reclaim.goes l) reclaim.sweep_in (reclaim.at_stage m q) sw
  reclaim_runs q sw e = grind arith

pub reclaim_runs_sweeps : (l : Layout) → RunsSweeps (reclaim.asks l) (reclaim.goes l) (λ _. l) (λ m. m.generation) reclaim.sweep_in
reclaim_runs_sweeps l = grind (arith, reclaim_begins, reclaim_runs)

-- The pass for an unswept span.

module _ (l : Layout) (m : Unswept) where
  none_passed : (p : ℕ) → pass.sweep_at (pass.look_from l p) ≡ None
  none_passed p = grind arith

  abbrev Opens : UnsweptStage → ℕ → Sweeping → Type 0
  Opens q found sw = BeginsSweep m.generation (pass.asks_at l m q) found sw

  pass_looks : (p found : ℕ) (sw : Sweeping) (w : PageWord) → page_of found ≡ w → pass.sweep_at (pass.after_page l m p w) ≡ Some sw → Opens (UnsweptStage.Look p) found sw
  pass_looks p found sw PageWord.Free is e = absurd (cc (e, none_passed (p + 1)))
  pass_looks p found sw (PageWord.Body b) is e = absurd (cc (e, none_passed (p + 1)))
  pass_looks p found sw (PageWord.Head h) is e = go (pass.is_unswept m h) refl e where
    go : (b : Bool) → pass.is_unswept m h ≡ b → pass.sweep_at (cond b (UnsweptStage.Sweep p h (sweep.opening p h)) (pass.look_from l (p + h.pages))) ≡ Some sw → Opens (UnsweptStage.Look p) found sw
    go true t e = record { page = p; head = h; step_is = refl; head_is = is; number = (unswept-is m h t).2; sweep_is = cc }
    go false t e = absurd (cc (e, none_passed (p + h.pages)))

  pass_begins : (q : UnsweptStage) (found : ℕ) (sw : Sweeping) → pass.sweep_at q ≡ None → pass.sweep_at (pass.goes_at l m q found) ≡ Some sw → Opens q found sw
  pass_begins q found sw none e = grind (arith, pass_looks)

  pass_runs : (q : UnsweptStage) (sw : Sweeping) → pass.sweep_at q ≡ Some sw → SweepsOn l (pass.asks l) (pass.goes l) pass.sweep_in (pass.at_stage m q) sw
  pass_runs q sw e = grind arith

pub pass_runs_sweeps : (l : Layout) → RunsSweeps (pass.asks l) (pass.goes l) (λ _. l) (λ m. m.generation) pass.sweep_in
pass_runs_sweeps l = grind (arith, pass_begins, pass_runs)
