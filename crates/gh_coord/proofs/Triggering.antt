-- The trigger is by what was read of the sweep: by the coordinator's stages.
use Rattle.std.proofs.Common.{◌≡◌, ℕ, ◌+◌, ◌*◌, ◌/◌, Bool, true, false, cond, eqb, max, Some, None, inl, inr, refl, sym, subst, arith}
use Rattle.gh_coord.proofs.Vocabulary.{asks, Coordinating, goes, is_busy, Layout, Load, Store}
use Rattle.gh_coord.specs.Vocabulary.{Live, Trigger}
use Rattle.gh_pacer.specs.Pacing.{roots, trigger}
use Rattle.gh_coord.specs.Pacing.{next_goal, next_trigger, taken_bytes}
use Rattle.gh_coord.specs.Triggering.{IsTrigger, LiesUpToGoal, TheTriggerIsByWhatIsLive}

-- a goal is not below what is live, so seven tenths of the way to it lie between the two
below_goal : (live more minheap : ℕ) (none : Bool) → LiesUpToGoal live (cond none None (Some (max minheap (live + more)))) (trigger live (cond none None (Some (max minheap (live + more)))))
below_goal live more minheap true = refl
below_goal live more minheap false = (omega arith, omega arith)

next_lies : (l : Layout) (gogc minheap live : ℕ) → LiesUpToGoal (taken_bytes live) (next_goal l gogc minheap live) (next_trigger l gogc minheap live)
unfolding next_goal next_trigger
next_lies l gogc minheap live = below_goal (taken_bytes live) ((taken_bytes live + roots l.globals l.goroutines) * gogc / 100) minheap (eqb gogc 0)

stores : (l : Layout) (s : Coordinating) (found value : ℕ) → is_busy s.stage ≡ true → asks l (goes l s found) ≡ Store Trigger value → IsTrigger l s found value
stores l s found value busy e = grind arith

lies : (l : Layout) (s : Coordinating) (found value : ℕ) → is_busy s.stage ≡ true → asks l s ≡ Load Live → asks l (goes l s found) ≡ Store Trigger value → LiesUpToGoal (taken_bytes found) (next_goal l s.gogc s.minheap found) value
lies l s found value busy loads e = elim (stores l s found value busy e) [
  | inl is ↦ subst (LiesUpToGoal (taken_bytes found) (next_goal l s.gogc s.minheap found)) (sym is.1) (next_lies l s.gogc s.minheap found)
  | inr opens ↦ absurd (let clears = opens.0 in cc)
]

pub the_trigger_is_by_what_is_live : TheTriggerIsByWhatIsLive
the_trigger_is_by_what_is_live = record { stores = stores; lies = lies; tally_first = grind arith; no_first = grind arith }
