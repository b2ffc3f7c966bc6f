-- The limits of a heap.
use Rattle.std.specs.Prelude.{◌≡◌, ◌≤◌}
use Rattle.gh_base.specs.declared.limits.TheConstants.{LEAST_PAGES, MOST_PAGES, MOST_GLOBALS, MOST_PROCS, MOST_WORKERS, MOST_GOROUTINES}
use Rattle.gh_base.specs.declared.plan.LayoutPlan.{LayoutPlan}

-- each number lies within its limits; today all pages are in use from the opening on
pub record InLimits (plan : LayoutPlan) : Type 0 where
  pub all_opened : plan.opened ≡ plan.pages
  pub pages_fit : (LEAST_PAGES ≤ plan.pages) × (plan.pages ≤ MOST_PAGES)
  pub globals_fit : (1 ≤ plan.globals) × (plan.globals ≤ MOST_GLOBALS)
  pub procs_fit : (1 ≤ plan.procs) × (plan.procs ≤ MOST_PROCS)
  pub workers_fit : (1 ≤ plan.workers) × (plan.workers ≤ MOST_WORKERS)
  pub goroutines_fit : (1 ≤ plan.goroutines) × (plan.goroutines ≤ MOST_GOROUTINES)
