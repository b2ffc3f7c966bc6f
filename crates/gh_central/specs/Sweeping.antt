-- What a sweep leaves to the routine that runs it. That the routine's steps are the sweep's meanwhile, and where one begins, is said in gh_sweep.
use Rattle.std.specs.Prelude.{◌≡◌, ◌≢◌, ℕ}
use Rattle.gh_central.specs.Vocabulary.{Head, Leaves, numbered_by, page_of, SpanHead, View}
pub use Rattle.gh_sweep.specs.Running.{BeginsSweep, on_from, RunsSweeps, SweepsOn}

-- What a step of a sweep leaves to who runs it, of the heap: its rights, the objects, what a walk has seen, the heads of spans that somebody owns, and of those that nobody owns, up to their numbers.
pub record SweepLeaves (v w : View) : Type 0 where
  pub locked : w.locked ≡ v.locked
  pub holds : w.holds ≡ v.holds
  pub laying : w.laying ≡ v.laying
  pub freeing : w.freeing ≡ v.freeing
  pub place : w.place ≡ v.place
  pub ever : w.ever ≡ v.ever
  pub leaves : Leaves v w
  pub owned : (p : ℕ) (h : SpanHead) → h.owner ≢ 0 → page_of (v.page p) ≡ Head h → page_of (w.page p) ≡ Head h
  pub stands : (p : ℕ) (h : SpanHead) → h.owner ≡ 0 → page_of (v.page p) ≡ Head h → (number : ℕ) × (page_of (w.page p) ≡ Head (numbered_by number h))
