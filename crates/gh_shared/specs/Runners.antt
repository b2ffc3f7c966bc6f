-- What is said of the actors of one heap that are run in threads.
use Rattle.std.specs.Prelude.{◌≡◌, All, List}
use Rattle.gh_shared.specs.Handles.{IsHandleOf, IsHeapOf}
use Rattle.gh_shared.specs.declared.heap.Heap.{Heap}
use Rattle.gh_shared.specs.declared.running.Runner.{Runner}

module _ {P : Type 0} (heap : Heap) where
  -- the actor is one of this heap, which runs its script
  pub record IsRunnerOf (j : Runner P) : Type 0 where
    pub same : j.heap.now ≡ heap
    pub of : IsHandleOf heap j.handle
    pub script : IsHeapOf j.script.now heap

  -- so is each of them
  abbrev pub AreOf : List (Runner P) → Type 0
  AreOf runners = All IsRunnerOf runners
