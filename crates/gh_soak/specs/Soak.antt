-- The goroutines of a script one after the other, and what a run of it tells as live.
use Rattle.std.specs.Prelude.{◌≡◌, ℕ, ◌≤◌, List, length}
use Rattle.std.specs.List.{flat_map, range_with_len}
use Rattle.gh_base.specs.declared.layout.Layout.{Layout}
use Rattle.gh_base.specs.declared.machine.Entry.{Entry}
use Rattle.gh_base.specs.declared.operation.Op.{Op}
use Rattle.gh_base.specs.declared.shape.Shape.{Shape}
use Rattle.gh_generated.specs.Orders.{ever_left_by, IsOrderOf, operations_of}
use Rattle.gh_lines.specs.Text.{Outcome}
use Rattle.gh_model.specs.Ever.{Ever}
use Rattle.gh_plenty.specs.Plenty.{NeverFull}
use Rattle.gh_run.specs.Told.{IsRunByThreads}
use Rattle.gh_script.specs.Generated.{generated_program}
use Rattle.gh_script.specs.Program.{Program}
use Rattle.gh_world.specs.Cycles.{AreLive}
use Rattle.gh_lists.specs.Order.{acted_in, ever_of}
use Rattle.gh_world.specs.Points.{ops_of}
use Rattle.gh_world.specs.Runs.{IsExplained}
use Rattle.gh_world.specs.World.{LaysOut}

-- the operations of all goroutines, one goroutine behind the other
abbrev pub one_after_another : Program → List Op
one_after_another p = flat_map (operations_of p) (range_with_len 0 (length p.goroutines))

-- so many objects and bytes are live where the goroutines run so, in the heap that never frees, and there is room for each object
abbrev pub AreLiveThen : Program → (objects bytes : ℕ) → Type 0
AreLiveThen p objects bytes = AreLive p.shapes (ever_left_by p.shapes (one_after_another p)) objects bytes

-- ---- laws

abbrev pub OneAfterAnotherIsAnOrder : Type 0
OneAfterAnotherIsAnOrder = (p : Program) → IsOrderOf p (one_after_another p)

-- Whatever the script, and whatever whole run of it: what acted in it is an order of all operations.
abbrev pub RunsAreOrders : Type 0
RunsAreOrders = (p : Program) (l : Layout) (es : List (Entry Op)) (o : Outcome) → LaysOut p l → IsExplained p l es o → IsOrderOf p (ops_of (acted_in p.shapes l es))

-- And where nothing in it was answered `full`, it left the heap that this order leaves.
abbrev pub RunsLeaveTheirHeap : Type 0
RunsLeaveTheirHeap = (p : Program) (l : Layout) (es : List (Entry Op)) (o : Outcome) → IsExplained p l es o → NeverFull p l es → ever_of p.shapes l es ≡ ever_left_by p.shapes (ops_of (acted_in p.shapes l es))

-- there is one count of what is live in a heap, and one of its bytes
abbrev pub WhatIsLiveIsOne : Type 0
WhatIsLiveIsOne = (shapes : List Shape) (e : Ever) (objects bytes more other : ℕ) → AreLive shapes e objects bytes → AreLive shapes e more other → (objects ≡ more) × (bytes ≡ other)

-- What a generated script's run by threads tells as live is what is live where its goroutines run one after the other.
abbrev pub SoaksTellOneHeap : Type 0
SoaksTellOneHeap = (seed size : ℕ) (o : Outcome) → size ≤ 200000 → IsRunByThreads (generated_program seed size) o → AreLiveThen (generated_program seed size) o.objects o.bytes
