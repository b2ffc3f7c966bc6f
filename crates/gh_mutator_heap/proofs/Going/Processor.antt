-- A processor goes on beside marking: by its tasks.
use Rattle.std.proofs.Common.{◌≡◌, true}
use Rattle.gh_mutator_heap.proofs.Vocabulary.{GoesOnBesideMarking, is_busy_at, NewStage, Task, Wanted}
use Rattle.gh_mutator_heap.proofs.Going.Assist.{assist_step}
use Rattle.gh_mutator_heap.proofs.Going.Begins.{begins_beside}
use Rattle.gh_mutator_heap.proofs.Going.End.{end_step}
use Rattle.gh_mutator_heap.proofs.Going.Global.{global_step}
use Rattle.gh_mutator_heap.proofs.Going.Known.{Known, StepAt}
use Rattle.gh_mutator_heap.proofs.Going.Load.{load_step}
use Rattle.gh_mutator_heap.proofs.Going.Place.{place_step, want_step}
use Rattle.gh_mutator_heap.proofs.Going.Polls.{gc_step, leave_step, poll_step, wait_step}
use Rattle.gh_mutator_heap.proofs.Going.Register.{register_step}
use Rattle.gh_mutator_heap.proofs.Going.Search.{search_step}
use Rattle.gh_mutator_heap.proofs.Going.Store.{store_step}

new_step : Known → (w : Wanted) (q : NewStage) → StepAt (Task.New (record { wanted = w; stage = q }))
new_step k w (NewStage.Search waited y) = search_step k w waited y
new_step k w (NewStage.Wait x) = wait_step k w x
new_step k w (NewStage.Place p) = place_step k w p
new_step k w (NewStage.Want n) = want_step k w n
new_step k w (NewStage.Assist n x) = assist_step k w n x

step_at : Known → (q : Task) → is_busy_at q ≡ true → StepAt q
step_at k Task.Idle busy = absurd (cc)
step_at k Task.Left busy = absurd (cc)
step_at k (Task.Load x) busy = load_step k x
step_at k (Task.Store x) busy = store_step k x
step_at k (Task.Global x) busy = global_step k x
step_at k (Task.Register x) busy = register_step k x
step_at k (Task.New x) busy = new_step k x.wanted x.stage
step_at k (Task.Gc g x) busy = gc_step k g x
step_at k Task.Poll busy = poll_step k
step_at k (Task.End g) busy = end_step k g
step_at k (Task.Leave x) busy = leave_step k x

pub goes_on_beside : Known → GoesOnBesideMarking
goes_on_beside k = record { begins = begins_beside k; own_step = λ z a h s m pending t busy knows l. step_at k m.task busy z a h s m pending t knows l }
