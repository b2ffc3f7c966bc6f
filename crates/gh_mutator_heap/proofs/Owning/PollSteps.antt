-- Own steps of a poll, of a leave, and of the waits of a `gc` and of a new object. Each is known by its law alone.
use Rattle.std.proofs.Common.{◌≡◌, ℕ, true, false, is_some, Option, Some, None, refl, sym, ap, subst, arith, is_none}
use Rattle.gh_mutator_heap.proofs.Vocabulary.{Act, acting, acts, after_gc, after_leave, after_poll, after_wait, Answer, answer_of, Arena, at_poll, at_task, cell_of, CountsAlone, Does, ever_after, gives, Good, IsSought, KeepsObjects, KnowsCounts, Leaving, moved, once_ended, Op, OwnStepAt, Polls, Processor, ProcessorFacts, ShapesAreGood, Shared, takes, TakesLeave, Task, view, Wait, Waiting, Waits, waits, WaitState, Wanted, Wants}
use Rattle.gh_poll.specs.Leave as leave
use Rattle.gh_poll.specs.Poll as poll
use Rattle.gh_poll.specs.Wait as wait
use Rattle.gh_mutator_heap.proofs.Owning.Known.{Known}
use Rattle.gh_mutator_heap.proofs.Owning.Searching.{same_wants, seek-begins}
use Rattle.gh_mutator_heap.proofs.Owning.Statements.{at_its_task, StepAt, StepFrom}
use Rattle.gh_mutator_heap.proofs.Owning.Steady.{goroutine_few, same_counts}

module _ (z : Arena) (s : Shared) (o : Op) (b : Answer) (is : answer_of z.shapes s.ever o ≡ b) (stays : ever_after z.shapes s.ever o (answer_of z.shapes s.ever o) ≡ s.ever) where
  ends_once : (a : ℕ) (t : Shared) (m : Processor) (found : ℕ) (g : Option (Unit {0})) → t.ever ≡ s.ever → acts z.layout m found ≡ acting (is_some g) o false → gives z.layout m found ≡ once_ended g b → ProcessorFacts z a (view t) (takes z.layout z.shapes m found) None → CountsAlone m.task s t → Does z a s t m None found
  ends_once a t m found g same act give fine alone = grind arith

module _ (k : Known) (z : Arena) (a : ℕ) (s : Shared) (m : Processor) (good : Good z (view s)) (counts : KnowsCounts z a (view s) m.made) where
  -- A poll.

  poll_fine : (t : Shared) (found : ℕ) → KeepsObjects (view s) (view t) → Polls z a (view t) (poll.goes z.layout m.poll found) → (g : Option (Unit {0})) → poll.gives z.layout m.poll found ≡ g → ProcessorFacts z a (view t) (after_poll m (poll.goes z.layout m.poll found) g) None
  poll_fine t found o p None e = record { counts = same_counts z a (view s) (view t) m.made o counts; knows = p.1; right = p.0; task = refl }
  poll_fine t found o p (Some y) e = let r = k.polls.ends z a (view t) (poll.goes z.layout m.poll found) (ap is_none e) p in
      record { counts = same_counts z a (view s) (view t) m.made o counts; knows = r.1; right = r.0; task = refl }

  poll_step : Polls z a (view s) m.poll → StepFrom z a s (at_task m Task.Poll) None
  poll_step p = let found = s.words (cell_of (poll.asks m.poll)) in let l = k.polls.own_step z a s m.poll good p in
      record { move = l.move; may = l.may; words_are = l.words_are; after = ends_once z s Op.Poll Answer.Done refl refl a (moved z a s l.move) (at_task m Task.Poll) found (poll.gives z.layout m.poll found) l.after.0.0 refl refl (poll_fine (moved z a s l.move) found l.after.0 l.after.1 (poll.gives z.layout m.poll found) refl) tt }

  -- A leave.

  leave_fine : (t : Shared) (x : Leaving) (found : ℕ) → KeepsObjects (view s) (view t) → TakesLeave z a (view t) m.poll (leave.goes x found) → (g : Option (Unit {0})) → leave.gives x found ≡ g → ProcessorFacts z a (view t) (after_leave m (leave.goes x found) g) None
  leave_fine t x found o p g e = grind arith

  leave_step : (x : Leaving) → TakesLeave z a (view s) m.poll x → StepFrom z a s (at_task m (Task.Leave x)) None
  leave_step x p = let found = s.words (cell_of (leave.asks x)) in let l = k.leaves.own_step z a s m.poll x good p in
      record { move = l.move; may = l.may; words_are = l.words_are; after = ends_once z s Op.Leave Answer.Done refl refl a (moved z a s l.move) (at_task m (Task.Leave x)) found (leave.gives x found) l.after.0.0 refl refl (leave_fine (moved z a s l.move) x found l.after.0 l.after.1 (leave.gives x found) refl) tt }

  -- A wait.
  module _ (x : WaitState) (p : Waits z a (view s) (wait.waiting x m.poll)) where
    abbrev now : Waiting
    now = wait.waiting x m.poll

    abbrev found : ℕ
    found = s.words (cell_of (wait.asks now))

    abbrev next : Waiting
    next = wait.goes z.layout now found

    -- of a `gc`
    gc_fine : (t : Shared) (g : ℕ) → KeepsObjects (view s) (view t) → Waits z a (view t) next → (y : Option (Unit {0})) → wait.gives z.layout now found ≡ y → ProcessorFacts z a (view t) (after_gc m g next y) None
    gc_fine t g o w None e = record { counts = same_counts z a (view s) (view t) m.made o counts; knows = w.1; right = w.0; task = refl }
    gc_fine t g o w (Some y) e = let r = k.waits.ends z a (view t) next (ap is_none e) w in
        record { counts = same_counts z a (view s) (view t) m.made o counts; knows = r.1; right = r.0; task = refl }

    gc_step : (g : ℕ) → StepFrom z a s (at_task m (Task.Gc g x)) None
    gc_step g = let l = k.waits.own_step z a s now good p in
        record { move = l.move; may = l.may; words_are = l.words_are; after = ends_once z s (Op.Gc g) Answer.Swept refl refl a (moved z a s l.move) (at_task m (Task.Gc g x)) found (wait.gives z.layout now found) l.after.0.0 refl refl (gc_fine (moved z a s l.move) g l.after.0 l.after.1 (wait.gives z.layout now found) refl) tt }

    -- of a new object, whose slot is searched for once more behind it
    module _ (w : Wanted) (sg : ShapesAreGood z.shapes) (wants : Wants z a (view s) w) where
      sought : IsSought w.sought
      sought = subst (λ (y : Wanted). IsSought y.sought) (sym wants.is) (k.wants.sound z.shapes w.g w.d w.t sg.fit wants.type (goroutine_few z a w.g wants.runs.of, wants.register)).sought

      new_fine : (t : Shared) → KeepsObjects (view s) (view t) → Waits z a (view t) next → (y : Option (Unit {0})) → wait.gives z.layout now found ≡ y → ProcessorFacts z a (view t) (after_wait m w next y) None
      new_fine t o q None e = record { counts = same_counts z a (view s) (view t) m.made o counts; knows = q.1; right = q.0; task = (same_wants z a (view s) (view t) w o wants, refl) }
      new_fine t o q (Some y) e = let r = k.waits.ends z a (view t) next (ap is_none e) q in
          seek-begins k z a (view t) (at_poll m next.poll) w true sought (same_wants z a (view s) (view t) w o wants) (same_counts z a (view s) (view t) m.made o counts, r.1) r.0

      new_step : StepFrom z a s (at_task m (waits w now)) None
      new_step = let l = k.waits.own_step z a s now good p in
          record { move = l.move; may = l.may; words_are = l.words_are; after = record { after = None; fine = new_fine (moved z a s l.move) l.after.0 l.after.1 (wait.gives z.layout now found) refl; ever = l.after.0.0; answers = refl; full = λ y e full. absurd (none y e); counts = tt } } where
            none : (y : Act) → None ≡ Some y → ⊥
            none y e = cc

pub poll_steps : Known → OwnStepAt Task.Poll
poll_steps k = at_its_task Task.Poll (λ z a s m pending sg good fine. subst (λ (y : Option Answer). StepFrom z a s (at_task m Task.Poll) y) (sym fine.task) (poll_step k z a s m good fine.counts (fine.right, fine.knows)))

pub leave_steps : Known → (x : Leaving) → OwnStepAt (Task.Leave x)
leave_steps k x = at_its_task (Task.Leave x) (λ z a s m pending sg good fine. subst (λ (y : Option Answer). StepFrom z a s (at_task m (Task.Leave x)) y) (sym fine.task) (leave_step k z a s m good fine.counts x (fine.right, fine.knows)))

pub gc_steps : Known → (g : ℕ) (x : WaitState) → OwnStepAt (Task.Gc g x)
gc_steps k g x = at_its_task (Task.Gc g x) (λ z a s m pending sg good fine. subst (λ (y : Option Answer). StepFrom z a s (at_task m (Task.Gc g x)) y) (sym fine.task) (gc_step k z a s m good fine.counts x (fine.right, fine.knows) g))

pub wait_steps : Known → (w : Wanted) (x : WaitState) → StepAt (Task.New (record { wanted = w; stage = Wait x }))
wait_steps k w x z a s m pending sg good fine = subst (λ (y : Option Answer). StepFrom z a s (at_task m (Task.New (record { wanted = w; stage = Wait x }))) y) (sym fine.task.1) (new_step k z a s m good fine.counts x (fine.right, fine.knows) w sg fine.task.0)
