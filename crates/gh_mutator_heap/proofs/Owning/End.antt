-- The own step by which a goroutine ends.
use Rattle.std.proofs.Common.{ℕ, false, None, refl}
use Rattle.gh_mutator_heap.proofs.Vocabulary.{Act, Answer, Ask, at_task, Cell, END, FullAt, lists, Op, OwnStepAt, Task, view, with_end, with_ended}
use Rattle.gh_heap.specs.Moves.{Ends}
use Rattle.gh_mutator_heap.proofs.Owning.Statements.{answered_once, at_its_task, has_room, StepAt}
use Rattle.gh_mutator_heap.proofs.Owning.Steady.{knows_with, rights_with, sits_ended, steady_values}

end_step : (g : ℕ) → StepAt (Task.End g)
end_step g z a s m pending shapes good x =
    let st = steady_values z a (view s) m (view s).field (view s).global (with_end s.ever g) refl refl (x.counts, x.knows) in
    record {
      move = Ends (Ask.Store (Cell.Scanned g) END) g;
      may = (tt, x.task.0);
      words_are = refl;
      after = record {
        after = None;
        fine = record {
          counts = st.0;
          knows = record {
            stands = record { sits = sits_ended z a m.poll g END x.knows.stands.sits; registers = st.1.stands.registers };
            knows = knows_with a (view s) (view s).field (view s).global (with_end s.ever g) m.poll (with_ended m.poll g) refl refl x.knows.knows;
          };
          right = rights_with a (view s) (view s).field (view s).global (with_end s.ever g) false (lists m.poll.local.cache) None None x.right;
          task = refl;
        };
        ever = refl;
        answers = answered_once Answer.Done _ pending x.task.1 refl;
        full = has_room (λ (y : Act). FullAt z a (view s) (at_task m (Task.End g)) y.op) (Op.End g);
        counts = tt;
      };
    }

pub end_steps : (g : ℕ) → OwnStepAt (Task.End g)
end_steps g = at_its_task (Task.End g) (end_step g)
