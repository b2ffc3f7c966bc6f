-- Own steps of statements on registers alone.
use Rattle.std.proofs.Common.{ℕ, None, refl}
use Rattle.gh_mutator_heap.proofs.Vocabulary.{Act, Answer, Ask, at_task, Cell, EverValue, FullAt, Op, OwnStepAt, Register, register_of, Source, Takes, Task, Value, view}
use Rattle.gh_mutator.specs.Register.{begins}
use Rattle.gh_mutator_heap.proofs.Owning.Known.{Known}
use Rattle.gh_mutator_heap.proofs.Owning.Objects.{register_reached}
use Rattle.gh_mutator_heap.proofs.Owning.Statements.{answered_once, at_its_task, has_room, StepAt, takes_last}
use Rattle.gh_mutator_heap.proofs.Owning.Steady.{Steady}

step_from : (g d : ℕ) (from : Source) → StepAt (Task.Register (begins g d from))
step_from g d (Source.Int n) z a s m pending shapes good x = record {
  move = Takes (Ask.Load Cell.Touch) g d (EverValue.Int n);
  may = (tt, x.task.0, x.task.1, λ n is. absurd (cc));
  words_are = refl;
  after = record {
    after = None;
    fine = takes_last z a (view s) m g d (EverValue.Int n) (Value.Int n) (x.counts, x.knows) x.right x.task.0.of x.task.1 refl;
    ever = refl;
    answers = answered_once Answer.Done _ pending x.task.2 refl;
    full = has_room (λ (y : Act). FullAt z a (view s) (at_task m (Task.Register (begins g d (Source.Int n)))) y.op) (Op.Int g d n);
    counts = tt;
  };
}
step_from g d (Source.Move r) z a s m pending shapes good x =
    let steady : Steady z a (view s) m = (x.counts, x.knows) in
    record {
      move = Takes (Ask.Load Cell.Touch) g d (s.ever.register g r);
      may = (tt, x.task.0, x.task.1, register_reached s.ever g r x.task.0.goes_on (s.ever.register g r) refl);
      words_are = refl;
      after = record {
        after = None;
        fine = takes_last z a (view s) m g d (s.ever.register g r) (register_of m g r) steady x.right x.task.0.of x.task.1 (steady.1.stands.registers g r x.task.0.of x.task.2);
        ever = refl;
        answers = answered_once Answer.Done _ pending x.task.3 refl;
        full = has_room (λ (y : Act). FullAt z a (view s) (at_task m (Task.Register (begins g d (Source.Move r)))) y.op) (Op.Move g d r);
        counts = tt;
      };
    }
step_from g d Source.Nil z a s m pending shapes good x = record {
  move = Takes (Ask.Load Cell.Touch) g d EverValue.Nil;
  may = (tt, x.task.0, x.task.1, λ n is. absurd (cc));
  words_are = refl;
  after = record {
    after = None;
    fine = takes_last z a (view s) m g d EverValue.Nil Value.Nil (x.counts, x.knows) x.right x.task.0.of x.task.1 tt;
    ever = refl;
    answers = answered_once Answer.Done _ pending x.task.2 refl;
    full = has_room (λ (y : Act). FullAt z a (view s) (at_task m (Task.Register (begins g d Source.Nil))) y.op) (Op.Nil g d);
    counts = tt;
  };
}

pub register_steps : Known → (x : Register) → OwnStepAt (Task.Register x)
register_steps k x = at_its_task (Task.Register x) (step_from x.g x.d x.source)
