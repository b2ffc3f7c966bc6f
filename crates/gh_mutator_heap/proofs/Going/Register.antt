-- The step of a statement on registers alone beside marking.
use Rattle.std.proofs.Common.{ℕ, refl, arith}
use Rattle.gh_mutator_heap.proofs.Vocabulary.{at_task, EverValue, from_nil, from_number, from_register, holding_only, Register, Sets, Source, Task}
use Rattle.gh_mutator.specs.Register.{begins}
use Rattle.gh_mutator_heap.proofs.Going.Known.{by_deed, fills_none, Known, StepAt}

at : Known → (g d : ℕ) (from : Source) → StepAt (Task.Register (begins g d from))
at k g d (Source.Int n) z a h s m pending t kn l = by_deed k z a h s (at_task m (Task.Register (begins g d (Source.Int n)))) pending t l (Sets g d (EverValue.Int n)) tt refl
    (tt, fills_none a s (holding_only m.poll.local.held) refl t.facts.task_is.hands, t.fine.task.0, t.fine.task.1, from_number n)
    (λ u hands stacks. record { stacks = stacks; number = t.facts.task_is.number; hands = hands (holding_only m.poll.local.held) t.facts.task_is.hands })
at k g d (Source.Move r) z a h s m pending t kn l = by_deed k z a h s (at_task m (Task.Register (begins g d (Source.Move r)))) pending t l (Sets g d (h.ever.register g r)) tt refl (
  tt,
  fills_none a s (holding_only m.poll.local.held) refl t.facts.task_is.hands,
  t.fine.task.0,
  t.fine.task.1,
  from_register r t.fine.task.2,
)
    (λ u hands stacks. record { stacks = stacks; number = t.facts.task_is.number; hands = hands (holding_only m.poll.local.held) t.facts.task_is.hands })
at k g d Source.Nil z a h s m pending t kn l = by_deed k z a h s (at_task m (Task.Register (begins g d Source.Nil))) pending t l (Sets g d EverValue.Nil) tt refl
    (tt, fills_none a s (holding_only m.poll.local.held) refl t.facts.task_is.hands, t.fine.task.0, t.fine.task.1, from_nil)
    (λ u hands stacks. record { stacks = stacks; number = t.facts.task_is.number; hands = hands (holding_only m.poll.local.held) t.facts.task_is.hands })

pub register_step : Known → (x : Register) → StepAt (Task.Register x)
register_step k x = grind (arith, at)
