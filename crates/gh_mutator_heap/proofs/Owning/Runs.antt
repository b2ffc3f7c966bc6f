-- The processor's laws, put together from those of its operations.
use Rattle.std.proofs.Common.{◌≡◌, ℕ, Bool, true, false, is_some, [], ◌++◌, Option, Some, None, refl, sym, ap, subst, ◌∙◌, arith}
use Rattle.gh_mutator_heap.proofs.Vocabulary.{Act, acting, acts, Answer, answered_at, Arena, asks, at_task, cell_of, Does, effect, FactsAt, given_at, gives, Global, GlobalStage, Good, has_point, is_busy_at, landing, NewStage, once_ended, Op, option_to_list, OwnStep, OwnStepAt, point_of, Processor, ProcessorFacts, Register, register_of, RunsByItsRights, ShapesAreGood, Shared, Source, sweep_at, Sweeping, SweepLeaves, SweepStep, Task, view, Wanted}
use Rattle.gh_mutator.specs.Global as global
use Rattle.gh_poll.specs.Leave as leave
use Rattle.gh_mutator.specs.Load as load
use Rattle.gh_mutator.specs.New as new
use Rattle.gh_poll.specs.Poll as poll
use Rattle.gh_mutator.specs.Register as register
use Rattle.gh_mutator.specs.Store as store
use Rattle.gh_poll.specs.Wait as wait
use Rattle.gh_mutator_heap.specs.Runs.{Rests}
use Rattle.gh_mutator_heap.proofs.Owning.AssistSteps.{assist_steps}
use Rattle.gh_mutator_heap.proofs.Owning.Begins.{begins_well}
use Rattle.gh_mutator_heap.proofs.Owning.End.{end_steps}
use Rattle.gh_mutator_heap.proofs.Owning.Global.{global_steps}
use Rattle.gh_mutator_heap.proofs.Owning.Known.{Known}
use Rattle.gh_mutator_heap.proofs.Owning.Lasts.{facts_last}
use Rattle.gh_mutator_heap.proofs.Owning.Load.{load_steps}
use Rattle.gh_mutator_heap.proofs.Owning.Opens.{opens}
use Rattle.gh_mutator_heap.proofs.Owning.Parked.{parked, stands_always, stopped}
use Rattle.gh_mutator_heap.proofs.Owning.PlaceSteps.{place-steps, want-steps}
use Rattle.gh_mutator_heap.proofs.Owning.PollSteps.{gc_steps, leave_steps, poll_steps, wait_steps}
use Rattle.gh_mutator_heap.proofs.Owning.Register.{register_steps}
use Rattle.gh_mutator_heap.proofs.Owning.SearchSteps.{search-steps, sweep-steps}
use Rattle.gh_mutator_heap.proofs.Owning.Statements.{at_its_task, StepFrom}
use Rattle.gh_mutator_heap.proofs.Owning.Store.{store_steps}
use Rattle.gh_mutator_heap.proofs.Owning.Within.{within}

rests : Rests
rests z a v m pending rest fine = by m.task refl fine.task where
  by : (q : Task) → m.task ≡ q → FactsAt z a v m pending q → pending ≡ None
  by q e h = grind arith

-- where it runs no sweep
abbrev NoSweepStepAt : Task → Type 0
NoSweepStepAt q = (z : Arena) (a : ℕ) (s : Shared) (m : Processor) (pending : Option Answer) → ShapesAreGood z.shapes → m.task ≡ q → Good z (view s) → sweep_at q ≡ None → ProcessorFacts z a (view s) m pending → StepFrom z a s m pending

without-sweep : (q : Task) → OwnStepAt q → NoSweepStepAt q
without-sweep q f z a s m pending sg is good none fine = f z a s m pending sg is good fine

-- The steps of a new object.
new-at : Known → (w : Wanted) (q : NewStage) → NoSweepStepAt (Task.New (record { wanted = w; stage = q }))
new-at k w (NewStage.Search waited q) z a s m pending sg is good none fine = subst (λ (p : Task). StepFrom z a s (at_task m p) pending) (sym is) (search-steps k z a s m pending w waited q sg good none (subst (λ (p : Task). ProcessorFacts z a (view s) (at_task m p) pending) is fine))
new-at k w (NewStage.Wait x) z a s m pending sg is good none fine = at_its_task (Task.New (record { wanted = w; stage = NewStage.Wait x })) (wait_steps k w x) z a s m pending sg is good fine
new-at k w (NewStage.Place p) z a s m pending sg is good none fine = at_its_task (Task.New (record { wanted = w; stage = NewStage.Place p })) (λ z a s m pending sg good fine. place-steps k z a s m w p pending sg good fine) z a s m pending sg is good fine
new-at k w (NewStage.Want n) z a s m pending sg is good none fine = at_its_task (Task.New (record { wanted = w; stage = NewStage.Want n })) (want-steps k w n) z a s m pending sg is good fine
new-at k w (NewStage.Assist n x) z a s m pending sg is good none fine = at_its_task (Task.New (record { wanted = w; stage = NewStage.Assist n x })) (assist_steps k w n x) z a s m pending sg is good fine

steps-at : Known → (q : Task) → is_busy_at q ≡ true → NoSweepStepAt q
steps-at k Task.Idle busy = absurd (cc)
steps-at k Task.Left busy = absurd (cc)
steps-at k (Task.Load x) busy = without-sweep (Task.Load x) (load_steps k x)
steps-at k (Task.Store x) busy = without-sweep (Task.Store x) (store_steps k x)
steps-at k (Task.Global x) busy = without-sweep (Task.Global x) (global_steps k x)
steps-at k (Task.Register x) busy = without-sweep (Task.Register x) (register_steps k x)
steps-at k (Task.New x) busy = new-at k x.wanted x.stage
steps-at k (Task.Gc g x) busy = without-sweep (Task.Gc g x) (gc_steps k g x)
steps-at k Task.Poll busy = without-sweep Task.Poll (poll_steps k)
steps-at k (Task.End g) busy = without-sweep (Task.End g) (end_steps g)
steps-at k (Task.Leave x) busy = without-sweep (Task.Leave x) (leave_steps k x)

-- What is answered of operations with points: a poll and a leave have none, and nothing is pending there.

unpointed : (z : Arena) (s : Shared) (o : Op) (b : Answer) (g : Option (Unit {0})) (pending after : Option Answer) → has_point o ≡ false → pending ≡ None → option_to_list (answered_at z.shapes s.ever (acting (is_some g) o false)) ++ option_to_list pending ≡ option_to_list after ++ option_to_list (once_ended g b) →
    option_to_list (answered_at z.shapes s.ever (point_of (acting (is_some g) o false))) ++ option_to_list pending ≡ option_to_list after ++ []
unpointed z s o b g pending after none e all = grind arith

acting-point : (b : Bool) (o : Op) (full : Bool) → has_point o ≡ true → point_of (acting b o full) ≡ acting b o full
acting-point b o full e = grind arith

global-point : (x : Global) (q : GlobalStage) → has_point (global.op_in x q) ≡ true
global-point x q = grind arith

register-point : (x : Register) (q : Source) → has_point (register.op_from x q) ≡ true
register-point x q = grind arith

-- of any other operation all that is answered
points-all : (z : Arena) (a : ℕ) (s t : Shared) (m : Processor) (pending : Option Answer) (found : ℕ) (d : Does z a s t m pending found) → point_of (acts z.layout m found) ≡ acts z.layout m found →
    option_to_list (answered_at z.shapes s.ever (point_of (acts z.layout m found))) ++ option_to_list pending ≡ option_to_list d.after ++ option_to_list (gives z.layout m found)
points-all z a s t m pending found d e = ap (λ (x : Option Act). option_to_list (answered_at z.shapes s.ever x) ++ option_to_list pending) e ∙ d.answers

points-at : (z : Arena) (a : ℕ) (s t : Shared) (m : Processor) (pending : Option Answer) (found : ℕ) (q : Task) → is_busy_at q ≡ true → FactsAt z a (view s) m pending q → (d : Does z a s t (at_task m q) pending found) →
    option_to_list (answered_at z.shapes s.ever (point_of (acts z.layout (at_task m q) found))) ++ option_to_list pending ≡ option_to_list d.after ++ option_to_list (given_at q (gives z.layout (at_task m q) found))
points-at z a s t m pending found Task.Idle busy h d = absurd (cc)
points-at z a s t m pending found Task.Left busy h d = absurd (cc)
points-at z a s t m pending found (Task.Load x) busy h d = points-all z a s t (at_task m (Task.Load x)) pending found d (acting-point (load.step z.layout x found).acts (load.op_of x) false refl)
points-at z a s t m pending found (Task.Store x) busy h d = points-all z a s t (at_task m (Task.Store x)) pending found d (acting-point (store.step z.layout m.poll.local (register_of m x.g x.v) x found).acts (store.op_of x) false refl)
points-at z a s t m pending found (Task.Global x) busy h d = points-all z a s t (at_task m (Task.Global x)) pending found d (acting-point (global.step z.layout (register_of m x.g x.r) x found).acts (global.op_of x) false (global-point x x.stage))
points-at z a s t m pending found (Task.Register x) busy h d = points-all z a s t (at_task m (Task.Register x)) pending found d (acting-point (register.step (register_of m x.g (register.read_of x)) x).acts (register.op_of x) false (register-point x x.source))
points-at z a s t m pending found (Task.New x) busy h d = points-all z a s t (at_task m (Task.New x)) pending found d (acting-point (new.acts_at z.layout x.stage found) (new.op_of x.wanted) (new.is_full_at x.stage) refl)
points-at z a s t m pending found (Task.Gc g x) busy h d = points-all z a s t (at_task m (Task.Gc g x)) pending found d (acting-point (is_some (wait.gives z.layout (wait.waiting x m.poll) found)) (Op.Gc g) false refl)
points-at z a s t m pending found Task.Poll busy h d = unpointed z s Op.Poll Answer.Done (poll.gives z.layout m.poll found) pending d.after refl h d.answers
points-at z a s t m pending found (Task.End g) busy h d = d.answers
points-at z a s t m pending found (Task.Leave x) busy h d = unpointed z s Op.Leave Answer.Done (leave.gives x found) pending d.after refl h d.answers

own : Known → OwnStep
own k z a s m pending sg busy good none fine =
    landing z a s _ _ _ (λ t d. record { does = d; answers = points-at z a s t m pending (s.words (cell_of (asks z.layout m))) m.task busy fine.task d }) (steps-at k m.task busy z a s m pending sg refl good none fine)

-- a step of the sweep that it runs: only a search runs one
does-sweep : Known → (z : Arena) (a : ℕ) (s t : Shared) (m : Processor) (pending : Option Answer) (sw : Sweeping) (q : Task) → ShapesAreGood z.shapes → Good z (view s) → Good z (view t) → ProcessorFacts z a (view s) (at_task m q) pending → sweep_at q ≡ Some sw → SweepLeaves (view s) (view t) → t.words ≡ effect s.words (asks z.layout (at_task m q)) →
    Does z a s t (at_task m q) pending (s.words (cell_of (asks z.layout (at_task m q))))
does-sweep k z a s t m pending sw (Task.New x) sg g then fine is o words = by x.stage refl fine is words where
  by : (n : NewStage) → x.stage ≡ n → ProcessorFacts z a (view s) (at_task m (Task.New (record x { stage = n }))) pending → sweep_at (Task.New (record x { stage = n })) ≡ Some sw → t.words ≡ effect s.words (asks z.layout (at_task m (Task.New (record x { stage = n })))) →
      Does z a s t (at_task m (Task.New (record x { stage = n }))) pending (s.words (cell_of (asks z.layout (at_task m (Task.New (record x { stage = n }))))))
  by (NewStage.Search waited y) e fine is words = sweep-steps k z a s t m pending x.wanted waited y sw sg g then fine is o words
  by (NewStage.Wait y) e fine is words = absurd (cc)
  by (NewStage.Place y) e fine is words = absurd (cc)
  by (NewStage.Want n) e fine is words = absurd (cc)
  by (NewStage.Assist n y) e fine is words = absurd (cc)
does-sweep k z a s t m pending sw _ sg g then fine is o words = absurd (cc)

sweep-busy : (m : Processor) (sw : Sweeping) (q : Task) → sweep_at q ≡ Some sw → is_busy_at q ≡ true
sweep-busy m sw q e = grind arith

sweep : Known → SweepStep
sweep k z a s t m pending sw sg g then fine is o words =
    let d = does-sweep k z a s t m pending sw m.task sg g then fine is o words in
    record { does = d; answers = points-at z a s t m pending (s.words (cell_of (asks z.layout m))) m.task (sweep-busy m sw m.task is) fine.task d }

pub runs_by_its_rights : Known → RunsByItsRights
runs_by_its_rights k = record { opens = opens; begins = begins_well k; rests = rests; own_step = own k; sweep_step = sweep k; within = within k; lasts = facts_last k; stopped = stopped k; parked = parked k; stands = stands_always }
