-- What the entries of a run are to the script: each is a step of a processor on an operation, or of an actor that runs none of it.
use Rattle.std.proofs.Common.{◌≡◌, ℕ, ◌<◌, ◌≤◌, ◌⊎◌, Bool, true, false, cond, ◌&&◌, List, ◌∷◌, Option, Some, None, sym, ap, ◌∙◌, arith, is_some}
use Rattle.gh_world.proofs.Vocabulary.{Act, acting, acts_at, after_poll, Answer, begins_at, Entry, given_at, has_point, is_busy_at, is_leaving, is_serving, is_statement, Layout, Legal, Op, Polling, Processor, Program, register_of, setting_of, setup_of, Shape, takes_at, Task}
use Rattle.gh_mutator.specs.Global as global
use Rattle.gh_poll.specs.Leave as leave
use Rattle.gh_mutator.specs.Load as load
use Rattle.gh_mutator.specs.New as new
use Rattle.gh_poll.specs.Poll as poll
use Rattle.gh_mutator.specs.Register as register
use Rattle.gh_mutator.specs.Store as store
use Rattle.gh_poll.specs.Wait as wait
use Rattle.gh_lists.specs.Stepping as steps
use Rattle.gh_world.proofs.StepFacts.{step_facts}
use Rattle.gh_lists.specs.Stepping.{not_full}

-- ---- what a step is to an operation with a point

-- the task is of an operation that has a point
abbrev pub is_pointed : Task → Bool
is_pointed Task.Poll = false
is_pointed (Task.Leave x) = false
is_pointed _ = true

pub given_is : (t : Task) (x : Option Answer) → given_at t x ≡ cond (is_pointed t) x None
given_is t x = grind arith

serving_pointed : (t : Task) → is_serving t ≡ true → is_pointed t ≡ true
serving_pointed t e = grind arith

leaving_pointed : (t : Task) → is_leaving t ≡ true → is_busy_at t ≡ true → is_pointed t ≡ false
leaving_pointed t e b = grind arith

-- a step that does not end the operation leaves it of its kind
module _ (l : Layout) (shapes : List Shape) (m : Processor) where
  served : (t : Task) (found : ℕ) → is_busy_at t ≡ true → is_serving t ≡ true → is_busy_at (takes_at l shapes m t found).task ≡ true → is_pointed (takes_at l shapes m t found).task ≡ is_pointed t
  served t found busy is next =
      let s = step_facts l shapes m t found busy in
      let still : is_serving (takes_at l shapes m t found).task ≡ true = s.serves ∙ ap (λ (b : Bool). b && is_serving t) next ∙ is in
      serving_pointed (takes_at l shapes m t found).task still ∙ sym (serving_pointed t is)

  polled : (p : Polling) (out : Option (Unit {0})) → is_busy_at (after_poll m p out).task ≡ true → is_pointed (after_poll m p out).task ≡ false
  polled p out b = grind arith

  pub stays_pointed : (t : Task) (found : ℕ) → is_busy_at t ≡ true → is_busy_at (takes_at l shapes m t found).task ≡ true → is_pointed (takes_at l shapes m t found).task ≡ is_pointed t
  stays_pointed t found busy next = grind (arith, leaving_pointed, polled, served)

-- an operation that begins is of its own kind
pub begins_pointed : (shapes : List Shape) (m : Processor) (o : Op) → is_busy_at (begins_at shapes m o) ≡ true → is_pointed (begins_at shapes m o) ≡ has_point o
begins_pointed shapes m o busy = grind arith

-- a statement has a point
pub statement_pointed : (o : Op) → has_point o ≡ false → is_statement o ≡ false
statement_pointed o e = grind arith

new_pointed : (b full : Bool) (g d t : ℕ) (x : Act) → acting b (Op.New g d t) full ≡ Some x → has_point x.op ≡ true
new_pointed b full g d t x e = grind arith

pub full_pointed : (l : Layout) (m : Processor) (t : Task) (found : ℕ) (x : Act) → acts_at l m t found ≡ Some x → x.full ≡ true → has_point x.op ≡ true
full_pointed l m Task.Idle found x e f = absurd cc
full_pointed l m Task.Left found x e f = absurd cc
full_pointed l m (Task.Load y) found x e f = absurd (not_full (load.step l y found).acts (load.op_of y) x e f)
full_pointed l m (Task.Store y) found x e f = absurd (not_full (store.step l m.poll.local (register_of m y.g y.v) y found).acts (store.op_of y) x e f)
full_pointed l m (Task.Global y) found x e f = absurd (not_full (global.step l (register_of m y.g y.r) y found).acts (global.op_of y) x e f)
full_pointed l m (Task.Register y) found x e f = absurd (not_full (register.step (register_of m y.g (register.read_of y)) y).acts (register.op_of y) x e f)
full_pointed l m (Task.New y) found x e f = new_pointed (new.acts_at l y.stage found) (new.is_full_at y.stage) y.wanted.g y.wanted.d y.wanted.t x e
full_pointed l m (Task.Gc g y) found x e f = absurd (not_full (is_some (wait.gives l (wait.waiting y m.poll) found)) (Op.Gc g) x e f)
full_pointed l m Task.Poll found x e f = absurd (not_full (is_some (poll.gives l m.poll found)) Op.Poll x e f)
full_pointed l m (Task.End g) found x e f = absurd (not_full true (Op.End g) x e f)
full_pointed l m (Task.Leave y) found x e f = absurd (not_full (is_some (leave.gives y found)) Op.Leave x e f)

-- ---- who steps

module _ (p : Program) (l : Layout) (es : List (Entry Op)) (e : Entry Op) (legal : Legal (setting_of p l) (e ∷ es)) where
  abbrev pub IsNoProcessors : Type 0
  IsNoProcessors = steps.IsNoProcessors (setup_of p l) es e legal

  pub no_processors : l.procs ≤ e.actor → IsNoProcessors
  no_processors = steps.no_processors (setup_of p l) es e legal

  module _ (a : ℕ) (lt : a < l.procs) where
    abbrev pub IsItsOwn : Type 0
    IsItsOwn = steps.IsItsOwn (setup_of p l) es e legal a lt

    abbrev pub IsAnothers : Type 0
    IsAnothers = steps.IsAnothers (setup_of p l) es e legal a lt

    pub its_own : e.actor ≡ a → IsItsOwn
    its_own = steps.its_own (setup_of p l) es e legal a lt

    pub who_steps : IsItsOwn ⊎ IsAnothers
    who_steps = steps.who_steps (setup_of p l) es e legal a lt
