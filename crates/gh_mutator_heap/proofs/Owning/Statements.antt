-- What the steps of statements come to while others change the heap: one goes on, one is a fault, by one a register takes what was found.
use Rattle.std.proofs.Common.{◌≡◌, ℕ, ◌-◌, ◌<◌, Bool, true, false, cond, eqb, List, [], ◌∷◌, ◌++◌, Option, Some, None, refl, sym, ap, subst, ◌∙◌, arith, ◌&&◌}
use Rattle.std.proofs.lemmas.Bool.{eq-eqb}
use Rattle.gh_mutator_heap.proofs.Vocabulary.{Act, acted, acting, Answer, answer_of, answer_of_value, answered, answered_at, applied, Arena, Ask, asks, at_task, Cell, cell_of, Does, ends, ever_after, EverValue, follows, goes_on, Good, GoroutineRuns, Idle, IsOf, lists, Means, moved, Op, option_to_list, OwnStepAt, Processor, ProcessorFacts, REGISTERS, Right, set_register, ShapesAreGood, Shared, Step, Steps, Task, Value, value_told, View, view, with_register}
use Rattle.gh_mutator_heap.proofs.Owning.Vocabulary.{Takes}
use Rattle.gh_heap.specs.Moves as moves
use Rattle.gh_model.specs.Ever as model
use Rattle.gh_mutator.specs.Fields.{takes}
use Rattle.gh_mutator_heap.proofs.Owning.Known.{Known}
use Rattle.gh_mutator_heap.proofs.Owning.Steady.{HasCached, rights_with, Steady, steady_register}

abbrev pub StepFrom : Arena → (a : ℕ) → Shared → Processor → Option Answer → Type 0
StepFrom z a s m pending = Steps z a s (asks z.layout m) (λ t. Does z a s t m pending (s.words (cell_of (asks z.layout m))))

abbrev pub StepAt : Task → Type 0
StepAt q = (z : Arena) (a : ℕ) (s : Shared) (m : Processor) (pending : Option Answer) → ShapesAreGood z.shapes → Good z (view s) → ProcessorFacts z a (view s) (at_task m q) pending → StepFrom z a s (at_task m q) pending

-- the processor is at its task
pub at_its_task : (q : Task) → StepAt q → OwnStepAt q
at_its_task q f z a s m pending shapes is g x =
    subst (λ (p : Task). StepFrom z a s (at_task m p) pending) (sym is) (f z a s m pending shapes g (subst (λ (p : Task). ProcessorFacts z a (view s) (at_task m p) pending) is x))

-- where an operation has room, nothing is to be said of that
abbrev pub act_of : Op → Act
act_of o = record { op = o; full = false }

pub has_room : (P : Act → Type 0) (o : Op) (x : Act) → Some (act_of o) ≡ Some x → x.full ≡ true → P x
has_room P o x is full = grind arith

pub not_at_point : (P : Act → Type 0) (x : Act) → None ≡ Some x → x.full ≡ true → P x
not_at_point P x is full = absurd (cc is)

-- what is answered at once, where nothing was pending
pub answered_once : (b : Answer) (given : List Answer) (pending : Option Answer) → pending ≡ None → b ∷ [] ≡ given → (b ∷ []) ++ option_to_list pending ≡ given
answered_once b given pending none is = grind arith

-- what a statement's step comes to in t, from s: of operation o, with register d of goroutine g
pub record Comes (S : Type 0) (into : S → Task) (z : Arena) (a : ℕ) (s t : Shared) (m : Processor) (g d : ℕ) (o : Op) (pending : Option Answer) (step : Step S) : Type 0 where
  pub after : Option Answer
  pub fine : ProcessorFacts z a (view t) (applied into m g d step) after
  pub ever : t.ever ≡ acted z.shapes s.ever (acting step.acts o false)
  pub answers : option_to_list (answered_at z.shapes s.ever (acting step.acts o false)) ++ option_to_list pending ≡ option_to_list after ++ option_to_list (answered step.then)

-- there was room
pub not_full : (b : Bool) (o : Op) (y : Act) → acting b o false ≡ Some y → y.full ≡ true → ⊥
not_full b o y is full = grind arith

pub idle : (z : Arena) (a : ℕ) (v : View) (m : Processor) → Steady z a v m → HasCached a v m → ProcessorFacts z a v (at_task m Idle) None
idle z a v m steady right = record { counts = steady.0; knows = steady.1; right = right; task = refl }

module _ (S : Type 0) (into : S → Task) (z : Arena) (a : ℕ) (s : Shared) (m : Processor) (g d : ℕ) (o : Op) (steady : Steady z a (view s) m) (right : HasCached a (view s) m) where
  -- it goes on
  pub further : (next : S) → ProcessorFacts z a (view s) (at_task m (into next)) None → Comes S into z a s s m g d o None (goes_on next)
  further next fine = record { after = None; fine = fine; ever = refl; answers = refl }

  -- it is a fault
  pub faulted : (f : Answer) → answer_of z.shapes s.ever o ≡ f → ever_after z.shapes s.ever o f ≡ s.ever → Comes S into z a s s m g d o None (ends f)
  faulted f is stays = record {
    after = None;
    fine = idle z a (view s) m steady right;
    ever = sym (ap (λ (y : Answer). ever_after z.shapes s.ever o y) is ∙ stays);
    answers = ap (λ (y : Answer). y ∷ []) is;
  }

  -- The register takes a value that was found; where that is a reference, its object's name is loaded next.
  module _ (naming : ℕ → S) where
    abbrev pub Names : Type 0
    Names = (at : ℕ) (v : View) (x : Processor) (p : Option Answer) → Steady z a v x → HasCached a v x → Takes z a v g d at p → ProcessorFacts z a v (at_task x (into (naming at))) p

    abbrev pending_of : EverValue → Option Answer
    pending_of (EverValue.Ref n) = Some (Answer.Ref n)
    pending_of _ = None

    tells : (x : EverValue) (w : Value) → Means s.place s.ever.made x w → answer_of_value x ∷ [] ≡ option_to_list (pending_of x) ++ option_to_list (answered (value_told naming w))
    tells x w h = grind arith

    module _ (names : Names) (runs : GoroutineRuns z (view s) a g) (few : d < REGISTERS) where
      abbrev then : EverValue → View
      then x = record (view s) { ever = with_register s.ever g d x }

      here : (x : EverValue) → cond (eqb g g && eqb d d) x (s.ever.register g d) ≡ x
      here x = rw (eq-eqb g g refl, eq-eqb d d refl) refl

      fine_then : (x : EverValue) (w : Value) → Means s.place s.ever.made x w → Steady z a (then x) (set_register m g d w) → Right a (then x) false (lists m.poll.local.cache) None → ProcessorFacts z a (then x) (at_task (set_register m g d w) (follows into (value_told naming w))) (pending_of x)
      fine_then EverValue.Nil Value.Nil h st ri = idle z a (then EverValue.Nil) (set_register m g d Value.Nil) st ri
      fine_then (EverValue.Int i) (Value.Int j) h st ri = idle z a (then (EverValue.Int i)) (set_register m g d (Value.Int j)) st ri
      fine_then (EverValue.Ref n) (Value.Ref r) h st ri = names (r - 1) (then (EverValue.Ref n)) (set_register m g d (Value.Ref r)) (Some (Answer.Ref n)) st ri (record {
        n = n;
        through = record { runs = record { of = runs.of; goes_on = runs.goes_on }; register = few; names = ap model.names (here (EverValue.Ref n)); made = h.1; here = let is = h.0 in omega arith };
        answers = refl;
      })
      fine_then EverValue.Nil (Value.Int j) h st ri = absurd h
      fine_then EverValue.Nil (Value.Ref r) h st ri = absurd h
      fine_then (EverValue.Int i) Value.Nil h st ri = absurd h
      fine_then (EverValue.Int i) (Value.Ref r) h st ri = absurd h
      fine_then (EverValue.Ref n) Value.Nil h st ri = absurd h
      fine_then (EverValue.Ref n) (Value.Int j) h st ri = absurd h

      pub took : Known → (c : Cell) (x : EverValue) (w : Value) → Means s.place s.ever.made x w → answer_of z.shapes s.ever o ≡ answer_of_value x → ever_after z.shapes s.ever o (answer_of_value x) ≡ with_register s.ever g d x →
          Comes S into z a s (moved z a s (moves.Takes (Ask.Load c) g d x)) m g d o None (takes naming w)
      took laws c x w means is goes = record {
        after = pending_of x;
        fine = fine_then x w means (steady_register z a (view s) m g d x w runs.of few means steady) ((laws.follow z a s false (lists m.poll.local.cache) None right).takes (Ask.Load c) g d x);
        ever = sym (ap (λ (y : Answer). ever_after z.shapes s.ever o y) is ∙ goes);
        answers = ap (λ (y : Answer). y ∷ []) is ∙ tells x w means;
      }

-- a register takes a value that needs no name, and the operation is over
pub takes_last : (z : Arena) (a : ℕ) (v : View) (m : Processor) (g d : ℕ) (x : EverValue) (y : Value) → Steady z a v m → HasCached a v m → IsOf z a g → d < REGISTERS → Means v.place v.ever.made x y → ProcessorFacts z a (record v { ever = with_register v.ever g d x }) (at_task (set_register m g d y) Idle) None
takes_last z a v m g d x y steady right of low means =
    idle z a (record v { ever = with_register v.ever g d x }) (set_register m g d y) (steady_register z a v m g d x y of low means steady) (rights_with a v v.field v.global (with_register v.ever g d x) false (lists m.poll.local.cache) None None right)
