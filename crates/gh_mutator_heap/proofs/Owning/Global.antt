-- Own steps of the load and the store of a global.
use Rattle.std.proofs.Common.{◌≡◌, ℕ, ◌*◌, ◌%◌, ◌<◌, ◌⊎◌, Bool, true, false, cond, [], ◌∷◌, ◌++◌, Option, None, inl, inr, refl, sym, ap, subst, ◌∙◌}
use Rattle.gh_mutator_heap.proofs.Vocabulary.{Act, acted, acting, after_write, Answer, answer_of, answered, answered_at, Arena, Ask, asks, at_stage, at_task, Cell, cell_of, Does, ends, ever_after, EverValue, Fault, FullAt, Global, GlobalStage, Good, GoroutineRuns, Held, held_behind, held_then, is_number, keeping, lists, Means, moved, Name, naming, Op, option_to_list, OwnStepAt, PointerCell, PointerWrite, Processor, ProcessorFacts, Quiet, Reach, register_of, REGISTERS, Shared, step, Steps, Takes, takes_value, Task, Value, value_of, View, view, with_global, word_of_value, WriteGlobal, WritesIt}
use Rattle.gh_barrier.specs.Listing as write
use Rattle.gh_mutator.specs.Global as global
use Rattle.gh_mutator_heap.proofs.Owning.Barrier.{goes_so, held_so, IsBefore, IsLast, steady_held, step_is, word_written}
use Rattle.gh_mutator_heap.proofs.Owning.Known.{Known}
use Rattle.gh_mutator_heap.proofs.Owning.Objects.{fits_pointer, global_means, global_reached, name_found, register_reached, takes_told, word_holds}
use Rattle.gh_mutator_heap.proofs.Owning.Statements.{Comes, answered_once, at_its_task, has_room, idle, not_at_point, not_full, StepAt, StepFrom, took}
use Rattle.gh_mutator_heap.proofs.Owning.Steady.{HasCached, rights_with, Steady, steady_values}

-- The load.

abbrev at : Global → GlobalStage → Task
at x q = Task.Global (at_stage x q)

load_now : Known → (x : Global) (z : Arena) (a : ℕ) (s : Shared) (m : Processor) → Good z (view s) → Steady z a (view s) m → HasCached a (view s) m → GoroutineRuns z (view s) a x.g → x.r < REGISTERS → x.k < z.layout.globals → StepFrom z a s (at_task m (at x GlobalStage.Load)) None
load_now k x z a s m good steady right runs low few =
    let means : Means s.place s.ever.made (s.ever.global x.k) (value_of z.layout.pages true (s.words (Cell.Global x.k))) = global_means k z (view s) good x.k few in
    let t = took Global Task.Global z a s m x.g x.r (Op.GetGlobal x.g x.r x.k) steady right (naming x) (λ at v y pending st ri t. record { counts = st.0; knows = st.1; right = ri; task = t }) runs low k (Cell.Global x.k) (s.ever.global x.k) _ means refl (takes_told s.ever x.g x.r (s.ever.global x.k)) in
    record {
      move = Takes (Ask.Load (Cell.Global x.k)) x.g x.r (s.ever.global x.k);
      may = (tt, runs, low, global_reached s.ever x.k (s.ever.global x.k) refl);
      words_are = refl;
      after = record { after = t.after; fine = t.fine; ever = t.ever; answers = t.answers; full = λ y is full. absurd (not_full (takes_value (naming x) (value_of z.layout.pages true (s.words (Cell.Global x.k)))).acts (Op.GetGlobal x.g x.r x.k) y is full); counts = tt };
    }

load_step : Known → (x : Global) → StepAt (at x GlobalStage.Load)
load_step k x z a s m pending shapes good f = subst (λ (y : Option Answer). StepFrom z a s (at_task m (at x GlobalStage.Load)) y) (sym f.task.3) (load_now k x z a s m good (f.counts, f.knows) f.right f.task.0 f.task.1 f.task.2)

birth_step : Known → (x : Global) (at_word : ℕ) → StepAt (at x (GlobalStage.Birth at_word))
birth_step k x at_word z a s m pending shapes good f =
    let steady : Steady z a (view s) m = (f.counts, f.knows) in
    record {
      move = Quiet (Ask.Load (Cell.Birth (at_word % (1024 * z.layout.pages))));
      may = tt;
      words_are = refl;
      after = record {
        after = None;
        fine = idle z a (view s) m steady f.right;
        ever = refl;
        answers = ap option_to_list f.task.answers ∙ ap (λ (n : Name). Answer.Ref n ∷ []) (sym (name_found k z (view s) good f.task.n f.task.through.made (Reach.from_register x.g x.r f.task.n f.task.through.runs.goes_on f.task.through.names) at_word f.task.through.here));
        full = not_at_point (λ (y : Act). FullAt z a (view s) (at_task m (at x (GlobalStage.Birth at_word))) y.op);
        counts = tt;
      };
    }

-- The store.

module _ (k : Known) (x : Global) (z : Arena) (a : ℕ) (s : Shared) (m : Processor) (steady : Steady z a (view s) m) (right : HasCached a (view s) m) (runs : GoroutineRuns z (view s) a x.g) (low : x.r < REGISTERS) (few : x.k < z.layout.globals) (plain : is_number (s.ever.register x.g x.r) ≡ false) where
  abbrev o : Op
  o = Op.SetGlobal x.g x.k x.r

  abbrev stored : EverValue
  stored = s.ever.register x.g x.r

  abbrev held : Value
  held = register_of m x.g x.r

  t : Shared
  t = moved z a s (WriteGlobal x.k stored (word_of_value held))

  means : Means s.place s.ever.made stored held
  means = steady.1.stands.registers x.g x.r runs.of low

  is : answer_of z.shapes s.ever o ≡ Answer.Done
  is = ap (λ (b : Bool). cond b (Answer.Fault Fault.Kind) Answer.Done) plain

  next : ever_after z.shapes s.ever o (answer_of z.shapes s.ever o) ≡ with_global s.ever x.k stored
  next = ap (λ (b : Answer). ever_after z.shapes s.ever o b) is

  -- with this buffer held then
  lands : (q : GlobalStage) (h : Option Held) → Steady z a (view s) (keeping m h) → Comes Global Task.Global z a s t (keeping m h) x.g x.r o None (ends Answer.Done)
  unfolding t
  lands q h st = record {
    after = None;
    fine = idle z a (view t) (keeping m h) (steady_values z a (view s) (keeping m h) (view s).field (view t).global (with_global s.ever x.k stored) refl refl st) (rights_with a (view s) (view s).field (view t).global (with_global s.ever x.k stored) false (lists m.poll.local.cache) None None right);
    ever = sym next;
    answers = ap (λ (b : Answer). b ∷ []) is;
  }

  stored_by : (request : Ask) (P : Shared → Type 0) → request ≡ Ask.Store (Cell.Global x.k) (word_of_value held) → P t → Steps z a s request P
  unfolding t
  stored_by request P same p = subst (λ (y : Ask). Steps z a s y P) (sym same) (record {
    move = WriteGlobal x.k stored (word_of_value held);
    may = record { within = few; value_reached = register_reached s.ever x.g x.r runs.goes_on stored refl; holds = word_holds s.place s.ever.made true stored held means (fits_pointer stored plain) };
    words_are = refl;
    after = p;
  })

  abbrev here : GlobalStage → Processor
  here q = at_task m (at x q)

  abbrev word : GlobalStage → ℕ
  word q = s.words (cell_of (asks z.layout (here q)))

  does : (q : GlobalStage) (u : Shared) → global.op_of (at_stage x q) ≡ o → Comes Global Task.Global z a s u (keeping m (held_behind z.layout m.poll.local.held q (word q))) x.g x.r o None (step z.layout held (at_stage x q) (word q)) → Does z a s u (here q) None (word q)
  does q u of c = record {
    after = c.after;
    fine = c.fine;
    ever = subst (λ (y : Op). u.ever ≡ acted z.shapes s.ever (acting (step z.layout held (at_stage x q) (word q)).acts y false)) (sym of) c.ever;
    answers = subst (λ (y : Op). option_to_list (answered_at z.shapes s.ever (acting (step z.layout held (at_stage x q) (word q)).acts y false)) ++ [] ≡ option_to_list c.after ++ option_to_list (answered (step z.layout held (at_stage x q) (word q)).then)) (sym of) c.answers;
    full = λ y is full. absurd (not_full (step z.layout held (at_stage x q) (word q)).acts (global.op_of (at_stage x q)) y is full);
    counts = tt;
  }

  store_now : StepFrom z a s (here GlobalStage.Store) None
  store_now = stored_by (asks z.layout (here GlobalStage.Store)) (λ u. Does z a s u (here GlobalStage.Store) None (word GlobalStage.Store)) refl (does GlobalStage.Store t refl (lands GlobalStage.Store m.poll.local.held steady))

  -- A step of its write.
  module _ (w : PointerWrite) (it : WritesIt z.layout (PointerCell.Global x.k) held w) where
    abbrev stage : GlobalStage
    stage = GlobalStage.Writing w

    steady-then : Steady z a (view s) (keeping m (held_then z.layout w (word stage)))
    steady-then = steady_held z a (view s) m (held_then z.layout w (word stage)) (held_so k z.layout (PointerCell.Global x.k) held w (word stage) it) steady

    abbrev beside : Shared
    beside = moved z a s (Quiet (write.asks w))

    writes_on : IsBefore z.layout w (word stage) → Comes Global Task.Global z a s beside (keeping m (held_then z.layout w (word stage))) x.g x.r o None (after_write x (write.goes z.layout w (word stage)) (write.gives z.layout w (word stage)))
    writes_on b = subst (λ (y : Option (Unit {0})). Comes Global Task.Global z a s beside (keeping m (held_then z.layout w (word stage))) x.g x.r o None (after_write x (write.goes z.layout w (word stage)) y)) (sym b.goes_on) (record {
      after = None;
      fine = subst (λ (v : View). ProcessorFacts z a v (at_task (keeping m (held_then z.layout w (word stage))) (Task.Global (at_stage x (GlobalStage.Writing (write.goes z.layout w (word stage)))))) None) (sym (b.leaves.same z a s))
          (record { counts = steady-then.0; knows = steady-then.1; right = right; task = (runs, low, few, plain, goes_so k z.layout (PointerCell.Global x.k) held w (word stage) it b.goes_on, refl) });
      ever = refl;
      answers = refl;
    })

    write_now : IsBefore z.layout w (word stage) ⊎ IsLast z.layout w (word stage) → StepFrom z a s (here stage) None
    write_now (inl b) = record { move = Quiet (write.asks w); may = b.leaves.quiet; words_are = refl; after = does stage beside refl (writes_on b) }
    write_now (inr b) = stored_by (write.asks w) (λ u. Does z a s u (here stage) None (word stage))
        (b.stores ∙ ap (λ (c : PointerCell). Ask.Store (write.cell_at c) (write.pointer_word w.pointer)) it.same_cell ∙ ap (λ (n : ℕ). Ask.Store (Cell.Global x.k) n) (word_written z.layout (PointerCell.Global x.k) held w it))
        (does stage t refl
        (subst (λ (y : Option (Unit {0})). Comes Global Task.Global z a s t (keeping m (held_then z.layout w (word stage))) x.g x.r o None (after_write x (write.goes z.layout w (word stage)) y)) (sym b.ends) (lands stage (held_then z.layout w (word stage)) steady-then)))

store_step : Known → (x : Global) → StepAt (at x GlobalStage.Store)
store_step k x z a s m pending shapes good f = subst (λ (y : Option Answer). StepFrom z a s (at_task m (at x GlobalStage.Store)) y) (sym f.task.4) (store_now k x z a s m (f.counts, f.knows) f.right f.task.0 f.task.1 f.task.2 f.task.3)

write_step : Known → (x : Global) (w : PointerWrite) → StepAt (at x (GlobalStage.Writing w))
write_step k x w z a s m pending shapes good f = subst (λ (y : Option Answer). StepFrom z a s (at_task m (at x (GlobalStage.Writing w))) y) (sym f.task.5)
    (write_now k x z a s m (f.counts, f.knows) f.right f.task.0 f.task.1 f.task.2 f.task.3 w f.task.4 (step_is z.layout w _ f.task.4.busy))

number_step : (x : Global) → StepAt (at x GlobalStage.Number)
number_step x z a s m pending shapes good f =
    let steady : Steady z a (view s) m = (f.counts, f.knows) in
    let answers : answer_of z.shapes s.ever (Op.SetGlobal x.g x.k x.r) ≡ Answer.Fault Fault.Kind = ap (λ (b : Bool). cond b (Answer.Fault Fault.Kind) Answer.Done) f.task.1 in
    record {
      move = Quiet (Ask.Load Cell.Touch);
      may = tt;
      words_are = refl;
      after = record {
        after = None;
        fine = idle z a (view s) m steady f.right;
        ever = sym (ap (λ (b : Answer). ever_after z.shapes s.ever (Op.SetGlobal x.g x.k x.r) b) answers);
        answers = answered_once (answer_of z.shapes s.ever (Op.SetGlobal x.g x.k x.r)) _ pending f.task.2 (ap (λ (b : Answer). b ∷ []) answers);
        full = has_room (λ (y : Act). FullAt z a (view s) (at_task m (at x GlobalStage.Number)) y.op) (Op.SetGlobal x.g x.k x.r);
        counts = tt;
      };
    }

step_at : Known → (x : Global) (q : GlobalStage) → StepAt (at x q)
step_at k x GlobalStage.Load = load_step k x
step_at k x (GlobalStage.Birth at_word) = birth_step k x at_word
step_at k x GlobalStage.Store = store_step k x
step_at k x (GlobalStage.Writing w) = write_step k x w
step_at k x GlobalStage.Number = number_step x

pub global_steps : Known → (x : Global) → OwnStepAt (Task.Global x)
global_steps k x = at_its_task (Task.Global x) (step_at k x x.stage)
