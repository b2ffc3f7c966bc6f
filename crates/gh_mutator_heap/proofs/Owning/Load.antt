-- Own steps of a load while others change the heap. At its point its register takes what the field held.
use Rattle.std.proofs.Common.{◌≡◌, ℕ, ◌<◌, Bool, true, false, cond, ltb, [], ◌∷◌, Option, Some, None, refl, sym, ap, subst, arith}
use Rattle.std.proofs.lemmas.Bool.{ltb-true, lt-ltb}
use Rattle.gh_mutator_heap.proofs.Vocabulary.{Answer, answer_of, answer_of_value, Arena, asks, at_task, Birth, Bits, cell_of, Does, ends, Ever, EverValue, Fault, Field, goes_on, Good, has_field, IsPlain, Load, load_answer, Loads, LoadStage, Name, names, NilBase, op_of, OwnStepAt, Page, page_of, points, Processor, ProcessorFacts, Quiet, Reach, Shared, size_for, slot_in, Step, Steps, Task, Through, value_of, view}
use Rattle.gh_heap.specs.Moves as moves
use Rattle.gh_mutator.specs.Load.{at_stage, naming, step}
use Rattle.gh_mutator_heap.proofs.Owning.Known.{Known}
use Rattle.gh_mutator_heap.proofs.Owning.Objects.{bit_found, field_reached, name_found, size_found, takes_told, value_means}
use Rattle.gh_mutator_heap.proofs.Owning.Statements.{Comes, faulted, further, idle, not_full, took}
use Rattle.gh_mutator_heap.proofs.Owning.Steady.{HasCached, Steady}

module _ (laws : Known) (z : Arena) (a : ℕ) (s : Shared) (m : Processor) (x : Load) (good : Good z (view s)) where
  abbrev e : Ever
  e = s.ever

  abbrev size : Name → ℕ
  size n = size_for z.shapes e.type_of n

  -- what it is answered

  load_found : (v : EverValue) (n : Name) (k : ℕ) → names v ≡ Some n → k < size n → load_answer z.shapes e v k ≡ answer_of_value (e.field n k)
  load_found EverValue.Nil n k is few = absurd (cc)
  load_found (EverValue.Int i) n k is few = absurd (cc)
  load_found (EverValue.Ref o) n k is few = let same : o ≡ n = cc in rw (same, lt-ltb k (size n) few) refl

  load_past : (v : EverValue) (n : Name) (k : ℕ) → names v ≡ Some n → ltb k (size n) ≡ false → load_answer z.shapes e v k ≡ Answer.Fault Fault.Field
  load_past EverValue.Nil n k is over = absurd (cc)
  load_past (EverValue.Int i) n k is over = absurd (cc)
  load_past (EverValue.Ref o) n k is over = let same : o ≡ n = cc in rw (same, over) refl

  plain_load : (v : EverValue) (k : ℕ) → IsPlain v → load_answer z.shapes e v k ≡ Answer.Fault Fault.NilBase
  plain_load v k h = grind arith

  -- the processor at a stage of it, and the word that its step finds
  abbrev here : LoadStage → Processor
  here q = at_task m (Task.Load (at_stage x q))

  abbrev found : LoadStage → ℕ
  found q = s.words (cell_of (asks z.layout (here q)))

  abbrev Own : LoadStage → Option Answer → Type 0
  Own q pending = Steps z a s (asks z.layout (here q)) (λ t. Does z a s t (here q) pending (found q))

  abbrev To : Shared → Option Answer → Step Load → Type 0
  To t pending next = Comes Load Task.Load z a s t m x.g x.d (op_of x) pending next

  does : (q : LoadStage) (pending : Option Answer) (t : Shared) → To t pending (step z.layout (at_stage x q) (found q)) → Does z a s t (here q) pending (found q)
  does q pending t c = record { after = c.after; fine = c.fine; ever = c.ever; answers = c.answers; full = λ y is full. absurd (not_full (step z.layout (at_stage x q) (found q)).acts (op_of x) y is full); counts = tt }

  module _ (steady : Steady z a (view s) m) (right : HasCached a (view s) m) where
    reach : (n : Name) → Through z a (view s) x.g x.b x.at n → Reach e n
    reach n t = Reach.from_register x.g x.b n t.runs.goes_on t.names

    abbrev loads_at : (p q : LoadStage) → Loads z a (view s) (at_stage x p) None → Loads z a (view s) (at_stage x q) None
    loads_at p q l = record { n = l.n; through = l.through; register = l.register; unanswered = l.unanswered }

    fault_at : (f : Fault) → answer_of z.shapes e (op_of x) ≡ Answer.Fault f → To s None (ends (Answer.Fault f))
    fault_at f is = faulted Load Task.Load z a s m x.g x.d (op_of x) steady right (Answer.Fault f) is refl

    page_by : (l : Loads z a (view s) (at_stage x Page) None) → slot_in (page_of (found Page)) ≡ size l.n → (b : Bool) → has_field x.k (found Page) ≡ b → To s None (cond b (goes_on (at_stage x Bits)) (ends (Answer.Fault Fault.Field)))
    page_by l sized true test = further Load Task.Load z a s m x.g x.d (op_of x) steady right (at_stage x Bits)
        (record { counts = steady.0; knows = steady.1; right = right; task = (loads_at Page Bits l, subst (λ (n : ℕ). x.k < n) sized (ltb-true _ _ test)) })
    page_by l sized false test = fault_at Fault.Field (load_past (e.register x.g x.b) l.n x.k l.through.names (subst (λ (n : ℕ). ltb x.k n ≡ false) sized test))

    page : (l : Loads z a (view s) (at_stage x Page) None) → Own Page None
    page l = record {
      move = Quiet (asks z.layout (here Page));
      may = tt;
      words_are = refl;
      after = does Page None s (page_by l (size_found laws z (view s) good l.n l.through.made (reach l.n l.through) x.at l.through.here) (has_field x.k (found Page)) refl);
    }

    bits : (l : Loads z a (view s) (at_stage x Bits) None) → x.k < size l.n → Own Bits None
    bits l few = record {
      move = Quiet (asks z.layout (here Bits));
      may = tt;
      words_are = refl;
      after = does Bits None s (further Load Task.Load z a s m x.g x.d (op_of x) steady right _
          (record { counts = steady.0; knows = steady.1; right = right; task = (loads_at Bits _ l, few, bit_found laws z (view s) good l.n l.through.made (reach l.n l.through) x.at l.through.here x.k few) }));
    }

    field : (p : Bool) (l : Loads z a (view s) (at_stage x (Field p)) None) → x.k < size l.n → p ≡ points z.shapes e.type_of l.n x.k → Own (Field p) None
    field p l few kind = record {
      move = moves.Takes (asks z.layout (here (Field p))) x.g x.d (e.field l.n x.k);
      may = (tt, l.through.runs, l.register, field_reached e l.n x.k (reach l.n l.through) (e.field l.n x.k) refl);
      words_are = refl;
      after = does (Field p) None _ (took Load Task.Load z a s m x.g x.d (op_of x) steady right (naming x)
          (λ at v y pending st ri t. record { counts = st.0; knows = st.1; right = ri; task = t })
          l.through.runs l.register laws (cell_of (asks z.layout (here (Field p)))) (e.field l.n x.k) (value_of z.layout.pages p (found (Field p)))
          (value_means laws z (view s) good l.n l.through.made (reach l.n l.through) x.at x.k p l.through.here few kind)
          (load_found (e.register x.g x.b) l.n x.k l.through.names few) (takes_told e x.g x.d (e.field l.n x.k)));
    }

    birth : (at : ℕ) (n : Name) → Through z a (view s) x.g x.d at n → Own (Birth at) (Some (Answer.Ref n))
    birth at n t = record {
      move = Quiet (asks z.layout (here (Birth at)));
      may = tt;
      words_are = refl;
      after = does (Birth at) (Some (Answer.Ref n)) s (record {
        after = None;
        fine = idle z a (view s) m steady right;
        ever = refl;
        answers = ap (λ (y : Name). Answer.Ref y ∷ []) (sym (name_found laws z (view s) good n t.made (Reach.from_register x.g x.d n t.runs.goes_on t.names) at t.here));
      });
    }

    nil_base : IsPlain (e.register x.g x.b) → Own NilBase None
    nil_base plain = record {
      move = Quiet (asks z.layout (here NilBase));
      may = tt;
      words_are = refl;
      after = does NilBase None s (fault_at Fault.NilBase (plain_load (e.register x.g x.b) x.k plain));
    }

  own : (q : LoadStage) (pending : Option Answer) → ProcessorFacts z a (view s) (here q) pending → Own q pending
  own q pending fine = by q pending fine (fine.counts, fine.knows) where
    by : (q : LoadStage) (pending : Option Answer) → ProcessorFacts z a (view s) (here q) pending → Steady z a (view s) m → Own q pending
    by Page None fine steady = page steady fine.right fine.task
    by Bits None fine steady = bits steady fine.right fine.task.0 fine.task.1
    by (Field p) None fine steady = field steady fine.right p fine.task.0 fine.task.1 fine.task.2
    by (Birth at) pending fine steady = subst (λ (y : Option Answer). Own (Birth at) y) (sym fine.task.answers) (birth steady fine.right at fine.task.n fine.task.through)
    by NilBase None fine steady = nil_base steady fine.right fine.task.2
    by Page (Some y) fine steady = absurd (cc fine.task.unanswered)
    by Bits (Some y) fine steady = absurd (cc fine.task.0.unanswered)
    by (Field p) (Some y) fine steady = absurd (cc fine.task.0.unanswered)
    by NilBase (Some y) fine steady = absurd (cc fine.task.3)

pub load_steps : Known → (x : Load) → OwnStepAt (Task.Load x)
load_steps laws x z a s m pending shapes is good fine = go (ap (λ (q : Task). at_task m q) (sym is)) where
  go : at_task m (Task.Load x) ≡ m → Steps z a s (asks z.layout m) (λ t. Does z a s t m pending (s.words (cell_of (asks z.layout m))))
  go same = subst (λ (y : Processor). Steps z a s (asks z.layout y) (λ t. Does z a s t y pending (s.words (cell_of (asks z.layout y))))) same
      (own laws z a s m x good x.stage pending (subst (λ (y : Processor). ProcessorFacts z a (view s) y pending) (sym same) fine))
