-- Own steps of a store while others change the heap. At its point the field takes what its register holds.
use Rattle.std.proofs.Common.{◌≡◌, ℕ, ◌+◌, ◌*◌, ◌%◌, ◌<◌, ◌⊎◌, Bool, true, false, not, cond, ltb, [], ◌∷◌, Option, Some, None, inl, inr, refl, sym, ap, subst, ◌∙◌, arith, ◌&&◌}
use Rattle.std.proofs.lemmas.Bool.{ltb-true, lt-ltb}
use Rattle.gh_mutator_heap.proofs.Vocabulary.{Answer, answer_of, Arena, Ask, asks, at_task, Cell, cell_of, Does, ends, Ever, ever_after, EverValue, Fault, field_cell, fits, goes_on, Good, has_field, Held, held_then, is_mark, is_number_value, is_pointer_by, IsPlain, keeping, kinds_differ, lists, Means, mod-lt, moved, Name, names, OwnStepAt, page_of, Place, pointer_cell_at, PointerCell, PointerWrite, points, Processor, ProcessorFacts, put, Quiet, Reach, register_of, Shared, size_for, slot_in, Step, Steps, Store, store_answer, StoreFacts, Stores, stores, stores_value, StoreStage, Task, Through, Value, View, view, with_field, word_of_value, Write, WritesIt, written}
use Rattle.gh_barrier.specs.Listing as write
use Rattle.gh_mutator.specs.declared.store.StoreStage.TheVariants.{Page, Bits, Field, Writing, NilBase}
use Rattle.gh_mutator.specs.Store.{after_write, at_stage, held_behind, op_of, step}
use Rattle.gh_mutator_heap.proofs.Owning.Barrier.{begins_so, goes_so, held_so, IsBefore, IsLast, names_fit, steady_held, step_is, word_written}
use Rattle.gh_mutator_heap.proofs.Owning.Known.{Known}
use Rattle.gh_mutator_heap.proofs.Owning.Objects.{bit_found, register_reached, size_found, word_holds, word_is}
use Rattle.gh_mutator_heap.proofs.Owning.Statements.{Comes, further, idle, not_full}
use Rattle.gh_mutator_heap.proofs.Owning.Steady.{HasCached, Steady, steady_values}

-- a value and the kind of a field differ where it does not fit
differ_fits : (place : Place) (made : ℕ → ℕ) (p : Bool) (v : EverValue) (x : Value) → Means place made v x → kinds_differ p x ≡ not (fits p v)
differ_fits place made p v x h = grind arith

module _ (laws : Known) (z : Arena) (a : ℕ) (s : Shared) (m : Processor) (x : Store) (good : Good z (view s)) where
  abbrev e : Ever
  e = s.ever

  abbrev size : Name → ℕ
  size n = size_for z.shapes e.type_of n

  -- field k of the object is a pointer
  abbrev kind : Name → Bool
  kind n = points z.shapes e.type_of n x.k

  -- what it stores, in the heap that never frees, and in its register
  abbrev stored : EverValue
  stored = e.register x.g x.v

  abbrev held : Value
  held = register_of m x.g x.v

  -- what it is answered

  store_past : (v : EverValue) (n : Name) → names v ≡ Some n → ltb x.k (size n) ≡ false → store_answer z.shapes e v x.k stored ≡ Answer.Fault Fault.Field
  store_past EverValue.Nil n is over = absurd (cc)
  store_past (EverValue.Int i) n is over = absurd (cc)
  store_past (EverValue.Ref o) n is over = let same : o ≡ n = cc in rw (same, over) refl

  store_kind : (v w : EverValue) (n : Name) (b : Bool) → names v ≡ Some n → x.k < size n → fits (kind n) w ≡ b → store_answer z.shapes e v x.k w ≡ cond b Answer.Done (Answer.Fault Fault.Kind)
  store_kind EverValue.Nil w n b is few f = absurd (cc)
  store_kind (EverValue.Int i) w n b is few f = absurd (cc)
  store_kind (EverValue.Ref o) w n b is few f = let same : o ≡ n = cc in rw (same, lt-ltb x.k (size n) few, f) refl

  -- what it changes
  stores_there : (v w : EverValue) (n : Name) → names v ≡ Some n → stores_value e v x.k w Answer.Done ≡ with_field e n x.k w
  stores_there EverValue.Nil w n is = absurd (cc)
  stores_there (EverValue.Int i) w n is = absurd (cc)
  stores_there (EverValue.Ref o) w n is = let same : o ≡ n = cc in ap (λ (m : Name). with_field e m x.k w) same

  plain_store : (v : EverValue) → IsPlain v → store_answer z.shapes e v x.k stored ≡ Answer.Fault Fault.NilBase
  plain_store v h = grind arith

  -- the processor at a stage of it, and the word that its step finds
  abbrev here : StoreStage → Processor
  here q = at_task m (Task.Store (at_stage x q))

  abbrev found : StoreStage → ℕ
  found q = s.words (cell_of (asks z.layout (here q)))

  abbrev Own : StoreStage → Option Answer → Type 0
  Own q pending = Steps z a s (asks z.layout (here q)) (λ t. Does z a s t (here q) pending (found q))

  -- with the buffer that it holds behind the step
  abbrev ToWith : Option Held → Shared → Option Answer → Step Store → Type 0
  ToWith h t pending next = Comes Store Task.Store z a s t (keeping m h) x.g x.v (op_of x) pending next

  abbrev To : Shared → Option Answer → Step Store → Type 0
  To t pending next = Comes Store Task.Store z a s t m x.g x.v (op_of x) pending next

  does : (q : StoreStage) (pending : Option Answer) (t : Shared) → ToWith (held_behind z.layout m.poll.local.held q (found q)) t pending (step z.layout m.poll.local held (at_stage x q) (found q)) → Does z a s t (here q) pending (found q)
  does q pending t c = record { after = c.after; fine = c.fine; ever = c.ever; answers = c.answers; full = λ y is full. absurd (not_full (step z.layout m.poll.local held (at_stage x q) (found q)).acts (op_of x) y is full); counts = tt }

  module _ (steady : Steady z a (view s) m) (right : HasCached a (view s) m) where
    heap : (i : ℕ) → i % (1024 * z.layout.pages) < 1024 * z.layout.pages
    heap i = let some = z.layout.limits.pages_fit.0 in mod-lt i (omega (arith, some))

    reach : (n : Name) → Through z a (view s) x.g x.b x.at n → Reach e n
    reach n t = Reach.from_register x.g x.b n t.runs.goes_on t.names

    means : (n : Name) → Through z a (view s) x.g x.b x.at n → (p : StoreStage) → Stores z a (view s) (at_stage x p) None → Means s.place e.made stored held
    means n t p l = steady.1.stands.registers x.g x.v t.runs.of l.register

    abbrev stores_at : (p q : StoreStage) → Stores z a (view s) (at_stage x p) None → Stores z a (view s) (at_stage x q) None
    stores_at p q l = record { n = l.n; through = l.through; register = l.register; unanswered = l.unanswered }

    fault_at : (f : Fault) → answer_of z.shapes e (op_of x) ≡ Answer.Fault f → To s None (ends (Answer.Fault f))
    fault_at f is = grind arith

    page_by : (l : Stores z a (view s) (at_stage x Page) None) → slot_in (page_of (found Page)) ≡ size l.n → (b : Bool) → has_field x.k (found Page) ≡ b → To s None (cond b (goes_on (at_stage x Bits)) (ends (Answer.Fault Fault.Field)))
    page_by l sized true test = further Store Task.Store z a s m x.g x.v (op_of x) steady right (at_stage x Bits)
        (record { counts = steady.0; knows = steady.1; right = right; task = (stores_at Page Bits l, subst (λ (n : ℕ). x.k < n) sized (ltb-true _ _ test)) })
    page_by l sized false test = fault_at Fault.Field (store_past (e.register x.g x.b) l.n l.through.names (subst (λ (n : ℕ). ltb x.k n ≡ false) sized test))

    page : (l : Stores z a (view s) (at_stage x Page) None) → Own Page None
    page l = record {
      move = Quiet (asks z.layout (here Page));
      may = tt;
      words_are = refl;
      after = does Page None s (page_by l (size_found laws z (view s) good l.n l.through.made (reach l.n l.through) x.at l.through.here) (has_field x.k (found Page)) refl);
    }

    -- what it writes behind the barrier
    begun : (l : Stores z a (view s) (at_stage x Bits) None) → x.k < size l.n → is_number_value held ≡ false → WritesIt z.layout (pointer_cell_at z.layout (x.at + x.k)) held (written m.poll.local (pointer_cell_at z.layout (x.at + x.k)) held)
    begun l few plain =
        let fit = names_fit laws z (view s) good stored held (register_reached e x.g x.v l.through.runs.goes_on stored refl) (means l.n l.through Bits l) in
        begins_so laws z.layout m.poll.local (pointer_cell_at z.layout (x.at + x.k)) held (heap (x.at + x.k)) fit steady.1.stands.sits.held plain

    -- the field's kind is that of the value, or not
    kind_by : (l : Stores z a (view s) (at_stage x Bits) None) → x.k < size l.n → fits (kind l.n) stored ≡ true → (p marking : Bool) → kinds_differ p held ≡ false →
        StoreFacts z a (view s) m.poll (at_stage x (cond (p && marking) (Writing (written m.poll.local (pointer_cell_at z.layout (x.at + x.k)) held)) Field)) None (cond (p && marking) (Writing (written m.poll.local (pointer_cell_at z.layout (x.at + x.k)) held)) Field)
    kind_by l few fit true true same = (stores_at Bits (Writing (written m.poll.local (pointer_cell_at z.layout (x.at + x.k)) held)) l, few, fit, begun l few same)
    kind_by l few fit true false same = (stores_at Bits Field l, few, fit)
    kind_by l few fit false marking same = (stores_at Bits Field l, few, fit)

    bits_by : (l : Stores z a (view s) (at_stage x Bits) None) → x.k < size l.n → (b : Bool) → fits (kind l.n) stored ≡ b → (p differ : Bool) → kinds_differ p held ≡ differ → differ ≡ not b → To s None (cond differ (ends (Answer.Fault Fault.Kind)) (goes_on (at_stage x (stores z.layout m.poll.local held x p))))
    bits_by l few true fit p true d is = absurd cc
    bits_by l few true fit p false d is = further Store Task.Store z a s m x.g x.v (op_of x) steady right (at_stage x (stores z.layout m.poll.local held x p))
        (record { counts = steady.0; knows = steady.1; right = right; task = kind_by l few fit p (is_mark m.poll.local.view.phase) d })
    bits_by l few false fit p true d is = fault_at Fault.Kind (store_kind (e.register x.g x.b) stored l.n false l.through.names few fit)
    bits_by l few false fit p false d is = absurd cc

    bits : (l : Stores z a (view s) (at_stage x Bits) None) → x.k < size l.n → Own Bits None
    bits l few = record {
      move = Quiet (asks z.layout (here Bits));
      may = tt;
      words_are = refl;
      after = does Bits None s (bits_by l few (fits (kind l.n) stored) refl (is_pointer_by z.layout (x.at + x.k) (found Bits)) (kinds_differ (is_pointer_by z.layout (x.at + x.k) (found Bits)) held) refl
          (ap (λ (p : Bool). kinds_differ p held) (bit_found laws z (view s) good l.n l.through.made (reach l.n l.through) x.at l.through.here x.k few)
          ∙ differ_fits s.place e.made (kind l.n) stored held (means l.n l.through Bits l)));
    }

    -- The field is stored: with this buffer held then.
    module _ (q : StoreStage) (l : Stores z a (view s) (at_stage x q) None) (few : x.k < size l.n) (fit : fits (kind l.n) stored ≡ true) where
      t : Shared
      t = moved z a s (Write l.n x.k stored (word_of_value held))

      is : answer_of z.shapes e (op_of x) ≡ Answer.Done
      is = store_kind (e.register x.g x.b) stored l.n true l.through.names few fit

      next : ever_after z.shapes e (op_of x) (answer_of z.shapes e (op_of x)) ≡ with_field e l.n x.k stored
      next = ap (λ (y : Answer). ever_after z.shapes e (op_of x) y) is ∙ stores_there (e.register x.g x.b) stored l.n l.through.names

      lands : (h : Option Held) → Steady z a (view s) (keeping m h) → ToWith h t None (ends Answer.Done)
      unfolding t
      lands h st = record {
        after = None;
        fine = idle z a (view t) (keeping m h) (steady_values z a (view s) (keeping m h) (view t).field (view s).global (with_field e l.n x.k stored) refl refl st)
            ((laws.follow z a s false (lists m.poll.local.cache) None right).written l.n x.k stored (word_of_value held));
        ever = sym next;
        answers = ap (λ (y : Answer). y ∷ []) is;
      }

      stored_by : (request : Ask) (P : Shared → Type 0) → request ≡ asks z.layout (here Field) → P t → Steps z a s request P
      unfolding t
      stored_by request P same p = subst (λ (y : Ask). Steps z a s y P) (sym same) (record {
        move = Write l.n x.k stored (word_of_value held);
        may = record {
          reached = reach l.n l.through;
          made = l.through.made;
          within = few;
          value_reached = register_reached e x.g x.v l.through.runs.goes_on stored refl;
          holds = word_holds s.place e.made (kind l.n) stored held (means l.n l.through q l) fit;
        };
        words_are = ap (λ (i : ℕ). put s.words (Cell.Field i) (word_of_value held)) (sym (word_is laws z (view s) good l.n l.through.made (reach l.n l.through) x.at l.through.here x.k few));
        after = p;
      })

    field : (l : Stores z a (view s) (at_stage x Field) None) → x.k < size l.n → fits (kind l.n) stored ≡ true → Own Field None
    field l few fit = stored_by Field l few fit (asks z.layout (here Field)) (λ t. Does z a s t (here Field) None (found Field)) refl (does Field None (t Field l few fit) (lands Field l few fit m.poll.local.held steady))

    -- A step of its write.
    module _ (w : PointerWrite) (l : Stores z a (view s) (at_stage x (Writing w)) None) (few : x.k < size l.n) (fit : fits (kind l.n) stored ≡ true) (it : WritesIt z.layout (pointer_cell_at z.layout (x.at + x.k)) held w) where
      abbrev word : ℕ
      word = found (Writing w)

      steady-then : Steady z a (view s) (keeping m (held_then z.layout w word))
      steady-then = steady_held z a (view s) m (held_then z.layout w word) (held_so laws z.layout (pointer_cell_at z.layout (x.at + x.k)) held w word it) steady

      abbrev beside : Shared
      beside = moved z a s (Quiet (write.asks w))

      writes_on : IsBefore z.layout w word → ToWith (held_then z.layout w word) beside None (after_write x (write.goes z.layout w word) (write.gives z.layout w word))
      writes_on b = subst (λ (o : Option (Unit {0})). ToWith (held_then z.layout w word) beside None (after_write x (write.goes z.layout w word) o)) (sym b.goes_on) (record {
        after = None;
        fine = subst (λ (v : View). ProcessorFacts z a v (at_task (keeping m (held_then z.layout w word)) (Task.Store (at_stage x (Writing (write.goes z.layout w word))))) None) (sym (b.leaves.same z a s))
            (record { counts = steady-then.0; knows = steady-then.1; right = right; task = (stores_at (Writing w) (Writing (write.goes z.layout w word)) l, few, fit, goes_so laws z.layout (pointer_cell_at z.layout (x.at + x.k)) held w word it b.goes_on) });
        ever = refl;
        answers = refl;
      })

      writing : IsBefore z.layout w word ⊎ IsLast z.layout w word → Own (Writing w) None
      writing (inl b) = record { move = Quiet (write.asks w); may = b.leaves.quiet; words_are = refl; after = does (Writing w) None beside (writes_on b) }
      writing (inr b) = stored_by (Writing w) l few fit (write.asks w) (λ t. Does z a s t (here (Writing w)) None word)
          (b.stores ∙ ap (λ (c : PointerCell). Ask.Store (write.cell_at c) (write.pointer_word w.pointer)) it.same_cell ∙ ap (λ (n : ℕ). Ask.Store (field_cell z.layout (x.at + x.k)) n) (word_written z.layout (pointer_cell_at z.layout (x.at + x.k)) held w it))
          (does (Writing w) None (t (Writing w) l few fit)
          (subst (λ (o : Option (Unit {0})). ToWith (held_then z.layout w word) (t (Writing w) l few fit) None (after_write x (write.goes z.layout w word) o)) (sym b.ends) (lands (Writing w) l few fit (held_then z.layout w word) steady-then)))

    nil_base : IsPlain (e.register x.g x.b) → Own NilBase None
    nil_base plain = record {
      move = Quiet (asks z.layout (here NilBase));
      may = tt;
      words_are = refl;
      after = does NilBase None s (fault_at Fault.NilBase (plain_store (e.register x.g x.b) plain));
    }

  own : (q : StoreStage) (pending : Option Answer) → ProcessorFacts z a (view s) (here q) pending → Own q pending
  own q pending fine = by q pending fine (fine.counts, fine.knows) where
    by : (q : StoreStage) (pending : Option Answer) → ProcessorFacts z a (view s) (here q) pending → Steady z a (view s) m → Own q pending
    by Page None fine steady = page steady fine.right fine.task
    by Bits None fine steady = bits steady fine.right fine.task.0 fine.task.1
    by Field None fine steady = field steady fine.right fine.task.0 fine.task.1 fine.task.2
    by (Writing w) None fine steady = writing steady fine.right w fine.task.0 fine.task.1 fine.task.2 fine.task.3 (step_is z.layout w (found (Writing w)) fine.task.3.busy)
    by NilBase None fine steady = nil_base steady fine.right fine.task.2
    by Page (Some y) fine steady = absurd (cc fine.task.unanswered)
    by Bits (Some y) fine steady = absurd (cc fine.task.0.unanswered)
    by Field (Some y) fine steady = absurd (cc fine.task.0.unanswered)
    by (Writing w) (Some y) fine steady = absurd (cc fine.task.0.unanswered)
    by NilBase (Some y) fine steady = absurd (cc fine.task.3)

pub store_steps : Known → (x : Store) → OwnStepAt (Task.Store x)
store_steps laws x z a s m pending shapes is good fine = go (ap (λ (q : Task). at_task m q) (sym is)) where
  go : at_task m (Task.Store x) ≡ m → Steps z a s (asks z.layout m) (λ t. Does z a s t m pending (s.words (cell_of (asks z.layout m))))
  go same = subst (λ (y : Processor). Steps z a s (asks z.layout y) (λ t. Does z a s t y pending (s.words (cell_of (asks z.layout y))))) same
      (own laws z a s m x good x.stage pending (subst (λ (y : Processor). ProcessorFacts z a (view s) y pending) (sym same) fine))
