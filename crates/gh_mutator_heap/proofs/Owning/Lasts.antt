-- What is known of a processor lasts, whatever others do.
use Rattle.std.proofs.Common.{◌≡◌, ℕ, ◌<◌, Bool, true, List, Option, sym, ap, subst, ◌∙◌, arith}
use Rattle.gh_mutator_heap.proofs.Vocabulary.{Answer, Arena, Assist, EverValue, FactsAt, field_count, fits, for_whom, Freeing, freeing_new, Global, GlobalFacts, GlobalStage, Good, GoroutineRuns, HasAt, held_new, is_pointer, IsOf, IsPlain, KnowsAt, KnowsCounts, KnowsNew, Lasts, Laying, laying_new, Load, LoadFacts, Loads, LoadStage, locked_new, Makes, MOST_STATEMENTS, Name, names, NewFacts, NewStage, Others, Placing, Polling, Processor, Register, RegisterFacts, rest, Rests, Rights, Search, Searches, Seeking, shape_at, Source, Store, StoreFacts, Stores, StoreStage, Task, Through, View, Wait, waiting, Want, Wanted, Wants}
use Rattle.gh_mutator_heap.proofs.Owning.Vocabulary.{Takes}
use Rattle.gh_alloc.specs.SearchFacts as search
use Rattle.gh_mutator.specs.declared.new.NewStage.TheVariants.{Place}
use Rattle.gh_mutator_heap.proofs.Holding.Known.{holds_swept, knows_last, stands_last}
use Rattle.gh_mutator_heap.proofs.Owning.Known.{Known}
use Rattle.gh_mutator_heap.proofs.Owning.Steady.{counts_with}

module _ (z : Arena) (a : ℕ) (v w : View) (o : Others z a v w) where
  -- what is said of a register of one of its goroutines
  of_register : (P : EverValue → Type 0) (g d : ℕ) → IsOf z a g → P (v.ever.register g d) → P (w.ever.register g d)
  of_register P g d of h = subst P (sym (o.registers g d of)) h

  -- What does not depend on the statement.

  counts_last : (made : List ℕ) → KnowsCounts z a v made → KnowsCounts z a w made
  counts_last made k = counts_with z a v w made (λ g of. o.counts g of) k

  pub right_lasts : (l : Bool) (h : ℕ → Bool) (y : Option Laying) (f : Option Freeing) → Rights a v l h y f → Rights a w l h y f
  right_lasts l h y f r = record { locked = o.locked ∙ r.locked; holds = λ p. o.holds p ∙ r.holds p; laying = o.laying ∙ r.laying; freeing = o.freeing ∙ r.freeing }

  -- Of statements.

  runs_lasts : (g : ℕ) → GoroutineRuns z v a g → GoroutineRuns z w a g
  runs_lasts g r = record { of = r.of; goes_on = o.ends g r.of ∙ r.goes_on }

  through_lasts : (g b at : ℕ) (n : Name) → Through z a v g b at n → Through z a w g b at n
  through_lasts g b at n t = record { runs = runs_lasts g t.runs; register = t.register; names = ap names (o.registers g b t.runs.of) ∙ t.names; made = o.made n t.made; here = t.here ∙ sym (o.places n t.made) }

  takes_lasts : (g d at : ℕ) (pending : Option Answer) → Takes z a v g d at pending → Takes z a w g d at pending
  takes_lasts g d at pending t = record { n = t.n; through = through_lasts g d at t.n t.through; answers = t.answers }

  -- the field is one of the object, and a pointer field or not
  has_lasts : (n : Name) (k : ℕ) → n.k < v.ever.made n.g → k < field_count (shape_at z.shapes (v.ever.type_of n)) → k < field_count (shape_at z.shapes (w.ever.type_of n))
  has_lasts n k made lt = subst (λ (t : ℕ). k < field_count (shape_at z.shapes t)) (sym (o.types n made)) lt

  kind_lasts : (P : Bool → Type 0) (n : Name) (k : ℕ) → n.k < v.ever.made n.g → P (is_pointer (shape_at z.shapes (v.ever.type_of n)) k) → P (is_pointer (shape_at z.shapes (w.ever.type_of n)) k)
  kind_lasts P n k made h = subst (λ (t : ℕ). P (is_pointer (shape_at z.shapes t) k)) (sym (o.types n made)) h

  loads_last : (x : Load) (pending : Option Answer) → Loads z a v x pending → Loads z a w x pending
  loads_last x pending l = record { n = l.n; through = through_lasts x.g x.b x.at l.n l.through; register = l.register; unanswered = l.unanswered }

  load_lasts : (x : Load) (pending : Option Answer) (q : LoadStage) → LoadFacts z a v x pending q → LoadFacts z a w x pending q
  unfolding loads_last
  load_lasts x pending LoadStage.Page f = loads_last x pending f
  load_lasts x pending LoadStage.Bits f = (loads_last x pending f.0, has_lasts f.0.n x.k f.0.through.made f.1)
  load_lasts x pending (LoadStage.Field p) f = (loads_last x pending f.0, has_lasts f.0.n x.k f.0.through.made f.1, kind_lasts (λ (b : Bool). p ≡ b) f.0.n x.k f.0.through.made f.2)
  load_lasts x pending (LoadStage.Birth at) f = takes_lasts x.g x.d at pending f
  load_lasts x pending LoadStage.NilBase f = (runs_lasts x.g f.0, f.1, of_register IsPlain x.g x.b f.0.of f.2, f.3)

  stores_last : (x : Store) (pending : Option Answer) → Stores z a v x pending → Stores z a w x pending
  stores_last x pending l = record { n = l.n; through = through_lasts x.g x.b x.at l.n l.through; register = l.register; unanswered = l.unanswered }

  store_lasts : (p : Polling) (x : Store) (pending : Option Answer) (q : StoreStage) → StoreFacts z a v p x pending q → StoreFacts z a w p x pending q
  unfolding stores_last
  store_lasts p x pending StoreStage.Page f = stores_last x pending f
  store_lasts p x pending StoreStage.Bits f = (stores_last x pending f.0, has_lasts f.0.n x.k f.0.through.made f.1)
  store_lasts p x pending StoreStage.Field f = (
    stores_last x pending f.0,
    has_lasts f.0.n x.k f.0.through.made f.1,
    kind_lasts (λ (b : Bool). fits b (w.ever.register x.g x.v) ≡ true) f.0.n x.k f.0.through.made
        (of_register (λ (y : EverValue). fits (is_pointer (shape_at z.shapes (v.ever.type_of f.0.n)) x.k) y ≡ true) x.g x.v f.0.through.runs.of f.2),
  )
  store_lasts p x pending (StoreStage.Writing y) f = (
    stores_last x pending f.0,
    has_lasts f.0.n x.k f.0.through.made f.1,
    kind_lasts (λ (b : Bool). fits b (w.ever.register x.g x.v) ≡ true) f.0.n x.k f.0.through.made
        (of_register (λ (y : EverValue). fits (is_pointer (shape_at z.shapes (v.ever.type_of f.0.n)) x.k) y ≡ true) x.g x.v f.0.through.runs.of f.2),
    f.3,
  )
  store_lasts p x pending StoreStage.NilBase f = (runs_lasts x.g f.0, f.1, of_register IsPlain x.g x.b f.0.of f.2, f.3)

  global_lasts : (p : Polling) (x : Global) (pending : Option Answer) (q : GlobalStage) → GlobalFacts z a v p x pending q → GlobalFacts z a w p x pending q
  global_lasts p x pending q f = grind arith

  register_lasts : (x : Register) (pending : Option Answer) (q : Source) → RegisterFacts z a v x pending q → RegisterFacts z a w x pending q
  register_lasts x pending q f = grind arith

  wants_last : (x : Wanted) → Wants z a v x → Wants z a w x
  wants_last x f = record { runs = runs_lasts x.g f.runs; register = f.register; type = f.type; few = subst (λ (n : ℕ). n < MOST_STATEMENTS) (sym (o.counts x.g f.runs.of)) f.few; is = f.is }

  module _ (k : Known) (m : Processor) (good : Good z v) where
    -- What it alone knows.

    rests_last : Rests z a v m.poll → Rests z a w m.poll
    rests_last r = record { stands = stands_last z a v w o m.poll r.stands; knows = knows_last z a v w o (holds_swept z a v good) m.poll r.knows }

    new_knows : (q : NewStage) → KnowsNew z a v m.poll q → KnowsNew z a w m.poll q
    new_knows (Search waited s) h = rests_last h
    new_knows (Wait x) h = k.waits.lasts z a v w (waiting x m.poll) good o h
    new_knows (Place x) h = rests_last h
    new_knows (Want n) h = rests_last h
    new_knows (Assist n x) h = rests_last h

    known_lasts : (q : Task) → KnowsAt z a v m.poll q → KnowsAt z a w m.poll q
    known_lasts Task.Left h = stands_last z a v w o m.poll h
    known_lasts (Task.New x) h = new_knows x.stage h
    known_lasts (Task.Gc g x) h = k.waits.lasts z a v w (waiting x m.poll) good o h
    known_lasts Task.Poll h = k.polls.lasts z a v w m.poll good o h
    known_lasts (Task.Leave x) h = k.leaves.lasts z a v w m.poll x good o h
    known_lasts _ h = rests_last h

    -- The operation that it is at.

    searches_last : (x : Wanted) (q : Seeking) (pending : Option Answer) → search.Has a v (rest m x) q → Searches z a v m x q pending → Searches z a w m x q pending
    searches_last x q pending has s = record { wants = wants_last x s.wants; wanted = s.wanted; cached = s.cached; facts = k.search.lasts z a v w (rest m x) q good o has s.facts; unanswered = s.unanswered }

    makes_last : (x : Wanted) (p : Placing) (pending : Option Answer) → Makes z a v m x p pending → Makes z a w m x p pending
    makes_last x p pending s = record { facts = k.place.lasts z a v w (for_whom x) p good o s.facts; register = s.register; of = s.of; span = s.span; apart = s.apart; named = s.named }

    new_lasts : (x : Wanted) (pending : Option Answer) (q : NewStage) → Rights a v (locked_new m q) (held_new m x q) (laying_new q) (freeing_new q) → NewFacts z a v m x pending q → NewFacts z a w m x pending q
    new_lasts x pending (Search waited q) has s = searches_last x q pending has s
    new_lasts x pending (Wait y) has s = (wants_last x s.0, s.1)
    new_lasts x pending (Place p) has s = makes_last x p pending s
    new_lasts x pending (Want n) has s = s
    new_lasts x pending (Assist n y) has s = s

    task_lasts : (pending : Option Answer) (q : Task) → HasAt a v m q → FactsAt z a v m pending q → FactsAt z a w m pending q
    task_lasts pending q has f = grind (arith, global_lasts, load_lasts, new_lasts, register_lasts, runs_lasts, store_lasts)

pub facts_last : Known → Lasts
facts_last k z a v w m pending good o x = record {
  counts = counts_last z a v w o m.made x.counts;
  knows = known_lasts z a v w o k m good m.task x.knows;
  right = right_lasts z a v w o _ _ _ _ x.right;
  task = task_lasts z a v w o k m good pending m.task x.right x.task;
}
