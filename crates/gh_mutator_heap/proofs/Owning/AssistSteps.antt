-- The steps of an assist behind the making of an object: each is on a word that no right guards, and where it has ended the object is answered.
use Rattle.std.proofs.Common.{◌≡◌, ℕ, [], ◌++◌, Option, Some, None, refl, sym, ap, subst, ◌∙◌, arith}
use Rattle.gh_mutator_heap.proofs.Vocabulary.{Act, after_assist, Answer, answer_assist, Arena, Assisting, assists, AssistWithin, at_poll, at_task, cell_of, Does, Good, moved, Name, option_to_list, Polling, Processor, ProcessorFacts, Quiet, Rests, Shared, view, Wanted, with_payment}
use Rattle.gh_assist.specs.Listing as assist
use Rattle.gh_mutator_heap.proofs.Holding.Known.{holds_swept, knows_to, stands_to}
use Rattle.gh_mutator_heap.proofs.Owning.Known.{Known}
use Rattle.gh_mutator_heap.proofs.Owning.Statements.{idle, StepAt}
use Rattle.gh_mutator_heap.proofs.Owning.Steady.{Steady, steady_on}

module _ (k : Known) (w : Wanted) (n : Name) (x : Assisting) (z : Arena) (a : ℕ) (s : Shared) (m : Processor) (pending : Option Answer) (good : Good z (view s)) (fine : ProcessorFacts z a (view s) (at_task m (assists w n x)) pending) where
  abbrev me : Processor
  me = at_task m (assists w n x)

  abbrev found : ℕ
  found = s.words (cell_of (assist.asks z.layout x))

  abbrev next : Assisting
  next = assist.goes z.layout x found

  abbrev then : Shared
  then = moved z a s (Quiet (assist.asks z.layout x))

  -- what it holds, owes and has spent is another then
  abbrev paid : Polling
  paid = with_payment m.poll next

  within : AssistWithin z.layout next
  within = (k.assists_within.goes_on z.layout x found fine.task.1)

  steady : Steady z a (view then) m
  steady = steady_on z a (view s) (view then) m (refl, refl) (holds_swept z a (view s) good) (k.own z a s (Quiet (assist.asks z.layout x)) good (k.assists_quiet.rights z.layout x)) (λ y e. fine.right.holds y ∙ e) (fine.counts, fine.knows)

  rests_paid : Rests z a (view then) paid
  rests_paid = let r = steady.1 in record {
    stands = stands_to z a (view then) m.poll paid refl refl r.stands.sits.scanned r.stands.sits.cache (k.assists_within.holds z.layout next within) r.stands;
    knows = knows_to a (view then) m.poll paid refl refl r.knows;
  }

  none : (q : Act) → None ≡ Some q → ⊥
  none q e = cc

  nothing : (q : Option Answer) → [] ++ option_to_list q ≡ option_to_list q ++ []
  nothing q = grind arith

  done : (out : Option (Unit {0})) → assist.gives z.layout x found ≡ out → Does z a s then me pending found
  done None e = record {
    after = pending;
    fine = subst (λ (o : Option (Unit {0})). ProcessorFacts z a (view then) (after_assist me w n next o) pending) (sym e) (record {
      counts = steady.0;
      knows = steady.1;
      right = record { locked = fine.right.locked; holds = fine.right.holds; laying = fine.right.laying; freeing = fine.right.freeing };
      task = (fine.task.0, within);
    });
    ever = refl;
    answers = nothing pending ∙ sym (ap (λ (o : Option (Unit {0})). option_to_list pending ++ option_to_list (answer_assist n o)) e);
    full = λ q acts full. absurd (none q acts);
    counts = tt;
  }
  done (Some y) e = record {
    after = None;
    fine = subst (λ (o : Option (Unit {0})). ProcessorFacts z a (view then) (after_assist me w n next o) None) (sym e)
        (idle z a (view then) (at_poll m paid) (steady.0, rests_paid) (record { locked = fine.right.locked; holds = fine.right.holds; laying = fine.right.laying; freeing = fine.right.freeing }));
    ever = refl;
    answers = ap option_to_list fine.task.0 ∙ sym (ap (λ (o : Option (Unit {0})). [] ++ option_to_list (answer_assist n o)) e);
    full = λ q acts full. absurd (none q acts);
    counts = tt;
  }

pub assist_steps : Known → (w : Wanted) (n : Name) (x : Assisting) → StepAt (assists w n x)
assist_steps k w n x z a s m pending sg good fine = record {
  move = Quiet (assist.asks z.layout x);
  may = k.assists_quiet.rights z.layout x;
  words_are = refl;
  after = done k w n x z a s m pending good fine (assist.gives z.layout x (s.words (cell_of (assist.asks z.layout x)))) refl;
}
