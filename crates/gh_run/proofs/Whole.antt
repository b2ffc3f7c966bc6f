-- From the jobs of a heap to what its run has told.
use Rattle.std.proofs.Common.{◌≡◌, ℕ, suc, ◌+◌, ◌%◌, ◌^◌, List, [], ◌∷◌, All, map, sym, ap, subst, ◌∙◌}
use Rattle.std.proofs.lemmas.List.Elements.{All-cons, All-nil}
use Rattle.gh_run.proofs.Vocabulary.{AllHaveRun, Answer, AreDoneOf, AreJobsOf, Coordinating, EachFrom, Heap, HeapJob, IsAtEnd, IsAtStart, IsDoneOf, IsJobOf, IsRunByThreads, last_kept, marked_by, outcome_by, Program, swept_cycle, vec_capacity, which_job, WhichJob}
use Rattle.gh_coord.specs.declared.cycles.Cycle.{Cycle}
use Rattle.gh_run.proofs.Places.{as_many, ran_each}

module _ {G : Type 0} (p : Program) (heap : Heap) where
  -- where a job begins, and that it has ended
  abbrev pub Starts : HeapJob G → Type 0
  Starts j = IsAtStart j.script.now j.heap.now j.handle j.progress j.answers.items (vec_capacity j.answers)

  abbrev pub Ends : HeapJob G → Type 0
  Ends j = IsAtEnd j.script.now j.heap.now j.handle j.answers.items

  starts : (a : ℕ) (j : HeapJob G) → IsJobOf p heap a j → Starts j
  starts a j is =
      subst (λ (x : Program). IsAtStart x j.heap.now j.handle j.progress j.answers.items (vec_capacity j.answers)) (sym (ap (λ (w : WhichJob). w.script) is.which))
      (subst (λ (x : Heap). IsAtStart p x j.handle j.progress j.answers.items (vec_capacity j.answers)) (sym (ap (λ (w : WhichJob). w.heap) is.which)) is.start)

  all_from : (n : ℕ) (jobs : List (HeapJob G)) → EachFrom (IsJobOf p heap) n jobs → All Starts jobs
  all_from n [] each = All-nil Starts
  all_from n (j ∷ jobs) each = All-cons Starts j jobs (starts n j each.0) (all_from (suc n) jobs each.1)

  pub all_start : (jobs : List (HeapJob G)) → AreJobsOf p heap jobs → All Starts jobs
  all_start jobs are = all_from 0 jobs are.each

  ends : (a : ℕ) (was now : HeapJob G) → IsJobOf p heap a was → Ends now → which_job now ≡ which_job was → IsDoneOf p heap a now
  ends a was now is end same =
      let which = same ∙ is.which in
      record {
        which = which;
        end = subst (λ (x : Heap). IsAtEnd p x now.handle now.answers.items) (ap (λ (w : WhichJob). w.heap) which) (subst (λ (x : Program). IsAtEnd x now.heap.now now.handle now.answers.items) (ap (λ (w : WhichJob). w.script) which) end);
      }

  pub all_end : (jobs done : List (HeapJob G)) → AreJobsOf p heap jobs → AllHaveRun Ends which_job jobs done → AreDoneOf p heap done
  all_end jobs done are ran = record {
    many = as_many Ends which_job jobs done ran ∙ are.many;
    each = ran_each Ends which_job (IsJobOf p heap) (IsDoneOf p heap) ends 0 jobs done are.each ran;
  }

-- what was copied from the coordinator, and what processors have drawn
pub told_as : (p : Program) (answers : List (ℕ × Answer)) (cycles : List Cycle) (earned spent lapsed objects live drawn : ℕ) (c : Coordinating) → cycles ≡ c.cycles.items → (earned ≡ (drawn + c.lapsed) % 2 ^ 64) × (spent ≡ drawn % 2 ^ 64) × (lapsed ≡ c.lapsed) → objects ≡ marked_by (last_kept c.cycles) → live ≡ c.live → IsRunByThreads p (outcome_by answers drawn c) → IsRunByThreads p (record { answers = answers; cycles = map swept_cycle cycles; earned = earned; spent = spent; lapsed = lapsed; objects = objects; bytes = live })
told_as p answers cycles earned spent lapsed objects live drawn c e credit f g t = record {
  layout = t.layout;
  lays_out = t.lays_out;
  steps = t.steps;
  outcome = t.outcome;
  explained = t.explained;
  answers = t.answers;
  cycles = ap (map swept_cycle) e ∙ t.cycles;
  credit = (credit.0 ∙ t.credit.0, credit.1 ∙ t.credit.1, credit.2 ∙ t.credit.2);
  live = (f ∙ t.live.0, g ∙ t.live.1);
}
