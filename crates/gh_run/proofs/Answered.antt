-- What all jobs were answered, goroutine by goroutine.
use Rattle.std.proofs.Common.{◌≡◌, ℕ, ◌+◌, ◌%◌, ◌<◌, ◌≤◌, List, [], length, take, Some, sym, ap, subst, ◌∙◌, arith, slice_get, sum_by}
use Rattle.gh_run.proofs.Vocabulary.{Answer, answers_by, AreDoneOf, arena_of, begun_in, get_or_past, given_of, Heap, HeapJob, IsDoneOf, IsHeapOf, mod_below, no_goroutine, number_of, own_of, plan_of, Program, setting, statements_in, statements_of, sum_by-take-le, sum_by_more, total_of, turns_of, WhichJob}
use Rattle.gh_run.proofs.Goroutines.{few_answers}
use Rattle.gh_run.proofs.Places.{each_first, none_left}

module _ {G : Type 0} (p : Program) (heap : Heap) (done : List (HeapJob G)) where
  -- what the job of a goroutine's processor was answered of it
  abbrev pub Its : ℕ → List Answer → Type 0
  Its g xs = (j : HeapJob G) × (slice_get done (g % p.settings.procs) ≡ Some j) × (answers_by g j.answers.items ≡ xs)

  pub its_same : (g : ℕ) (j : HeapJob G) (xs : List Answer) → slice_get done (g % p.settings.procs) ≡ Some j → Its g xs → answers_by g j.answers.items ≡ xs
  its_same g j xs at i = let same : Some j ≡ Some i.0 = sym at ∙ i.1 in let job : j ≡ i.0 = cc in ap (λ (x : HeapJob G). answers_by g x.answers.items) job ∙ i.2

  module _ (is : IsHeapOf p heap) (all : AreDoneOf p heap done) (g : ℕ) where
    seated : g % p.settings.procs < (plan_of heap).layout.procs
    seated =
        let some = (plan_of heap).layout.limits.procs_fit.0 in
        let procs = is.layout.procs_are in
        let below = mod_below g p.settings.procs (omega (arith, procs, some)) in
        omega (arith, procs, below)

    pub within : g % p.settings.procs < length done
    within = let many = all.many in let lt = seated in omega (arith, many, lt)

    pub few_of : (j : HeapJob G) → slice_get done (g % p.settings.procs) ≡ Some j → length (answers_by g j.answers.items) ≤ length (statements_of p g)
    few_of j at =
        let a = g % p.settings.procs in
        let q = plan_of heap in
        let done_of = each_first (IsDoneOf p heap) a done j all.each at in
        let which = ap (λ (w : WhichJob). w.actor) done_of.which in
        let lt : number_of j.handle < q.layout.procs = subst (λ (n : ℕ). n < q.layout.procs) (sym which) seated in
        let few = few_answers p g (begun_in (own_of j.handle)) (given_of (arena_of q.script.shapes q.layout) (setting q).opening (number_of j.handle) (own_of j.handle)) (done_of.end.turns lt ∙ ap (turns_of p) which) in
        let same = ap (λ (xs : List (ℕ × Answer)). length (answers_by g xs)) (done_of.end.kept lt) in
        omega (arith, few, same)

    -- there is room for them behind those of the goroutines before
    pub has_room : (many : ℕ) (j : HeapJob G) → g < length p.goroutines → slice_get done (g % p.settings.procs) ≡ Some j → many ≤ sum_by statements_in (take g p.goroutines) → many + length (answers_by g j.answers.items) ≤ sum_by statements_in (take (g + 1) p.goroutines)
    has_room many j lt at few =
        let its = few_of j at in
        let more = sum_by_more statements_in p.goroutines g no_goroutine lt in
        omega (arith, its, more, few)

    pub within_all : (many : ℕ) → many ≤ sum_by statements_in (take g p.goroutines) → many ≤ total_of p
    within_all many few = let most = sum_by-take-le statements_in p.goroutines g in omega (arith, few, most)

    -- of a goroutine that the script has not there are none
    pub none_behind : (j : HeapJob G) → slice_get done (g % p.settings.procs) ≡ Some j → length p.goroutines ≤ g → answers_by g j.answers.items ≡ []
    none_behind j at behind =
        let few = few_of j at in
        let none = ap (λ x. statements_in x) (get_or_past p.goroutines g no_goroutine behind) in
        none_left (answers_by g j.answers.items) (omega (arith, few, none))
