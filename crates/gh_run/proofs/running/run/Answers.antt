use Rattle.std.proofs.Common.{◌≡◌, ◌∙◌, ◌+◌, ◌++◌, ◌%◌, ◌^◌, ℕ, Some, ap, arith, length, subst, sym, slice_get}
use Rattle.gh_run.proofs.Vocabulary.{answers_by, AreDoneOf, HeapJob, lapsed_at, last_kept, marked_by, most_cycles, plan_of, view_of}
use Rattle.gh_shared.proofs.Drawing.{one_word}
use Rattle.gh_run.proofs.Explaining.{drawn_after, few_cycles, lapsed_by_jobs, told_by_jobs}
use Rattle.gh_run.proofs.Whole.{all_end, all_start, told_as}
use Rattle.gh_run.proofs.running.run.Goals as goal
use Rattle.gh_run.proofs.running.run.Goals.{in-Some, in-None}

pub all-requires-after_bounds : goal.all-requires-after_bounds
all-requires-after_bounds g c κs within = all_start c.args.script.now c.in_ok-heap.heap c.in_ok-made.made.items c.in_ok-made.ensures

pub all_told-requires-clause-done : goal.all_told-requires-clause-done
all_told-requires-clause-done g c =
    let done = all_end c.args.script.now c.in_ok-heap.heap c.in_ok-made.made.items c.in-Ok.done.items c.in_ok-made.ensures c.in-Ok.ensures.ran in
    subst (AreDoneOf c.args.script.now c.in_ok-heap.heap) (sym c.deref.ensures.value) done

pub gathered-all-requires-clause-done : goal.gathered-all-requires-clause-done
gathered-all-requires-clause-done g c = all_end c.args.script.now c.in_ok-heap.heap c.in_ok-made.made.items c.in-Ok.done.items c.in_ok-made.ensures c.in-Ok.ensures.ran

pub copy-requires : goal.copy-requires
copy-requires g c =
    let room = few_cycles (plan_of c.in_ok-heap.heap) (view_of c.gathered-all.result) c.close-closed.result.coordinator _ _ c.close-closed.ensures.after in
    let same = ap most_cycles c.in_ok-heap.ensures.heap.script in
    let few = c.cycles.ensures.few in
    let none = ap length c.in_ok-cycles.ensures.items in
    let capacity = c.in_ok-cycles.ensures.capacity in
    let most = c.most_cycles.ensures.is in
    omega (arith, room, same, few, none, capacity, most)

pub returns-clause-explained : goal.returns-clause-explained
returns-clause-explained g c =
    let p = c.args.script.now in
    let heap = c.in_ok-heap.heap in
    let lead = c.close-closed.result.coordinator in
    let answers = c.all_told.new.answers.items in
    let done = all_end p heap c.in_ok-made.made.items c.in-Ok.done.items c.in_ok-made.ensures c.in-Ok.ensures.ran in
    let copied = c.copy.ensures ∙ ap (λ xs. xs ++ c.cycles.result.now) c.in_ok-cycles.ensures.items ∙ c.cycles.ensures.are in
    let marked : c.match-last_cycle.objects ≡ marked_by (last_kept lead.cycles) = elim c.match-last_cycle.branch [ in-Some w ↦ w.objects-is ∙ ap marked_by (sym w.in-Some.is ∙ c.last_cycle.ensures) | in-None w ↦ w.objects-is ∙ ap marked_by (sym w.in-None.is ∙ c.last_cycle.ensures) ] in
    let told = subst (λ xs. (n : ℕ) (j : HeapJob g.row.G.Denot) → slice_get xs (n % p.settings.procs) ≡ Some j → answers_by n answers ≡ answers_by n j.answers.items) c.deref.ensures.value c.all_told.ensures.told in
    let last = lapsed_by_jobs p heap c.a_state_is_of_its_own_entries.ensures c.in-Ok.done.items (view_of c.gathered-all.result) lead _ _ c.in_ok-heap.ensures.heap done c.close-closed.ensures.after c.gathered-all.ensures.own in
    let after = c.close-closed.ensures.after in
    let drawn = drawn_after heap after.list in
    let earned = c.earned-earned.ensures ∙ one_word c.close-closed.result.drawn (lapsed_at lead.lapsed lead.stage) drawn after.spent ∙ ap (λ (n : ℕ). (drawn + n) % 2 ^ 64) last in
    told_as p answers c.copy.new.copies.items c.earned-earned.result c.spent-spent.result c.lapsed-lapsed.result c.match-last_cycle.objects c.live-live.result drawn lead copied (earned, c.spent-spent.ensures ∙ after.spent, c.lapsed-lapsed.ensures ∙ last) marked c.live-live.ensures
    (told_by_jobs p heap c.a_state_is_of_its_own_entries.ensures c.in-Ok.done.items (view_of c.gathered-all.result) lead _ _ answers c.every_run_is_explained.ensures c.is_well_formed.ensures c.in_ok-heap.ensures.heap done c.close-closed.ensures.after c.gathered-all.ensures.own told)

pub returns-clause-room : goal.returns-clause-room
returns-clause-room g c = c.all_told.ensures.few

pub returns-clause-few : goal.returns-clause-few
returns-clause-few g c =
    let room = few_cycles (plan_of c.in_ok-heap.heap) (view_of c.gathered-all.result) c.close-closed.result.coordinator _ _ c.close-closed.ensures.after in
    let same = ap most_cycles c.in_ok-heap.ensures.heap.script in
    let few = c.cycles.ensures.few in
    let most = c.most_cycles.ensures in
    let answers = c.all_told.ensures.few in
    let statements = c.is_well_formed.ensures.few_statements in
    let long = ap length (c.copy.ensures ∙ ap (λ xs. xs ++ c.cycles.result.now) c.in_ok-cycles.ensures.items) in
    omega (arith, room, same, few, most.is, most.few, answers, statements, long)
