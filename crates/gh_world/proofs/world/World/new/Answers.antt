use Rattle.std.proofs.Common.{◌≡◌, ◌+◌, ◌≤◌, ℕ, vec_len, ap, subst, ◌∙◌, arith}
use Rattle.gh_world.proofs.Vocabulary.{acks_of, most_cycles, opening_words, setting_of, Settings, ShowsCells, SoundCoordinating, total_of, vec_capacity}
use Rattle.gh_coord.specs.Listing as coord
use Rattle.gh_world.proofs.Fitting.{others_open, runners_open}
use Rattle.gh_world.proofs.OtherSteps.{after_opens, all_workers}
use Rattle.gh_world.proofs.Parts.{of_parts}
use Rattle.gh_world.proofs.world.World.new.Goals as goal

pub invariant_of-result : goal.invariant_of-result
invariant_of-result c =
    let p = c.args.script.now in
    let l = c.layout_for-layout.result in
    let reserved : total_of p ≤ vec_capacity c.in_ok-points.points = omega (arith, c.in_ok-points.ensures.capacity, c.total_of.ensures) in
    let empty : vec_len c.in_ok-points.points ≡ 0 = c.in_ok-points.ensures.len in
    let leads : c.in_ok-coord.coord ≡ coord.opening l (p.settings.procs + p.settings.workers) p.settings.gogc p.settings.minheap (most_cycles p) =
    c.in_ok-coord.ensures.opens ∙ ap (λ (s : Settings). coord.opening l (s.procs + s.workers) s.gogc s.minheap c.most_cycles-cycles.result) c.settings-settings.ensures
    ∙ ap (λ (k : ℕ). coord.opening l (p.settings.procs + p.settings.workers) p.settings.gogc p.settings.minheap k) c.most_cycles-cycles.ensures.is in
    rw (c.in_ok-workers.ensures, leads, empty) (record {
      base = record { script = c.is_well_formed.ensures; layout = c.layout_for-layout.ensures; long = c.in_ok-words.ensures.long };
      running = runners_open p l c.in_ok-runners.runners.items (vec_capacity c.in_ok-points.points) reserved c.in_ok-runners.ensures;
      others = others_open c.workers_are_routines.ensures p l (p.settings.procs + p.settings.workers) (subst (SoundCoordinating l) leads c.in_ok-coord.ensures.sound);
    })

pub returns-clause-opens : goal.returns-clause-opens
returns-clause-opens c =
    let p = c.args.script.now in
    let l = c.layout_for-layout.result in
    let seat : p.settings.procs + p.settings.workers ≡ acks_of l = omega (arith, c.layout_for-layout.ensures.procs_are, c.layout_for-layout.ensures.workers_are) in
    let leads : c.in_ok-coord.coord ≡ coord.opening l (acks_of l) p.settings.gogc p.settings.minheap (most_cycles p) =
    c.in_ok-coord.ensures.opens ∙ ap (λ (s : Settings). coord.opening l (s.procs + s.workers) s.gogc s.minheap c.most_cycles-cycles.result) c.settings-settings.ensures
    ∙ ap (λ (k : ℕ). coord.opening l (p.settings.procs + p.settings.workers) p.settings.gogc p.settings.minheap k) c.most_cycles-cycles.ensures.is
    ∙ ap (λ (k : ℕ). coord.opening l k p.settings.gogc p.settings.minheap (most_cycles p)) seat in
    let shows : ShowsCells l c.in_ok-words.words (setting_of p l).opening = subst (λ (n : ℕ). ShowsCells l c.in_ok-words.words (opening_words l n)) c.opening_trigger-trigger.ensures c.in_ok-words.ensures in
    rw (c.in_ok-workers.ensures, leads, c.in_ok-points.ensures.items) (of_parts _ _ (after_opens p l c.in_ok-words.words c.in_ok-runners.runners.items shows c.in_ok-runners.ensures) (all_workers l))
