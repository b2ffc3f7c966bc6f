use Rattle.std.proofs.Common.{◌≡◌, ◌∙◌, ◌+◌, ◌%◌, ◌<◌, ◌++◌, ℕ, Some, Bool, true, false, ap, arith, length, length-append, ltb, ltb-true, ltb-false, refl, subst, sym, slice_get}
use Rattle.std.proofs.lemmas.Option.{slice_get-get_or}
use Rattle.gh_run.proofs.Vocabulary.{answers_by, of_goroutine}
use Rattle.gh_run.proofs.Answered.{has_room, Its, its_same, none_behind, within, within_all}
use Rattle.gh_run.proofs.Goroutines.{AreTold, none_told, of_length, one_told_more}
use Rattle.gh_run.proofs.gathering.all_told.Goals as goal

pub loop-g-init : goal.loop-g-init
loop-g-init o c =
    let none = c.requires.none in
    let short = ap length none in
    record {
      within = omega arith;
      told = subst (λ xs. AreTold xs (Its c.args.script.now c.args.heap.now c.args.done.now) 0) (sym none) (none_told (Its c.args.script.now c.args.heap.now c.args.done.now));
      few = omega (arith, short);
      capacity = c.requires.room;
    }

pub add_answers-requires : goal.add_answers-requires
add_answers-requires o c =
    let p = c.args.script.now in
    let heap = c.args.heap.now in
    let done = c.args.done.now in
    let g = c.loop-g.g in
    let job = c.index-done-modulo.result in
    let place : c.modulo.result ≡ g % p.settings.procs = c.modulo.ensures.is ∙ ap (λ s. g % s.procs) c.settings.ensures in
    let inside = within p heap done c.requires.script c.requires.done g in
    let at : slice_get done (g % p.settings.procs) ≡ Some job = subst (λ (n : ℕ). slice_get done n ≡ Some job) place (slice_get-get_or done c.modulo.result job (omega (arith, inside, place)) ∙ ap (λ j. Some j) (sym c.index-done-modulo.is)) in
    let low : g < length p.goroutines = omega (arith, c.loop-g-test.true, c.goroutines-g-end.ensures) in
    let room = within_all p heap done c.requires.script c.requires.done (g + 1) (length c.loop-g.answers.items + length (answers_by g job.answers.items)) (has_room p heap done c.requires.script c.requires.done g (length c.loop-g.answers.items) job low at c.loop-g.invariant.few) in
    let same = ap (λ xs. length (answers_by g xs)) c.deref.ensures.value in
    let capacity = c.loop-g.invariant.capacity in
    omega (arith, room, same, capacity)

pub loop-g-preserved : goal.loop-g-preserved
loop-g-preserved o c =
    let p = c.args.script.now in
    let heap = c.args.heap.now in
    let done = c.args.done.now in
    let g = c.loop-g.g in
    let job = c.index-done-modulo.result in
    let ys = answers_by g job.answers.items in
    let place : c.modulo.result ≡ g % p.settings.procs = c.modulo.ensures.is ∙ ap (λ s. g % s.procs) c.settings.ensures in
    let inside = within p heap done c.requires.script c.requires.done g in
    let at : slice_get done (g % p.settings.procs) ≡ Some job = subst (λ (n : ℕ). slice_get done n ≡ Some job) place (slice_get-get_or done c.modulo.result job (omega (arith, inside, place)) ∙ ap (λ j. Some j) (sym c.index-done-modulo.is)) in
    let low : g < length p.goroutines = omega (arith, c.loop-g-test.true, c.goroutines-g-end.ensures) in
    let room = has_room p heap done c.requires.script c.requires.done g (length c.loop-g.answers.items) job low at c.loop-g.invariant.few in
    let added = c.add_answers.ensures.added ∙ ap (λ xs. c.loop-g.answers.items ++ of_goroutine g (answers_by g xs)) c.deref.ensures.value in
    let long = ap length added ∙ length-append c.loop-g.answers.items (of_goroutine g ys) in
    let its = of_length g ys in
    record {
      within = omega (arith, low);
      told = subst (λ xs. AreTold xs (Its p heap done) (g + 1)) (sym added) (one_told_more c.loop-g.answers.items (Its p heap done) g ys (λ xs i. its_same p heap done g job xs at i) c.loop-g.invariant.told);
      few = omega (arith, long, its, room);
      capacity = c.add_answers.ensures.reserved ∙ c.loop-g.invariant.capacity;
    }

pub returns-clause-few : goal.returns-clause-few
returns-clause-few o c = within_all c.args.script.now c.args.heap.now c.args.done.now c.requires.script c.requires.done c.loop-g.g (length c.loop-g.answers.items) c.loop-g.invariant.few

pub returns-clause-told : goal.returns-clause-told
returns-clause-told o c n j at = by (ltb n (length c.args.script.now.goroutines)) refl where
  by : (b : Bool) → ltb n (length c.args.script.now.goroutines) ≡ b → answers_by n c.loop-g.answers.items ≡ answers_by n j.answers.items
  by true e = let less = ltb-true _ _ e in c.loop-g.invariant.told.low n (answers_by n j.answers.items) (omega (arith, less, c.loop-g-test.false, c.goroutines-g-end.ensures)) (j, at, refl)
  by false e =
      let behind = ltb-false _ _ e in
      c.loop-g.invariant.told.high n (omega (arith, behind, c.loop-g.invariant.within)) ∙ sym (none_behind c.args.script.now c.args.heap.now c.args.done.now c.requires.script c.requires.done n j at behind)
