use Rattle.std.proofs.Common.{ap, sym, subst, ◌∙◌}
use Rattle.gh_mutator.proofs.Vocabulary.{Processor, Sound, task_kept}
use Rattle.gh_mutator.proofs.Tasks.{caches_sound, kept_sound, stays_sound}
use Rattle.gh_mutator.proofs.processor.Processor.goes_on.Goals as goal
use Rattle.gh_mutator.proofs.processor.Processor.goes_on.Goals.{else-goes_on-via-then-goes_on+else-is_in_span, else-goes_on-via-else-goes_on}

pub returns-then-is_in_span-clause-sound : goal.returns-then-is_in_span-clause-sound
returns-then-is_in_span-clause-sound c =
    let m : Processor = record { poll = c.self.inside.poll; made = c.self.inside.made; task = task_kept c.self.inside.at c.self.inside.large } in
    let s : Sound c.args.layout.now c.args._shapes.now m = subst (λ (p : Processor). Sound c.args.layout.now c.args._shapes.now p) (sym c.self.view_is) c.requires.sound in
    let went = c.goes_on-goes_on in
    caches_sound c.args.layout.now c.args._shapes.now m c.self.inside.at c.in-New.new c.in-Search.waited c.in-Search.search s c.in-Large.is (ap (task_kept c.self.inside.at) c.in-New.is) c.in-Search.is
    c.searching_is_a_routine.ensures went.new.self c.args.found c.ranges.found.fits (went.ensures.goes c.if-goes_on.true) (went.ensures.gives c.if-goes_on.true) c.cached.result c.cache_span.new.self c.cached.ensures.is c.cache_span.ensures.is

pub returns-else-goes_on-clause-sound : goal.returns-else-goes_on-clause-sound
returns-else-goes_on-clause-sound c =
    let m : Processor = record { poll = c.self.inside.poll; made = c.self.inside.made; task = task_kept c.self.inside.at c.self.inside.large } in
    let s : Sound c.args.layout.now c.args._shapes.now m = subst (λ (p : Processor). Sound c.args.layout.now c.args._shapes.now p) (sym c.self.view_is) c.requires.sound in
    let went = c.goes_on-goes_on in
    let is = ap (task_kept c.self.inside.at) c.in-New.is in
    elim c.else-goes_on.branch [
      | else-goes_on-via-then-goes_on+else-is_in_span w ↦
          let same = went.ensures.cached (sym w.is_in_span.ensures ∙ w.if-is_in_span.false) in
          rw w.self-is (kept_sound c.args.layout.now c.args._shapes.now m c.self.inside.at c.in-New.new c.in-Search.waited c.in-Search.search s c.in-Large.is is c.in-Search.is
          c.searching_is_a_routine.ensures went.new.self c.args.found c.ranges.found.fits (went.ensures.goes w.if-goes_on.true) (went.ensures.gives w.if-goes_on.true) same)
      | else-goes_on-via-else-goes_on w ↦
          rw w.self-is (stays_sound c.args.layout.now c.args._shapes.now m c.self.inside.at c.in-New.new c.in-Search.waited c.in-Search.search s c.in-Large.is is c.in-Search.is went.new.self (went.ensures.stays w.if-goes_on.false))
    ]
