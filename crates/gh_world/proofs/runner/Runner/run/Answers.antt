use Rattle.std.proofs.Common.{◌≡◌, true, refl, sym, subst, ◌∙◌}
use Rattle.gh_world.proofs.Vocabulary.{is_busy_at, Mutating, Runner, SoundTurns}
use Rattle.gh_world.specs.World.{Begins}
use Rattle.gh_world.proofs.AtOnce.{further}
use Rattle.gh_world.proofs.runner.Runner.run.Goals as goal

pub returns-then-is_busy-clause-ran : goal.returns-then-is_busy-clause-ran
returns-then-is_busy-clause-ran c = further _ _ _ _ c.requires.fits (sym c.is_busy.ensures ∙ c.if-is_busy.true) _ _ _ c.advance.ensures.within c.advance.ensures.words c.advance.ensures.goes _ _ c.advance.ensures.says c.advance.ensures.point

-- what the step is made of is the processor as it was begun, since no step of a field was made
pub returns-clause-ran : goal.returns-clause-ran
returns-clause-ran c =
    let begun : Runner = c.begin_next.new.self in
    let same : begun.mutator ≡ c.reads.new.mutator = sym (c.reads.ensures.stays c.if-reads.false) in
    record {
      begun = record begun { mutator = c.reads.new.mutator };
      begins = subst (λ (m : Mutating). Begins c.args.script.now c.args.seat c.args.self.now (record begun { mutator = m })) same c.begin_next.ensures.begins;
      fits = subst (λ (m : Mutating). SoundTurns c.args.script.now c.args.seat m begun.progress) same c.begin_next.ensures.fits;
      busy = subst (λ (m : Mutating). is_busy_at m.processor.task ≡ true) same (c.begin_next.ensures.busy c.requires.going);
      within = c.advance-2.ensures.within;
      words = c.advance-2.ensures.words;
      goes = c.advance-2.ensures.goes;
      says = c.advance-2.ensures.says;
      point = c.advance-2.ensures.point;
    }

pub returns-then-reads-clause-ran : goal.returns-then-reads-clause-ran
returns-then-reads-clause-ran c =
    let made = c.reads.ensures.made c.if-reads.true in
    record {
      begun = c.begin_next.new.self;
      begins = c.begin_next.ensures.begins;
      fits = c.begin_next.ensures.fits;
      busy = c.begin_next.ensures.busy c.requires.going;
      within = made.within;
      words = made.words;
      goes = rw made.made.goes_so refl;
      says = rw (made.made.last, made.made.answers) refl;
      point = sym made.made.point;
    }
