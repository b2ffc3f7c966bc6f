use Rattle.std.proofs.Common.{◌≡◌, true, false, subst, sym, ◌∙◌, arith}
use Rattle.gh_replay.proofs.Vocabulary.{Lists}
use Rattle.gh_replay.proofs.Beside.{Midway, next_due, next_given, next_goes_on, next_there, point_at, told_some}
use Rattle.gh_replay.proofs.check.agrees_along.Goals as goal
use Rattle.gh_replay.proofs.check.agrees_along.Goals.{in-Some, in-None}

pub take-requires : goal.take-requires
take-requires c =
    let s = c.requires.statements in
    let there = next_there c.args.script.now c.args.points.now c.args.answers.now s.0 s.1 c.loop-g.g-index c.loop-g-test.true c.loop-g.told c.loop-g.ever (c.loop-g.invariant.midway s.0 s.1) in
    omega (arith, there, c.is_well_formed.ensures.few_goroutines)

pub agrees_at-agrees-requires-clause-there : goal.agrees_at-agrees-requires-clause-there
agrees_at-agrees-requires-clause-there c =
    let s = c.requires.statements in
    next_there c.args.script.now c.args.points.now c.args.answers.now s.0 s.1 c.loop-g.g-index c.loop-g-test.true c.loop-g.told c.loop-g.ever (c.loop-g.invariant.midway s.0 s.1)

pub agrees_at-agrees-requires-clause-due : goal.agrees_at-agrees-requires-clause-due
agrees_at-agrees-requires-clause-due c =
    let s = c.requires.statements in
    next_due c.args.script.now c.args.points.now c.args.answers.now s.0 s.1 c.loop-g.g-index c.loop-g-test.true c.loop-g.told c.loop-g.ever (c.loop-g.invariant.midway s.0 s.1)

-- it agrees
agrees : (c : goal.Then-not-agrees) → c.match-take.agrees ≡ true
agrees c =
    let s = c.requires.statements in
    let p = c.args.script.now in
    let m = c.loop-g.invariant.midway s.0 s.1 in
    elim c.match-take.branch [
      | in-Some w ↦
          w.agrees-is
          ∙ (w.agrees_at-agrees.ensures.agrees _ (point_at p c.args.points.now c.args.answers.now s.0 s.1 c.loop-g.g-index c.loop-g-test.true)).1
          (next_given p c.args.points.now c.args.answers.now s.0 s.1 c.loop-g.g-index c.loop-g-test.true c.loop-g.told c.loop-g.ever m c.take.result c.take.ensures.first w.in-Some.answer w.in-Some.is)
      | in-None w ↦ absurd (told_some p c.args.points.now c.args.answers.now s.0 s.1 c.loop-g.g-index c.loop-g-test.true c.loop-g.told c.loop-g.ever m c.take.result c.take.ensures.first w.in-None.is)
    ]

never : (c : goal.Then-not-agrees) → ⊥
never c = let no : false ≡ true = sym c.if-not-agrees.true ∙ agrees c in cc

pub returns-then-not-agrees-clause-agrees : goal.returns-then-not-agrees-clause-agrees
returns-then-not-agrees-clause-agrees c = absurd (never c)

pub returns-then-not-agrees-clause-ever : goal.returns-then-not-agrees-clause-ever
returns-then-not-agrees-clause-ever c = absurd (never c)

pub returns-then-not-agrees-clause-many : goal.returns-then-not-agrees-clause-many
returns-then-not-agrees-clause-many c = absurd (never c)

pub loop-g-preserved : goal.loop-g-preserved
loop-g-preserved c = record {
  midway = λ xs along.
      let p = c.args.script.now in
      let m = c.loop-g.invariant.midway xs along in
      let at = point_at p c.args.points.now c.args.answers.now xs along c.loop-g.g-index c.loop-g-test.true in
      elim c.match-take.branch [
        | in-Some w ↦ subst (λ (lists : Lists). Midway p xs _ c.take.new.self lists) (sym w.ever-is)
            (next_goes_on p c.args.points.now c.args.answers.now xs along c.loop-g.g-index c.loop-g-test.true c.loop-g.told c.loop-g.ever m c.take.result c.take.ensures.first w.in-Some.answer w.in-Some.is c.take.new.self w.agrees_at-agrees.new.ever
            (record { shapes = w.agrees_at-agrees.ensures.shapes; left = w.agrees_at-agrees.ensures.left _ at; after = w.agrees_at-agrees.ensures.after _ at; taken = c.take.ensures.rest }))
        | in-None w ↦ absurd (told_some p c.args.points.now c.args.answers.now xs along c.loop-g.g-index c.loop-g-test.true c.loop-g.told c.loop-g.ever m c.take.result c.take.ensures.first w.in-None.is)
      ];
}
