use Rattle.std.proofs.Common.{sym, subst}
use Rattle.gh_world.proofs.Vocabulary.{AreTurns, Follows, its_goroutine, Progress}
use Rattle.gh_world.proofs.Due.{due_goroutine}
use Rattle.gh_world.proofs.Fitting.{begun_fits, stated_fits, turns_begun}
use Rattle.gh_world.proofs.progress.Progress.advance.Goals as goal

pub count-requires-clause-there : goal.count-requires-clause-there
count-requires-clause-there c = due_goroutine c.args.script.now c.args.seat c.args.self.now.next c.args.op c.is_well_formed.ensures c.requires.turns.stands c.requires.due

pub count-requires-clause-few : goal.count-requires-clause-few
count-requires-clause-few c = begun_fits c.args.script.now c.is_well_formed.ensures c.args.seat c.args.self.now c.requires.turns (its_goroutine c.args.op)

pub count-requires-clause-fits : goal.count-requires-clause-fits
count-requires-clause-fits c = stated_fits c.args.script.now c.is_well_formed.ensures c.args.seat c.args.self.now c.requires.turns

pub returns-clause-turns : goal.returns-clause-turns
returns-clause-turns c = subst (AreTurns c.args.script.now c.args.seat) (sym c.count.ensures) (turns_begun c.args.script.now c.is_well_formed.ensures c.args.seat c.args.self.now c.requires.turns c.args.op c.following-self.result c.requires.due (c.following-self.ensures.follows c.args.op c.requires.due))

pub returns-clause-follows : goal.returns-clause-follows
returns-clause-follows c = subst (λ (t : Progress). Follows c.args.script.now c.args.seat c.args.self.now.next c.args.op t.next) (sym c.count.ensures) (c.following-self.ensures.follows c.args.op c.requires.due)
