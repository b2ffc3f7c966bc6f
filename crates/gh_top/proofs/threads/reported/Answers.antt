use Rattle.std.proofs.Common.{ap, ◌∙◌}
use Rattle.gh_top.proofs.Vocabulary.{answers_by}
use Rattle.gh_top.proofs.threads.reported.Goals as goal

pub returns-clause-explained : goal.returns-clause-explained
returns-clause-explained g c =
    let told = c.in_ok-answers.ensures.explained in
    record {
      layout = told.layout;
      lays_out = told.lays_out;
      steps = told.steps;
      outcome = told.outcome;
      explained = told.explained;
      answers = λ n. ap (answers_by n) c.new.ensures.answers ∙ told.answers n;
      cycles = c.new.ensures.cycles ∙ told.cycles;
      credit = (c.new.ensures.credit.0 ∙ told.credit.0, c.new.ensures.credit.1 ∙ told.credit.1, c.new.ensures.credit.2 ∙ told.credit.2);
      live = (c.new.ensures.live.0 ∙ told.live.0, c.new.ensures.live.1 ∙ told.live.1);
    }

pub returns-clause-of : goal.returns-clause-of
returns-clause-of g c =
    let told = c.in_ok-answers.ensures.explained in
    record {
      goroutines_are = c.new.ensures.goroutines ∙ c.goroutines.ensures;
      layout = told.layout;
      steps = told.steps;
      outcome = told.outcome;
      explained = told.explained;
      answers = λ n. ap (answers_by n) c.new.ensures.answers ∙ told.answers n;
    }
