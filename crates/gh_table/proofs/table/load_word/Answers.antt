use Rattle.std.proofs.Common.{refl, ap}
use Rattle.gh_table.proofs.Vocabulary.{Ask}
use Rattle.gh_base.specs.declared.cell.Req.TheVariants.{Load}
use Rattle.gh_table.proofs.Keeping.{asked, NotedStep}
use Rattle.gh_table.proofs.table.load_word.Goals as goal

pub load-requires : goal.load-requires
load-requires g c =
    let noted : NotedStep g.K.Plan.setting = record {
      plan = c.args.words.now.key;
      layout = c.args.layout.now;
      words = c.args.words.now.table_id.words;
      laid = c.requires.words;
      shown = c.steps_are_shown.ensures;
      below = c.cells_have_words_of_their_own.ensures.below;
      slots = c.args.words.now.table_id.slots;
      id = c.args.seat.now.id;
      me = c.args.seat.now.me;
      actor = c.args.actor;
      begun = c.args.begun.now;
      ask = Ask.Load c.args.cell;
      may = c.requires.may;
      within = c.requires.within;
      noted_actor = g.N.NextStep.actor;
      noted_begun = g.N.NextStep.begun;
      noted_ask = g.N.NextStep.ask;
      note = c.requires.step;
      made = Load c.word.result;
      is_made = ap Load c.word.ensures.at;
    } in
    let step = asked c.a_state_is_of_its_own_entries.ensures g.K.Plan.setting noted (Load c.word.result) (λ n. n) refl (λ n. refl) in
    (c.requires.table.0, step.0, step.1)
