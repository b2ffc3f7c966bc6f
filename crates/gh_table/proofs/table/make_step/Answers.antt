use Rattle.std.proofs.Common.{◌+◌, ◌%◌, ◌^◌, ◌==◌, refl, ◌∙◌, ap, subst, bit_and, bit_or}
use Rattle.gh_table.proofs.Vocabulary.{Add, And, cell_of, either, HoldsOneList, InRange, Layout, Or, request, Store, Swap, Tells}
use Rattle.gh_base.specs.declared.cell.Req.TheVariants.{Load}
use Rattle.gh_table.proofs.Keeping.{any_found, asked, either-cond, NotedStep}
use Rattle.gh_table.proofs.table.make_step.Goals as goal
use Rattle.gh_table.proofs.table.make_step.Goals.{After-next}

-- the step that the machine asks for
abbrev noted : (g : _) (c : After-next g) → NotedStep g.K.Plan.setting
noted g c =
    let ask = g.M.Machine.asks c.args.machine.now in
    record {
      plan = c.args.words.now.key;
      layout = c.args.layout.now;
      words = c.args.words.now.table_id.words;
      laid = c.requires.words;
      shown = c.steps_are_shown.ensures;
      below = c.cells_have_words_of_their_own.ensures.below;
      slots = c.args.words.now.table_id.slots;
      id = c.args.seat.now.id;
      me = c.args.seat.now.me;
      actor = c.args.actor;
      begun = c.args.begun.now;
      ask = ask;
      may = c.requires.may;
      within = subst (λ (l : Layout). InRange l (cell_of ask)) c.requires.laid c.next.ensures.within;
      noted_actor = g.N.NextStep.actor;
      noted_begun = g.N.NextStep.begun;
      noted_ask = g.N.NextStep.ask;
      note = c.requires.step;
      made = c.next.result;
      is_made = c.next.ensures.same ∙ ap (λ (l : Layout). request l ask) c.requires.laid;
    }

pub load-requires : goal.load-requires
load-requires g c =
    let step = asked c.a_state_is_of_its_own_entries.ensures g.K.Plan.setting (noted g (goal.at.load-requires g c).After-next) (Load c.in-Load.i) (λ n. n) c.in-Load.is (λ n. refl) in
    (c.requires.table.0, step.0, step.1)

pub store-requires : goal.store-requires
store-requires g c =
    let step = asked c.a_state_is_of_its_own_entries.ensures g.K.Plan.setting (noted g (goal.at.store-requires g c).After-next) (Store c.in-Store.i c.in-Store.x) (λ n. c.in-Store.x) c.in-Store.is (λ n. refl) in
    (c.requires.table.0, step.0, any_found (HoldsOneList g.K.Plan.setting c.args.words.now.key) c.args.words.now.table_id.slots c.args.seat.now.id c.args.seat.now.me c.in-Store.i (λ n. c.in-Store.x) (λ n w. Tells g.K.Plan.setting g.N.NextStep.actor g.N.NextStep.begun g.N.NextStep.ask n c.args.seat.now.me w) step.1)

pub fetch_or-requires : goal.fetch_or-requires
fetch_or-requires g c =
    let step = asked c.a_state_is_of_its_own_entries.ensures g.K.Plan.setting (noted g (goal.at.fetch_or-requires g c).After-next) (Or c.in-Or.i c.in-Or.x) (λ n. bit_or n c.in-Or.x) c.in-Or.is (λ n. refl) in
    (c.requires.table.0, step.0, step.1)

pub fetch_and-requires : goal.fetch_and-requires
fetch_and-requires g c =
    let step = asked c.a_state_is_of_its_own_entries.ensures g.K.Plan.setting (noted g (goal.at.fetch_and-requires g c).After-next) (And c.in-And.i c.in-And.x) (λ n. bit_and n c.in-And.x) c.in-And.is (λ n. refl) in
    (c.requires.table.0, step.0, step.1)

pub fetch_add-requires : goal.fetch_add-requires
fetch_add-requires g c =
    let step = asked c.a_state_is_of_its_own_entries.ensures g.K.Plan.setting (noted g (goal.at.fetch_add-requires g c).After-next) (Add c.in-Add.i c.in-Add.x) (λ n. (n + c.in-Add.x) % 2 ^ 64) c.in-Add.is (λ n. refl) in
    (c.requires.table.0, step.0, step.1)

pub compare_exchange-requires : goal.compare_exchange-requires
compare_exchange-requires g c =
    let step = asked c.a_state_is_of_its_own_entries.ensures g.K.Plan.setting (noted g (goal.at.compare_exchange-requires g c).After-next) (Swap c.in-Swap.i c.in-Swap.x c.in-Swap.y) (λ n. either (n == c.in-Swap.x) c.in-Swap.y n) c.in-Swap.is (λ n. either-cond (n == c.in-Swap.x) c.in-Swap.y n) in
    (c.requires.table.0, step.0, step.1)
