use Rattle.std.proofs.Common.{ap, Option, subst, sym, ◌∙◌, ◌++◌}
use Rattle.std.specs.Option.{option_to_list}
use Rattle.gh_shared.proofs.Vocabulary.{Answer, arena_of, given_of, LaysOut, plan_of, Program, setting, WellFormed}
use Rattle.gh_shared.proofs.laws.answers_are_evers.Goals as goal

pub returns-clause-stands : goal.returns-clause-stands
returns-clause-stands c es legal =
    let p = plan_of c.args.heap.now in
    c.every_run_stands.ensures.lists p.script p.layout es (subst WellFormed (sym c.requires.script) c.is_well_formed.ensures) (subst (λ (q : Program). LaysOut q p.layout) (sym c.requires.script) c.requires.layout) legal

pub returns-clause-answers : goal.returns-clause-answers
returns-clause-answers c es a legal lt =
    let p = plan_of c.args.heap.now in
    let as_ever = (returns-clause-stands c es legal).stands.answers a lt in
    let z = arena_of p.script.shapes p.layout in
    record {
      as_ever = as_ever;
      resting = λ idle. as_ever.answers ∙ ap (λ (x : Option Answer). option_to_list x ++ given_of z (setting p).opening a es) (as_ever.resting idle);
    }

pub returns-clause-credit : goal.returns-clause-credit
returns-clause-credit c es legal =
    let p = plan_of c.args.heap.now in
    c.every_list_of_a_script_balances.ensures.balances p.script p.layout es (subst WellFormed (sym c.requires.script) c.is_well_formed.ensures) (subst (λ (q : Program). LaysOut q p.layout) (sym c.requires.script) c.requires.layout) legal

pub returns-clause-room : goal.returns-clause-room
returns-clause-room c es legal =
    let p = plan_of c.args.heap.now in
    c.every_list_of_a_script_balances.ensures.room p.script p.layout es (subst WellFormed (sym c.requires.script) c.is_well_formed.ensures) (subst (λ (q : Program). LaysOut q p.layout) (sym c.requires.script) c.requires.layout) legal
