use Rattle.gh_explained.proofs.Vocabulary.{all_stand}
use Rattle.gh_explained.proofs.laws.every_run_stands.Goals as goal

pub returns-clause-runs : goal.returns-clause-runs
returns-clause-runs c p l es formed lays r = all_stand p l formed lays c.every_list_of_actors_stands.ensures es r.legal

pub returns-clause-lists : goal.returns-clause-lists
returns-clause-lists c p l es formed lays legal = all_stand p l formed lays c.every_list_of_actors_stands.ensures es legal
