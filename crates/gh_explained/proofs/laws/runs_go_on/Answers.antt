use Rattle.gh_explained.proofs.Vocabulary.{Layout, LaysOut, processor_kind, Program, WellFormed}
use Rattle.gh_explained.proofs.GoingOn.{ends_whole, goes_on, Laws}
use Rattle.gh_explained.proofs.laws.runs_go_on.Goals as goal

module _ (c : goal.After-every_run_stands) where
  laws : (p : Program) (l : Layout) → WellFormed p → LaysOut p l → Laws p l
  laws p l formed lays = record {
    own = λ a es. c.a_state_is_of_its_own_entries.ensures (processor_kind p.shapes l) a es;
    on = c.it_goes_on_until_done.ensures;
    polls = c.polls_make_room.ensures;
    stands = λ es r. c.every_run_stands.ensures.runs p l es formed lays r;
  }

pub returns-clause-on : goal.returns-clause-on
returns-clause-on c p l es a formed lays r lt going = goes_on p l formed lays (laws c p l formed lays) es r a lt going

pub returns-clause-whole : goal.returns-clause-whole
returns-clause-whole c p l es formed lays r done = ends_whole p l formed lays (laws c p l formed lays) es r done
