use Rattle.gh_law.proofs.Vocabulary.{legal_start, setup_for, those}
use Rattle.gh_law.proofs.HavingRoom.Always.{has_room}
use Rattle.gh_law.proofs.HavingRoom.Passing.{another_steps}
use Rattle.gh_law.proofs.room.every_list_has_room.Goals as goal

pub returns-clause-room : goal.returns-clause-room
returns-clause-room c given es good limits fit legal = has_room c.some_buffer_has_room.ensures (setup_for given) es (c.every_list_of_actors_stands.ensures given es good limits fit legal)

pub returns-clause-searches : goal.returns-clause-searches
returns-clause-searches c given start es a good limits fit legal of passes =
    let before = legal_start (those (setup_for given)) start es of legal in
    another_steps (setup_for given) start es a legal passes (has_room c.some_buffer_has_room.ensures (setup_for given) start (c.every_list_of_actors_stands.ensures given start good limits fit before))
