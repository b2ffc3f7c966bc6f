use Rattle.gh_poll.proofs.Routines as routines
use Rattle.gh_poll.proofs.laws.polls_are_routines.Goals as goal

pub returns-clause-scans : goal.returns-clause-scans
returns-clause-scans c l = routines.marking_is_a_routine l (record { footprints = c.footprints_hold.ensures; gives = c.giving_is_a_routine.ensures l; resumes = c.going_on_is_a_routine.ensures l; rooms = c.room_search_is_a_routine.ensures l; shades = c.shading_is_a_routine.ensures l })

pub returns-clause-polls : goal.returns-clause-polls
returns-clause-polls c l = routines.polling_is_a_routine l (record { footprints = c.footprints_hold.ensures; gives = c.giving_is_a_routine.ensures l; resumes = c.going_on_is_a_routine.ensures l; rooms = c.room_search_is_a_routine.ensures l; shades = c.shading_is_a_routine.ensures l })

pub returns-clause-waits : goal.returns-clause-waits
returns-clause-waits c l = routines.waiting_is_a_routine l (record { footprints = c.footprints_hold.ensures; gives = c.giving_is_a_routine.ensures l; resumes = c.going_on_is_a_routine.ensures l; rooms = c.room_search_is_a_routine.ensures l; shades = c.shading_is_a_routine.ensures l })
