use Rattle.gh_law.proofs.AllActors.AllOf.{list_stands}
use Rattle.gh_holds.specs.OfLists.{lists_known}
use Rattle.gh_law.proofs.actors.every_list_of_actors_stands.Goals as goal

pub returns : goal.returns
returns c given es good limits fit legal =
    list_stands given c.slots_are_read.ensures c.ties_show_what_there_is.ensures (lists_known c.every_list_holds.ensures.lists given good limits c.every_list_holds.ensures.known fit)
    (λ xs is. c.every_list_holds.ensures.holds given xs good limits fit is) es legal
