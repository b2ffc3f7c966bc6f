use Rattle.gh_alloc.proofs.Seeking.Sound.{is_routine}
use Rattle.gh_alloc.proofs.laws.searching_is_a_routine.Goals as goal

pub returns : goal.returns
returns c l =
    let sizes = c.size_class_laws.ensures in
    is_routine (record { some = sizes.some_page; few = sizes.few_pages }) l (c.finding_is_a_routine.ensures l) (c.spans_go_by_routines.ensures.reclaim l)
