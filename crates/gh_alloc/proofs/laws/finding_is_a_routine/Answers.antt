use Rattle.gh_alloc.proofs.Finding.Sound.{is_routine}
use Rattle.gh_alloc.proofs.laws.finding_is_a_routine.Goals as goal

pub returns : goal.returns
returns c =
    let spans = c.spans_go_by_routines.ensures in
    let sizes = c.size_class_laws.ensures in
    is_routine (record {
      slots = c.the_search_is_a_routine.ensures;
      give = spans.give;
      pass = spans.swept;
      unswept = spans.unswept;
      carve = c.the_carve_is_a_routine.ensures;
      pages = record { some = sizes.some_page; few = sizes.few_pages };
      few_slots = sizes.few_slots;
      fit = sizes.fit;
    })
