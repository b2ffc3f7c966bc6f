use Rattle.gh_mutator.proofs.ClassFacts.{what_is_wanted_fits}
use Rattle.gh_mutator.proofs.laws.what_is_wanted_fits.Goals as goal

pub returns : goal.returns
returns c =
    let table = c.size_class_laws.ensures in
    what_is_wanted_fits (record {
      least_slot = table.least_slot;
      greatest_slot = table.greatest_slot;
      some_page = table.some_page;
      few_pages = table.few_pages;
      fit = table.fit;
      whole_words = table.whole_words;
      some_slot = table.some_slot;
      few_slots = table.few_slots;
      number = table.number;
      small_slot = table.small_slot;
      large_slot = table.large_slot;
      holds = table.holds;
      bounded = table.bounded;
    })
