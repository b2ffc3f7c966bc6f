use Rattle.gh_lists.proofs.Vocabulary.{arena_of, processor_kind, setup_for, state_of}
use Rattle.gh_lists.proofs.numbers.every_list_opens_few.Goals as goal

pub returns : goal.returns
returns c given es fit legal =
    let begins = c.processors_begin_few.ensures (arena_of given.shapes given.layout) given.counts (λ a fs. state_of (processor_kind given.shapes given.layout) a fs) fit in
    c.cycles_are_few.ensures (setup_for given) (arena_of given.shapes given.layout).seat_of given.counts begins es legal
