use Rattle.gh_mutator_heap.proofs.laws.a_processor_runs_by_its_rights.Goals as goal
use Rattle.gh_mutator_heap.proofs.Owning.Runs.{runs_by_its_rights}

pub returns : goal.returns
returns c =
    let table = c.size_class_laws.ensures in
    runs_by_its_rights (record {
      apart = c.the_heap_is_apart.ensures;
      follow = c.rights_follow.ensures.follow;
      own = c.rights_follow.ensures.own;
      swept = c.facts_last.ensures.swept;
      rows = c.rows_are_written.ensures;
      packed = c.packed_words_are_read_back.ensures;
      search = c.searching_keeps_its_facts.ensures;
      place = c.making_keeps_its_facts.ensures;
      polls = c.polls_by_rights.ensures;
      waits = c.waits_by_rights.ensures;
      leaves = c.leaves_by_rights.ensures;
      writes = c.writes_by_moves.ensures;
      within = c.writing_is_within.ensures;
      assists_quiet = c.assists_are_quiet.ensures;
      assists_within = c.assists_are_within.ensures;
      least_slot = table.least_slot;
      holds = table.holds;
      wants = c.what_is_wanted_fits.ensures;
    })
