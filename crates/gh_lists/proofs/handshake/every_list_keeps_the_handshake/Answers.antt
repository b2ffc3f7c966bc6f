use Rattle.gh_lists.proofs.Vocabulary.{acks_of, those}
use Rattle.gh_lists.proofs.Knowing.{keeps_it}
use Rattle.gh_lists.proofs.Shaking.{in_handshake}
use Rattle.gh_lists.proofs.handshake.every_list_keeps_the_handshake.Goals as goal

pub returns : goal.returns
returns c setup es legal =
    let leads = c.the_coordinator_leads_the_handshake.ensures in
    let works = c.a_worker_keeps_the_handshake.ensures in
    let in_it = in_handshake setup c.the_processor_keeps_the_handshake.ensures c.a_processor_writes_its_own.ensures leads works in
    keeps_it setup (record { back = c.packed_words_are_read_back.ensures.phase; leads = leads; works = works; places = c.workers_keep_places.ensures; writes = c.a_processor_writes_its_own.ensures })
    (c.the_handshake_holds.ensures (those setup) (acks_of setup.layout) in_it)
    (c.the_gone_stay_gone.ensures (those setup) (acks_of setup.layout) in_it)
    (c.the_last_phase_stays.ensures (those setup) (acks_of setup.layout) in_it)
    es legal
