use Rattle.gh_lists.proofs.Vocabulary.{acks_of, those}
use Rattle.gh_lists.proofs.Shaking.{in_handshake}
use Rattle.gh_lists.proofs.handshake.every_step_keeps_the_handshake.Goals as goal

pub returns : goal.returns
returns c setup e es legal =
    let leads = c.the_coordinator_leads_the_handshake.ensures in
    let works = c.a_worker_keeps_the_handshake.ensures in
    let in_it = in_handshake setup c.the_processor_keeps_the_handshake.ensures c.a_processor_writes_its_own.ensures leads works in
    record {
      gone = c.the_gone_stay_gone.ensures (those setup) (acks_of setup.layout) in_it e es legal;
      finished = c.the_last_phase_stays.ensures (those setup) (acks_of setup.layout) in_it e es legal;
      still = c.nobody_moves.ensures (those setup) (acks_of setup.layout) in_it e es legal;
    }
