use Rattle.std.proofs.Common.{List}
use Rattle.gh_law.proofs.Vocabulary.{AllStands, Entry, Legal, Op, setup_for, those}
use Rattle.gh_law.proofs.Crediting.Few.{few_words}
use Rattle.gh_law.proofs.Crediting.Lists.{Cited, stands}
use Rattle.gh_law.proofs.credit.every_list_balances.Goals as goal

pub returns : goal.returns
returns c given es good limits fit legal =
    let every : (xs : List (Entry Op)) → Legal (those (setup_for given)) xs → AllStands (setup_for given) xs = λ xs is. c.every_list_of_actors_stands.ensures given xs good limits fit is in
    let cited : Cited (setup_for given) = record {
      writes = c.a_processor_writes_its_own.ensures;
      works = c.a_worker_writes_its_own.ensures;
      calm = c.calm_workers_mark_nothing.ensures;
      earns = c.credit_is_handed_over.ensures;
      spend = c.processors_spend.ensures;
      keeps = λ xs is. c.every_list_keeps_the_handshake.ensures (setup_for given) xs is;
      rests = λ xs is. c.every_list_rests_workers.ensures (setup_for given) xs is;
      phases = λ xs is. (every xs is).phases;
      few = λ xs is. few_words (setup_for given) given.counts xs limits fit (every xs is) (c.every_list_opens_few.ensures given xs fit is);
    } in
    stands (setup_for given) cited es legal
