use Rattle.std.proofs.Common.{inl, inr, ap, refl}
use Rattle.std.proofs.lemmas.Bool.{false≢true}
use Rattle.gh_top.proofs.saying.tell.Goals as goal

pub returns-in-Ok : goal.returns-in-Ok
returns-in-Ok g c = inl (record {
  so = c.ending.ensures;
  whole = c.in-Ok.ensures.ok;
  silent = λ silent. ap g.K.Sink.taken (c.in-Ok.ensures.silent silent).1;
  no_fault = c.in-Ok.ensures.no_fault;
})

pub returns-in-Err : goal.returns-in-Err
returns-in-Err g c = inr (record {
  so = refl;
  loud = λ silent. false≢true (c.in-Err.ensures.silent silent).0;
  part = c.in-Err.ensures.part;
  failed = c.in-Err.ensures.failed;
  never_falls = c.in-Err.ensures.never_falls;
})
