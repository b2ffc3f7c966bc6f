use Rattle.std.proofs.Common.{ℕ, ap, sym, ◌∙◌}
use Rattle.gh_replay.proofs.Vocabulary.{Answer, Done, get_or_from_slice_get, slice_get-get_or}
use Rattle.gh_replay.proofs.Taking.{next_mine, next_other}
use Rattle.gh_replay.proofs.check.answer_index.Goals as goal

pub returns-then-answers-i-clause-some : goal.returns-then-answers-i-clause-some
returns-then-answers-i-clause-some c = λ x is.
    c.loop-i.invariant.none
    ∙ next_mine c.args.g c.args.answers.now c.loop-i.i x is (sym (ap (λ (y : ℕ × Answer). y.0) (get_or_from_slice_get c.args.answers.now c.loop-i.i x (0, Done) is)) ∙ c.if-answers-i.true)

pub loop-i-preserved : goal.loop-i-preserved
loop-i-preserved c = record {
  none = c.loop-i.invariant.none
      ∙ next_other c.args.g c.args.answers.now c.loop-i.i _ (slice_get-get_or c.args.answers.now c.loop-i.i (0, Done) c.loop-i-test.true) c.if-answers-i.false;
}
