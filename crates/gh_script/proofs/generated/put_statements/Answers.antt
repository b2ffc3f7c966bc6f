use Rattle.std.proofs.Common.{ℕ, ap}
use Rattle.gh_script.proofs.Writing.{no_word, none_written, one_written, state_behind-next}
use Rattle.gh_script.proofs.generated.put_statements.Goals as goal

pub loop-init : goal.loop-init
loop-init c = record { text = none_written c.args.text.now.items c.args.draws.now c.args.g; draws = no_word c.args.draws.now }

pub loop-preserved : goal.loop-preserved
loop-preserved c = record {
  text = one_written c.args.text.now.items c.loop.text.items c.put_statement.new.text.items c.args.draws.now c.args.g c.loop.counter c.loop.draws c.next_word.result c.statement_by.result
      c.loop.invariant.text c.loop.invariant.draws (ap (λ (p : ℕ × ℕ). p.0) c.next_word.ensures) c.statement_by.ensures c.in_ok-put_statement.ensures;
  draws = state_behind-next c.args.draws.now c.loop.counter c.loop.draws c.next_word.new.self c.loop.invariant.draws (ap (λ (p : ℕ × ℕ). p.1) c.next_word.ensures);
}
