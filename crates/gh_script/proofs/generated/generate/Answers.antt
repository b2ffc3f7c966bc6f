use Rattle.std.proofs.Common.{◌≡◌, ℕ, ◌∙◌, ap, arith}
use Rattle.gh_script.proofs.Vocabulary.{text_of}
use Rattle.gh_script.proofs.Writing.{all_written, begun_written, first_state, lines_before, next_state, next_written}
use Rattle.gh_script.proofs.generated.generate.Goals as goal

pub loop-g-init : goal.loop-g-init
loop-g-init c = record {
  text = begun_written c.args.seed c.args.size c.in_ok-text.text.items c.put.new.text.items c.in_ok-text.ensures.items c.in_ok-put.ensures;
  draws = first_state c.args.seed c.args.size c.seed_from_u64-draws.result c.seed_from_u64-draws.ensures.same;
}

pub loop-g-preserved : goal.loop-g-preserved
loop-g-preserved c = record {
  text = next_written c.args.seed c.args.size c.loop-g.g c.loop-g.draws c.loop-g.text.items c.put_goroutine.new.text.items c.loop-g.invariant.text c.loop-g.invariant.draws c.in_ok-put_goroutine.ensures.text;
  draws = next_state c.args.seed c.args.size c.loop-g.g c.loop-g.draws c.put_goroutine.new.draws c.loop-g.invariant.draws c.in_ok-put_goroutine.ensures.draws;
}

pub returns : goal.returns
returns c =
    let all : c.loop-g.g ≡ 4 = omega arith in
    all_written c.args.seed c.args.size c.loop-g.text.items (c.loop-g.invariant.text ∙ ap (λ (i : ℕ). text_of (lines_before c.args.seed c.args.size i)) all)
