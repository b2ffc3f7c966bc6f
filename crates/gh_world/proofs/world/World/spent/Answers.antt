use Rattle.std.proofs.Common.{◌≡◌, ◌%◌, ◌^◌, ℕ, length, sym, ap, ◌∙◌, arith}
use Rattle.gh_world.proofs.Vocabulary.{actor_of, spent_among, State}
use Rattle.gh_world.proofs.Drawing.{drawn_all}
use Rattle.gh_world.proofs.world.World.spent.Goals as goal

pub returns : goal.returns
returns c =
    let w : State = c.args.self.now in
    let same : c.deref-runner-items.result.now ≡ w.runners = c.deref-runner-items.ensures.value ∙ ap (λ (x : State). x.runners) c.self.view_is in
    let end : c.loop-runner.runner-index ≡ length w.runners = let long = ap length same in omega (arith, c.loop-runner-test.false, c.loop-runner.auto.runner-index-end, long) in
    c.loop-runner.invariant ∙ ap (λ (n : ℕ). spent_among (actor_of w) n % 2 ^ 64) end ∙ ap (λ (n : ℕ). n % 2 ^ 64) (sym (drawn_all w))
