use Rattle.std.proofs.Common.{◌≡◌, ℕ, Bool, true, false, refl, ap, sym, subst, ◌∙◌, IsTrue}
use Rattle.gh_mutator.proofs.Vocabulary.{Layout, poll_stacks, Sound, SoundTask, Task, task_kept}
use Rattle.gh_poll.specs.Poll as poll
use Rattle.gh_mutator.proofs.processor.Processor.passes_marking.Goals as goal

-- whether it passes or not, its registers stay
stacks_stay : (l : Layout) (p q : poll.Polling) (found : ℕ) (passes : Bool) → (IsTrue passes → q ≡ poll.goes l (poll.begins p false) found) → (passes ≡ false → q ≡ p) → q.local.stacks ≡ p.local.stacks
stacks_stay l p q found true passed stays = ap (λ (x : poll.Polling). x.local.stacks) (passed refl) ∙ poll_stacks l (poll.begins p false) found
stacks_stay l p q found false passed stays = ap (λ (x : poll.Polling). x.local.stacks) (stays refl)

pub returns-in-Idle-clause-sound : goal.returns-in-Idle-clause-sound
returns-in-Idle-clause-sound c = λ shapes s.
    let m = c.self.inside in
    let l = c.args.layout.now in
    let was = subst (Sound l shapes) (sym c.self.view_is) s in
    let stacks = stacks_stay l m.poll c.passes_marking.new.self c.args.found c.passes_marking.result (λ is. (c.passes_marking.ensures.passed is).0) c.passes_marking.ensures.stays in record {
      registers = λ g d. rw stacks (was.registers g d);
      few = was.few;
      task = subst (λ (t : Task). SoundTask l shapes c.passes_marking.new.self m.made t) (sym (ap (λ a. task_kept a m.large) c.in-Idle.is)) tt;
    }
