use Rattle.std.proofs.Common.{◌≡◌, ℕ, sym, subst, ◌∙◌}
use Rattle.gh_soak.proofs.Vocabulary.{acted_in, AreLive, Ever, ever_left_by, ever_of, ops_of}
use Rattle.gh_script.specs.Generated.{generated_program}
use Rattle.gh_soak.specs.Soak.{one_after_another}
use Rattle.gh_soak.proofs.laws.soaks_tell_one_heap.Goals as goal

pub returns : goal.returns
returns c = λ seed size o few run.
    let p = generated_program seed size in
    let ops = ops_of (acted_in p.shapes run.layout run.steps) in
    let order = c.runs_are_orders.ensures p run.layout run.steps run.outcome run.lays_out run.explained in
    let left = c.runs_leave_their_heap.ensures p run.layout run.steps run.outcome run.explained (c.generated_scripts_are_never_full.ensures seed size run.layout run.steps run.outcome few run.lays_out run.explained) in
    let one : ever_of p.shapes run.layout run.steps ≡ ever_left_by p.shapes (one_after_another p) =
    left ∙ c.generated_scripts_leave_one_heap.ensures seed size ops (one_after_another p) order (c.one_after_another_is_an_order.ensures p) in
    let here : AreLive p.shapes (ever_left_by p.shapes (one_after_another p)) run.outcome.objects run.outcome.bytes =
    subst (λ (e : Ever). AreLive p.shapes e run.outcome.objects run.outcome.bytes) one run.explained.live in
    subst (λ (n : ℕ). AreLive p.shapes (ever_left_by p.shapes (one_after_another p)) n o.bytes) (sym run.live.0)
    (subst (λ (n : ℕ). AreLive p.shapes (ever_left_by p.shapes (one_after_another p)) run.outcome.objects n) (sym run.live.1) here)
