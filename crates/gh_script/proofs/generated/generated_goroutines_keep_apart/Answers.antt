use Rattle.gh_script.proofs.GeneratedForm.{generated_apart}
use Rattle.gh_script.proofs.generated.generated_goroutines_keep_apart.Goals as goal

pub returns : goal.returns
returns c = λ seed size i lt. generated_apart seed size i lt
