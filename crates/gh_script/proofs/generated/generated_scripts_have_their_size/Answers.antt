use Rattle.gh_script.proofs.GeneratedForm.{generated_size}
use Rattle.gh_script.proofs.generated.generated_scripts_have_their_size.Goals as goal

pub returns : goal.returns
returns c = λ seed size. generated_size seed size
