use Rattle.gh_script.proofs.Vocabulary.{generated_program, generated_text}
use Rattle.gh_script.proofs.GeneratedForm.{generated_form}
use Rattle.gh_script.proofs.generated.generated_scripts_spell.Goals as goal

pub returns : goal.returns
returns c = λ seed size few. (c.script_form.ensures (generated_text seed size) (generated_program seed size)).1 (generated_form seed size few)
