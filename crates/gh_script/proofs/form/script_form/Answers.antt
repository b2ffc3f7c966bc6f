use Rattle.gh_script.proofs.FormLaw.{HasForm-Spells}
use Rattle.gh_script.proofs.FormBack.{Spells-HasForm}
use Rattle.gh_script.proofs.form.script_form.Goals as goal

pub returns : goal.returns
returns c = λ text program. (HasForm-Spells text program, Spells-HasForm text program)
