use Rattle.gh_command.proofs.Vocabulary.{ExplainsUnsignedError, HasUnsignedDigitsIfOk, ParsesUnsigned}
use Rattle.gh_command.proofs.CommandLineNumbers.{number_of_rows}
use Rattle.gh_command.proofs.line.number_in.Goals as goal

-- src/line.rt:61:1
pub returns : goal.returns
returns c =
    number_of_rows (λ bs r. ParsesUnsigned 64 10 bs r × ExplainsUnsignedError 10 bs r × HasUnsignedDigitsIfOk bs r)
    c.args.found.now c.args.name.now c.get_one.result c.get_one.ensures.none c.get_one.ensures.value (λ t x g. g.0)
