use Rattle.gh_script.proofs.Names.{IsUtf8-name}
use Rattle.gh_script.proofs.saying.name_text.Goals as goal

pub unreachable-requires : goal.unreachable-requires
unreachable-requires c = c.in-Err.ensures.cases.0 (IsUtf8-name c.args.word.now c.requires)
