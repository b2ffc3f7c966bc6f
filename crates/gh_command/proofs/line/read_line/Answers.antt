use Rattle.std.proofs.Common.{◌≡◌, ◌∙◌, IfOk, Option, subst, sym}
use Rattle.gh_command.proofs.Vocabulary.{app_of, Line, subcommand_rows_of, texts}
use Rattle.clap.specs.Words.{kind_of}
use Rattle.gh_command.proofs.CommandLineParsed.{not_taken, taken}
use Rattle.gh_command.proofs.line.read_line.Goals as goal

-- src/line.rt:30:1
pub returns-in-Ok : goal.returns-in-Ok
returns-in-Ok c =
    subst (λ (l : Option Line). IfOk c.line_in.result (λ line. line ≡ l))
    (taken (app_of c.in_ok-command.command) (texts c.args.words.now) (subcommand_rows_of c.in-Ok.matches) c.in_ok-command.ensures
    c.in-Ok.ensures.kinds (λ simple. (c.in-Ok.ensures.matches simple).1)) c.line_in.ensures

-- src/line.rt:28:1
pub returns : goal.returns
returns c =
    sym (not_taken (app_of c.in_ok-command.command) (texts c.args.words.now) (kind_of c.in-Err.error) c.in_ok-command.ensures
    (λ memory. c.in_default.not-OutOfMemory (c.kind.ensures ∙ memory)) c.in-Err.ensures.kinds)
