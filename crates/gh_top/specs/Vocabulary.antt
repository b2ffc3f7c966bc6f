-- The names that several files of specs/ share.
pub use Rattle.std.specs.Io.KnownBytes.{Appends}
pub use Rattle.gh_command.specs.CommandLine.{command_line}
pub use Rattle.gh_command.specs.declared.line.Line.{Line}
pub use Rattle.gh_command.specs.declared.line.Line.TheVariants.{Gen, Replay, Run, Soak, Verify}
pub use Rattle.gh_dump.specs.Causes.{cause_word}
pub use Rattle.gh_dump.specs.Certificate.{CertifiesReach}
pub use Rattle.gh_dump.specs.Items.{items_of}
pub use Rattle.gh_dump.specs.Verdict.{Accepts, Faults}
pub use Rattle.gh_dump.specs.declared.fault.DumpWhy.{DumpWhy}
pub use Rattle.gh_io.specs.Counts.{Rose}
pub use Rattle.gh_io.specs.Streams.{TookPart}
pub use Rattle.gh_lines.specs.Dump.{reachable_line}
pub use Rattle.gh_lines.specs.Text.{bad_text_line, live_line, Outcome, outcome_lines, refusal_line, statements_line, turns_line, words_refused_line}
pub use Rattle.gh_replay.specs.Replayed.{IsReplayed, IsUnfinished}
pub use Rattle.gh_replay.specs.Report.{is_checked, IsReportOf, replay_text}
pub use Rattle.gh_run.specs.Told.{IsRunByThreads}
pub use Rattle.gh_script.specs.Generated.{generated_program, generated_text}
pub use Rattle.gh_script.specs.Grammar.{Refused, Spells}
pub use Rattle.gh_script.specs.Program.{Program}
pub use Rattle.gh_soak.specs.Soak.{AreLiveThen}
pub use Rattle.gh_top.specs.declared.status.Status.{Status}
