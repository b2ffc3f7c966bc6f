-- The names that several files of proofs/ share.
pub use Rattle.std.specs.Io.KnownBytes.{Consumes, IsAtEnd}
pub use Rattle.std.specs.List.{concat}
pub use Rattle.gh_command.specs.CommandLine.{Text, texts}
pub use Rattle.gh_dump.specs.Verdict.{HaveOneVerdict}
pub use Rattle.gh_dump.specs.declared.reading.TheConstants.{MOST_DUMP_BYTES}
pub use Rattle.gh_io.specs.Streams.{PartOfFirstIsOfBoth, PartOfSecondIsOfBoth}
pub use Rattle.gh_lines.specs.Text.{answers_by}
pub use Rattle.gh_replay.specs.Replayed.{NotBoth}
pub use Rattle.gh_replay.specs.Report.{replay_lines}
pub use Rattle.gh_script.specs.Grammar.{reading_of}
pub use Rattle.gh_script.specs.declared.reading.TheConstants.{MOST_BYTES}
pub use Rattle.gh_top.specs.Found.{FoundIsWritten, IsCutOff, IsFound, IsOfAll, IsScriptOf, IsSilent, IsTellable, Matches, MatchesLine, said_of, status_of}
pub use Rattle.gh_top.specs.Outcome.{AreRefused, ComesTo, Ends, IsForThreads, IsSoak, IsVerify, ReadsScript, ReadsText, Said, Says, Streams, streams, TellsInFull}
pub use Rattle.gh_top.specs.Vocabulary.{Accepts, Appends, CertifiesReach, command_line, DumpWhy, Faults, Gen, is_checked, IsReplayed, IsUnfinished, items_of, Line, live_line, Outcome, outcome_lines, Program, reachable_line, Refused, Replay, replay_text, Run, Soak, Spells, statements_line, Status, TookPart, Verify}
pub use Rattle.gh_top.specs.declared.found.Found.{Found}
pub use Rattle.gh_top.specs.declared.found.Found.TheVariants.{BadDump, BadScript, BadWords, Generated, NoMemory, NoThread, OutOfTurns, Ran, ReadFault, Soaked, Verified}
