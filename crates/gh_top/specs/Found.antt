-- What a call has found before it writes anything.
use Rattle.std.specs.Prelude.{◌≡◌, ℕ, ◌*◌, ◌/◌, ◌<◌, ◌≤◌, false, List, [], ◌++◌, Option, Some, Result, Ok, Err, IsOk}
use Rattle.gh_top.specs.Vocabulary.{Accepts, Appends, AreLiveThen, bad_text_line, cause_word, command_line, Faults, Gen, generated_program, generated_text, is_checked, IsReplayed, IsReportOf, IsRunByThreads, IsUnfinished, Line, live_line, Outcome, Program, reachable_line, refusal_line, Refused, Replay, replay_text, Rose, Run, Soak, Spells, statements_line, Status, TookPart, turns_line, Verify, words_refused_line}
use Rattle.gh_top.specs.declared.found.Found.{Found}
use Rattle.gh_top.specs.declared.found.Found.TheVariants.{BadWords, BadScript, Ran, OutOfTurns, Generated, Soaked, Verified, BadDump, ReadFault, NoThread, NoMemory}
use Rattle.gh_top.specs.Outcome.{AreRefused}

-- What was found is so for a line and the text: a script that was run is the one that the text spells, run as the line says, and a text that was refused spells none.
abbrev pub MatchesLine : Line → List ℕ → Found → Type 0
MatchesLine (Replay plan budget check) text (BadScript f) = Refused text f.line f.why
MatchesLine (Replay plan budget check) text (Ran p report) = Spells text p × IsReplayed p plan budget report.outcome × (is_checked report ≡ check)
MatchesLine (Replay plan budget check) text (OutOfTurns n) = (n ≡ budget) × (p : Program) × Spells text p × IsUnfinished p plan budget
MatchesLine (Replay plan budget check) text ReadFault = Unit {0}
MatchesLine Run text (BadScript f) = Refused text f.line f.why
MatchesLine Run text (Ran p report) = Spells text p × IsRunByThreads p report.outcome × (is_checked report ≡ false)
MatchesLine Run text ReadFault = Unit {0}
MatchesLine Run text NoThread = (p : Program) × Spells text p
MatchesLine (Gen seed size) text (Generated script) = script.items ≡ generated_text seed size
MatchesLine (Soak seed size) text (Soaked n objects bytes) = (n ≡ 4 * (size / 4)) × (outcome : Outcome) × IsRunByThreads (generated_program seed size) outcome × AreLiveThen (generated_program seed size) outcome.objects outcome.bytes
    × (objects ≡ outcome.objects) × (bytes ≡ outcome.bytes)
MatchesLine (Soak seed size) text NoThread = Unit {0}
MatchesLine Verify text (Verified n) = Accepts text n
MatchesLine Verify text (BadDump f) = Faults text f.line f.why
MatchesLine Verify text ReadFault = Unit {0}
MatchesLine line text NoMemory = Unit {0}
MatchesLine line text found = ⊥

-- and for the words
abbrev pub Matches : List (List ℕ) → List ℕ → Found → Type 0
Matches words text BadWords = AreRefused words
Matches words text NoMemory = Unit {0}
Matches words text found = (line : Line) × (command_line words ≡ Some line) × MatchesLine line text found

-- the script that was read is what the text spells, or there is none, for this cause
abbrev pub IsScriptOf : List ℕ → Result Program Found → Type 0
IsScriptOf text (Ok p) = Spells text p
IsScriptOf text (Err (BadScript f)) = Refused text f.line f.why
IsScriptOf text (Err ReadFault) = Unit {0}
IsScriptOf text (Err NoMemory) = Unit {0}
IsScriptOf text (Err found) = ⊥

-- it was found of a text that was read to its end: the script was run, as far as its turns went, or the dump has no line with a cause
abbrev pub IsOfAll : Found → Type 0
IsOfAll (Ran p report) = Unit {0}
IsOfAll (OutOfTurns n) = Unit {0}
IsOfAll (Verified n) = Unit {0}
IsOfAll _ = ⊥

-- what is told is of the script that was run
abbrev pub IsTellable : Found → Type 0
IsTellable (Ran p report) = IsReportOf p report
IsTellable _ = Unit {0}

-- there is nothing to say
abbrev pub IsSilent : Found → Type 0
IsSilent ReadFault = Unit {0}
IsSilent NoThread = Unit {0}
IsSilent NoMemory = Unit {0}
IsSilent _ = ⊥

-- what is to be written
abbrev pub said_of : Found → List ℕ
said_of BadWords = words_refused_line
said_of (BadScript f) = refusal_line f.line f.why
said_of (Ran p report) = replay_text p report.outcome (is_checked report)
said_of (OutOfTurns n) = turns_line n
said_of (Generated script) = script.items
said_of (Soaked n objects bytes) = statements_line n ++ live_line objects bytes
said_of (Verified n) = reachable_line n
said_of (BadDump f) = bad_text_line f.line (cause_word f.why)
said_of _ = []

-- how the call ends once that is written
abbrev pub status_of : Found → Status
status_of BadWords = Status.BadWords
status_of (BadScript f) = Status.BadScript
status_of (Ran p report) = Status.Ok
status_of (OutOfTurns n) = Status.OutOfTurns
status_of (Generated script) = Status.Ok
status_of (Soaked n objects bytes) = Status.Ok
status_of (Verified n) = Status.Ok
status_of (BadDump f) = Status.BadDump
status_of ReadFault = Status.ReadFault
status_of NoThread = Status.NoThread
status_of NoMemory = Status.NoMemory

-- ---- what the parts of a call come to

-- What was found of a source that had these bytes left and these faults, and has now those, matches its text. Of a source that does not tell its bytes there is a text that explains it.
pub record IsFound (matches : List ℕ → Found → Type 0) (left left_now : Option (List ℕ)) (faults faults_now : ℕ) (found : Found) : Type 0 where
  pub told : (text : List ℕ) → left ≡ Some text → matches text found
  pub explained : (text : List ℕ) × matches text found
  pub read : (text : List ℕ) → left ≡ Some text → IsOfAll found → left_now ≡ Some []
  pub fault : found ≡ ReadFault → Rose faults faults_now
  pub fault_exactly : faults < faults_now → found ≡ ReadFault
  pub never_falls : faults ≤ faults_now
  pub tellable : IsTellable found

-- A script was read of such a source, or none: the source was read to its end, or to the first byte that no script has room for.
pub record IsReading (left left_now : Option (List ℕ)) (faults faults_now : ℕ) (r : Result Program Found) : Type 0 where
  pub told : (text : List ℕ) → left ≡ Some text → IsScriptOf text r
  pub explained : (text : List ℕ) × IsScriptOf text r
  pub read : IsOk r → (text : List ℕ) → left ≡ Some text → left_now ≡ Some []
  pub fault : r ≡ Err ReadFault → Rose faults faults_now
  pub fault_exactly : faults < faults_now → r ≡ Err ReadFault
  pub never_falls : faults ≤ faults_now

-- all that was found was written
pub record FoundIsWritten (found : Found) (taken taken_now : Option (List ℕ)) (faults faults_now : ℕ) (status : Status) : Type 0 where
  pub so : status ≡ status_of found
  pub whole : Appends taken taken_now (said_of found)
  pub silent : IsSilent found → taken_now ≡ taken
  pub no_fault : faults_now ≡ faults

-- a write of it failed
pub record IsCutOff (found : Found) (taken taken_now : Option (List ℕ)) (faults faults_now : ℕ) (status : Status) : Type 0 where
  pub so : status ≡ Status.WriteFault
  pub loud : IsSilent found → ⊥
  pub part : TookPart taken taken_now (said_of found)
  pub failed : Rose faults faults_now
  pub never_falls : faults ≤ faults_now
