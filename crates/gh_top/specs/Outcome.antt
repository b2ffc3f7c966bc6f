-- What the program says: what it writes and how it ends, for the words that it is called with and the text that it reads.
use Rattle.std.specs.Prelude.{◌≡◌, ◌⊎◌, ℕ, ◌*◌, ◌/◌, ◌<◌, ◌≤◌, Bool, List, [], ◌++◌, Option, Some, None}
use Rattle.std.specs.List.{concat}
use Rattle.gh_top.specs.Vocabulary.{Accepts, Appends, AreLiveThen, bad_text_line, cause_word, CertifiesReach, command_line, DumpWhy, Faults, Gen, generated_program, generated_text, IsReplayed, IsRunByThreads, IsUnfinished, items_of, Line, live_line, Outcome, outcome_lines, Program, reachable_line, refusal_line, Refused, Replay, replay_text, Rose, Run, Soak, Spells, statements_line, Status, TookPart, turns_line, Verify, words_refused_line}
use Rattle.gh_replay.specs.Plan.{Plan}
use Rattle.gh_script.specs.declared.fault.Why.{Why}
use Rattle.gh_top.specs.declared.status.Status.TheVariants.{Ok, BadWords, BadScript, ReadFault, WriteFault, NoMemory, NoThread, OutOfTurns, BadDump}

-- ---- the words

-- the command takes the words as a replay by this schedule, of at most so many turns, which is checked or not
abbrev pub IsReplay : List (List ℕ) → Plan → ℕ → Bool → Type 0
IsReplay words plan budget check = command_line words ≡ Some (Replay plan budget check)

-- as a run by threads
abbrev pub IsRun : List (List ℕ) → Type 0
IsRun words = command_line words ≡ Some Run

-- as a wish for the script of this seed and this size
abbrev pub IsGen : List (List ℕ) → ℕ → ℕ → Type 0
IsGen words seed size = command_line words ≡ Some (Gen seed size)

-- as a run of that script by threads
abbrev pub IsSoak : List (List ℕ) → ℕ → ℕ → Type 0
IsSoak words seed size = command_line words ≡ Some (Soak seed size)

-- as a dump of a heap to be verified
abbrev pub IsVerify : List (List ℕ) → Type 0
IsVerify words = command_line words ≡ Some Verify

-- the command does not take the words
abbrev pub AreRefused : List (List ℕ) → Type 0
AreRefused words = command_line words ≡ None

-- as one of the two that run threads
abbrev pub IsForThreads : List (List ℕ) → Type 0
IsForThreads words = IsRun words ⊎ ((seed : ℕ) × (size : ℕ) × IsSoak words seed size)

-- as one of the two that read a script
abbrev pub ReadsScript : List (List ℕ) → Type 0
ReadsScript words = IsRun words ⊎ ((plan : Plan) × (budget : ℕ) × (check : Bool) × IsReplay words plan budget check)

-- as one of the three that read a text: a script, or a dump
abbrev pub ReadsText : List (List ℕ) → Type 0
ReadsText words = ReadsScript words ⊎ IsVerify words

-- ---- what is said

-- what a call may end with after it has written all that it has to say
abbrev pub TellsInFull : Status → Type 0
TellsInFull Ok = Unit {0}
TellsInFull BadWords = Unit {0}
TellsInFull BadScript = Unit {0}
TellsInFull OutOfTurns = Unit {0}
TellsInFull BadDump = Unit {0}
TellsInFull _ = ⊥

-- the text is refused, and this is its line
abbrev pub IsRefusal : List ℕ → List ℕ → Type 0
IsRefusal text written = (line : ℕ) × (why : Why) × Refused text line why × (written ≡ refusal_line line why)

-- a line of the text has a cause, and this is its line
abbrev pub IsBadDump : List ℕ → List ℕ → Type 0
IsBadDump text written = (line : ℕ) × (why : DumpWhy) × Faults text line why × (written ≡ bad_text_line line (cause_word why))

-- what a line that is taken may come to of this text, and what there is to say then
abbrev pub ComesTo : Line → List ℕ → Status → List ℕ → Type 0
ComesTo (Replay plan budget check) text Ok written = (p : Program) × Spells text p × (outcome : Outcome) × IsReplayed p plan budget outcome × (written ≡ replay_text p outcome check)
ComesTo (Replay plan budget check) text OutOfTurns written = (p : Program) × Spells text p × IsUnfinished p plan budget × (written ≡ turns_line budget)
ComesTo (Replay plan budget check) text BadScript written = IsRefusal text written
ComesTo Run text Ok written = (p : Program) × Spells text p × (outcome : Outcome) × IsRunByThreads p outcome × (written ≡ concat (outcome_lines p outcome))
ComesTo Run text BadScript written = IsRefusal text written
ComesTo (Gen seed size) text Ok written = written ≡ generated_text seed size
ComesTo (Soak seed size) text Ok written = (outcome : Outcome) × IsRunByThreads (generated_program seed size) outcome × AreLiveThen (generated_program seed size) outcome.objects outcome.bytes
    × (written ≡ statements_line (4 * (size / 4)) ++ live_line outcome.objects outcome.bytes)
ComesTo Verify text Ok written = (n : ℕ) × Accepts text n × (written ≡ reachable_line n)
ComesTo Verify text BadDump written = IsBadDump text written
ComesTo line text status written = ⊥

-- a call with these words and this text may end so, having this to say
abbrev pub Says : List (List ℕ) → List ℕ → Status → List ℕ → Type 0
Says words text BadWords written = AreRefused words × (written ≡ words_refused_line)
Says words text status written = (line : Line) × (command_line words ≡ Some line) × ComesTo line text status written

-- the sink took all that there was to say
abbrev pub Said : List (List ℕ) → List ℕ → Status → Option (List ℕ) → Option (List ℕ) → Type 0
Said words text status before after = (written : List ℕ) × Says words text status written × Appends before after written

-- the sink took the beginning of what there was to say
abbrev pub SaidPart : List (List ℕ) → List ℕ → Option (List ℕ) → Option (List ℕ) → Type 0
SaidPart words text before after = (status : Status) × (written : List ℕ) × Says words text status written × TookPart before after written

-- ---- how a call ends

-- what is seen of a source and of a sink: the bytes that the source has left and those that the sink has taken, where they tell them, and how many faults each had so far
pub record Streams : Type 0 where
  pub left : Option (List ℕ)
  pub read_faults : ℕ
  pub taken : Option (List ℕ)
  pub write_faults : ℕ

abbrev pub streams : Option (List ℕ) → ℕ → Option (List ℕ) → ℕ → Streams
streams left read_faults taken write_faults = record { left = left; read_faults = read_faults; taken = taken; write_faults = write_faults }

-- no read failed, and no write did
abbrev pub ReadsWell : Streams → Streams → Type 0
ReadsWell before after = ¬ Rose before.read_faults after.read_faults

abbrev pub WritesWell : Streams → Streams → Type 0
WritesWell before after = ¬ Rose before.write_faults after.write_faults

-- A call with these words that began with such streams, and left them so, ended with this status.
pub record Ends (words : List (List ℕ)) (before after : Streams) (status : Status) : Type 0 where
  -- What was written is all of what is to be said of the words and the text: of a replay that is `Ok`, and of a run by threads, the lines of the answers that the heap that never frees gives to the script that the text spells, those of the cycles, each with its numbers, the one of the credit, and the one of what the globals reach at the end; and with `--check` the line `agrees`.
  pub said : (text : List ℕ) → before.left ≡ Some text → TellsInFull status → Said words text status before.taken after.taken
  -- Of a source that does not tell its bytes, the same is known for some text.
  pub explained : TellsInFull status → (text : List ℕ) × Said words text status before.taken after.taken
  pub read_to_end : (text : List ℕ) → before.left ≡ Some text → ReadsText words → status ≡ Ok → after.left ≡ Some []
  -- Each answer and its cause.
  pub bad_words : status ≡ BadWords → AreRefused words
  pub bad_words_exactly : AreRefused words → WritesWell before after → (status ≡ BadWords) ⊎ (status ≡ NoMemory)
  pub bad_script_exactly : (text : List ℕ) (line : ℕ) (why : Why) → before.left ≡ Some text → ReadsScript words → Refused text line why → ReadsWell before after → WritesWell before after
      → (status ≡ BadScript) ⊎ (status ≡ NoMemory)
  pub complete : (text : List ℕ) (plan : Plan) (budget : ℕ) (check : Bool) (p : Program) → before.left ≡ Some text → IsReplay words plan budget check → Spells text p → ReadsWell before after → WritesWell before after
      → (status ≡ Ok) ⊎ (status ≡ OutOfTurns) ⊎ (status ≡ NoMemory)
  -- A replay that ends within the budget is told, and one that does not is out of turns.
  pub ok_exactly : (text : List ℕ) (plan : Plan) (budget : ℕ) (check : Bool) (p : Program) (outcome : Outcome) → before.left ≡ Some text → IsReplay words plan budget check → Spells text p → IsReplayed p plan budget outcome
      → status ≡ OutOfTurns → ⊥
  pub out_of_turns_exactly : (text : List ℕ) (plan : Plan) (budget : ℕ) (check : Bool) (p : Program) → before.left ≡ Some text → IsReplay words plan budget check → Spells text p → IsUnfinished p plan budget
      → status ≡ Ok → ⊥
  -- A dump of which no line has a cause is told, and one with a line that has one is refused for the first.
  pub verify_complete : (text : List ℕ) (n : ℕ) → before.left ≡ Some text → IsVerify words → Accepts text n → ReadsWell before after → WritesWell before after → (status ≡ Ok) ⊎ (status ≡ NoMemory)
  pub bad_dump_exactly : (text : List ℕ) (line : ℕ) (why : DumpWhy) → before.left ≡ Some text → IsVerify words → Faults text line why → ReadsWell before after → WritesWell before after
      → (status ≡ BadDump) ⊎ (status ≡ NoMemory)
  -- A dump that is told lists exactly the objects that its globals reach by its fields, each once, and `reachable n` says how many.
  pub verified : (text : List ℕ) → before.left ≡ Some text → IsVerify words → status ≡ Ok → (n : ℕ) × CertifiesReach (items_of text) n × Appends before.taken after.taken (reachable_line n)
  -- A script that is wished for is written.
  pub generated : (seed size : ℕ) → IsGen words seed size → WritesWell before after → (status ≡ Ok) ⊎ (status ≡ NoMemory)
  pub read_fault : status ≡ ReadFault → ¬ AreRefused words × Rose before.read_faults after.read_faults × (after.taken ≡ before.taken)
  pub write_fault : status ≡ WriteFault → Rose before.write_faults after.write_faults
  -- No fault is silent: a call in which a read failed ends with ReadFault, and one in which a write failed with WriteFault.
  pub read_fault_exactly : before.read_faults < after.read_faults → status ≡ ReadFault
  pub write_fault_exactly : before.write_faults < after.write_faults → status ≡ WriteFault
  -- A sink that failed took the beginning of what was to be said.
  pub write_part : (text : List ℕ) → before.left ≡ Some text → status ≡ WriteFault → SaidPart words text before.taken after.taken
  pub explained_part : status ≡ WriteFault → (text : List ℕ) × SaidPart words text before.taken after.taken
  pub no_memory : status ≡ NoMemory → after.taken ≡ before.taken
  -- No thread is wanted but by the words that ask for threads.
  pub no_thread : status ≡ NoThread → IsForThreads words × (after.taken ≡ before.taken)
  pub source_never_falls : before.read_faults ≤ after.read_faults
  pub sink_never_falls : before.write_faults ≤ after.write_faults

-- the status of the process
abbrev pub code_of : Status → ℕ
code_of Ok = 0
code_of BadWords = 2
code_of BadScript = 3
code_of ReadFault = 4
code_of WriteFault = 5
code_of NoMemory = 6
code_of NoThread = 7
code_of OutOfTurns = 8
code_of BadDump = 9
