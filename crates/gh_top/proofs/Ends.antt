-- How a call ends, by what it found.
use Rattle.std.proofs.Common.{◌≡◌, ℕ, Bool, false, ◌⊎◌, ◌++◌, ◌*◌, ◌/◌, List, Some, refl, sym, ap, ap₂, subst, ◌∙◌, arith}
use Rattle.std.proofs.lemmas.List.{append-nil}
use Rattle.gh_top.proofs.Vocabulary.{Accepts, Appends, AreRefused, BadDump, BadScript, BadWords, CertifiesReach, ComesTo, command_line, concat, DumpWhy, Ends, Faults, Found, FoundIsWritten, Gen, Generated, IsCutOff, IsForThreads, IsFound, IsOfAll, IsReplayed, IsSilent, IsUnfinished, IsVerify, items_of, Line, live_line, Matches, MatchesLine, NoMemory, NotBoth, NoThread, Outcome, outcome_lines, OutOfTurns, Program, Ran, reachable_line, ReadFault, ReadsScript, ReadsText, Refused, Replay, replay_text, Run, said_of, Says, Soak, Soaked, Spells, statements_line, Status, status_of, Streams, TellsInFull, Text, Verified, Verify}
use Rattle.gh_replay.specs.Plan.{Plan}
use Rattle.gh_script.specs.declared.fault.Why.{Why}

-- ---- what was found may be said

unchecked : (p : Program) (outcome : Outcome) → replay_text p outcome false ≡ concat (outcome_lines p outcome)
unchecked p outcome = ap concat (append-nil (outcome_lines p outcome))

comes : (line : Line) (text : List ℕ) (f : Found) → MatchesLine line text f → TellsInFull (status_of f) → ComesTo line text (status_of f) (said_of f)
comes (Replay plan budget check) text (BadScript fault) m tells = (fault.line, fault.why, m, refl)
comes (Replay plan budget check) text (Ran p report) m tells = (p, m.0, report.outcome, m.1, ap (replay_text p report.outcome) m.2)
comes (Replay plan budget check) text (OutOfTurns n) m tells = (m.1, m.2, m.3, rw m.0 refl)
comes (Replay plan budget check) text ReadFault m tells = absurd tells
comes (Replay plan budget check) text NoMemory m tells = absurd tells
comes (Replay plan budget check) text _ m tells = absurd m
comes Run text (BadScript fault) m tells = (fault.line, fault.why, m, refl)
comes Run text (Ran p report) m tells = (p, m.0, report.outcome, m.1, ap (replay_text p report.outcome) m.2 ∙ unchecked p report.outcome)
comes Run text ReadFault m tells = absurd tells
comes Run text NoThread m tells = absurd tells
comes Run text NoMemory m tells = absurd tells
comes Run text _ m tells = absurd m
comes (Gen seed size) text (Generated script) m tells = m
comes (Gen seed size) text NoMemory m tells = absurd tells
comes (Gen seed size) text _ m tells = absurd m
comes (Soak seed size) text (Soaked n objects bytes) m tells =
    (m.1, m.2, m.3, ap (λ (k : ℕ). statements_line k ++ live_line objects bytes) m.0 ∙ ap₂ (λ (o b : ℕ). statements_line (4 * (size / 4)) ++ live_line o b) m.4 m.5)
comes (Soak seed size) text NoThread m tells = absurd tells
comes (Soak seed size) text NoMemory m tells = absurd tells
comes (Soak seed size) text _ m tells = absurd m
comes Verify text (Verified n) m tells = (n, m, refl)
comes Verify text (BadDump fault) m tells = (fault.line, fault.why, m, refl)
comes Verify text ReadFault m tells = absurd tells
comes Verify text NoMemory m tells = absurd tells
comes Verify text _ m tells = absurd m

pub says : (words : List Text) (text : List ℕ) (f : Found) → Matches words text f → TellsInFull (status_of f) → Says words text (status_of f) (said_of f)
says words text f m tells = grind (arith, comes)

-- what is not silent tells
telling : (f : Found) → (IsSilent f → ⊥) → TellsInFull (status_of f)
telling f loud = grind arith

-- ---- what was found is of the line

no_memory : (line : Line) (text : List ℕ) → MatchesLine line text NoMemory
no_memory line text = grind arith

pub same_line : (words : List Text) (a b : Line) → command_line words ≡ Some a → command_line words ≡ Some b → a ≡ b
same_line words a b v w = let e : Some a ≡ Some b = sym v ∙ w in cc

taken-not-refused : (words : List Text) (line : Line) → command_line words ≡ Some line → AreRefused words → ⊥
taken-not-refused words line w r = absurd (let e = sym w ∙ r in cc)

-- what is found for words that are taken so
pub for_line : (words : List Text) (text : List ℕ) (line : Line) (f : Found) → command_line words ≡ Some line → Matches words text f → MatchesLine line text f
for_line words text line BadWords is m = absurd (taken-not-refused words line is m)
for_line words text line NoMemory is m = no_memory line text
for_line words text line f is m = subst (λ (l : Line). MatchesLine l text f) (same_line words m.0 line m.1 is) m.2

-- and for a line is found for the words
pub for_words : (words : List Text) (text : List ℕ) (line : Line) (f : Found) → command_line words ≡ Some line → MatchesLine line text f → Matches words text f
for_words words text line f is m = grind arith

-- ---- a text that spells a script, and one that spells none

module _ (not_both : (text : List ℕ) (p : Program) (line : ℕ) (why : Why) → Spells text p → Refused text line why → ⊥) where
  replayed-ends : (text : List ℕ) (plan : Plan) (budget : ℕ) (check : Bool) (p : Program) (f : Found) → MatchesLine (Replay plan budget check) text f → (f ≡ ReadFault → ⊥) → Spells text p
      → (status_of f ≡ Status.Ok) ⊎ (status_of f ≡ Status.OutOfTurns) ⊎ (status_of f ≡ Status.NoMemory)
  replayed-ends text plan budget check p f m read spelled = grind arith

  abbrev IsRefusedSo : Found → Type 0
  IsRefusedSo f = (status_of f ≡ Status.BadScript) ⊎ (status_of f ≡ Status.NoMemory)

  -- a text that is refused, for words that read it
  refused-ends : (words : List Text) (text : List ℕ) (line : ℕ) (why : Why) (f : Found) → Matches words text f → ReadsScript words → (f ≡ ReadFault → ⊥) → Refused text line why → IsRefusedSo f
  refused-ends words text line why f m h read refused = grind arith

module _ (one_script : (text : List ℕ) (p q : Program) → Spells text p → Spells text q → p ≡ q) (never : NotBoth) where
  -- a run that ends within the budget is not out of turns
  replayed-tells : (text : List ℕ) (plan : Plan) (budget : ℕ) (check : Bool) (p : Program) (outcome : Outcome) (f : Found) → MatchesLine (Replay plan budget check) text f → Spells text p → IsReplayed p plan budget outcome → status_of f ≡ Status.OutOfTurns → ⊥
  replayed-tells text plan budget check p outcome (OutOfTurns n) m spelled r e =
      never p plan budget outcome r (subst (λ (q : Program). IsUnfinished q plan budget) (one_script text m.1 p m.2 spelled) m.3)
  replayed-tells text plan budget check p outcome BadWords m spelled r e = absurd m
  replayed-tells text plan budget check p outcome (BadScript fault) m spelled r e = absurd cc
  replayed-tells text plan budget check p outcome (Ran q report) m spelled r e = absurd cc
  replayed-tells text plan budget check p outcome (Generated script) m spelled r e = absurd m
  replayed-tells text plan budget check p outcome (Soaked n objects bytes) m spelled r e = absurd m
  replayed-tells text plan budget check p outcome (Verified n) m spelled r e = absurd m
  replayed-tells text plan budget check p outcome (BadDump fault) m spelled r e = absurd m
  replayed-tells text plan budget check p outcome ReadFault m spelled r e = absurd cc
  replayed-tells text plan budget check p outcome NoThread m spelled r e = absurd m
  replayed-tells text plan budget check p outcome NoMemory m spelled r e = absurd cc

  -- and one that does not is not told
  unfinished-tells : (text : List ℕ) (plan : Plan) (budget : ℕ) (check : Bool) (p : Program) (f : Found) → MatchesLine (Replay plan budget check) text f → Spells text p → IsUnfinished p plan budget → status_of f ≡ Status.Ok → ⊥
  unfinished-tells text plan budget check p (Ran q report) m spelled u e =
      never p plan budget report.outcome (subst (λ (x : Program). IsReplayed x plan budget report.outcome) (one_script text q p m.0 spelled) m.1) u
  unfinished-tells text plan budget check p BadWords m spelled u e = absurd m
  unfinished-tells text plan budget check p (BadScript fault) m spelled u e = absurd cc
  unfinished-tells text plan budget check p (OutOfTurns n) m spelled u e = absurd cc
  unfinished-tells text plan budget check p (Generated script) m spelled u e = absurd m
  unfinished-tells text plan budget check p (Soaked n objects bytes) m spelled u e = absurd m
  unfinished-tells text plan budget check p (Verified n) m spelled u e = absurd m
  unfinished-tells text plan budget check p (BadDump fault) m spelled u e = absurd m
  unfinished-tells text plan budget check p ReadFault m spelled u e = absurd cc
  unfinished-tells text plan budget check p NoThread m spelled u e = absurd m
  unfinished-tells text plan budget check p NoMemory m spelled u e = absurd cc

-- ---- a dump

module _ (dump_not_both : (text : List ℕ) (n line : ℕ) (why : DumpWhy) → Accepts text n → Faults text line why → ⊥) where
  -- a dump of which no line has a cause is told
  accepted-ends : (text : List ℕ) (n : ℕ) (f : Found) → MatchesLine Verify text f → (f ≡ ReadFault → ⊥) → Accepts text n → (status_of f ≡ Status.Ok) ⊎ (status_of f ≡ Status.NoMemory)
  accepted-ends text n f m read accepted = grind arith

  -- and one with a line that has one is not
  faulted-ends : (text : List ℕ) (line : ℕ) (why : DumpWhy) (f : Found) → MatchesLine Verify text f → (f ≡ ReadFault → ⊥) → Faults text line why → (status_of f ≡ Status.BadDump) ⊎ (status_of f ≡ Status.NoMemory)
  faulted-ends text line why f m read faulted = grind arith

-- what is told of a dump
counted : (text : List ℕ) (f : Found) → MatchesLine Verify text f → status_of f ≡ Status.Ok → (n : ℕ) × Accepts text n × (said_of f ≡ reachable_line n)
counted text (Verified n) m e = (n, m, refl)
counted text BadWords m e = absurd m
counted text (BadScript fault) m e = absurd m
counted text (Ran p report) m e = absurd m
counted text (OutOfTurns n) m e = absurd m
counted text (Generated script) m e = absurd m
counted text (Soaked n objects bytes) m e = absurd m
counted text (BadDump fault) m e = absurd cc
counted text ReadFault m e = absurd cc
counted text NoThread m e = absurd m
counted text NoMemory m e = absurd cc

-- ---- words that read no script

generated-ends : (text : List ℕ) (seed size : ℕ) (f : Found) → MatchesLine (Gen seed size) text f → (status_of f ≡ Status.Ok) ⊎ (status_of f ≡ Status.NoMemory)
generated-ends text seed size f m = grind arith

refused-words : (words : List Text) (text : List ℕ) (f : Found) → Matches words text f → AreRefused words → (status_of f ≡ Status.BadWords) ⊎ (status_of f ≡ Status.NoMemory)
refused-words words text f m refused = grind arith

-- what is told of words that read a text is of all of it
run-if : (words : List Text) (text : List ℕ) (f : Found) → Matches words text f → ReadsText words → status_of f ≡ Status.Ok → IsOfAll f
run-if words text f m reads e = grind arith

-- ---- what a status says of what was found

abbrev IsOf : (Found → Type 0) → Status → Found → Type 0
IsOf P s f = status_of f ≡ s → P f

refused-if : (words : List Text) (text : List ℕ) (f : Found) → Matches words text f → IsOf (λ g. AreRefused words) Status.BadWords f
refused-if words text BadWords m e = m
refused-if words text (BadScript fault) m e = absurd cc
refused-if words text (Ran p report) m e = absurd cc
refused-if words text (OutOfTurns n) m e = absurd cc
refused-if words text (Generated script) m e = absurd cc
refused-if words text (Soaked n objects bytes) m e = absurd cc
refused-if words text (Verified n) m e = absurd cc
refused-if words text (BadDump fault) m e = absurd cc
refused-if words text ReadFault m e = absurd cc
refused-if words text NoThread m e = absurd cc
refused-if words text NoMemory m e = absurd cc

read-if : (f : Found) → IsOf (λ g. g ≡ ReadFault) Status.ReadFault f
read-if ReadFault e = refl
read-if BadWords e = absurd cc
read-if (BadScript fault) e = absurd cc
read-if (Ran p report) e = absurd cc
read-if (OutOfTurns n) e = absurd cc
read-if (Generated script) e = absurd cc
read-if (Soaked n objects bytes) e = absurd cc
read-if (Verified n) e = absurd cc
read-if (BadDump fault) e = absurd cc
read-if NoThread e = absurd cc
read-if NoMemory e = absurd cc

pub thread-if : (f : Found) → IsOf (λ g. g ≡ NoThread) Status.NoThread f
thread-if NoThread e = refl
thread-if BadWords e = absurd cc
thread-if (BadScript fault) e = absurd cc
thread-if (Ran p report) e = absurd cc
thread-if (OutOfTurns n) e = absurd cc
thread-if (Generated script) e = absurd cc
thread-if (Soaked n objects bytes) e = absurd cc
thread-if (Verified n) e = absurd cc
thread-if (BadDump fault) e = absurd cc
thread-if ReadFault e = absurd cc
thread-if NoMemory e = absurd cc

thread-words : (words : List Text) (text : List ℕ) → Matches words text NoThread → IsForThreads words
thread-words words text m = grind arith

silent-memory : (f : Found) → IsOf IsSilent Status.NoMemory f
silent-memory NoMemory e = tt
silent-memory BadWords e = absurd cc
silent-memory (BadScript fault) e = absurd cc
silent-memory (Ran p report) e = absurd cc
silent-memory (OutOfTurns n) e = absurd cc
silent-memory (Generated script) e = absurd cc
silent-memory (Soaked n objects bytes) e = absurd cc
silent-memory (Verified n) e = absurd cc
silent-memory (BadDump fault) e = absurd cc
silent-memory ReadFault e = tt
silent-memory NoThread e = tt

never-write : (f : Found) → status_of f ≡ Status.WriteFault → ⊥
never-write f e = grind arith

-- ---- all of it

abbrev pub NeverBoth : Type 0
NeverBoth = (text : List ℕ) (p : Program) (line : ℕ) (why : Why) → Spells text p → Refused text line why → ⊥

abbrev pub OneScript : Type 0
OneScript = (text : List ℕ) (p q : Program) → Spells text p → Spells text q → p ≡ q

abbrev pub NoDumpIsBoth : Type 0
NoDumpIsBoth = (text : List ℕ) (n line : ℕ) (why : DumpWhy) → Accepts text n → Faults text line why → ⊥

abbrev pub DumpsCertify : Type 0
DumpsCertify = (text : List ℕ) (n : ℕ) → Accepts text n → CertifiesReach (items_of text) n

module _ (not_both : NeverBoth) (one_script : OneScript) (never : NotBoth) (dump_not_both : NoDumpIsBoth) (certify : DumpsCertify) (words : List Text) (before after : Streams) (f : Found) (status : Status)
    (found : IsFound (Matches words) before.left after.left before.read_faults after.read_faults f) where
  pub told-ends : FoundIsWritten f before.taken after.taken before.write_faults after.write_faults status → Ends words before after status
  told-ends t = subst (Ends words before after) (sym t.so) (record {
    said = λ text left tells. (said_of f, says words text f (found.told text left) tells, t.whole);
    explained = λ tells. (found.explained.0, (said_of f, says words found.explained.0 f found.explained.1 tells, t.whole));
    read_to_end = λ text left reads ok. found.read text left (run-if words text f (found.told text left) reads ok);
    bad_words = refused-if words found.explained.0 f found.explained.1;
    bad_words_exactly = λ refused wrote. refused-words words found.explained.0 f found.explained.1 refused;
    bad_script_exactly = λ text line why left reads refused read wrote. refused-ends not_both words text line why f (found.told text left) reads (λ e. read (found.fault e)) refused;
    complete = λ text plan budget check p left replay spelled read wrote.
        replayed-ends not_both text plan budget check p f (for_line words text (Replay plan budget check) f replay (found.told text left)) (λ e. read (found.fault e)) spelled;
    ok_exactly = λ text plan budget check p outcome left replay spelled replayed.
        replayed-tells one_script never text plan budget check p outcome f (for_line words text (Replay plan budget check) f replay (found.told text left)) spelled replayed;
    out_of_turns_exactly = λ text plan budget check p left replay spelled unfinished.
        unfinished-tells one_script never text plan budget check p f (for_line words text (Replay plan budget check) f replay (found.told text left)) spelled unfinished;
    verify_complete = λ text n left is accepted read wrote. accepted-ends dump_not_both text n f (for_line words text Verify f is (found.told text left)) (λ e. read (found.fault e)) accepted;
    bad_dump_exactly = λ text line why left is faulted read wrote. faulted-ends dump_not_both text line why f (for_line words text Verify f is (found.told text left)) (λ e. read (found.fault e)) faulted;
    verified = λ text left is ok.
        let its = counted text f (for_line words text Verify f is (found.told text left)) ok in
        (its.0, certify text its.0 its.1, subst (λ (said : List ℕ). Appends before.taken after.taken said) its.2 t.whole);
    generated = λ seed size gen wrote. generated-ends found.explained.0 seed size f (for_line words found.explained.0 (Gen seed size) f gen found.explained.1);
    read_fault = λ e.
        let is = read-if f e in
        let m = subst (Matches words found.explained.0) is found.explained.1 in
        (taken-not-refused words m.0 m.1, found.fault is, t.silent (subst IsSilent (sym is) tt));
    write_fault = λ e. absurd (never-write f e);
    read_fault_exactly = λ rose. ap status_of (found.fault_exactly rose);
    write_fault_exactly = λ rose. absurd (omega (arith, rose, t.no_fault));
    write_part = λ text left e. absurd (never-write f e);
    explained_part = λ e. absurd (never-write f e);
    no_memory = λ e. t.silent (silent-memory f e);
    no_thread = λ e.
        let is = thread-if f e in
        (thread-words words found.explained.0 (subst (Matches words found.explained.0) is found.explained.1), t.silent (subst IsSilent (sym is) tt));
    source_never_falls = found.never_falls;
    sink_never_falls = omega (arith, t.no_fault);
  })

  pub cut-ends : IsCutOff f before.taken after.taken before.write_faults after.write_faults status → Ends words before after status
  cut-ends t = subst (Ends words before after) (sym t.so) (record {
    said = λ text left tells. absurd tells;
    explained = λ tells. absurd tells;
    read_to_end = λ text left reads e. absurd cc;
    bad_words = λ e. absurd cc;
    bad_words_exactly = λ refused wrote. absurd (wrote t.failed);
    bad_script_exactly = λ text line why left reads refused read wrote. absurd (wrote t.failed);
    complete = λ text plan budget check p left replay spelled read wrote. absurd (wrote t.failed);
    ok_exactly = λ text plan budget check p outcome left replay spelled replayed e. absurd cc;
    out_of_turns_exactly = λ text plan budget check p left replay spelled unfinished e. absurd cc;
    verify_complete = λ text n left is accepted read wrote. absurd (wrote t.failed);
    bad_dump_exactly = λ text line why left is faulted read wrote. absurd (wrote t.failed);
    verified = λ text left is e. absurd cc;
    generated = λ seed size gen wrote. absurd (wrote t.failed);
    read_fault = λ e. absurd cc;
    write_fault = λ e. t.failed;
    read_fault_exactly = λ rose. absurd (t.loud (subst IsSilent (sym (found.fault_exactly rose)) tt));
    write_fault_exactly = λ rose. refl;
    write_part = λ text left e. (status_of f, said_of f, says words text f (found.told text left) (telling f t.loud), t.part);
    explained_part = λ e. (found.explained.0, (status_of f, said_of f, says words found.explained.0 f found.explained.1 (telling f t.loud), t.part));
    no_memory = λ e. absurd cc;
    no_thread = λ e. absurd cc;
    source_never_falls = found.never_falls;
    sink_never_falls = t.never_falls;
  })
