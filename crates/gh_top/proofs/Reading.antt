-- What is found for a line, without a look at the source, is found for the words that ask for it.
use Rattle.std.proofs.Common.{◌≡◌, ℕ, List, [], Option, Some, arith}
use Rattle.gh_top.proofs.Vocabulary.{command_line, Found, Gen, IsFound, IsOfAll, IsTellable, Line, Matches, MatchesLine, OutOfTurns, Ran, ReadFault, Soak, Text, Verified}
use Rattle.gh_top.proofs.Ends.{for_words}

-- what is found without a look at the source
pub unread : (matches : List ℕ → Found → Type 0) (left : Option (List ℕ)) (faults : ℕ) (f : Found) → ((text : List ℕ) → matches text f) → (f ≡ ReadFault → ⊥) → (IsOfAll f → ⊥) → IsTellable f → IsFound matches left left faults faults f
unread matches left faults f found read ran tellable = record {
  told = λ text is. found text;
  explained = ([], found []);
  read = λ text is was. absurd (ran was);
  fault = λ e. absurd (read e);
  fault_exactly = λ rose. absurd (omega (arith, rose));
  never_falls = omega arith;
  tellable = tellable;
}

-- what is found for a line is found for the words that ask for it
pub for_all_words : (words : List Text) (line : Line) (left left_now : Option (List ℕ)) (faults faults_now : ℕ) (f : Found) → command_line words ≡ Some line → IsFound (MatchesLine line) left left_now faults faults_now f → IsFound (Matches words) left left_now faults faults_now f
for_all_words words line left left_now faults faults_now f is found = record {
  told = λ text told. for_words words text line f is (found.told text told);
  explained = (found.explained.0, for_words words found.explained.0 line f is found.explained.1);
  read = found.read;
  fault = found.fault;
  fault_exactly = found.fault_exactly;
  never_falls = found.never_falls;
  tellable = found.tellable;
}

-- a script that is generated is not read
pub gen-not-run : (seed size : ℕ) (f : Found) → ((text : List ℕ) → MatchesLine (Gen seed size) text f) → IsOfAll f → ⊥
gen-not-run seed size (Ran p report) m r = m []
gen-not-run seed size (OutOfTurns n) m r = m []
gen-not-run seed size (Verified n) m r = m []
gen-not-run seed size _ m r = r

pub soak-not-run : (seed size : ℕ) (f : Found) → ((text : List ℕ) → MatchesLine (Soak seed size) text f) → IsOfAll f → ⊥
soak-not-run seed size (Ran p report) m r = m []
soak-not-run seed size (OutOfTurns n) m r = m []
soak-not-run seed size (Verified n) m r = m []
soak-not-run seed size _ m r = r
