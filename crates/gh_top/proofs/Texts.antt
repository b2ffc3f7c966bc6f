-- From a text to the script that it spells, or to what is verified of it.
use Rattle.std.proofs.Common.{◌≡◌, ℕ, ◌+◌, ◌<◌, ◌≤◌, List, [], length, take, Option, Some, Result, arith, IsOk}
use Rattle.gh_top.proofs.Vocabulary.{Accepts, BadDump, Consumes, Found, HaveOneVerdict, IsAtEnd, IsOfAll, IsScriptOf, MatchesLine, MOST_BYTES, MOST_DUMP_BYTES, NoMemory, OutOfTurns, Program, Ran, ReadFault, reading_of, Spells, Verified, Verify}
use Rattle.gh_dump.specs.Verdict.{most_bytes as most_dump_bytes}
use Rattle.gh_script.specs.Limits.{most_bytes}

-- A text that was read as far as a script may go is the whole text, or too long for a script: what it spells is spelled by any text that is read the same.
pub script-same : (a b : List ℕ) (r : Result Program Found) → reading_of a ≡ reading_of b → IsScriptOf a r → IsScriptOf b r
script-same a b r e h = grind arith

-- a source that told its bytes tells that none are left
pub end-told : (before after : Option (List ℕ)) (text bytes : List ℕ) → before ≡ Some text → Consumes before after bytes → IsAtEnd after → after ≡ Some []
end-told before after text bytes told consumed end = grind arith

-- a text that spells a script ends before the limit
pub spelled-short : (short : (text : List ℕ) (p : Program) → Spells text p → length text ≤ most_bytes) (bytes : List ℕ) (r : Result Program Found) → IsScriptOf bytes r → IsOk r → length bytes < MOST_BYTES + 1
spelled-short short bytes r h ok = grind arith

-- what is verified of a text that was read as far as a dump may go is so of the whole
pub dump-same : (cut : (text : List ℕ) → HaveOneVerdict (take (most_dump_bytes + 1) text) text) (text : List ℕ) (f : Found) → MatchesLine Verify (take (MOST_DUMP_BYTES + 1) text) f → MatchesLine Verify text f
dump-same cut text (Verified n) m = (cut text).accepted n m
dump-same cut text (BadDump fault) m = (cut text).refused fault.line fault.why m
dump-same cut text ReadFault m = tt
dump-same cut text NoMemory m = tt
dump-same cut text _ m = absurd m

-- a dump that is told ends before the limit
pub verified-short : (short : (text : List ℕ) (n : ℕ) → Accepts text n → length text ≤ most_dump_bytes) (bytes : List ℕ) (f : Found) → MatchesLine Verify bytes f → IsOfAll f → length bytes < MOST_DUMP_BYTES + 1
verified-short short bytes (Verified n) m all = omega (arith, short bytes n m)
verified-short short bytes (Ran p report) m all = absurd m
verified-short short bytes (OutOfTurns n) m all = absurd m
verified-short short bytes _ m all = absurd all
