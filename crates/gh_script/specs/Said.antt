-- The code's words of a line as a sentence.
use Rattle.gh_script.specs.declared.line.Sentence as code
use Rattle.gh_script.specs.Text.{Sentence}

abbrev pub said : code.Sentence → Sentence
said s = record { first = s.first.now; second = s.second.now; third = s.third.now; fourth = s.fourth.now; count = s.count }
