use Rattle.std.proofs.Common.{◌≡◌, ◌++◌, map}
use Rattle.gh_script.proofs.Vocabulary.{state_behind, statement_words, statements_drawn, text_of}
use Rattle.gh_script.proofs.generated.put_statements.Given as goal

-- the lines of the words so far stand behind the text as it was
abbrev pub invariant-loop : goal.invariant-loop
invariant-loop l = record {
  text : l.text.items ≡ l.fn.text.items ++ text_of (map statement_words (statements_drawn l.fn.draws l.g l.counter));
  draws : l.draws ≡ state_behind l.fn.draws l.counter;
}
