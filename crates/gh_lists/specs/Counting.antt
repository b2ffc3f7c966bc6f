-- How many cycles are opened, entry by entry: never fewer, and as often as the word of the request is stored.
use Rattle.std.proofs.Common.{◌≡◌, ℕ, ◌≤◌, refl, arith, List, [], ◌∷◌}
use Rattle.gh_lists.specs.Vocabulary.{Ask, Cell, Entry, Op}
use Rattle.gh_lists.specs.Counts.{stored_after, stored_in}
use Rattle.gh_lists.specs.LemmaVocabulary.{opened_after, opened_in}

pub rises : (ask : Ask) (before : ℕ) → before ≤ opened_after ask before
rises ask before = grind arith

-- a cycle is opened by a store of the request
opened_stored : (ask : Ask) (before : ℕ) → stored_after Cell.Want ask before ≡ opened_after ask before
opened_stored ask before = grind arith

pub opened_in_stored : (es : List (Entry Op)) → stored_in Cell.Want es ≡ opened_in es
opened_in_stored [] = refl
opened_in_stored (e ∷ es) = let rest = opened_in_stored es in rw rest (opened_stored e.ask (opened_in es))
