use Rattle.std.proofs.Common.{◌≡◌, ◌+◌, ◌≤◌, ◌++◌, length, option_map}
use Rattle.gh_replay.proofs.Vocabulary.{is_comma, MOST_ITEMS, slice_split, turns_read}
use Rattle.gh_replay.proofs.list.parse_list.Given as goal

abbrev pub invariant-pieces : goal.invariant-pieces
invariant-pieces l = record {
  few : length l.turns.items ≤ MOST_ITEMS;
  count : length l.turns.items + length (slice_split is_comma l.rest) ≡ length (slice_split is_comma l.text);
  all : option_map (λ ts. l.turns.items ++ ts) (turns_read (slice_split is_comma l.rest)) ≡ turns_read (slice_split is_comma l.text);
}

abbrev pub decreases-pieces : goal.decreases-pieces
decreases-pieces l = length l.rest
