-- A text is cut into pieces from the front on, and each spells an item.
use Rattle.std.proofs.Common.{◌≡◌, ℕ, ◌+◌, ◌<◌, ◌≤◌, Bool, true, false, cond, List, [], ◌∷◌, ◌++◌, length, get_or, take, drop, Option, Some, None, refl, sym, ap, ◌∙◌, append_assoc, suc, arith, nat_le, option_map, slice_get}
use Rattle.std.proofs.lemmas.List.{append-nil, take_all}
use Rattle.std.proofs.lemmas.List.Splits.{slice_split_first, slice_split_none, length-slice_split}
use Rattle.gh_replay.proofs.Vocabulary.{fails_before_first, is_comma, is_sign, list_of, MOST_ITEMS, nat_tests, position_or_len, position_or_len_is, ranged, slice_get-get_or, slice_get_past, slice_split, Turn, turn_at, turn_read, turn_with, turns_read, Until, until_of}

-- a loop that ends without having met the test
pub met_nowhere : (test : ℕ → Bool) (xs : List ℕ) (n : ℕ) → length xs ≤ n → ((k : ℕ) → k < n → test (get_or xs k 0) ≡ false) → length xs ≡ position_or_len test xs
met_nowhere test xs n long fails = sym (position_or_len_is test xs (length xs) 0 (omega arith) (λ k h. fails k (omega arith)) (λ h. absurd (omega arith)))

-- ---- an item

pub no_until : (a : Option ℕ) → turn_with a None ≡ None
no_until a = grind arith

pub unsigned : (piece : List ℕ) (i : ℕ) → i ≡ position_or_len is_sign piece → length piece ≤ i → None ≡ turn_read piece
unfolding turn_read
unsigned piece i e le = sym (ap (turn_at piece) (sym e) ∙ ap (λ (o : Option ℕ). turn_with (ranged 0 255 (take i piece)) (until_of o (drop (i + 1) piece))) (slice_get_past piece i le) ∙ no_until (ranged 0 255 (take i piece)))

pub signed : (piece rest : List ℕ) (i : ℕ) (a : Option ℕ) (u : Option Until) → i ≡ position_or_len is_sign piece → i < length piece → a ≡ ranged 0 255 (take i piece) → rest ≡ drop (i + 1) piece → u ≡ until_of (Some (get_or piece i 0)) rest → turn_with a u ≡ turn_read piece
unfolding turn_read
signed piece rest i a u e lt first behind last =
    let there : slice_get piece i ≡ Some (get_or piece i 0) = slice_get-get_or piece i 0 lt in
    rw (first, last, behind) (ap (λ (o : Option ℕ). turn_with (ranged 0 255 (take i piece)) (until_of o (drop (i + 1) piece))) (sym there) ∙ ap (turn_at piece) e)

-- ---- the pieces

pub split_more : (rest : List ℕ) (end : ℕ) → end ≡ position_or_len is_comma rest → end < length rest → slice_split is_comma rest ≡ take end rest ∷ slice_split is_comma (drop (end + 1) rest)
split_more rest end e lt = slice_split_first is_comma rest 0 (omega arith) ∙ rw (sym e) refl

pub split_last : (rest : List ℕ) (end : ℕ) → end ≡ position_or_len is_comma rest → length rest ≤ end → slice_split is_comma rest ≡ take end rest ∷ []
split_last rest end e le = slice_split_none is_comma rest (λ k d lt. fails_before_first is_comma rest k d (omega (arith, lt, e, le))) ∙ ap (λ (xs : List ℕ). xs ∷ []) (sym (take_all end rest le))

some_pieces : (text : List ℕ) → 0 < length (slice_split is_comma text)
some_pieces text = omega (arith, length-slice_split is_comma text)

-- ---- the items so far

-- the items so far, and those that pieces spell
abbrev pub with : List Turn → List (List ℕ) → Option (List Turn)
with turns pieces = option_map (λ ts. turns ++ ts) (turns_read pieces)

pub with_more : (turns : List Turn) (t : Turn) (piece : List ℕ) (pieces : List (List ℕ)) → turn_read piece ≡ Some t → with turns (piece ∷ pieces) ≡ with (turns ++ t ∷ []) pieces
unfolding turns_read
with_more turns t piece pieces e = rw e (go (turns_read pieces)) where
  go : (o : Option (List Turn)) → option_map (λ ts. turns ++ ts) (option_map (λ ts. t ∷ ts) o) ≡ option_map (λ ts. (turns ++ t ∷ []) ++ ts) o
  go None = refl
  go (Some ts) = ap Some (sym (append_assoc turns (t ∷ []) ts))

with_none : (turns : List Turn) (piece : List ℕ) (pieces : List (List ℕ)) → turn_read piece ≡ None → with turns (piece ∷ pieces) ≡ None
unfolding turns_read
with_none turns piece pieces e = rw e refl

none_listed : (text : List ℕ) → turns_read (slice_split is_comma text) ≡ None → None ≡ list_of text
unfolding list_of
none_listed text e = rw e (go (nat_le (length (slice_split is_comma text)) MOST_ITEMS)) where
  go : (b : Bool) → ◌≡◌ {A = Option (List Turn)} None (cond b None None)
  go true = refl
  go false = refl

module _ (text rest : List ℕ) (turns : List Turn) (end : ℕ) (here : with turns (slice_split is_comma rest) ≡ turns_read (slice_split is_comma text)) (is : end ≡ position_or_len is_comma rest) where
  pub stops : turn_read (take end rest) ≡ None → None ≡ list_of text
  stops e = grind (arith, none_listed, split_last, split_more, with_none)

  pub goes_on : (t : Turn) → turn_read (take end rest) ≡ Some t → end < length rest → with (turns ++ t ∷ []) (slice_split is_comma (drop (end + 1) rest)) ≡ turns_read (slice_split is_comma text)
  goes_on t e lt = grind (arith, split_more, with_more)

  pub ends : (t : Turn) → turn_read (take end rest) ≡ Some t → length rest ≤ end → length turns < MOST_ITEMS → length turns + length (slice_split is_comma rest) ≡ length (slice_split is_comma text) → Some (turns ++ t ∷ []) ≡ list_of text
  unfolding list_of turns_read
  ends t e le few count =
      let one : length (slice_split is_comma rest) ≡ 1 = ap length (split_last rest end is le) in
      let fits : nat_le (length (slice_split is_comma text)) MOST_ITEMS ≡ true = grind (arith, nat_tests) in
      rw fits (sym (sym here ∙ ap (with turns) (split_last rest end is le) ∙ with_more turns t (take end rest) [] e ∙ alone)) where
        alone : with (turns ++ t ∷ []) [] ≡ Some (turns ++ t ∷ [])
        alone = ap Some (append-nil (turns ++ t ∷ []))

-- a text of more items is no list
pub too_many : (text rest : List ℕ) (n : ℕ) → MOST_ITEMS ≤ n → n + length (slice_split is_comma rest) ≡ length (slice_split is_comma text) → None ≡ list_of text
unfolding list_of
too_many text rest n many count =
    let some = some_pieces rest in
    let past : nat_le (length (slice_split is_comma text)) MOST_ITEMS ≡ false = grind (arith, nat_tests) in
    rw past refl

pub fewer : (rest : List ℕ) (end n m : ℕ) → end ≡ position_or_len is_comma rest → end < length rest → n + length (slice_split is_comma rest) ≡ m → n + 1 + length (slice_split is_comma (drop (end + 1) rest)) ≡ m
fewer rest end n m is lt count = let one : length (slice_split is_comma rest) ≡ suc (length (slice_split is_comma (drop (end + 1) rest))) = ap length (split_more rest end is lt) in omega (arith, count, one)
