-- Lines read one by one.
use Rattle.std.proofs.Common.{◌≡◌, ℕ, ◌+◌, ◌<◌, ◌≤◌, List, [], ◌∷◌, length, take, drop, map, Ok, Err, refl, sym, ap, ◌∙◌, arith, inl, inr}
use Rattle.std.proofs.lemmas.List.{take_all, length-drop}
use Rattle.gh_script.proofs.Vocabulary.{cases_lt, Continues, Draft, drop_all, go_on, is_feed, IsSound, lines_of, nil_from_length, ParseError, pieces, position_or_len, read_line, read_lines, ReadsAll, sentence_of, without_return, words_of}
use Rattle.gh_script.proofs.Pieces.{pieces_first, pieces_last}
use Rattle.gh_script.proofs.Sound.{IsSound-read_line}

-- some lines are read, and the others are still to be read
pub record Reading (first : Draft) (text : List ℕ) (draft : Draft) (n : ℕ) (rest : List ℕ) : Type 0 where
  pub same : read_lines draft n (lines_of rest) ≡ read_lines first 0 (lines_of text)
  pub count : n + length (lines_of rest) ≡ length (lines_of text)
  pub within : n + length rest ≤ length text
  pub sound : IsSound draft

lines_of-nil : lines_of [] ≡ []
unfolding lines_of pieces
lines_of-nil = refl

-- the first line and what follows it
pub lines_of-first : (rest : List ℕ) (end : ℕ) → 0 < length rest → end ≡ position_or_len is_feed rest → end ≤ length rest
    → lines_of rest ≡ without_return (take end rest) ∷ lines_of (drop (end + 1) rest)
unfolding lines_of
lines_of-first rest end some at within = elim (cases_lt end (length rest)) [
  | inl lt ↦
      let before : position_or_len is_feed rest < length rest = omega arith in
      let e = pieces_first is_feed rest before in
      let f : pieces is_feed rest ≡ take end rest ∷ pieces is_feed (drop (end + 1) rest) = rw (← at) at e in
      ap (map without_return) f
  | inr le ↦
      let e : pieces is_feed rest ≡ rest ∷ [] = pieces_last is_feed rest some (omega arith) in
      let t : take end rest ≡ rest = take_all end rest le in
      let none : map without_return (pieces is_feed (drop (end + 1) rest)) ≡ [] = ap lines_of (drop_all (end + 1) rest (omega arith)) ∙ lines_of-nil in
      ap (map without_return) e ∙ rw (t, none) refl
]

-- before the first line
pub Reading-start : (draft : Draft) (text : List ℕ) → IsSound draft → Reading draft text draft 0 text
Reading-start draft text sound = record { same = refl; count = omega arith; within = omega arith; sound = sound }

unfold_first : (draft : Draft) (n : ℕ) (line : List ℕ) (lines : List (List ℕ)) → read_lines draft n (line ∷ lines) ≡ go_on (λ next. read_lines next (n + 1) lines) (n + 1) (read_line draft (sentence_of (words_of line)))
unfolding read_lines
unfold_first draft n line lines = refl

-- one more line
pub Reading-more : (first new draft : Draft) (text rest line : List ℕ) (n end : ℕ) → Reading first text draft n rest → 0 < length rest → end ≡ position_or_len is_feed rest → end ≤ length rest
    → line ≡ without_return (take end rest) → read_line draft (sentence_of (words_of line)) ≡ Ok new → Reading first text new (n + 1) (drop (end + 1) rest)
Reading-more first new draft text rest line n end so_far some at within cut read =
    let lines : lines_of rest ≡ line ∷ lines_of (drop (end + 1) rest) = lines_of-first rest end some at within ∙ ap (λ (l : List ℕ). l ∷ lines_of (drop (end + 1) rest)) (sym cut) in
    let step : read_lines draft n (lines_of rest) ≡ read_lines new (n + 1) (lines_of (drop (end + 1) rest)) =
    ap (read_lines draft n) lines ∙ unfold_first draft n line (lines_of (drop (end + 1) rest)) ∙ ap (go_on (λ next. read_lines next (n + 1) (lines_of (drop (end + 1) rest))) (n + 1)) read in
    record {
      same = sym step ∙ so_far.same;
      count = omega (arith, ap length lines, so_far.count);
      within = omega (arith, length-drop (end + 1) rest, so_far.within);
      sound = IsSound-read_line draft new (sentence_of (words_of line)) so_far.sound read;
    }

-- a line that is refused
pub Reading-stops : (e : ParseError) (first new draft : Draft) (text rest line : List ℕ) (n end count : ℕ) → Reading first text draft n rest → 0 < length rest → end ≡ position_or_len is_feed rest → end ≤ length rest
    → line ≡ without_return (take end rest) → Continues {T = Unit {0}} (Err e) new (n + 1) (read_line draft (sentence_of (words_of line))) → ReadsAll (Err e) new count (read_lines first 0 (lines_of text))
Reading-stops e first new draft text rest line n end count so_far some at within cut read = grind (arith, lines_of-first, unfold_first)

-- the last line has been read
pub Reading-end : (first draft : Draft) (text rest : List ℕ) (n : ℕ) → Reading first text draft n rest → length rest ≡ 0 → (read_lines first 0 (lines_of text) ≡ Ok draft) × (n ≡ length (lines_of text))
unfolding read_lines
Reading-end first draft text rest n so_far none =
    let lines : lines_of rest ≡ [] = ap lines_of (nil_from_length rest none) ∙ lines_of-nil in
    (sym so_far.same ∙ ap (read_lines draft n) lines, omega (arith, ap length lines, so_far.count))
