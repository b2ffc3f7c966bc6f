-- The lines of a replay: those of its outcome, and where it was checked one more.
use Rattle.std.proofs.Common.{◌≡◌, ℕ, ◌+◌, ◌-◌, ◌<◌, ◌≤◌, Bool, true, false, cond, List, [], ◌∷◌, length, get_or, Some, refl, sym, ap, ◌∙◌, arith, length-append, slice_get}
use Rattle.gh_replay.proofs.Vocabulary.{agrees_line, bit, get_or-append_right, get_or_append_left, get_or_from_slice_get, Outcome, outcome_lines, Program, replay_lines, slice_get-get_or, slice_get_within}

module _ (p : Program) (o : Outcome) where
  abbrev last : Bool → List (List ℕ)
  last b = cond b (agrees_line ∷ []) []

  last_long : (b : Bool) → length (last b) ≡ bit b
  last_long b = grind arith

  pub lines_long : (b : Bool) → length (replay_lines p o b) ≡ length (outcome_lines p o) + bit b
  lines_long b = let both = length-append (outcome_lines p o) (last b) in let one = last_long b in omega (arith, both, one)

  -- the outcome's lines are the first
  pub of_outcome : (b : Bool) (i : ℕ) (line : List ℕ) → slice_get (outcome_lines p o) i ≡ Some line → slice_get (replay_lines p o b) i ≡ Some line
  of_outcome b i line is =
      let lt = slice_get_within (outcome_lines p o) i line is in
      let long = lines_long b in
      slice_get-get_or (replay_lines p o b) i [] (omega (arith, long, lt))
      ∙ ap Some (get_or_append_left (outcome_lines p o) (last b) [] i lt ∙ get_or_from_slice_get (outcome_lines p o) i line [] is)

  -- behind them there is one where it was checked
  pub behind : (b : Bool) (i : ℕ) (line : List ℕ) → length (outcome_lines p o) ≤ i → i < length (replay_lines p o b) → line ≡ agrees_line → slice_get (replay_lines p o b) i ≡ Some line
  behind true i line high low is =
      let long = lines_long true in
      let here : i ≡ length (outcome_lines p o) + 0 = omega (arith, long, high, low) in
      slice_get-get_or (replay_lines p o true) i [] low ∙ ap Some (get_or-append_right (outcome_lines p o) (last true) (length (outcome_lines p o)) i [] refl high ∙ first (i - length (outcome_lines p o)) (omega (arith, here)) ∙ sym is) where
        first : (k : ℕ) → k ≡ 0 → get_or (last true) k [] ≡ agrees_line
        first k zero_is = ap (λ (j : ℕ). get_or (last true) j []) zero_is
  behind false i line high low is = absurd (let long = lines_long false in omega (arith, long, high, low))
