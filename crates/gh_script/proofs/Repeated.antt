-- Lists that stand several times.
use Rattle.std.proofs.Common.{◌≡◌, ℕ, zero, suc, ◌+◌, ◌-◌, ◌*◌, ◌≤◌, List, [], ◌∷◌, ◌++◌, length, take, drop, refl, sym, ap, ◌∙◌, append_assoc, arith, All}
use Rattle.std.proofs.lemmas.List.{append-nil, length-append, length-drop, take_all, take-append-drop}
use Rattle.gh_script.proofs.Vocabulary.{All-append, All-nil, drop-append-le, repeat, slice_range, take-append_seam}

module _ {X : Type 0} where
  turned : (n : ℕ) (xs : List X) → repeat n xs ++ xs ≡ repeat (suc n) xs
  turned zero xs = sym (append-nil xs)
  turned (suc n) xs = append_assoc xs (repeat n xs) xs ∙ ap (λ (l : List X). xs ++ l) (turned n xs)

  -- once more
  pub repeat_push : (n : ℕ) (xs : List X) → repeat n xs ++ xs ≡ repeat (n + 1) xs
  repeat_push n xs = grind (arith, turned)

  pub repeat-nil : (n : ℕ) (xs : List X) → length xs ≡ 0 → repeat n xs ≡ []
  repeat-nil zero xs e = refl
  repeat-nil (suc n) [] e = repeat-nil n [] e
  repeat-nil (suc n) (x ∷ xs) e = absurd (omega arith)

  pub length-repeat : (n : ℕ) (xs : List X) → length (repeat n xs) ≡ n * length xs
  length-repeat zero xs = omega arith
  length-repeat (suc n) xs = grind (arith, length-append xs (repeat n xs), length-repeat n xs)

  pub All-repeat : (P : X → Type 0) (n : ℕ) (xs : List X) → All P xs → All P (repeat n xs)
  All-repeat P zero xs h = All-nil P
  All-repeat P (suc n) xs h = All-append P xs (repeat n xs) h (All-repeat P n xs h)

  -- nothing stands behind the first elements
  pub none_behind : (n start : ℕ) (xs : List X) → length xs ≤ start → xs ≡ take start xs ++ repeat n (drop start xs)
  none_behind n start xs le =
      sym (ap (λ (l : List X). take start xs ++ l) (repeat-nil n (drop start xs) (omega (arith, length-drop start xs))) ∙ append-nil (take start xs) ∙ take_all start xs le)

  -- the rest once more
  pub once_more : (n start end : ℕ) (first now new : List X) → start ≤ length first → end ≡ length first → now ≡ first ++ repeat n (drop start first) → new ≡ now ++ slice_range now start end → new ≡ first ++ repeat (n + 1) (drop start first)
  once_more n start end first now new le at e f =
      let whole : drop start now ≡ drop start first ++ repeat n (drop start first) = ap (drop start) e ∙ drop-append-le start first (repeat n (drop start first)) le in
      let count : end - start ≡ length (drop start first) = omega (arith, length-drop start first) in
      let slice : slice_range now start end ≡ drop start first =
      ap (λ (k : ℕ). take k (drop start now)) count ∙ ap (take (length (drop start first))) whole ∙ take-append_seam (drop start first) (repeat n (drop start first)) in
      f ∙ ap (λ (l : List X). l ++ slice_range now start end) e ∙ ap (λ (l : List X). (first ++ repeat n (drop start first)) ++ l) slice
      ∙ append_assoc first (repeat n (drop start first)) (drop start first) ∙ ap (λ (l : List X). first ++ l) (repeat_push n (drop start first))

  -- the rest stands as often as it was added, and once before
  pub all_times : (k n start : ℕ) (first now : List X) → now ≡ first ++ repeat k (drop start first) → k + 1 ≡ n → now ≡ take start first ++ repeat n (drop start first)
  all_times k n start first now e count =
      let more : suc k ≡ n = omega arith in
      e ∙ ap (λ (l : List X). l ++ repeat k (drop start first)) (sym (take-append-drop start first)) ∙ append_assoc (take start first) (drop start first) (repeat k (drop start first))
      ∙ ap (λ (m : ℕ). take start first ++ repeat m (drop start first)) more
