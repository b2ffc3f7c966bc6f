-- As many statements are answered as the processors have answered, each of its own.
use Rattle.std.proofs.Common.{◌≡◌, ℕ, zero, suc, ◌+◌, ◌<◌, ◌≤◌, List, [], ◌∷◌, length, Option, Some, is_some, refl, ap, ◌∙◌, arith, inl, inr, ◌⊎◌, slice_get}
use Rattle.gh_replay.proofs.Vocabulary.{Answer, answer_in, answered_by, bit, cases_lt, Entry, Layout, marks_at, Op, Runner, Shape, sum_by-cons, with_goroutine}

module _ (shapes : List Shape) (l : Layout) where
  -- how many statements n processors have answered, from seat b on
  abbrev answered_from : (b n : ℕ) → List (Entry Op) → ℕ
  answered_from b zero es = 0
  answered_from b (suc n) es = marks_at shapes l b es + answered_from (b + 1) n es

  none_yet : (b n : ℕ) → answered_from b n [] ≡ 0
  none_yet b zero = refl
  none_yet b (suc n) = let rest = none_yet (b + 1) n in omega (arith, rest)

  -- each has answered as many as the list says
  abbrev pub Counts : List Runner → List (Entry Op) → Type 0
  Counts runners es = (a : ℕ) (x : Runner) → slice_get runners a ≡ Some x → x.mutator.marks ≡ marks_at shapes l a es

  all_from : (runners : List Runner) (b : ℕ) (es : List (Entry Op)) → ((i : ℕ) (x : Runner) → slice_get runners i ≡ Some x → x.mutator.marks ≡ marks_at shapes l (b + i) es) → answered_by runners ≡ answered_from b (length runners) es
  all_from [] b es h = refl
  all_from (x ∷ xs) b es h =
      let first : x.mutator.marks ≡ marks_at shapes l b es = h 0 x refl ∙ ap (λ (a : ℕ). marks_at shapes l a es) (omega arith) in
      let rest = all_from xs (b + 1) es (λ i y e. h (suc i) y e ∙ ap (λ (a : ℕ). marks_at shapes l a es) (omega arith)) in
      sum_by-cons (λ (y : Runner). y.mutator.marks) x xs ∙ omega (arith, first, rest)

  all_counted : (runners : List Runner) (es : List (Entry Op)) → Counts runners es → answered_by runners ≡ answered_from 0 (length runners) es
  all_counted runners es h = grind (arith, all_from)

  module _ (e : Entry Op) (es : List (Entry Op)) where
    other : (b : ℕ) → (e.actor ≡ b → ⊥) → marks_at shapes l b (e ∷ es) ≡ marks_at shapes l b es
    other b apart = grind arith

    own : (b : ℕ) → e.actor ≡ b → marks_at shapes l b (e ∷ es) ≡ marks_at shapes l b es + bit (is_some (answer_in shapes l es e))
    own b same = grind arith

    outside : (b n : ℕ) → (e.actor < b) ⊎ (b + n ≤ e.actor) → answered_from b n (e ∷ es) ≡ answered_from b n es
    outside b zero h = refl
    outside b (suc n) h = elim h [
      | inl low ↦ let here = other b (λ q. omega (arith, q, low)) in let rest = outside (b + 1) n (inl (omega (arith, low))) in omega (arith, here, rest)
      | inr high ↦ let here = other b (λ q. omega (arith, q, high)) in let rest = outside (b + 1) n (inr (omega (arith, high))) in omega (arith, here, rest)
    ]

    inside : (b n : ℕ) → b ≤ e.actor → e.actor < b + n → answered_from b n (e ∷ es) ≡ answered_from b n es + bit (is_some (answer_in shapes l es e))
    inside b zero low high = absurd (omega (arith, low, high))
    inside b (suc n) low high = elim (cases_lt b e.actor) [
      | inl lt ↦ let here = other b (λ q. omega (arith, q, lt)) in let rest = inside (b + 1) n (omega (arith, lt)) (omega (arith, high)) in omega (arith, here, rest)
      | inr le ↦ let same : e.actor ≡ b = omega (arith, low, le) in let here = own b same in let rest = outside (b + 1) n (inl (omega (arith, same))) in omega (arith, here, rest)
    ]

-- an answer with its goroutine is one where there is one
told_long : (g : ℕ) (a : Option Answer) → length (with_goroutine g a) ≡ bit (is_some a)
told_long g a = grind arith

-- before the first step none is answered
pub none_answered : (shapes : List Shape) (l : Layout) (runners : List Runner) → Counts shapes l runners [] → answered_by runners ≡ 0
none_answered shapes l runners h = all_counted shapes l runners [] h ∙ none_yet shapes l 0 (length runners)

-- with a step as many more as it answers; only a processor's does
pub one_answered : (shapes : List Shape) (l : Layout) (before now : List Runner) (e : Entry Op) (es : List (Entry Op)) (told : List (ℕ × Answer)) (g : ℕ) → Counts shapes l before es → Counts shapes l now (e ∷ es) → length now ≡ length before → told ≡ with_goroutine g (answer_in shapes l es e) → (length before ≤ e.actor → told ≡ []) →
    answered_by now ≡ answered_by before + length told
one_answered shapes l before now e es told g old new long says quiet =
    let was = all_counted shapes l before es old in
    let is = all_counted shapes l now (e ∷ es) new ∙ ap (λ (n : ℕ). answered_from shapes l 0 n (e ∷ es)) long in
    let many : length told ≡ bit (is_some (answer_in shapes l es e)) = ap (λ (xs : List (ℕ × Answer)). length xs) says ∙ told_long g (answer_in shapes l es e) in
    elim (cases_lt e.actor (length before)) [
      | inl lt ↦ let grown = inside shapes l e es 0 (length before) (omega arith) (omega (arith, lt)) in omega (arith, was, is, many, grown)
      | inr le ↦ let same = outside shapes l e es 0 (length before) (inr (omega (arith, le))) in let none : length told ≡ 0 = ap (λ (xs : List (ℕ × Answer)). length xs) (quiet le) in omega (arith, was, is, none, same)
    ]
