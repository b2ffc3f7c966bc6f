-- Words behind the first.
use Rattle.std.proofs.Common.{◌≡◌, ℕ, zero, suc, ◌+◌, List, [], ◌∷◌, drop, refl, sym, ap, ◌∙◌, arith}
use Rattle.std.proofs.Math.Seq.{drop-nil}
use Rattle.gh_script.proofs.Pieces.{Goes}

pub drops : {A : Type 0} (m n k : ℕ) (xs : List A) → k ≡ n + m → drop m (drop n xs) ≡ drop k xs
drops m zero k xs e = let s : m ≡ k = omega arith in ap (λ (j : ℕ). drop j xs) s
drops m (suc n) k [] e = drop-nil m ∙ sym (drop-nil k)
drops m (suc n) zero (x ∷ xs) e = absurd (omega arith)
drops m (suc n) (suc k) (x ∷ xs) e = drops m n k xs (omega arith)

pub behind_first : (words : List (List ℕ)) (word : List ℕ) (others : List (List ℕ)) → Goes words word others → others ≡ drop 1 words
behind_first words [] others g =
    let none : others ≡ [] = g.none refl in
    let all : words ≡ [] = g.cut ∙ none in
    none ∙ sym (ap (λ (ws : List (List ℕ)). drop 1 ws) all)
behind_first words (c ∷ cs) others g = sym (ap (λ (ws : List (List ℕ)). drop 1 ws) g.cut)
