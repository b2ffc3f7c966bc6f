-- Lines, one after the other.
use Rattle.std.proofs.Common.{◌≡◌, ℕ, ◌+◌, List, [], ◌∷◌, ◌++◌, take, drop, Option, Some, Result, OnOk, OnErr, slice_get, sym, ap, subst, ◌∙◌, take-append-drop, arith}
use Rattle.std.proofs.KnownBytes.{Appends-trans}
use Rattle.std.proofs.lemmas.List.{append-nil, take_more}
use Rattle.std.proofs.lemmas.List.Folds.{concat-append}
use Rattle.std.proofs.lemmas.Option.{get_or_from_slice_get, slice_get_within}
use Rattle.gh_top.proofs.Vocabulary.{Appends, concat, PartOfFirstIsOfBoth, PartOfSecondIsOfBoth, TookPart}

-- the lines up to line i, and line i
one-more : (ls : List (List ℕ)) (i : ℕ) (line : List ℕ) → slice_get ls i ≡ Some line → concat (take (i + 1) ls) ≡ concat (take i ls) ++ line
one-more ls i line at =
    let one : take (i + 1) ls ≡ take i ls ++ line ∷ [] = take_more ls i line (slice_get_within ls i line at) ∙ ap (λ (l : List ℕ). take i ls ++ l ∷ []) (get_or_from_slice_get ls i line line at) in
    ap concat one ∙ concat-append (take i ls) (line ∷ []) ∙ ap (λ (l : List ℕ). concat (take i ls) ++ l) (append-nil line)

-- the lines so far, and then the next
pub told-more : (ls : List (List ℕ)) (i : ℕ) (line : List ℕ) (a b c : Option (List ℕ)) → slice_get ls i ≡ Some line → Appends a b (concat (take i ls)) → Appends b c line → Appends a c (concat (take (i + 1) ls))
told-more ls i line a b c at before next = subst (Appends a c) (sym (one-more ls i line at)) (Appends-trans a b c _ _ before next)

-- the lines so far, and then a part of the next
pub told-part : PartOfFirstIsOfBoth → PartOfSecondIsOfBoth → (ls : List (List ℕ)) (i : ℕ) (line : List ℕ) (a b c : Option (List ℕ)) → slice_get ls i ≡ Some line → Appends a b (concat (take i ls)) → TookPart b c line → TookPart a c (concat ls)
told-part first second ls i line a b c at before part =
    let whole : concat ls ≡ concat (take (i + 1) ls) ++ concat (drop (i + 1) ls) = ap concat (sym (take-append-drop (i + 1) ls)) ∙ concat-append (take (i + 1) ls) (drop (i + 1) ls) in
    subst (TookPart a c) (sym whole)
    (first a c (concat (take (i + 1) ls)) (concat (drop (i + 1) ls))
    (subst (TookPart a c) (sym (one-more ls i line at)) (second a b c (concat (take i ls)) line before part)))

pub on-err : {T E P : Type 0} (r : Result T E) → P → OnErr r P
on-err r h = grind arith

pub err-map : {T E P Q : Type 0} (r : Result T E) → (P → Q) → OnErr r P → OnErr r Q
err-map r f h = grind arith

pub ok-map : {T E P Q : Type 0} (r : Result T E) → (P → Q) → OnOk r P → OnOk r Q
ok-map r f h = grind arith

-- two lines, one after the other
pub both-told : (l m x y : List ℕ) (a b c : Option (List ℕ)) → x ≡ l → y ≡ m → Appends a b x → Appends b c y → Appends a c (l ++ m)
both-told l m x y a b c first second before next = Appends-trans a b c l m (subst (Appends a b) first before) (subst (Appends b c) second next)

-- the first, and then a part of the second
pub both-part : PartOfSecondIsOfBoth → (l m x y : List ℕ) (a b c : Option (List ℕ)) → x ≡ l → y ≡ m → Appends a b x → TookPart b c y → TookPart a c (l ++ m)
both-part second l m x y a b c first next before part = second a b c l m (subst (Appends a b) first before) (subst (TookPart b c) next part)
