-- A walk over objects and their marks.
use Rattle.std.proofs.Common.{◌≡◌, ℕ, ◌+◌, ◌<◌, Bool, true, false, cond, List, [], ◌∷◌, ◌++◌, length, get_or, take, drop, refl, sym, ◌∙◌, ap, add-one}
use Rattle.std.proofs.lemmas.List.{drop_more, append_assoc, set_split}
use Rattle.gh_ever.proofs.Vocabulary.{marked, Name, Object, same_name, set, take_more, with_mark}

-- both lists from here on
objects_here : (os : List Object) (i : ℕ) (o : Object) → i < length os → o ≡ get_or os i o → drop i os ≡ o ∷ drop (i + 1) os
objects_here os i o h e = drop_more os i o h ∙ ap (λ (x : Object). x ∷ drop (i + 1) os) (sym e)

pub marked_at : (os : List Object) (ms : List Bool) (i : ℕ) (o : Object) (n : Name) → i < length os → i < length ms → o ≡ get_or os i o →
    marked (drop i os) (drop i ms) n ≡ cond (same_name n o.name) (get_or ms i false) (marked (drop (i + 1) os) (drop (i + 1) ms) n)
marked_at os ms i o n h k e =
    ap (λ (xs : List Object). marked xs (drop i ms) n) (objects_here os i o h e)
    ∙ ap (λ (xs : List Bool). marked (o ∷ drop (i + 1) os) xs n) (drop_more ms i false k)

pub with_mark_at : (os : List Object) (ms : List Bool) (i : ℕ) (o : Object) (n : Name) → i < length os → i < length ms → o ≡ get_or os i o →
    with_mark (drop i os) (drop i ms) n ≡ cond (same_name n o.name) (true ∷ drop (i + 1) ms) (get_or ms i false ∷ with_mark (drop (i + 1) os) (drop (i + 1) ms) n)
with_mark_at os ms i o n h k e =
    ap (λ (xs : List Object). with_mark xs (drop i ms) n) (objects_here os i o h e)
    ∙ ap (λ (xs : List Bool). with_mark (o ∷ drop (i + 1) os) xs n) (drop_more ms i false k)

-- the mark is set at the object's place
pub with_mark_here : (os : List Object) (ms : List Bool) (i : ℕ) (o : Object) (n : Name) → i < length os → i < length ms → o ≡ get_or os i o → same_name n o.name ≡ true →
    take i ms ++ with_mark (drop i os) (drop i ms) n ≡ with_mark os ms n → set ms i true ≡ with_mark os ms n
with_mark_here os ms i o n h k e t inv =
    let here : with_mark (drop i os) (drop i ms) n ≡ true ∷ drop (i + 1) ms = with_mark_at os ms i o n h k e ∙ rw t refl in
    set_split ms i true k ∙ rw (← add-one) (ap (λ (r : List Bool). take i ms ++ r) (sym here)) ∙ inv

pub with_mark_further : (os : List Object) (ms : List Bool) (i : ℕ) (o : Object) (n : Name) → i < length os → i < length ms → o ≡ get_or os i o → same_name n o.name ≡ false →
    take i ms ++ with_mark (drop i os) (drop i ms) n ≡ with_mark os ms n → take (i + 1) ms ++ with_mark (drop (i + 1) os) (drop (i + 1) ms) n ≡ with_mark os ms n
with_mark_further os ms i o n h k e f inv =
    let here : with_mark (drop i os) (drop i ms) n ≡ get_or ms i false ∷ with_mark (drop (i + 1) os) (drop (i + 1) ms) n = with_mark_at os ms i o n h k e ∙ rw f refl in
    let rest : List Bool = with_mark (drop (i + 1) os) (drop (i + 1) ms) n in
    ap (λ (t : List Bool). t ++ rest) (take_more ms i false k) ∙ append_assoc (take i ms) (get_or ms i false ∷ []) rest ∙ ap (λ (r : List Bool). take i ms ++ r) (sym here) ∙ inv
