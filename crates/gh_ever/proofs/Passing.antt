-- One pass over the cells.
use Rattle.std.proofs.Common.{◌≡◌, ℕ, ◌+◌, ◌<◌, Bool, true, false, List, length, get_or, Some, sym, ◌∙◌, ap, subst, arith}
use Rattle.std.proofs.lemmas.List.{get_or_default}
use Rattle.std.proofs.lemmas.List.Elements.{AllWithin-more}
use Rattle.gh_ever.proofs.Vocabulary.{AllWithin, Cell, IsFollowed, Lists, Sound, stored_value, unmarked}
use Rattle.gh_ever.proofs.Reaching.{cell_held}

-- a cell that is read is held at its place
pub cell_read : (v w : Lists) (xs : List Cell) (i : ℕ) (d : Cell) → w ≡ v → Sound w → xs ≡ w.cells → i < length xs → stored_value v.cells (get_or xs i d).place ≡ Some (get_or xs i d).value
cell_read v w xs i d e s f h =
    let same : xs ≡ v.cells = f ∙ ap (λ (x : Lists). x.cells) e in
    let sound : Sound v = subst (λ (x : Lists). Sound x) e s in
    subst (λ (ys : List Cell). i < length ys → stored_value v.cells (get_or ys i d).place ≡ Some (get_or ys i d).value) (sym same) (λ l. cell_held v.cells i d sound.distinct l) h

-- fewer objects are unmarked than at first
pub fewer_yet : (b : Bool) (first mid new : List Bool) → (b ≡ true → unmarked mid < unmarked first) → (b ≡ false → mid ≡ first) → unmarked new < unmarked mid → unmarked new < unmarked first
fewer_yet b first mid new h s f = grind arith

-- one cell more is followed
pub one_followed : (v : Lists) (old new : List Bool) (xs : List Cell) (i : ℕ) (d : Cell) → xs ≡ v.cells → i < length xs → new ≡ old → AllWithin (IsFollowed v old) v.cells 0 i → IsFollowed v new (get_or xs i d) → AllWithin (IsFollowed v new) v.cells 0 (i + 1)
one_followed v old new xs i d e h s all here =
    AllWithin-more (IsFollowed v new) v.cells 0 i
    (subst (λ (ms : List Bool). AllWithin (IsFollowed v ms) v.cells 0 i) (sym s) all)
    (λ f. subst (λ (c : Cell). IsFollowed v new c) (get_or_default xs i d f h ∙ ap (λ (ys : List Cell). get_or ys i f) e) here)
