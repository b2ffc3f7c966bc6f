-- One cycle more in the coordinator's list.
use Rattle.std.proofs.Common.{◌≡◌, ℕ, zero, suc, ◌+◌, ◌<◌, ◌≤◌, Bool, true, false, cond, ltb, refl, sym, ap, ◌∙◌, arith, List, [], ◌∷◌, ◌++◌, length, length-append, Some, min, slice_get}
use Rattle.std.proofs.lemmas.Bool.{ltb-true, ltb-false}
use Rattle.std.proofs.lemmas.Option.{slice_get_within}
use Rattle.gh_lists.specs.Vocabulary.{Cycle, Kept, kept_with_cycle}
use Rattle.gh_lists.specs.Numbers.{KeepsCycles}

at_end : (xs : List Cycle) (x : Cycle) → slice_get (xs ++ x ∷ []) (length xs) ≡ Some x
at_end [] x = refl
at_end (y ∷ xs) x = at_end xs x

before_end : (xs ys : List Cycle) (i : ℕ) → i < length xs → slice_get (xs ++ ys) i ≡ slice_get xs i
before_end [] ys i m = absurd (omega (arith, m))
before_end (x ∷ xs) ys zero m = refl
before_end (x ∷ xs) ys (suc i) m = before_end xs ys i (omega (arith, m))

module _ (room many : ℕ) (c : Kept) (x : Cycle) (h : KeepsCycles room many c) where
  abbrev more : Bool → List Cycle
  more b = cond b (c.items ++ x ∷ []) c.items

  -- where there is room it is the last, and its number is how many there were
  at_last : length c.items < c.room → length c.items ≡ many
  at_last m = let long = h.many_are in let room_is = h.room_is in grind (arith, long, room_is, m)

  length_so : (b : Bool) → ltb (length c.items) c.room ≡ b → length (more b) ≡ min (suc many) room
  length_so true e =
      let m : length c.items < c.room = ltb-true _ _ e in
      let long = at_last m in let room_is = h.room_is in
      length-append c.items (x ∷ []) ∙ grind (arith, long, room_is, m)
  length_so false e =
      let m : c.room ≤ length c.items = ltb-false _ _ e in
      let long = h.many_are in let room_is = h.room_is in
      grind (arith, long, room_is, m)

  numbered_so : x.k ≡ suc many → (b : Bool) → ltb (length c.items) c.room ≡ b → (i : ℕ) (y : Cycle) → slice_get (more b) i ≡ Some y → y.k ≡ suc i
  numbered_so k false e i y is = h.numbered i y is
  numbered_so k true e i y is = go (ltb i (length c.items)) refl where
    m : length c.items < c.room
    m = ltb-true _ _ e

    go : (d : Bool) → ltb i (length c.items) ≡ d → y.k ≡ suc i
    go true f = h.numbered i y (sym (before_end c.items (x ∷ []) i (ltb-true _ _ f)) ∙ is)
    go false f =
        let ge : length c.items ≤ i = ltb-false _ _ f in
        let lt : i < length (c.items ++ x ∷ []) = slice_get_within (c.items ++ x ∷ []) i y is in
        let longer : length (c.items ++ x ∷ []) ≡ length c.items + 1 = length-append c.items (x ∷ []) in
        let last : i ≡ length c.items = omega (arith, ge, lt, longer) in
        let same : Some x ≡ Some y = sym (at_end c.items x) ∙ (ap (slice_get (c.items ++ x ∷ [])) (sym last) ∙ is) in
        let it : x ≡ y = cc in
        ap (λ (z : Cycle). z.k) (sym it) ∙ (k ∙ ap suc (sym (at_last m) ∙ sym last))

  pub one_more : x.k ≡ suc many → KeepsCycles room (suc many) (kept_with_cycle c x)
  one_more k = grind (arith, length_so, numbered_so)
