-- Storing a value: what the code does by a place's index is `put_value`, and what each place's index is afterwards.
use Rattle.std.proofs.Common.{◌≡◌, ℕ, suc, ◌<◌, Bool, cond, List, [], ◌∷◌, ◌++◌, length, get_or, Option, Some, None, Result, refl, sym, ◌∙◌, ap, arith}
use Rattle.std.specs.Result.{IsOk, OnOk}
use Rattle.gh_ever.proofs.Vocabulary.{Cell, EverValue, FindsCells, get, HashMap, index_of, option_map, Place, put_value, same_place, set, stored_value}
use Rattle.gh_ever.proofs.Places.{place_turned}

-- A place that has a cell.

pub index_within : (cs : List Cell) (p : Place) (i : ℕ) → index_of cs p ≡ Some i → i < length cs
index_within [] p i h = absurd (cc)
index_within (c ∷ cs) p i h = go (same_place p c.place) (index_of cs p) refl h (index_within cs p) where
  go : (b : Bool) (o : Option ℕ) → index_of cs p ≡ o → cond b (Some 0) (option_map suc o) ≡ Some i → ((j : ℕ) → index_of cs p ≡ Some j → j < length cs) → i < length (c ∷ cs)
  go b o e h ih = grind arith

pub held_here : (cs : List Cell) (p : Place) (i : ℕ) (d : Cell) → index_of cs p ≡ Some i → Some (get_or cs i d).value ≡ stored_value cs p
held_here [] p i d h = absurd (cc)
held_here (c ∷ cs) p i d h = go (same_place p c.place) (index_of cs p) refl h (λ j. held_here cs p j d) where
  go : (b : Bool) (o : Option ℕ) → index_of cs p ≡ o → cond b (Some 0) (option_map suc o) ≡ Some i → ((j : ℕ) → index_of cs p ≡ Some j → Some (get_or cs j d).value ≡ stored_value cs p) → Some (get_or (c ∷ cs) i d).value ≡ cond b (Some c.value) (stored_value cs p)
  go b o e h ih = grind arith

put_at : (cs : List Cell) (p : Place) (v : EverValue) (i : ℕ) (d : Cell) → index_of cs p ≡ Some i → set cs i (record (get_or cs i d) { value = v }) ≡ put_value cs p v
put_at [] p v i d h = absurd (cc)
put_at (c ∷ cs) p v i d h = go (same_place p c.place) (index_of cs p) refl h (λ j. put_at cs p v j d) where
  go : (b : Bool) (o : Option ℕ) → index_of cs p ≡ o → cond b (Some 0) (option_map suc o) ≡ Some i → ((j : ℕ) → index_of cs p ≡ Some j → set cs j (record (get_or cs j d) { value = v }) ≡ put_value cs p v) →
      set (c ∷ cs) i (record (get_or (c ∷ cs) i d) { value = v }) ≡ cond b (record c { value = v } ∷ cs) (c ∷ put_value cs p v)
  go b o e h ih = grind arith

pub put_here : (cs : List Cell) (p : Place) (v : EverValue) (i : ℕ) (d : Cell) → index_of cs p ≡ Some i → d ≡ get_or cs i d → set cs i (record d { value = v }) ≡ put_value cs p v
put_here cs p v i d h e = grind (arith, put_at)

-- every place keeps its index
index_stays : (cs : List Cell) (p : Place) (v : EverValue) (i : ℕ) (q : Place) → index_of cs p ≡ Some i → index_of (put_value cs p v) q ≡ index_of cs q
index_stays [] p v i q h = absurd (cc)
index_stays (c ∷ cs) p v i q h = go (same_place p c.place) (index_of cs p) refl h (λ j. index_stays cs p v j q) where
  go : (b : Bool) (o : Option ℕ) → index_of cs p ≡ o → cond b (Some 0) (option_map suc o) ≡ Some i → ((j : ℕ) → index_of cs p ≡ Some j → index_of (put_value cs p v) q ≡ index_of cs q) →
      index_of (cond b (record c { value = v } ∷ cs) (c ∷ put_value cs p v)) q ≡ cond (same_place q c.place) (Some 0) (option_map suc (index_of cs q))
  go b o e h ih = grind arith

-- A place that has none.

pub held_none : (cs : List Cell) (p : Place) → index_of cs p ≡ None → None ≡ stored_value cs p
held_none [] p h = refl
held_none (c ∷ cs) p h = go (same_place p c.place) (index_of cs p) refl h (held_none cs p) where
  go : (b : Bool) (o : Option ℕ) → index_of cs p ≡ o → cond b (Some 0) (option_map suc o) ≡ None → (index_of cs p ≡ None → None ≡ stored_value cs p) → None ≡ cond b (Some c.value) (stored_value cs p)
  go b o e h ih = grind arith

pub put_past : (cs : List Cell) (p : Place) (v : EverValue) → index_of cs p ≡ None → cs ++ record { place = p; value = v } ∷ [] ≡ put_value cs p v
put_past [] p v h = refl
put_past (c ∷ cs) p v h = go (same_place p c.place) (index_of cs p) refl h (put_past cs p v) where
  go : (b : Bool) (o : Option ℕ) → index_of cs p ≡ o → cond b (Some 0) (option_map suc o) ≡ None → (index_of cs p ≡ None → cs ++ record { place = p; value = v } ∷ [] ≡ put_value cs p v) →
      c ∷ cs ++ record { place = p; value = v } ∷ [] ≡ cond b (record c { value = v } ∷ cs) (c ∷ put_value cs p v)
  go b o e h ih = grind arith

-- the place gets the next index
index_added : (cs : List Cell) (p : Place) (v : EverValue) (q : Place) → index_of cs p ≡ None → index_of (put_value cs p v) q ≡ cond (same_place p q) (Some (length cs)) (index_of cs q)
index_added [] p v q h = ap (λ (b : Bool). cond b (Some 0) None) (place_turned q p)
index_added (c ∷ cs) p v q h = go (same_place p c.place) (index_of cs p) refl refl h (index_added cs p v q) where
  go : (b : Bool) (o : Option ℕ) → same_place p c.place ≡ b → index_of cs p ≡ o → cond b (Some 0) (option_map suc o) ≡ None → (index_of cs p ≡ None → index_of (put_value cs p v) q ≡ cond (same_place p q) (Some (length cs)) (index_of cs q)) →
      index_of (cond b (record c { value = v } ∷ cs) (c ∷ put_value cs p v)) q ≡ cond (same_place p q) (Some (length (c ∷ cs))) (cond (same_place q c.place) (Some 0) (option_map suc (index_of cs q)))
  go b o t e h ih = grind arith

-- The map afterwards.

-- what holds where a call succeeds, of one that does
pub where_ok : {T E P : Type 0} (r : Result T E) → OnOk r P → IsOk r → P
where_ok r p h = grind arith

module _ {S : Type 0} where
  pub finds_here : (places : HashMap Place ℕ S) (cs new : List Cell) (p : Place) (v : EverValue) (i : ℕ) → FindsCells places cs → index_of cs p ≡ Some i → new ≡ put_value cs p v → FindsCells places new
  finds_here places cs new p v i f h e q = f q ∙ sym (index_stays cs p v i q h) ∙ ap (λ (xs : List Cell). index_of xs q) (sym e)

  pub finds_past : (places more : HashMap Place ℕ S) (cs new : List Cell) (p : Place) (v : EverValue) (n : ℕ) → FindsCells places cs → index_of cs p ≡ None → new ≡ put_value cs p v → n ≡ length cs →
      ((q : Place) → get same_place more q ≡ cond (same_place p q) (Some n) (get same_place places q)) → FindsCells more new
  finds_past places more cs new p v n f h e len u q =
      u q
      ∙ ap (λ (o : Option ℕ). cond (same_place p q) (Some n) o) (f q)
      ∙ ap (λ (i : ℕ). cond (same_place p q) (Some i) (index_of cs q)) len
      ∙ sym (index_added cs p v q h)
      ∙ ap (λ (xs : List Cell). index_of xs q) (sym e)
