-- An object that was made, and of which a birth word beside a set alloc bit says the name, is placed there.
use Rattle.std.proofs.Common.{◌≡◌, ℕ, ◌^◌, ◌<◌, sym, ap, subst, ◌∙◌, arith}
use Rattle.gh_lists.specs.Vocabulary.{Arena, birth_word, Good, IsMade, Name, Placed, row_bit}
use Rattle.gh_lists.specs.LemmaVocabulary.{View}

-- names of few objects are told apart by their birth words
pub same_birth_same_name : (n m : Name) → n.k < 2 ^ 32 → m.k < 2 ^ 32 → birth_word n ≡ birth_word m → n ≡ m
same_birth_same_name n m few fewer same =
    let g_is : n.g ≡ m.g = omega (arith, few, fewer, same) in
    let k_is : n.k ≡ m.k = omega (arith, few, fewer, same) in
    ap (λ (i : ℕ). record { g = i; k = n.k }) g_is ∙ ap (λ (i : ℕ). record { g = m.g; k = i }) k_is

module _ (z : Arena) (v : View) (good : Good z v) where
  pub few_there : (n : Name) → IsMade v.ever.made n → n.k < 2 ^ 32
  few_there n made = let most = good.names.few n.g in omega (arith, made, most)

  pub placed_there : (n : Name) (a : ℕ) → IsMade v.ever.made n → row_bit v.alloc a ≡ 1 → v.birth a ≡ birth_word n → (v.place n ≡ a) × Placed v.alloc v.birth v.place n
  placed_there n a made set says =
      let b = good.bits a set in
      let same : n ≡ b.0 = same_birth_same_name n b.0 (few_there n made) (few_there b.0 b.1) (sym says ∙ b.3) in
      let at : v.place n ≡ a = ap v.place same ∙ b.2 in
      (at, record { set = subst (λ (x : ℕ). row_bit v.alloc x ≡ 1) (sym at) set; says = subst (λ (x : ℕ). v.birth x ≡ birth_word n) (sym at) says })
