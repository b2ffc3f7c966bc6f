-- What is live at the end of a run: the objects that the last cycle marked are those that the globals hold, and the bytes that the coordinator keeps are those of their slots.
use Rattle.std.proofs.Common.{◌≡◌, ◌≢◌, ℕ, zero, suc, ◌+◌, ◌*◌, ◌<◌, inl, inr, Bool, true, false, cond, eq-eqb, refl, sym, ap, subst, ◌∙◌, arith, List, length, ◌/◌, ◌%◌, sum_by}
use Rattle.std.specs.Int.{bit_at}
use Rattle.std.proofs.lemmas.Bool.{eqb-false, eqb-true}
use Rattle.std.proofs.lemmas.Nat.Bits.{bit_at-lt}
use Rattle.gh_explained.proofs.Vocabulary.{alloc_words, AllStands, arena_of, AreNamed, AreWords, by_words, bytes_of, Classes, count_below, each_once, Entry, Ever, ever_after_list, in_arena, InArena, is_listed, is_placed, is_set, IsAmong, IsMade, IsPlacedAt, Layout, Legal, listed, lists, ListStands, many_are, Name, name_at, Once, Op, page_words, Program, Reach, Row, row_bit, same_or_not, SetBitsAreCounted, setting_of, setup_of, size_for, slot_row, SlotsAreRead, sum_below, sum_is, sum_same, sum_times, Words, words_in}
use Rattle.gh_sweep.specs.Shared.{placed, placed_in}
use Rattle.gh_explained.proofs.Explained.Known.{Known}

-- ---- the bits of alloc words

pub set_is : (row : Row) (x : ℕ) → row_bit row x ≡ 1 → is_set row x ≡ true
set_is row x e = eq-eqb (row_bit row x) 1 e

row_bit_few : (row : Row) (x : ℕ) → row_bit row x < 2
unfolding row_bit
row_bit_few row x = bit_at-lt (row (x / 64)) (x % 64)

bit_there : (row : Row) (i j : ℕ) → j < 64 → row_bit row (64 * i + j) ≡ bit_at (row i) j
unfolding row_bit
bit_there row i j lt =
    let word : (64 * i + j) / 64 ≡ i = omega (arith, lt) in
    let at : (64 * i + j) % 64 ≡ j = omega (arith, lt) in
    ap (λ (w : ℕ). bit_at (row w) ((64 * i + j) % 64)) word ∙ ap (bit_at (row i)) at

-- the bytes of the words are those of their bits
pub bytes_by_bits : SetBitsAreCounted → (alloc slot : Row) (pages : ℕ) → AreWords alloc → placed alloc slot (16 * pages) ≡ sum_below (λ x. cond (is_set alloc x) (slot (x / 64)) 0) (1024 * pages)
bytes_by_bits bits alloc slot pages fit =
    by_words (λ x. row_bit alloc x * slot (x / 64)) (placed_in alloc slot) (16 * pages) (λ i lt. word i)
    ∙ ap (sum_below (λ x. row_bit alloc x * slot (x / 64))) (omega arith)
    ∙ sum_same (λ x. row_bit alloc x * slot (x / 64)) (λ x. cond (is_set alloc x) (slot (x / 64)) 0) (1024 * pages) (λ x lt. here x) where
      word : (i : ℕ) → placed_in alloc slot i ≡ sum_below (λ j. row_bit alloc (64 * i + j) * slot ((64 * i + j) / 64)) 64
      word i =
          ap (λ (n : ℕ). n * slot i) (bits (alloc i) (fit i))
          ∙ sum_times (λ j. bit_at (alloc i) j) (slot i) 64
          ∙ sum_same (λ j. bit_at (alloc i) j * slot i) (λ j. row_bit alloc (64 * i + j) * slot ((64 * i + j) / 64)) 64 (λ j lt. one i j lt) where
            one : (i j : ℕ) → j < 64 → bit_at (alloc i) j * slot i ≡ row_bit alloc (64 * i + j) * slot ((64 * i + j) / 64)
            one i j lt =
                let at : (64 * i + j) / 64 ≡ i = omega (arith, lt) in
                ap (λ (n : ℕ). n * slot i) (sym (bit_there alloc i j lt)) ∙ ap (λ (k : ℕ). row_bit alloc (64 * i + j) * slot k) (sym at)

      here : (x : ℕ) → row_bit alloc x * slot (x / 64) ≡ cond (is_set alloc x) (slot (x / 64)) 0
      here x = go (is_set alloc x) refl where
        go : (b : Bool) → is_set alloc x ≡ b → row_bit alloc x * slot (x / 64) ≡ cond b (slot (x / 64)) 0
        go true e = ap (λ (n : ℕ). n * slot (x / 64)) (eqb-true (row_bit alloc x) 1 e) ∙ once (slot (x / 64)) where
          once : (n : ℕ) → 1 * n ≡ n
          once n = grind arith
        go false e =
            let few = row_bit_few alloc x in
            let no = eqb-false (row_bit alloc x) 1 e in
            let zeroth : row_bit alloc x ≡ 0 = below_two (row_bit alloc x) few no in
            ap (λ (n : ℕ). n * slot (x / 64)) zeroth ∙ none (slot (x / 64)) where
              below_two : (n : ℕ) → n < 2 → (n ≡ 1 → ⊥) → n ≡ 0
              below_two zero lt ne = refl
              below_two (suc zero) lt ne = absurd (ne refl)
              below_two (suc (suc n)) lt ne = absurd (omega (arith, lt))

              none : (n : ℕ) → 0 * n ≡ 0
              none n = grind arith

-- ---- the objects of a list that are reached

-- what is known of every list of a script
pub record OfEveryList (p : Program) (l : Layout) : Type 0 where
  pub classes : Classes
  pub read : SlotsAreRead
  pub bits : SetBitsAreCounted
  pub known : Known p l
  pub stands : (xs : List (Entry Op)) → Legal (setting_of p l) xs → AllStands (setup_of p l) xs
  pub made : (xs : List (Entry Op)) (n : Name) → let e = ever_after_list (arena_of p.shapes l) (setting_of p l).opening xs in Reach e n → IsMade e.made n

module _ (p : Program) (l : Layout) (every : OfEveryList p l) (xs : List (Entry Op)) (legal : Legal (setting_of p l) xs) where
  abbrev w : Words
  w = words_in p l xs

  abbrev e : Ever
  e = ever_after_list (arena_of p.shapes l) (setting_of p l).opening xs

  abbrev st : ListStands (arena_of p.shapes l) (setting_of p l).opening xs
  st = (every.stands xs legal).stands

  abbrev named : AreNamed e.made w
  named = (every.stands xs legal).objects.named

  there : (n : Name) (a : ℕ) → Reach e n → IsPlacedAt w n a → InArena every.classes l.pages (page_words w) a (size_for p.shapes e.type_of n)
  there n a r at =
      let y = st.stands.slot n r in
      let same : st.stands.place n ≡ a = sym (st.stands.once n a r at) in
      subst (λ (x : ℕ). InArena every.classes l.pages (page_words w) x (size_for p.shapes e.type_of n)) same (in_arena every.classes every.read l.pages (page_words w) y.p y.h y.i (st.stands.place n) (size_for p.shapes e.type_of n) y.slot)

  pub one_place : (n : Name) (a b : ℕ) → Reach e n → IsPlacedAt w n a → IsPlacedAt w n b → a ≡ b
  one_place n a b r at other = grind arith

  one_name : (n m : Name) (a : ℕ) → Reach e n → Reach e m → IsPlacedAt w n a → IsPlacedAt w m a → n ≡ m
  one_name n m a rn rm pn pm = elim (same_or_not n m) [ inl is ↦ is | inr ne ↦ absurd (apart ne) ] where
    apart : n ≢ m → ⊥
    apart ne =
        let sn = (there n a rn pn).some in
        let sm = (there m a rm pm).some in
        let on = st.stands.once n a rn pn in
        let om = st.stands.once m a rm pm in
        st.stands.apart n m 0 0 rn rm ne (omega (arith, sn)) (omega (arith, sm)) (omega (arith, on, om))

  -- a test that the places of what is reached pass, and no others
  pub record TellsReached (test : ℕ → Bool) : Type 0 where
    pub sets : (x : ℕ) → test x ≡ true → is_set (alloc_words w) x ≡ true
    pub reached : (x : ℕ) → test x ≡ true → Reach e (name_at w e.made named x)
    pub tests : (n : Name) (a : ℕ) → Reach e n → IsPlacedAt w n a → test a ≡ true
    pub some : (n : Name) → Reach e n → (a : ℕ) × IsPlacedAt w n a

  -- what stands at the places that pass it
  module _ (test : ℕ → Bool) (tells : TellsReached test) where
    abbrev pub names : List Name
    names = listed test (name_at w e.made named) (1024 * l.pages)

    pub are_listed : (n : Name) → Reach e n → IsAmong n names
    are_listed n r =
        let y = tells.some n r in
        let passes = tells.tests n y.0 r y.1 in
        is_listed test (name_at w e.made named) n (1024 * l.pages) (record {
          x = y.0;
          below = (there n y.0 r y.1).within;
          passes = passes;
          name_is = one_name (name_at w e.made named y.0) n y.0 (tells.reached y.0 passes) r (is_placed w e.made named y.0 (tells.sets y.0 passes)) y.1;
        })

    pub are_reached : (n : Name) → IsAmong n names → Reach e n
    are_reached n a = let s = lists test (name_at w e.made named) n (1024 * l.pages) a in subst (Reach e) s.name_is (tells.reached s.x s.passes)

    pub once : Once names
    once = each_once test (name_at w e.made named) one (1024 * l.pages) where
      one : (x y : ℕ) → test x ≡ true → test y ≡ true → name_at w e.made named x ≡ name_at w e.made named y → x ≡ y
      one x y tx ty is =
          let placed_y = subst (λ (n : Name). IsPlacedAt w n y) (sym is) (is_placed w e.made named y (tells.sets y ty)) in
          one_place (name_at w e.made named x) x y (tells.reached x tx) (is_placed w e.made named x (tells.sets x tx)) placed_y

    pub many : length names ≡ count_below test (1024 * l.pages)
    many = many_are test (name_at w e.made named) (1024 * l.pages)

    pub bytes : sum_by (bytes_of p.shapes e) names ≡ sum_below (λ x. cond (test x) (slot_row (page_words w) (x / 64)) 0) (1024 * l.pages)
    bytes = sum_is test (name_at w e.made named) (bytes_of p.shapes e) (λ x. slot_row (page_words w) (x / 64)) (1024 * l.pages) (λ x t lt. sym (there (name_at w e.made named x) x (tells.reached x t) (is_placed w e.made named x (tells.sets x t))).bytes_are)
