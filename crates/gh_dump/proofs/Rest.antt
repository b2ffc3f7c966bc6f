-- Lines read one by one: how far a reading has come.
use Rattle.std.proofs.Common.{◌≡◌, ℕ, zero, suc, ◌+◌, ◌<◌, ◌≤◌, List, [], ◌∷◌, ◌++◌, length, take, drop, map, Option, Some, None, refl, sym, ap, ◌∙◌, subst, arith, inl, inr}
use Rattle.std.proofs.lemmas.Bool.{cases_lt}
use Rattle.std.proofs.lemmas.List.{length-drop, nil_from_length}
use Rattle.std.proofs.lemmas.Option.{slice_get_within}
use Rattle.gh_script.specs.Text.{is_feed, lines_of, pieces, without_return}
use Rattle.gh_script.proofs.Lines.{lines_of-first}
use Rattle.gh_dump.specs.Items.{item_of, items_of}
use Rattle.gh_dump.specs.Index.{Indexes, IsSmall}
use Rattle.gh_dump.specs.Kept.{IsBefore, no_line, with_line}
use Rattle.gh_dump.specs.Causes.{cause_of}
use Rattle.gh_dump.specs.Read.{AreRight, IsFirstFault}
use Rattle.gh_dump.specs.Verdict.{line_cause}
use Rattle.gh_dump.specs.Vocabulary.{DumpWhy, Field, Global, Item, ObjectByGlobal, ObjectByParent, option_and_then, position_or_len, slice_get}
use Rattle.gh_dump.specs.declared.item.Item.TheVariants.{Total}
use Rattle.gh_dump.specs.declared.before.Before.{Before}
use Rattle.gh_dump.specs.declared.index.Index.{Index}
use Rattle.gh_dump.proofs.Befores.{before_more, before_none}

-- ---- an element and what follows it

take_none : {A : Type 0} (n : ℕ) (xs : List A) → n ≡ 0 → take n xs ≡ []
take_none n xs e = ap (λ (m : ℕ). take m xs) e

module _ {A : Type 0} where
  pub get_there : (n : ℕ) (xs ys : List A) (x : A) → drop n xs ≡ x ∷ ys → slice_get xs n ≡ Some x
  get_there zero [] ys x e = absurd (cc)
  get_there (suc n) [] ys x e = absurd (cc)
  get_there zero (z ∷ zs) ys x e = grind arith
  get_there (suc n) (z ∷ zs) ys x e = get_there n zs ys x e

  pub take_one_more : (n : ℕ) (xs ys : List A) (x : A) → drop n xs ≡ x ∷ ys → take (suc n) xs ≡ take n xs ++ x ∷ []
  take_one_more zero [] ys x e = absurd (cc)
  take_one_more (suc n) [] ys x e = absurd (cc)
  take_one_more zero (z ∷ zs) ys x e = grind arith
  take_one_more (suc n) (z ∷ zs) ys x e = ap (λ (l : List A). z ∷ l) (take_one_more n zs ys x e)

  pub drop_one_more : (n : ℕ) (xs ys : List A) (x : A) → drop n xs ≡ x ∷ ys → drop (suc n) xs ≡ ys
  drop_one_more zero [] ys x e = absurd (cc)
  drop_one_more (suc n) [] ys x e = absurd (cc)
  drop_one_more zero (z ∷ zs) ys x e = grind arith
  drop_one_more (suc n) (z ∷ zs) ys x e = drop_one_more n zs ys x e

  pub all_taken : (n : ℕ) (xs : List A) → drop n xs ≡ [] → take n xs ≡ xs
  all_taken zero [] e = refl
  all_taken (suc n) [] e = refl
  all_taken zero (z ∷ zs) e = absurd (cc)
  all_taken (suc n) (z ∷ zs) e = ap (λ (l : List A). z ∷ l) (all_taken n zs e)

-- n lines are read, and the others are those of the rest; `size` bytes are the whole text
pub record Left (items : List (Option Item)) (size n : ℕ) (rest : List ℕ) : Type 0 where
  pub left : drop n items ≡ items_of rest
  pub within : n + length rest ≤ size

items_first : (rest : List ℕ) (end : ℕ) → 0 < length rest → end ≡ position_or_len is_feed rest → end ≤ length rest
    → items_of rest ≡ item_of (without_return (take end rest)) ∷ items_of (drop (end + 1) rest)
unfolding items_of
items_first rest end some at within = ap (map item_of) (lines_of-first rest end some at within)

items_none : items_of [] ≡ []
unfolding items_of lines_of pieces
items_none = refl

-- the next line
pub record Next (items : List (Option Item)) (size n : ℕ) (rest : List ℕ) (line : Option Item) : Type 0 where
  pub there : slice_get items n ≡ Some line
  pub taken : take (n + 1) items ≡ take n items ++ line ∷ []
  pub after : Left items size (n + 1) rest
  pub below : n < size

pub next_line : (items : List (Option Item)) (size : ℕ) (rest : List ℕ) (n end : ℕ) (line : Option Item) → Left items size n rest → 0 < length rest → end ≡ position_or_len is_feed rest → end ≤ length rest
    → line ≡ item_of (without_return (take end rest)) → Next items size n (drop (end + 1) rest) line
next_line items size rest n end line l some at within same =
    let e : drop n items ≡ line ∷ items_of (drop (end + 1) rest) =
    l.left ∙ items_first rest end some at within ∙ ap (λ (x : Option Item). x ∷ items_of (drop (end + 1) rest)) (sym same) in
    let one : suc n ≡ n + 1 = omega arith in
    record {
      there = get_there n items (items_of (drop (end + 1) rest)) line e;
      taken = ap (λ (m : ℕ). take m items) (sym one) ∙ take_one_more n items (items_of (drop (end + 1) rest)) line e;
      after = record {
        left = ap (λ (m : ℕ). drop m items) (sym one) ∙ drop_one_more n items (items_of (drop (end + 1) rest)) line e;
        within = omega (arith, length-drop (end + 1) rest, l.within);
      };
      below = omega (arith, l.within);
    }

-- all lines are read
pub none_left : (items : List (Option Item)) (size n : ℕ) (rest : List ℕ) → Left items size n rest → length rest ≡ 0 → take n items ≡ items
none_left items size n rest l none = all_taken n items (l.left ∙ ap items_of (nil_from_length rest none) ∙ items_none)

-- ---- the first reading

pub record Filling (items : List (Option Item)) (size : ℕ) (index : Index) (rest : List ℕ) : Type 0 where
  pub has : Indexes index (take index.lines items)
  pub left : Left items size index.lines rest
  pub small : IsSmall index

pub filling_start : (index : Index) (text : List ℕ) → Indexes index [] → IsSmall index → Filling (items_of text) (length text) index text
filling_start index text has small =
    let none : index.lines ≡ 0 = has.lines in
    record {
      has = subst (λ (l : List (Option Item)). Indexes index l) (sym (take_none index.lines (items_of text) none)) has;
      left = record { left = ap (λ (m : ℕ). drop m (items_of text)) none; within = omega arith };
      small = small;
    }

pub filling_more : (items : List (Option Item)) (size : ℕ) (old new : Index) (rest more : List ℕ) (line : Option Item) → Filling items size old rest → Next items size old.lines more line
    → ((before : List (Option Item)) → Indexes old before → Indexes new (before ++ line ∷ [])) → IsSmall new → new.lines ≡ old.lines + 1 → Filling items size new more
filling_more items size old new rest more line f n lists small one = record {
  has = subst (λ (l : List (Option Item)). Indexes new l) (sym (ap (λ (m : ℕ). take m items) one ∙ n.taken)) (lists (take old.lines items) f.has);
  left = subst (λ (m : ℕ). Left items size m more) (sym one) n.after;
  small = small;
}

pub filling_end : (items : List (Option Item)) (size : ℕ) (index : Index) (rest : List ℕ) → Filling items size index rest → length rest ≡ 0 → Indexes index items
filling_end items size index rest f none = subst (λ (l : List (Option Item)). Indexes index l) (none_left items size index.lines rest f.left none) f.has

-- ---- the second reading

one_line : (line : Option Item) (before : Before) → (with_line before line).lines ≡ before.lines + 1
one_line None b = refl
one_line (Some (Global k x)) b = refl
one_line (Some (ObjectByGlobal o n r k)) b = refl
one_line (Some (ObjectByParent o n r p i)) b = refl
one_line (Some (Field i x)) b = refl
one_line (Some (Total n m)) b = refl

pub record Passing (items : List (Option Item)) (size : ℕ) (before : Before) (rest : List ℕ) : Type 0 where
  pub said : IsBefore before (take before.lines items)
  pub left : Left items size before.lines rest
  pub none : (i : ℕ) → i < before.lines → line_cause items i ≡ None

pub passing_start : (items : List (Option Item)) (text : List ℕ) → items ≡ items_of text → Passing items (length text) no_line text
passing_start items text same = record { said = before_none; left = record { left = same; within = omega arith }; none = λ i h. absurd (omega arith) }

-- the cause of the next line
caused : (items : List (Option Item)) (n : ℕ) (line : Option Item) (why : Option DumpWhy) → slice_get items n ≡ Some line → why ≡ cause_of items (take n items) line → line_cause items n ≡ why
caused items n line why there same = ap (option_and_then (cause_of items (take n items))) there ∙ sym same

pub passing_more : (items : List (Option Item)) (size : ℕ) (before : Before) (rest more : List ℕ) (line : Option Item) (why : Option DumpWhy) → Passing items size before rest → Next items size before.lines more line
    → why ≡ cause_of items (take before.lines items) line → why ≡ None → Passing items size (with_line before line) more
passing_more items size before rest more line why p n same none =
    let one : (with_line before line).lines ≡ before.lines + 1 = one_line line before in
    record {
      said = subst (λ (l : List (Option Item)). IsBefore (with_line before line) l) (sym (ap (λ (m : ℕ). take m items) one ∙ n.taken)) (before_more before (take before.lines items) line p.said);
      left = subst (λ (m : ℕ). Left items size m more) (sym one) n.after;
      none = λ i h. elim (cases_lt i before.lines) [
        | inl lt ↦ p.none i lt
        | inr le ↦ (let at : i ≡ before.lines = omega (arith, one) in ap (line_cause items) at ∙ caused items before.lines line why n.there same ∙ none)
      ];
    }

pub passing_stops : (items : List (Option Item)) (size : ℕ) (before : Before) (rest more : List ℕ) (line : Option Item) (found : Option DumpWhy) (why : DumpWhy) → Passing items size before rest → Next items size before.lines more line
    → found ≡ cause_of items (take before.lines items) line → found ≡ Some why → IsFirstFault (record { line = before.lines + 1; why = why }) items
passing_stops items size before rest more line found why p n same some = record {
  place = before.lines;
  within = slice_get_within items before.lines line n.there;
  line = refl;
  cause = caused items before.lines line found n.there same ∙ some;
  none = p.none;
}

pub passing_end : (items : List (Option Item)) (size : ℕ) (before : Before) (rest : List ℕ) → Passing items size before rest → length rest ≡ 0 → AreRight before items
passing_end items size before rest p none =
    let all : take before.lines items ≡ items = none_left items size before.lines rest p.left none in
    let said : IsBefore before items = subst (λ (l : List (Option Item)). IsBefore before l) all p.said in
    record { said = said; none = λ i h. p.none i (omega (arith, said.lines)) }
