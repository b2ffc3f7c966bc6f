-- A text in which no line has a cause lists exactly what its globals reach: each listed object is reached, by induction on its rank, and
-- each object that is reached is listed, since each reference is of a listed object.
use Rattle.std.proofs.Common.{◌≡◌, ℕ, zero, suc, ◌+◌, ◌<◌, ◌&&◌, true, false, List, take, Option, Some, None, sym, ap, ◌∙◌, subst, arith, inl, inr}
use Rattle.std.proofs.lemmas.Bool.{cases_lt}
use Rattle.gh_dump.specs.Causes.{is_above, is_held, is_parent_fault, is_twice_fault, is_unknown_fault}
use Rattle.gh_dump.specs.Certificate.{CertifiesReach, from_field, from_global, ReachedBy}
use Rattle.gh_dump.specs.Listing.{field_of, is_global_to, is_listed, lists, objects_listed, rank_at, rank_of}
use Rattle.gh_dump.specs.Vocabulary.{Field, Global, Item, list_any, Name, ObjectByGlobal, ObjectByParent, slice_get}
use Rattle.gh_dump.specs.declared.item.Item.TheVariants.{Total}
use Rattle.gh_dump.proofs.Lists.{and_parts, any_at, any_before, not_false}
use Rattle.gh_dump.proofs.Lines.{above_some, field_stands, global_line, held_some, name_same, rank_stands, ranked, twice_of}

-- what is used of the lines: none has one of these causes
pub record Right (items : List (Option Item)) : Type 0 where
  pub twice : (i : ℕ) (line : Option Item) → slice_get items i ≡ Some line → is_twice_fault (take i items) line ≡ false
  pub unknown : (i : ℕ) (line : Option Item) → slice_get items i ≡ Some line → is_unknown_fault items line ≡ false
  pub parent : (i : ℕ) (line : Option Item) → slice_get items i ≡ Some line → is_parent_fault items line ≡ false

-- ---- what is listed is reached

by_global : (items : List (Option Item)) (o x : Name) (k : ℕ) → o ≡ x → list_any (is_global_to k x) items ≡ true → ReachedBy items o
by_global items o x k e h =
    let a = any_at (is_global_to k x) items h in
    let g = global_line k x a.1 a.3 in
    subst (ReachedBy items) (sym (e ∙ g.3)) (from_global a.0 g.0 g.1 (a.2 ∙ ap (λ (l : Option Item). Some l) g.2))

by_parent : (items : List (Option Item)) (o x p : Name) (r i : ℕ) → o ≡ x → (is_above (rank_of items p) r && is_held (field_of items p i) x) ≡ true
    → ((q : ℕ) → q + 1 ≡ r → rank_of items p ≡ Some q → ReachedBy items p) → ReachedBy items o
by_parent items o x p r i e h below =
    let a = and_parts (is_above (rank_of items p) r) (is_held (field_of items p i) x) h in
    let q = above_some (rank_of items p) r a.0 in
    let y = held_some (field_of items p i) x a.1 in
    let f = field_stands items p i y.0 y.1 in
    let reached : ReachedBy items f.0 = subst (ReachedBy items) f.1 (below q.0 q.2 q.1) in
    subst (ReachedBy items) (f.2.same ∙ y.2 ∙ sym e) (from_field f.2.place f.2.number f.0 f.2.held reached f.2.stands f.2.under)

origin : (items : List (Option Item)) (r : ℕ) (o : Name) (line : Option Item) → lists o line ≡ true → rank_at line ≡ r → is_parent_fault items line ≡ false
    → ((q : ℕ) (p : Name) → q + 1 ≡ r → rank_of items p ≡ Some q → ReachedBy items p) → ReachedBy items o
origin items r o None l e h below = absurd (cc)
origin items r o (Some (Global k x)) l e h below = absurd (cc)
origin items r o (Some (ObjectByGlobal x b s k)) l e h below = by_global items o x k (name_same o x l) (not_false _ h)
origin items r o (Some (ObjectByParent x b s p i)) l e h below = by_parent items o x p s i (name_same o x l) (not_false _ h) (λ q g n. below q p (g ∙ e) n)
origin items r o (Some (Field i x)) l e h below = absurd (cc)
origin items r o (Some (Total n b)) l e h below = absurd (cc)

reach : (items : List (Option Item)) → Right items → (r : ℕ) (o : Name) → rank_of items o ≡ Some r → ReachedBy items o
reach items right zero o h =
    let s = rank_stands items o 0 h in
    origin items 0 o s.1 s.3 s.4 (right.parent s.0 s.1 s.2) (λ q p e n. absurd (omega arith))
reach items right (suc r) o h =
    let s = rank_stands items o (suc r) h in
    origin items (suc r) o s.1 s.3 s.4 (right.parent s.0 s.1 s.2) (λ q p e n. let f : q ≡ r = omega arith in reach items right r p (n ∙ ap (λ (m : ℕ). Some m) f))

-- ---- what is reached is listed

closed : (items : List (Option Item)) → Right items → {o : Name} → ReachedBy items o → is_listed items o ≡ true
closed items right (from_global i k x e) = not_false (is_listed items x.object) (right.unknown i (Some (Global k x)) e)
closed items right (from_field i k p x r e u) = not_false (is_listed items x.object) (right.unknown i (Some (Field k x)) e)

-- ---- each object is listed once

not_again : (items : List (Option Item)) → Right items → (o : Name) (i j : ℕ) (a b : Option Item) → i < j → slice_get items i ≡ Some a → slice_get items j ≡ Some b → lists o a ≡ true → lists o b ≡ true → ⊥
not_again items right o i j a b lt ea eb la lb =
    let none : is_twice_fault (take j items) b ≡ false = right.twice j b eb in
    let some : is_listed (take j items) o ≡ true = any_before (lists o) items i j a lt ea la in
    let same : is_twice_fault (take j items) b ≡ is_listed (take j items) o = twice_of o (take j items) b lb in
    cc

once : (items : List (Option Item)) → Right items → (o : Name) (i j : ℕ) (a b : Option Item) → slice_get items i ≡ Some a → slice_get items j ≡ Some b → lists o a ≡ true → lists o b ≡ true → i ≡ j
once items right o i j a b ea eb la lb = elim (cases_lt i j) [
  | inl lt ↦ absurd (not_again items right o i j a b lt ea eb la lb)
  | inr le ↦ elim (cases_lt j i) [
    | inl lt ↦ absurd (not_again items right o j i b a lt eb ea lb la)
    | inr ge ↦ omega arith
  ]
]

pub certifies : (items : List (Option Item)) (n : ℕ) → Right items → n ≡ objects_listed items → CertifiesReach items n
certifies items n right count = record {
  reached = λ o. (λ h. let s = ranked items o h in reach items right s.0 o s.1, λ r. closed items right r);
  once = once items right;
  count = count;
}
