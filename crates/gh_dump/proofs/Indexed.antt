-- What the index has after one line more.
use Rattle.std.proofs.Common.{◌≡◌, ℕ, ◌+◌, ◌==◌, ◌||◌, ◌&&◌, Bool, true, false, not, cond, List, [], ◌∷◌, ◌++◌, length, Option, Some, None, refl, sym, ap, ◌∙◌, subst, arith}
use Rattle.std.specs.HashMap.{get}
use Rattle.std.specs.Option.{is_none}
use Rattle.std.specs.Prelude.{Result, Ok, Err}
use Rattle.std.specs.Result.{OnOk}
use Rattle.std.proofs.lemmas.List.{length-append}
use Rattle.gh_dump.specs.Index.{AddsField, AddsGlobal, AddsObject, field_noted, Indexes}
use Rattle.gh_dump.specs.Kept.{field_here, first_of, holds, is_open, same_field, same_global}
use Rattle.gh_dump.specs.Listing.{bytes_at, field_of, is_global_to, is_object, lists, rank_at}
use Rattle.gh_dump.specs.Names.{same_name}
use Rattle.gh_dump.specs.Vocabulary.{Field, Global, is_some, Item, list_any, Name, ObjectByGlobal, ObjectByParent, option_or, Reference, sum_by}
use Rattle.gh_dump.specs.declared.item.Item.TheVariants.{Total}
use Rattle.gh_dump.specs.declared.index.Index.{Index}
use Rattle.gh_dump.specs.declared.index.Listing.{Listing}
use Rattle.gh_dump.proofs.Growing.{any_more, field_more, first_listed, first_more, open_more, or_false, or_none, sum_more}
use Rattle.gh_dump.proofs.Lines.{name_same}

-- ---- a line that changes nothing of one kind

first_same : (n : ℕ) (xs : List (Option Item)) (x : Option Item) (o : Name) → lists o x ≡ false → first_of n (xs ++ x ∷ []) o ≡ first_of n xs o
first_same n xs x o e =
    first_more n (n + length xs) xs x o refl
    ∙ ap (λ (b : Bool). option_or (first_of n xs o) (cond b (Some (record { line = n + length xs; rank = rank_at x })) None)) e
    ∙ or_none (first_of n xs o)

none_more : (m x : Option Name) (b : Bool) → x ≡ None → option_or m (cond b x None) ≡ m
none_more m x true e = ap (option_or m) e ∙ or_none m
none_more m x false e = or_none m

field_same : (xs : List (Option Item)) (x : Option Item) (p : Name) (i : ℕ) → field_here x i ≡ None → field_of (xs ++ x ∷ []) p i ≡ field_of xs p i
field_same xs x p i e = field_more xs x p i ∙ none_more (field_of xs p i) (field_here x i) (is_open xs p) e

any_same : (p : Option Item → Bool) (xs : List (Option Item)) (x : Option Item) → p x ≡ false → list_any p (xs ++ x ∷ []) ≡ list_any p xs
any_same p xs x e = any_more p xs x ∙ ap (λ (b : Bool). list_any p xs || b) e ∙ or_false (list_any p xs)

open_same : (xs : List (Option Item)) (x : Option Item) (p : Name) → is_object x ≡ false → is_open (xs ++ x ∷ []) p ≡ is_open xs p
open_same xs x p e = open_more xs x p ∙ ap (λ (b : Bool). cond b (lists p x && not (list_any (lists p) xs)) (is_open xs p)) e

sum_same : (f : Option Item → ℕ) (xs : List (Option Item)) (x : Option Item) → f x ≡ 0 → sum_by f (xs ++ x ∷ []) ≡ sum_by f xs
sum_same f xs x e = omega (arith, sum_more f xs x, e)

length_more : (xs : List (Option Item)) (x : Option Item) → length (xs ++ x ∷ []) ≡ length xs + 1
length_more xs x = omega (arith, length-append xs (x ∷ []))

-- ---- the line of an object

pub record ObjectLine (line : Option Item) (o : Name) (bytes rank : ℕ) : Type 0 where
  pub listed : (q : Name) → lists q line ≡ same_name q o
  pub says_rank : rank_at line ≡ rank
  pub says_bytes : bytes_at line ≡ bytes
  pub object : is_object line ≡ true
  pub no_global : (k : ℕ) (q : Name) → is_global_to k q line ≡ false
  pub no_field : (i : ℕ) → field_here line i ≡ None

owner_more : (q o : Name) (m : Option Listing) (items : List (Option Item)) → is_some m ≡ list_any (lists o) items
    → holds (cond (is_none m) (Some o) None) q ≡ (same_name q o && not (list_any (lists q) items))
owner_more q o m items e = go (same_name q o) refl m e where
  go : (b : Bool) → same_name q o ≡ b → (m : Option Listing) → is_some m ≡ list_any (lists o) items → holds (cond (is_none m) (Some o) None) q ≡ (b && not (list_any (lists q) items))
  go false f None e = f
  go false f (Some x) e = refl
  go true t None e =
      let same : list_any (lists q) items ≡ list_any (lists o) items = ap (λ (n : Name). list_any (lists n) items) (name_same q o t) in
      t ∙ ap not (e ∙ sym same)
  go true t (Some x) e =
      let same : list_any (lists q) items ≡ list_any (lists o) items = ap (λ (n : Name). list_any (lists n) items) (name_same q o t) in
      ap not (e ∙ sym same)

pub object_more : (old new : Index) (o : Name) (bytes rank : ℕ) (items : List (Option Item)) (line : Option Item) → ObjectLine line o bytes rank → AddsObject old new o bytes rank → Indexes old items → Indexes new (items ++ line ∷ [])
object_more old new o bytes rank items line l a h = record {
  firsts = λ q.
      let here : ◌≡◌ {A = Option Listing} (cond (same_name q o) (Some (record { line = old.lines; rank = rank })) None) (cond (lists q line) (Some (record { line = old.lines; rank = rank_at line })) None) = rw (l.listed q, l.says_rank) refl in
      let at : old.lines ≡ 0 + length items = omega (arith, h.lines) in
      a.firsts q
      ∙ ap (λ (m : Option Listing). option_or m (cond (same_name q o) (Some (record { line = old.lines; rank = rank })) None)) (h.firsts q)
      ∙ ap (option_or (first_of 0 items q)) here
      ∙ sym (first_more 0 old.lines items line q at);
  fields = λ p i. ap (λ (x : Index). get same_field x.fields (p, i)) a.others ∙ h.fields p i ∙ sym (field_same items line p i (l.no_field i));
  globals = λ k q. ap (λ (x : Index). is_some (get same_global x.globals (k, q))) a.others ∙ h.globals k q ∙ sym (any_same (is_global_to k q) items line (l.no_global k q));
  owner = λ q.
      let known : is_some (get same_name old.firsts o) ≡ list_any (lists o) items = ap (λ (m : Option Listing). is_some m) (h.firsts o) ∙ first_listed 0 items o in
      let after : is_open (items ++ line ∷ []) q ≡ (lists q line && not (list_any (lists q) items)) = open_more items line q ∙ ap (λ (b : Bool). cond b (lists q line && not (list_any (lists q) items)) (is_open items q)) l.object in
      ap (λ (x : Index). holds x.owner q) a.others
      ∙ owner_more q o (get same_name old.firsts o) items known
      ∙ ap (λ (b : Bool). b && not (list_any (lists q) items)) (sym (l.listed q))
      ∙ sym after;
  lines = omega (arith, ap (λ (x : Index). x.lines) a.others, h.lines, length_more items line);
  objects =
      let one : ◌≡◌ {A = ℕ} (cond (is_object line) 1 0) 1 = ap (λ (b : Bool). cond b 1 0) l.object in
      omega (arith, ap (λ (x : Index). x.objects) a.others, h.objects, sum_more (λ x. cond (is_object x) 1 0) items line, one);
  bytes = omega (arith, ap (λ (x : Index). x.bytes) a.others, h.bytes, sum_more bytes_at items line, l.says_bytes);
}

-- ---- the other lines

noted_open : (m : Option Name) (i : ℕ) (o q : Name) (j : ℕ) → field_noted m i o q j ≡ cond (holds m q) (cond (j == i) (Some o) None) None
noted_open None i o q j = refl
noted_open (Some p) i o q j = go (same_name q p) where
  go : (b : Bool) → cond (b && (j == i)) (Some o) None ≡ cond b (cond (j == i) (Some o) None) None
  go true = refl
  go false = refl

pub field_line_more : (old new : Index) (i : ℕ) (x : Reference) (items : List (Option Item)) → AddsField old new i x.object → Indexes old items → Indexes new (items ++ Some (Field i x) ∷ [])
field_line_more old new i x items a h =
    let line : Option Item = Some (Field i x) in
    record {
      firsts = λ q. ap (λ (n : Index). get same_name n.firsts q) a.others ∙ h.firsts q ∙ sym (first_same 0 items line q refl);
      fields = λ q j.
          a.fields q j
          ∙ ap (λ (m : Option Name). option_or m (field_noted old.owner i x.object q j)) (h.fields q j)
          ∙ ap (option_or (field_of items q j)) (noted_open old.owner i x.object q j ∙ ap (λ (b : Bool). cond b (cond (j == i) (Some x.object) None) None) (h.owner q))
          ∙ sym (field_more items line q j);
      globals = λ k q. ap (λ (n : Index). is_some (get same_global n.globals (k, q))) a.others ∙ h.globals k q ∙ sym (any_same (is_global_to k q) items line refl);
      owner = λ q. ap (λ (n : Index). holds n.owner q) a.others ∙ h.owner q ∙ sym (open_same items line q refl);
      lines = omega (arith, ap (λ (n : Index). n.lines) a.others, h.lines, length_more items line);
      objects = ap (λ (n : Index). n.objects) a.others ∙ h.objects ∙ sym (sum_same (λ x. cond (is_object x) 1 0) items line refl);
      bytes = ap (λ (n : Index). n.bytes) a.others ∙ h.bytes ∙ sym (sum_same bytes_at items line refl);
    }

pub global_line_more : (old new : Index) (k : ℕ) (x : Reference) (items : List (Option Item)) → AddsGlobal old new k x.object → Indexes old items → Indexes new (items ++ Some (Global k x) ∷ [])
global_line_more old new k x items a h =
    let line : Option Item = Some (Global k x) in
    record {
      firsts = λ q. ap (λ (n : Index). get same_name n.firsts q) a.others ∙ h.firsts q ∙ sym (first_same 0 items line q refl);
      fields = λ p i. ap (λ (n : Index). get same_field n.fields (p, i)) a.others ∙ h.fields p i ∙ sym (field_same items line p i refl);
      globals = λ j q. a.globals j q ∙ ap (λ (b : Bool). b || ((j == k) && same_name q x.object)) (h.globals j q) ∙ sym (any_more (is_global_to j q) items line);
      owner = λ q. ap (λ (n : Index). holds n.owner q) a.others ∙ h.owner q ∙ sym (open_same items line q refl);
      lines = omega (arith, ap (λ (n : Index). n.lines) a.others, h.lines, length_more items line);
      objects = ap (λ (n : Index). n.objects) a.others ∙ h.objects ∙ sym (sum_same (λ x. cond (is_object x) 1 0) items line refl);
      bytes = ap (λ (n : Index). n.bytes) a.others ∙ h.bytes ∙ sym (sum_same bytes_at items line refl);
    }

-- a line that lists nothing
pub record OtherLine (line : Option Item) : Type 0 where
  pub listed : (q : Name) → lists q line ≡ false
  pub bytes : bytes_at line ≡ 0
  pub object : is_object line ≡ false
  pub no_global : (k : ℕ) (q : Name) → is_global_to k q line ≡ false
  pub no_field : (i : ℕ) → field_here line i ≡ None

pub other_more : (old : Index) (items : List (Option Item)) (line : Option Item) → OtherLine line → Indexes old items → Indexes (record old { lines = old.lines + 1 }) (items ++ line ∷ [])
other_more old items line l h = record {
  firsts = λ q. h.firsts q ∙ sym (first_same 0 items line q (l.listed q));
  fields = λ p i. h.fields p i ∙ sym (field_same items line p i (l.no_field i));
  globals = λ k q. h.globals k q ∙ sym (any_same (is_global_to k q) items line (l.no_global k q));
  owner = λ q. h.owner q ∙ sym (open_same items line q l.object);
  lines = omega (arith, h.lines, length_more items line);
  objects = h.objects ∙ sym (sum_same (λ x. cond (is_object x) 1 0) items line (ap (λ (b : Bool). cond b 1 0) l.object));
  bytes = h.bytes ∙ sym (sum_same bytes_at items line l.bytes);
}

pub other_moves : (old new : Index) (items : List (Option Item)) (line : Option Item) → OtherLine line → new ≡ record old { lines = old.lines + 1 } → Indexes old items → Indexes new (items ++ line ∷ [])
other_moves old new items line l e h = subst (λ (x : Index). Indexes x (items ++ line ∷ [])) (sym e) (other_more old items line l h)

-- what follows where a call succeeds
pub on_ok : {T E P Q : Type 0} (r : Result T E) → OnOk r P → (P → Q) → OnOk r Q
on_ok (Ok x) p f = f p
on_ok (Err e) p f = p

-- ---- the lines by their forms

pub by_global_line : (o : Name) (b r k : ℕ) → ObjectLine (Some (ObjectByGlobal o b r k)) o b r
by_global_line o b r k = record { listed = λ q. refl; says_rank = refl; says_bytes = refl; object = refl; no_global = λ j q. refl; no_field = λ i. refl }

pub by_parent_line : (o : Name) (b r : ℕ) (p : Name) (i : ℕ) → ObjectLine (Some (ObjectByParent o b r p i)) o b r
by_parent_line o b r p i = record { listed = λ q. refl; says_rank = refl; says_bytes = refl; object = refl; no_global = λ j q. refl; no_field = λ j. refl }

pub total_line_other : (n b : ℕ) → OtherLine (Some (Total n b))
total_line_other n b = record { listed = λ q. refl; bytes = refl; object = refl; no_global = λ j q. refl; no_field = λ j. refl }

pub no_line_other : OtherLine None
no_line_other = record { listed = λ q. refl; bytes = refl; object = refl; no_global = λ j q. refl; no_field = λ j. refl }
