-- What the code leaves in a `Kept` is sound.
use Rattle.std.proofs.Common.{◌≡◌, ℕ, ◌+◌, ◌-◌, ◌<◌, ◌≤◌, Bool, cond, List, [], ◌∷◌, ◌++◌, length, get_or, Option, Some, None, sym, ◌∙◌, ap, subst, arith, sum, vec_len, vec_capacity, Vec, HashMap, BuildHasherDefault, FoldHasher, Global}
use Rattle.std.specs.Vec.{with_item}
use Rattle.std.proofs.lemmas.List.{get_or_read}
use Rattle.gh_ever.proofs.Vocabulary.{Cell, ever_of, EverValue, FindsCells, get, Inside, IsInKnown, IsKnown, IsSound, kind_of, Lists, lists_of, Name, next_name, Object, Place, put_value, Register, same_name, same_pair, set, Sound, spare, spent, with_object, with_register, with_value}
use Rattle.gh_ever.proofs.Writing.{ever-with_cell, sound_put, sound_spend, sum-spent}
use Rattle.gh_ever.proofs.Making.{ever-new, fresh-next, fresh_unmade, kind_of-push, sound_new}
use Rattle.gh_ever.proofs.Places.{name_turned}

-- a number that was read and set one lower
lowered : (left : List ℕ) (g x : ℕ) → g < length left → x ≡ get_or left g x → set left g (x - 1) ≡ spent left g
lowered left g x h e = ap (λ (y : ℕ). set left g (y - 1)) (get_or_read left g x h e 0)

raised : (made : List ℕ) (g x : ℕ) → g < length made → x ≡ get_or made g x → set made g (x + 1) ≡ set made g (get_or made g 0 + 1)
raised made g x h e = ap (λ (y : ℕ). set made g (y + 1)) (get_or_read made g x h e 0)

pub write_after : (v : Lists) (cells : List Cell) (left : List ℕ) (p : Place) (x : EverValue) → cells ≡ put_value v.cells p x → ever_of (record v { cells = cells; left = left }) ≡ with_value (ever_of v) p x
write_after v cells left p x e = ap (λ (cs : List Cell). ever_of (record v { cells = cs; left = left })) e ∙ ever-with_cell v p x left

pub write_sound : (a : Inside) (cells : Vec Cell Global) (places : HashMap Place ℕ (BuildHasherDefault FoldHasher)) (g n : ℕ) (p : Place) (x : EverValue) → IsSound a → g < length a.left.items → 0 < get_or a.left.items g 0 → n ≡ get_or a.left.items g n →
    cells.items ≡ put_value a.cells.items p x → vec_capacity cells ≡ vec_capacity a.cells → vec_len cells ≤ vec_len a.cells + 1 → FindsCells places cells.items → spare a.places ≤ spare places + 1 → IsInKnown a.objects.items p → IsKnown a.objects.items x →
    IsSound (record a { left = with_item a.left g (n - 1); cells = cells; places = places })
write_sound a cells places g n p x s h due e f room len finds uses inside known = record {
  sound = subst (λ (l : List ℕ). Sound (record (lists_of a) { left = l; cells = cells.items })) (sym (lowered a.left.items g n h e))
      (subst (λ (cs : List Cell). Sound (record (lists_of a) { left = spent a.left.items g; cells = cs })) (sym f)
      (sound_put (record (lists_of a) { left = spent a.left.items g }) p x (sound_spend (lists_of a) g s.sound) inside known));
  objects = omega (arith, fewer, s.objects);
  cells = omega (arith, fewer, s.cells, len);
  kinds = s.kinds;
  places = finds;
  more_kinds = omega (arith, fewer, s.more_kinds);
  more_places = omega (arith, fewer, s.more_places, uses);
} where
  fewer : sum (set a.left.items g (n - 1)) + 1 ≡ sum a.left.items
  fewer = ap (λ (l : List ℕ). sum l + 1) (lowered a.left.items g n h e) ∙ sum-spent a.left.items g h due

pub make_after : (v : Lists) (cells : List Cell) (left : List ℕ) (objects : List Object) (m g d t : ℕ) (n : Name) → Sound v → g < length v.left → n ≡ next_name (ever_of v) g → m ≡ get_or v.made g m →
    objects ≡ v.objects ++ record { name = n; kind = t } ∷ [] → cells ≡ put_value v.cells (Register g d) (EverValue.Ref n) →
    ever_of (record v { made = set v.made g (m + 1); objects = objects; cells = cells; left = left }) ≡ with_register (with_object v.shapes (ever_of v) g t) g d (EverValue.Ref n)
make_after v cells left objects m g d t n s h named e o c =
    ap (λ (cs : List Cell). ever_of (record v { made = set v.made g (m + 1); objects = objects; cells = cs; left = left })) c
    ∙ ap (λ (os : List Object). ever_of (record v { made = set v.made g (m + 1); objects = os; cells = put_value v.cells (Register g d) (EverValue.Ref n); left = left })) o
    ∙ ap (λ (ms : List ℕ). ever_of (record v { made = ms; objects = v.objects ++ record { name = n; kind = t } ∷ []; cells = put_value v.cells (Register g d) (EverValue.Ref n); left = left })) (raised v.made g m within e)
    ∙ subst (λ (x : Name). ever_of (record v { made = set v.made g (get_or v.made g 0 + 1); objects = v.objects ++ record { name = x; kind = t } ∷ []; cells = put_value v.cells (Register g d) (EverValue.Ref x); left = left })
    ≡ with_register (with_object v.shapes (ever_of v) g t) g d (EverValue.Ref x)) (sym (named ∙ fresh-next v g)) (ever-new v g d t left s h ∙ ap (λ (x : Name). with_register (with_object v.shapes (ever_of v) g t) g d (EverValue.Ref x)) (fresh-next v g)) where
      within : g < length v.made
      within = omega (arith, s.counted)

pub make_sound : (a : Inside) (cells : Vec Cell Global) (places : HashMap Place ℕ (BuildHasherDefault FoldHasher)) (objects : Vec Object Global) (kinds : HashMap (ℕ × ℕ) ℕ (BuildHasherDefault FoldHasher)) (m g i d t : ℕ) (n : Name) → IsSound a → g < length a.left.items → 0 < get_or a.left.items g 0 → t < length a.shapes → n ≡ next_name (ever_of (lists_of a)) g →
    m ≡ get_or a.made.items g m → i ≡ get_or a.left.items g i →
    objects.items ≡ a.objects.items ++ record { name = n; kind = t } ∷ [] → vec_capacity objects ≡ vec_capacity a.objects → vec_len objects ≡ vec_len a.objects + 1 →
    cells.items ≡ put_value a.cells.items (Register g d) (EverValue.Ref n) → vec_capacity cells ≡ vec_capacity a.cells → vec_len cells ≤ vec_len a.cells + 1 →
    FindsCells places cells.items → spare a.places ≤ spare places + 1 →
    ((q : ℕ × ℕ) → get same_pair kinds q ≡ cond (same_pair (n.g, n.k) q) (Some t) (get same_pair a.kinds q)) → spare a.kinds ≤ spare kinds + 1 →
    IsSound (record a { left = with_item a.left g (i - 1); made = with_item a.made g (m + 1); objects = objects; kinds = kinds; cells = cells; places = places })
make_sound a cells places objects kinds m g i d t n s h due kind named e f o oroom olen c croom clen finds uses updates kuses = record {
  sound = rw (lowered a.left.items g i h f, raised a.made.items g m within e, o, c, named ∙ fresh-next (lists_of a) g) (sound_new (lists_of a) g d t s.sound h due kind);
  objects = omega (arith, fewer, s.objects);
  cells = omega (arith, fewer, s.cells);
  kinds = λ q.
      updates (q.g, q.k)
      ∙ ap (λ (x : Option ℕ). cond (same_name n q) (Some t) x) (s.kinds q)
      ∙ ap (λ (b : Bool). cond b (Some t) (kind_of a.objects.items q)) (name_turned n q)
      ∙ sym (kind_of-push a.objects.items n t q unmade)
      ∙ ap (λ (os : List Object). kind_of os q) (sym o);
  places = finds;
  more_kinds = omega (arith, fewer, s.more_kinds, kuses);
  more_places = omega (arith, fewer, s.more_places, uses);
} where
  unmade : kind_of a.objects.items n ≡ None
  unmade = subst (λ (x : Name). kind_of a.objects.items x ≡ None) (sym (named ∙ fresh-next (lists_of a) g)) (fresh_unmade (lists_of a) g s.sound)

  within : g < length a.made.items
  within = omega (arith, s.sound.counted)

  fewer : sum (set a.left.items g (i - 1)) + 1 ≡ sum a.left.items
  fewer = ap (λ (l : List ℕ). sum l + 1) (lowered a.left.items g i h f) ∙ sum-spent a.left.items g h due
