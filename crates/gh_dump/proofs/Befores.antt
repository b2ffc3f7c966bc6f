-- What the lines before a line say, after one line more.
use Rattle.std.proofs.Common.{◌≡◌, ℕ, ◌+◌, ◌||◌, Bool, true, false, List, [], ◌∷◌, ◌++◌, Option, Some, None, refl, sym, ap, ◌∙◌, arith}
use Rattle.std.proofs.lemmas.List.{length-append}
use Rattle.gh_dump.specs.Kept.{IsBefore, no_line, with_line}
use Rattle.gh_dump.specs.Listing.{field_mark, global_at, is_object, is_total, last_some}
use Rattle.gh_dump.specs.Vocabulary.{Field, Global, Item, ObjectByGlobal, ObjectByParent, option_flatten, option_or}
use Rattle.gh_dump.specs.declared.before.Before.{Before}
use Rattle.gh_dump.specs.declared.item.Item.TheVariants.{Total}
use Rattle.gh_dump.proofs.Growing.{any_more, last_more, or_false}

pub before_none : IsBefore no_line []
unfolding last_some
before_none = record { lines = refl; object = refl; total = refl; global = refl; field = refl }

or_true : (a : Bool) → true ≡ (a || true)
or_true true = refl
or_true false = refl

lines_after : (b : Before) (x : Option Item) → (with_line b x).lines ≡ b.lines + 1
lines_after b None = refl
lines_after b (Some (Global k x)) = refl
lines_after b (Some (ObjectByGlobal o n r k)) = refl
lines_after b (Some (ObjectByParent o n r p i)) = refl
lines_after b (Some (Field i x)) = refl
lines_after b (Some (Total n m)) = refl

object_after : (b : Before) (x : Option Item) → (with_line b x).has_object ≡ (b.has_object || is_object x)
object_after b None = sym (or_false b.has_object)
object_after b (Some (Global k x)) = sym (or_false b.has_object)
object_after b (Some (ObjectByGlobal o n r k)) = or_true b.has_object
object_after b (Some (ObjectByParent o n r p i)) = or_true b.has_object
object_after b (Some (Field i x)) = sym (or_false b.has_object)
object_after b (Some (Total n m)) = sym (or_false b.has_object)

total_after : (b : Before) (x : Option Item) → (with_line b x).has_total ≡ (b.has_total || is_total x)
total_after b None = sym (or_false b.has_total)
total_after b (Some (Global k x)) = sym (or_false b.has_total)
total_after b (Some (ObjectByGlobal o n r k)) = sym (or_false b.has_total)
total_after b (Some (ObjectByParent o n r p i)) = sym (or_false b.has_total)
total_after b (Some (Field i x)) = sym (or_false b.has_total)
total_after b (Some (Total n m)) = or_true b.has_total

global_after : (b : Before) (x : Option Item) → (with_line b x).last_global ≡ option_or (global_at x) b.last_global
global_after b None = refl
global_after b (Some (Global k x)) = refl
global_after b (Some (ObjectByGlobal o n r k)) = refl
global_after b (Some (ObjectByParent o n r p i)) = refl
global_after b (Some (Field i x)) = refl
global_after b (Some (Total n m)) = refl

field_after : (b : Before) (x : Option Item) (m : Option (Option ℕ)) → b.last_field ≡ option_flatten m → (with_line b x).last_field ≡ option_flatten (option_or (field_mark x) m)
field_after b None m e = e
field_after b (Some (Global k x)) m e = e
field_after b (Some (ObjectByGlobal o n r k)) m e = refl
field_after b (Some (ObjectByParent o n r p i)) m e = refl
field_after b (Some (Field i x)) m e = refl
field_after b (Some (Total n k)) m e = e

pub before_more : (b : Before) (items : List (Option Item)) (x : Option Item) → IsBefore b items → IsBefore (with_line b x) (items ++ x ∷ [])
before_more b items x h = record {
  lines = omega (arith, lines_after b x, h.lines, length-append items (x ∷ []));
  object = object_after b x ∙ ap (λ (t : Bool). t || is_object x) h.object ∙ sym (any_more is_object items x);
  total = total_after b x ∙ ap (λ (t : Bool). t || is_total x) h.total ∙ sym (any_more is_total items x);
  global = global_after b x ∙ ap (option_or (global_at x)) h.global ∙ sym (last_more global_at items x);
  field = field_after b x (last_some field_mark items) h.field ∙ sym (ap (λ (m : Option (Option ℕ)). option_flatten m) (last_more field_mark items x));
}
