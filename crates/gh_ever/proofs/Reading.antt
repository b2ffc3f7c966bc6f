-- What is read from the lists was made.
use Rattle.std.proofs.Common.{◌≡◌, Option, Some, None, refl, sym, subst}
use Rattle.gh_ever.proofs.Vocabulary.{EverValue, Inside, IsKnown, IsSound, Lists, lists_of, Nil, Place, Sound, stored_value, unwrap_or}

known_or_nil : (lists : Lists) (place : Place) → Sound lists → (o : Option EverValue) → stored_value lists.cells place ≡ o → IsKnown lists.objects (unwrap_or o Nil)
known_or_nil lists place s None e = tt
known_or_nil lists place s (Some v) e = s.values place v e

-- a register or a global holds nil, a number or an object that was made
pub read_known : (a : Inside) (lists : Lists) (place : Place) (v : EverValue) → lists_of a ≡ lists → IsSound a → v ≡ unwrap_or (stored_value a.cells.items place) Nil → IsKnown lists.objects v
read_known a lists place v is s e = subst (λ (l : Lists). IsKnown l.objects v) is (subst (λ (x : EverValue). IsKnown a.objects.items x) (sym e) (known_or_nil (lists_of a) place s.sound (stored_value a.cells.items place) refl))

-- so does a field
pub found_known : (a : Inside) (lists : Lists) (place : Place) (v : EverValue) → lists_of a ≡ lists → IsSound a → stored_value a.cells.items place ≡ Some v → IsKnown lists.objects v
found_known a lists place v is s e = subst (λ (l : Lists). IsKnown l.objects v) is (s.sound.values place v e)
