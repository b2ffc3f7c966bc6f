-- The lists before any statement.
use Rattle.std.proofs.Common.{◌≡◌, ℕ, ◌<◌, ◌≤◌, ◌^◌, false, List, [], length, get_or, replicate, refl, sym, ◌∙◌, ap, arith, inl, inr, sum, vec_len, vec_capacity}
use Rattle.std.proofs.lemmas.List.{length-replicate, get_or-replicate}
use Rattle.gh_ever.proofs.Vocabulary.{All, AreSized, cases_lt, ever_of, get_or_past, Inside, IsSound, opening_ever, opening_lists, spare}
use Rattle.gh_base.specs.declared.shape.Shape.{Shape}
use Rattle.gh_ever.proofs.Same.{same_ever}

same_everywhere : {A : Type 0} (n i : ℕ) (x : A) → get_or (replicate n x) i x ≡ x
same_everywhere n i x = elim (cases_lt i n) [
  | inl h ↦ get_or-replicate n i x x h
  | inr h ↦ get_or_past (replicate n x) i x (omega (arith, length-replicate n x))
]

below : (left : List ℕ) (g : ℕ) → All (λ n. n < 2 ^ 32) left → get_or left g 0 < 2 ^ 32
below left g small = elim (cases_lt g (length left)) [
  | inl h ↦ small g 0 h
  | inr h ↦ omega (arith, get_or_past left g 0 h)
]

pub opening_sound : (a : Inside) (n : ℕ) → AreSized a.shapes → All (λ x. x < 2 ^ 32) a.left.items → length a.left.items ≡ n → a.made.items ≡ replicate n 0 → a.ended.items ≡ replicate n false → a.objects.items ≡ [] → a.cells.items ≡ [] →
    vec_len a.objects ≡ 0 → vec_len a.cells ≡ 0 → vec_capacity a.objects ≡ sum a.left.items → vec_capacity a.cells ≡ sum a.left.items →
    a.kinds.entries ≡ [] → a.places.entries ≡ [] → sum a.left.items ≤ spare a.kinds → sum a.left.items ≤ spare a.places → IsSound a
opening_sound a n sized small count made ended objects cells no_objects no_cells room_objects room_cells no_kinds no_places more_kinds more_places = record {
  sound = record {
    sized = sized;
    counted = ap length made ∙ length-replicate n 0 ∙ sym count;
    told = ap length ended ∙ length-replicate n false ∙ sym count;
    fits = λ g. rw made (omega (arith, same_everywhere {A = ℕ} n g 0, below a.left.items g small));
    numbered = rw objects (λ m kind e. cc);
    typed = rw objects (λ m kind e. cc);
    values = rw cells (λ p v e. cc);
    places = rw cells (λ p v e. cc);
    distinct = rw cells tt;
  };
  objects = omega arith;
  cells = omega arith;
  kinds = rw (objects, no_kinds) (λ m. refl);
  places = rw (cells, no_places) (λ p. refl);
  more_kinds = more_kinds;
  more_places = more_places;
}

pub opens : (shapes : List Shape) (left : List ℕ) → ever_of (opening_lists shapes left) ≡ opening_ever
unfolding ever_of
opens shapes left = same_ever (ever_of (opening_lists shapes left)) opening_ever (λ g. same_everywhere (length left) g 0) (λ n. refl) (λ n k. refl) (λ k. refl) (λ g d. refl) (λ g. same_everywhere (length left) g false)
