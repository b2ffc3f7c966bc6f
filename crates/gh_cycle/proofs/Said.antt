-- What marking says of the words of an object is what its type says, while processors go on beside it.
use Rattle.std.proofs.Common.{◌≡◌, ℕ, ◌<◌, Bool, sym, ◌∙◌}
use Rattle.gh_cycle.proofs.Vocabulary.{Arena, Heap, IsBeside, IsKnownObject, Marking, Name, points, shape_for, size_for, IsSince, seen_word}
use Rattle.gh_marks.specs.Moves.{seen_is}

-- where each object is named by its first word alone, what is seen of a word names no more than the word
pub seen-since : (since : ℕ → Bool) (base : ℕ → ℕ) → ((x : ℕ) → base x ≡ x) → (w : ℕ) → IsSince since w → IsSince since (seen_word base w)
seen-since since base is w known o e = known o (sym (seen_is base is w) ∙ e)

pub record IsSaid (z : Arena) (h : Heap) (s : Marking) (n : Name) : Type 0 where
  pub base : (x : ℕ) → s.extents.base x ≡ h.place n → x ≡ h.place n
  pub size : s.extents.size (h.place n) ≡ size_for z.shapes h.ever.type_of n
  pub pointer : (k : ℕ) → k < size_for z.shapes h.ever.type_of n → s.extents.pointer (h.place n) k ≡ points z.shapes h.ever.type_of n k
  pub noscan : s.extents.noscan (h.place n) ≡ (shape_for z.shapes h.ever.type_of n).noscan

pub said-beside : (z : Arena) (h : Heap) (s : Marking) → IsBeside z h s → (n : Name) → IsKnownObject h s n → IsSaid z h s n
said-beside z h s c n o = record { base = λ x e. sym (c.base x) ∙ e; size = c.size n o; pointer = λ k l. c.pointer n k o l; noscan = c.noscan n o }
