-- What a start of a list is: a list is one of itself, a start of a start is one, and one of a legal list is legal.
use Rattle.std.proofs.Common.{◌⊎◌, refl, sym, subst, inl, inr, List, [], ◌∷◌}
use Rattle.gh_lists.specs.Vocabulary.{Actor, Entry, Legal, Op, Setting}
use Rattle.gh_lists.specs.Marking.{IsStartOf}

pub whole : (es : List (Entry Op)) → IsStartOf es es
whole [] = refl
whole (e ∷ es) = inl refl

-- a start of a start is a start
pub start_of_start : (first start es : List (Entry Op)) → IsStartOf first start → IsStartOf start es → IsStartOf first es
start_of_start first start [] of in_it = subst (λ (x : List (Entry Op)). IsStartOf first x) in_it of
start_of_start first start (e ∷ es) of (inl in_it) = subst (λ (x : List (Entry Op)). IsStartOf first x) in_it of
start_of_start first start (e ∷ es) of (inr in_it) = inr (start_of_start first start es of in_it)

-- and a start of a legal list is legal
pub legal_start : (s : Setting Actor Op) (start es : List (Entry Op)) → IsStartOf start es → Legal s es → Legal s start
legal_start s start [] of legal = subst (Legal s) (sym of) legal
legal_start s start (e ∷ es) (inl of) legal = subst (Legal s) (sym of) legal
legal_start s start (e ∷ es) (inr of) legal = legal_start s start es of legal.0

-- of two starts of a list one is a start of the other
pub compared : (first second es : List (Entry Op)) → IsStartOf first es → IsStartOf second es → IsStartOf first second ⊎ IsStartOf second first
compared first second [] x y = inl (subst (λ (s : List (Entry Op)). IsStartOf first s) (sym y) x)
compared first second (e ∷ es) (inl x) y = inr (subst (λ (s : List (Entry Op)). IsStartOf second s) (sym x) y)
compared first second (e ∷ es) (inr x) (inl y) = inl (subst (λ (s : List (Entry Op)). IsStartOf first s) (sym y) (inr x))
compared first second (e ∷ es) (inr x) (inr y) = compared first second es x y
