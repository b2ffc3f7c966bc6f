-- The answers to operations one after the other.
use Rattle.std.specs.Prelude.{◌≡◌, List, [], ◌∷◌, ◌⊎◌}
use Rattle.gh_model.specs.Vocabulary.{Answer, Op, Shape}
use Rattle.gh_model.specs.Ever.{Ever, answer_of, ever_after}

-- the operation may be answered so: as the heap that never frees answers it, save that there may be no room for a new object
abbrev pub Answers : List Shape → Ever → Op → Answer → Type 0
Answers shapes e (Op.New g d t) a = (a ≡ answer_of shapes e (Op.New g d t)) ⊎ (a ≡ Answer.Full)
Answers shapes e op a = a ≡ answer_of shapes e op

-- these are answers to the operations, one after the other, from here on
abbrev pub AllAnswer : List Shape → Ever → List Op → List Answer → Type 0
AllAnswer shapes e [] [] = Unit {0}
AllAnswer shapes e (op ∷ rest) (a ∷ more) = Answers shapes e op a × AllAnswer shapes (ever_after shapes e op a) rest more
AllAnswer shapes e _ _ = ⊥

-- the heap after these operations, answered so
abbrev pub ever_after_all : List Shape → Ever → List Op → List Answer → Ever
ever_after_all shapes e (op ∷ rest) (a ∷ more) = ever_after_all shapes (ever_after shapes e op a) rest more
ever_after_all shapes e _ _ = e

-- what the heap that never frees answers where there is room for each object
abbrev pub answers_from : List Shape → Ever → List Op → List Answer
answers_from shapes e [] = []
answers_from shapes e (op ∷ rest) = answer_of shapes e op ∷ answers_from shapes (ever_after shapes e op (answer_of shapes e op)) rest
