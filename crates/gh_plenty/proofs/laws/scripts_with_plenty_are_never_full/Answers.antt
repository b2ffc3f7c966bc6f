use Rattle.std.proofs.Common.{◌≡◌, ℕ, ◌*◌, ◌<◌, ◌≤◌, sym, subst, ◌∙◌, inl, inr}
use Rattle.gh_plenty.proofs.Vocabulary.{cases_lt, class_number, IsClassOf, Large, size_class_of, Small}
use Rattle.gh_plenty.proofs.Crowded.{lie_within}
use Rattle.gh_plenty.proofs.Never.{never_full}
use Rattle.gh_plenty.proofs.laws.scripts_with_plenty_are_never_full.Goals as goal

-- the number of a class of small objects is one of the table's
among : ((bytes : ℕ) → bytes ≤ 32768 → IsClassOf bytes (class_number bytes)) → ((words : ℕ) → 8 * words ≤ 32768 → size_class_of words ≡ Small (class_number (8 * words))) → ((words : ℕ) → 32768 < 8 * words → size_class_of words ≡ Large) →
    (words c : ℕ) → size_class_of words ≡ Small c → c < 25
among number small large words c is = elim (cases_lt 32768 (8 * words)) [
  | inl lt ↦ absurd (let no : Small c ≡ Large = sym is ∙ large words lt in cc)
  | inr le ↦ let both : Small (class_number (8 * words)) ≡ Small c = sym (small words le) ∙ is in let same : class_number (8 * words) ≡ c = cc in subst (λ (n : ℕ). n < 25) same (number (8 * words) le).among
]

pub returns : goal.returns
returns c = λ p l es o formed plenty laid run.
    let k = plenty.class in
    let laws = c.size_class_laws.ensures in
    let few = among laws.number laws.small laws.large plenty.shape.words k plenty.small in
    never_full p l es o plenty laid run formed c.every_run_stands.ensures.lists c.only_points_change.ensures (lie_within k (laws.least_slot k few) (laws.whole_words k few) (laws.some_slot k few) (laws.fit k few) plenty.one_page)
