-- What holds of each job that was run.
use Rattle.std.proofs.Common.{◌≡◌, List, [], ◌∷◌, All, subst}
use Rattle.std.proofs.lemmas.List.Elements.{All-cons, All-head, All-nil, All-tail}
use Rattle.gh_gate.specs.Jobs.{AllHaveRun}

-- what holds of each job at its end, where so much holds of each at its begin
pub at_end : {J W : Type 0} (ended : J → Type 0) (which : J → W) (P Q : J → Type 0) → ((was now : J) → P was → ended now → which now ≡ which was → Q now) → (jobs done : List J) → All P jobs → AllHaveRun ended which jobs done → All Q done
at_end ended which P Q gives [] [] all ran = All-nil Q
at_end ended which P Q gives [] (now ∷ done) all ran = absurd ran
at_end ended which P Q gives (was ∷ jobs) [] all ran = absurd ran
at_end ended which P Q gives (was ∷ jobs) (now ∷ done) all ran = All-cons Q now done (gives was now (All-head P was jobs all) ran.0.at_end ran.0.same) (at_end ended which P Q gives jobs done (All-tail P was jobs all) ran.1)

pub first_of : {J : Type 0} (P : J → Type 0) (x : J) (xs ys : List J) → ys ≡ x ∷ xs → All P ys → P x
first_of P x xs ys is all = All-head P x xs (subst (All P) is all)
