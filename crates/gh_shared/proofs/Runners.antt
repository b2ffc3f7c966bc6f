-- What holds of each actor that was run.
use Rattle.std.proofs.Common.{◌≡◌, ◌∙◌, ◌+◌, ℕ, zero, suc, List, [], ◌∷◌, ◌++◌, length, All, Some, refl, ap, arith, slice_get, subst}
use Rattle.std.proofs.lemmas.List.{length-append}
use Rattle.gh_gate.specs.Jobs.{AllHaveRun}
use Rattle.gh_shared.proofs.Vocabulary.{All-cons, All-head, All-nil, All-tail}
use Rattle.gh_shared.specs.Handles.{IsHandleOf}
use Rattle.gh_shared.specs.Runners.{AreOf, IsRunnerOf}
use Rattle.gh_shared.specs.declared.heap.Heap.{Heap}
use Rattle.gh_shared.specs.declared.running.Runner.{Runner}

-- what holds of each job at its end, where so much holds of each at its begin
at_end : {J W : Type 0} (ended : J → Type 0) (which : J → W) (P Q : J → Type 0) → ((was now : J) → P was → ended now → which now ≡ which was → Q now) → (jobs done : List J) → All P jobs → AllHaveRun ended which jobs done → All Q done
at_end ended which P Q gives [] [] all ran = All-nil Q
at_end ended which P Q gives [] (now ∷ done) all ran = absurd ran
at_end ended which P Q gives (was ∷ jobs) [] all ran = absurd ran
at_end ended which P Q gives (was ∷ jobs) (now ∷ done) all ran = All-cons Q now done (gives was now (All-head P was jobs all) ran.0.at_end ran.0.same) (at_end ended which P Q gives jobs done (All-tail P was jobs all) ran.1)

pub as_many : {J W : Type 0} (ended : J → Type 0) (which : J → W) (jobs done : List J) → AllHaveRun ended which jobs done → length done ≡ length jobs
as_many ended which [] [] ran = refl
as_many ended which [] (now ∷ done) ran = absurd ran
as_many ended which (was ∷ jobs) [] ran = absurd ran
as_many ended which (was ∷ jobs) (now ∷ done) ran = ap suc (as_many ended which jobs done ran.1)

pub pushed_length : {X : Type 0} (x : X) (xs ys : List X) → ys ≡ xs ++ x ∷ [] → length ys ≡ length xs + 1
pushed_length x xs ys is = let long = ap length is in let both = length-append xs (x ∷ []) in omega (arith, long, both)

-- what holds at each place holds of each
pub all_of : {X : Type 0} (P : X → Type 0) (xs : List X) → ((i : ℕ) (x : X) → slice_get xs i ≡ Some x → P x) → All P xs
all_of P [] each = All-nil P
all_of P (x ∷ xs) each = All-cons P x xs (each zero x refl) (all_of P xs (λ i y at. each (suc i) y at))

pub ran_are_of : {P : Type 0} (heap : Heap) (jobs done : List (Runner P)) → AreOf heap jobs → AllHaveRun (λ j. IsHandleOf j.heap.now j.handle) (λ j. j.heap.now) jobs done → All (λ j. IsHandleOf heap j.handle) done
ran_are_of heap = at_end (λ j. IsHandleOf j.heap.now j.handle) (λ j. j.heap.now) (IsRunnerOf heap) (λ j. IsHandleOf heap j.handle) (λ was now of ended same. subst (λ h. IsHandleOf h now.handle) (same ∙ of.same) ended)

pub first_of : {J : Type 0} (P : J → Type 0) (x : J) (xs ys : List J) → ys ≡ x ∷ xs → All P ys → P x
first_of P x xs ys is all = All-head P x xs (subst (All P) is all)
