-- What is said of jobs that were run, each at its place.
use Rattle.std.specs.Prelude.{◌≡◌, Bool, List, [], ◌∷◌, ⊤, MatchBool}

module _ {J W : Type 0} (ended : J → Type 0) (which : J → W) where
  -- the job ran to its end, and is the job that it was
  pub record HasRun (was now : J) : Type 0 where
    pub at_end : ended now
    pub same : which now ≡ which was

  -- at each place the job that stood there ran to its end; there are as many places as before
  abbrev pub AllHaveRun : List J → List J → Type 0
  AllHaveRun [] [] = ⊤
  AllHaveRun [] (now ∷ done) = ⊥
  AllHaveRun (was ∷ jobs) [] = ⊥
  AllHaveRun (was ∷ jobs) (now ∷ done) = HasRun was now × AllHaveRun jobs done

  -- where it was told to run, the job ran to its end, and else it made no step
  abbrev pub DidAsTold : Bool → J → J → Type 0
  DidAsTold run was now = MatchBool run (HasRun was now) (now ≡ was)

  -- the same of all jobs
  abbrev pub AllDidAsTold : Bool → List J → List J → Type 0
  AllDidAsTold run jobs done = MatchBool run (AllHaveRun jobs done) (done ≡ jobs)
