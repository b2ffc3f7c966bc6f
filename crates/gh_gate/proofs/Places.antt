-- One job more, at the last place.
use Rattle.std.proofs.Common.{◌≡◌, Bool, true, false, List, [], ◌∷◌, ◌++◌, ap₂, subst, subst₂, sym}
use Rattle.gh_gate.specs.Jobs.{HasRun, AllHaveRun, DidAsTold, AllDidAsTold}

module _ {J W : Type 0} (ended : J → Type 0) (which : J → W) where
  all_snoc : (jobs done : List J) (was now : J) → AllHaveRun ended which jobs done → HasRun ended which was now
      → AllHaveRun ended which (jobs ++ was ∷ []) (done ++ now ∷ [])
  all_snoc [] [] was now all one = (one, tt)
  all_snoc [] (y ∷ done) was now all one = absurd all
  all_snoc (x ∷ jobs) [] was now all one = absurd all
  all_snoc (x ∷ jobs) (y ∷ done) was now all one = (all.0, all_snoc jobs done was now all.1 one)

  told_snoc : (run : Bool) (jobs done : List J) (was now : J) → AllDidAsTold ended which run jobs done
      → DidAsTold ended which run was now → AllDidAsTold ended which run (jobs ++ was ∷ []) (done ++ now ∷ [])
  told_snoc true jobs done was now all one = all_snoc jobs done was now all one
  told_snoc false jobs done was now all one = ap₂ (λ xs x. xs ++ x ∷ []) all one

  -- the last job was told the same as the others
  pub as_told_too : (run same : Bool) (jobs done all after : List J) (was now : J) → same ≡ run → AllDidAsTold ended which run jobs done
      → DidAsTold ended which same was now → all ≡ jobs ++ was ∷ [] → after ≡ done ++ now ∷ [] → AllDidAsTold ended which run all after
  as_told_too run same jobs done all after was now is told one whole pushed =
      subst₂ (AllDidAsTold ended which run) (sym whole) (sym pushed)
      (told_snoc run jobs done was now told (subst (λ b. DidAsTold ended which b was now) is one))
