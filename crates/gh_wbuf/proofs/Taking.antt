-- What a try knows at each stage, and what it takes by its swap.
use Rattle.std.proofs.Common.{◌≡◌, ℕ, Bool, true, false, cond, eqb, Option, Some, None, refl, subst, arith}
use Rattle.gh_wbuf.proofs.Vocabulary.{asks, asks_at, Claim, claimed, claims, Ended, GiveBack, given, given_at, gives, goes, goes_at, Has, Held, is_busy, is_open, Look, SoundTryStage, Took, Trying, TryStage, Wish}

-- with an open buffer it goes on
pub claims_nothing : (t : Trying) (held : Option Held) (word : ℕ) → given_at (claims t held word) ≡ None
claims_nothing t held word = grind arith

module _ (seat : ℕ) (wish : Wish) where
  -- it is of this seat and wish, and the word that it is to swap is that of an open buffer
  pub record TryingFacts (t : Trying) : Type 0 where
    pub seat_is : t.seat ≡ seat
    pub wish_is : t.wish ≡ wish
    pub stage_is : SoundTryStage t.wish t.stage

  claims_fit : (t : Trying) (held : Option Held) (word : ℕ) → is_open t.wish word ≡ true → SoundTryStage t.wish (claims t held word)
  claims_fit t held word e = grind arith

  stage_fits : (t : Trying) (stage : TryStage) (found : ℕ) → SoundTryStage t.wish stage → SoundTryStage (goes_at t stage found).wish (goes_at t stage found).stage
  stage_fits t stage found f = grind (arith, claims_fit)

  pub fine_try : (t : Trying) (found : ℕ) → TryingFacts t → TryingFacts (goes t found)
  fine_try t found f = grind (arith, stage_fits)

  took_at : (t : Trying) (stage : TryStage) (found : ℕ) (h : Held) → t.seat ≡ seat → SoundTryStage t.wish stage → is_busy stage ≡ true → given (goes_at t stage found) ≡ Some (Some h) → Took seat (asks_at t stage) found h × Has t.wish h.count
  took_at t Look found h s f busy e = by (is_open t.wish found) e where
    by : (b : Bool) → given_at (cond b (claims t t.held found) (Ended None)) ≡ Some (Some h) → Took seat (asks_at t Look) found h × Has t.wish h.count
    by true e = absurd (let none = claims_nothing t t.held found in cc)
    by false e = absurd (cc)
  took_at t (GiveBack word) found h s f busy e = absurd (cc)
  took_at t (Claim word) found h s f busy e = by (eqb found word) refl e where
    by : (wrote : Bool) → eqb found word ≡ wrote → given (claimed t word wrote) ≡ Some (Some h) → Took seat (asks_at t (Claim word)) found h × Has t.wish h.count
    by wrote w e = grind arith
  took_at t (Ended out) found h s f busy e = absurd (cc)

  -- what it ends with it took by its swap, and it has what was wished
  pub took : (t : Trying) (found : ℕ) (h : Held) → TryingFacts t → is_busy t.stage ≡ true → gives t found ≡ Some (Some h) → Took seat (asks t) found h × Has wish h.count
  took t found h f busy e =
      let at = took_at t t.stage found h f.seat_is f.stage_is busy e in
      (at.0, subst (λ (w : Wish). Has w h.count) f.wish_is at.1)
