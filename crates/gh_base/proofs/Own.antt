-- An actor's state depends on its own entries alone.
use Rattle.std.proofs.Common.{◌≡◌, ℕ, ◌==◌, Bool, true, false, cond, List, [], ◌∷◌, refl}
use Rattle.gh_base.specs.declared.machine.Entry.{Entry}
use Rattle.gh_base.specs.Lists.{Kind, started, by, state_of}

pub state_of-by : {M O : Type 0} (k : Kind M O) (a : ℕ) (es : List (Entry O)) → state_of k a es ≡ state_of k a (by a es)
state_of-by k a [] = refl
state_of-by {M} {O} k a (e ∷ es) = go (e.actor == a) refl (state_of-by k a es) where
  go : (b : Bool) → (e.actor == a) ≡ b → state_of k a es ≡ state_of k a (by a es) →
      cond b (k.takes (started k e.begun (state_of k a es)) e.found) (state_of k a es) ≡ state_of k a (cond b (e ∷ by a es) (by a es))
  go true same before = rw (same, before)
  go false other before = before
