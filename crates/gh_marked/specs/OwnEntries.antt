-- What an actor's own entries say: its state, and which goroutines they end.
use Rattle.std.proofs.Common.{◌≡◌, ℕ, ◌<◌, ◌==◌, ◌⊎◌, zero, suc, not, Bool, true, false, cond, refl, ap, arith, List, [], ◌∷◌, Option, Some, ◌||◌}
use Rattle.gh_marked.specs.Vocabulary.{all_ended, Arena, both, by, ended_in, ends, Entry, Kind, Op, started, state_of}

-- a state depends on its actor's own entries alone
pub state_by : {M O : Type 0} (k : Kind M O) (a : ℕ) (es : List (Entry O)) → state_of k a (by a es) ≡ state_of k a es
state_by k a [] = refl
state_by k a (e ∷ es) = go (e.actor == a) refl (state_by k a es) where
  go : (b : Bool) → (e.actor == a) ≡ b → state_of k a (by a es) ≡ state_of k a es → state_of k a (cond b (e ∷ by a es) (by a es)) ≡ cond b (k.takes (started k e.begun (state_of k a es)) e.found) (state_of k a es)
  go true x before = rw x (ap (λ m. k.takes (started k e.begun m) e.found) before)
  go false x before = before

-- Ends among them.

pub or_left : (b c : Bool) → b ≡ true → (b || c) ≡ true
or_left b c x = ap (λ (y : Bool). y || c) x

pub or_cases : (b c : Bool) → (b || c) ≡ true → (b ≡ true) ⊎ (c ≡ true)
or_cases b c x = grind arith

-- an operation that ends a goroutine is its end
pub began_end : (o : Option Op) (g : ℕ) → ends o g ≡ true → o ≡ Some (Op.End g)
began_end o g x = grind arith

-- each goroutine of the seat has ended
pub all_ended_at : (z : Arena) (a : ℕ) (es : List (Entry Op)) (n g : ℕ) → g < n → (z.seat_of g == a) ≡ true → all_ended z a es n ≡ true → ended_in es g ≡ true
all_ended_at z a es zero g below seat x = absurd (omega (arith, below))
all_ended_at z a es (suc n) g below seat x = go (n == g) refl (λ less. all_ended_at z a es n g less seat (both (not (z.seat_of n == a) || ended_in es n) (all_ended z a es n) x).1) where
  go : (b : Bool) → (n == g) ≡ b → (g < n → ended_in es g ≡ true) → ended_in es g ≡ true
  go b y before = grind arith
