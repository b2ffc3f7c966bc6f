-- Which operations act where in a list of entries, whatever kinds of actor it is of. What a list says is told the newest first, as its entries are.
use Rattle.std.specs.Prelude.{◌≡◌, ℕ, ◌==◌, Bool, true, false, if◌then◌else◌, List, [], ◌∷◌, ◌++◌, Option, Some, None}
use Rattle.std.specs.Option.{option_to_list}
use Rattle.gh_base.specs.declared.machine.Entry.{Entry}
use Rattle.gh_base.specs.Lists.{Kind, started, state_of}

-- What actors do beside their steps: an operation that has a point acts at one of its steps.
pub record Deeds (M O D A : Type 0) : Type 0 where
  -- the operation has a point
  pub has_point : O → Bool
  -- the operation begun that has a point, until it has acted
  pub unacted : M → Option O
  -- what the step that found this does, where it is a point
  pub acts : M → ℕ → Option D
  -- the operation whose point it is
  pub of : D → O
  -- what the operation is answered that ends with the step that found this
  pub gives : M → ℕ → Option A

-- an operation that is begun, where it has a point
abbrev pub with_point : {M O D A : Type 0} → Deeds M O D A → Option O → Option O
with_point d None = None
with_point d (Some o) = if d.has_point o then Some o else None

-- What a kind of actor keeps, and its crate proves of its listing: an operation that has a point acts once, before it ends.
pub record DeedsFit {M O D A : Type 0} (k : Kind M O) (d : Deeds M O D A) : Type 0 where
  -- nothing is to act before the first step, nor where no operation is begun
  pub opens : (a : ℕ) → d.unacted (k.start a) ≡ None
  pub idle : (m : M) → k.busy m ≡ false → d.unacted m ≡ None
  -- an operation that has a point is to act once it is begun, and no other is
  pub begins : (m : M) (o : O) → k.busy m ≡ false → k.busy (k.begins m o) ≡ true → d.unacted (k.begins m o) ≡ with_point d (Some o)
  -- a step that is no point leaves it so
  pub goes_on : (m : M) (found : ℕ) → k.busy m ≡ true → d.acts m found ≡ None → d.unacted (k.takes m found) ≡ d.unacted m
  -- a point is that of the operation that was to act, and then nothing is to act
  pub acts_for : (m : M) (found : ℕ) (x : D) → k.busy m ≡ true → d.acts m found ≡ Some x → d.unacted m ≡ Some (d.of x)
  pub acts_once : (m : M) (found : ℕ) (x : D) → k.busy m ≡ true → d.acts m found ≡ Some x → d.unacted (k.takes m found) ≡ None

-- Each entry, behind those before it, says something or nothing.
module _ {O X : Type 0} (says : List (Entry O) → Entry O → Option X) where
  -- what one actor's entries say
  abbrev pub said_by : ℕ → List (Entry O) → List X
  said_by a [] = []
  said_by a (e ∷ es) = if e.actor == a then option_to_list (says es e) ++ said_by a es else said_by a es

module _ {M O D A : Type 0} (k : Kind M O) (d : Deeds M O D A) where
  -- the entry's actor before its step, its operation begun
  abbrev pub before_step : List (Entry O) → Entry O → M
  before_step es e = started k e.begun (state_of k e.actor es)

  -- what the entry's step does, where it is a point
  abbrev pub done_at : List (Entry O) → Entry O → Option D
  done_at es e = d.acts (before_step es e) e.found

  -- what it was answered
  abbrev pub given_by : ℕ → List (Entry O) → List A
  given_by = said_by (λ es e. d.gives (before_step es e) e.found)

-- What deeds mean: what each is answered, and what it leaves.
pub record Meaning (E D A : Type 0) : Type 0 where
  pub opening : E
  pub answer : E → D → A
  pub after : E → D → A → E

pub record AnsweredDeed (D A : Type 0) : Type 0 where
  pub deed : D
  pub answer : A

module _ {E D A : Type 0} (n : Meaning E D A) where
  -- a step's deed, answered
  abbrev pub answered : E → Option D → Option (AnsweredDeed D A)
  answered e None = None
  answered e (Some x) = Some (record { deed = x; answer = n.answer e x })

  -- what it leaves
  abbrev pub left_at : E → Option D → E
  left_at e None = e
  left_at e (Some x) = n.after e x (n.answer e x)

module _ {M O D A E : Type 0} (k : Kind M O) (d : Deeds M O D A) (n : Meaning E D A) where
  -- what the order of points leaves
  abbrev pub model_after : List (Entry O) → E
  model_after [] = n.opening
  model_after (e ∷ es) = left_at n (model_after es) (done_at k d es e)

  -- the points of one actor
  abbrev pub answered_by : ℕ → List (Entry O) → List (AnsweredDeed D A)
  answered_by = said_by (λ es e. answered n (model_after es) (done_at k d es e))
