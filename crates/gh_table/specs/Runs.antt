-- What an actor does by itself, given what its steps found, the newest first.
use Rattle.std.specs.Prelude.{◌≡◌, ℕ, Bool, true, List, [], ◌∷◌, ◌++◌, Option, Some, None}
use Rattle.gh_table.specs.Vocabulary.{Ask, by, Entry, Legal, Me, Setting, View}
use Rattle.gh_table.specs.Views.{BeganAsEach, entry}

-- the operation that stands at the next step, where b was begun before the first
abbrev pub begun_next : {O : Type 0} → Option O → List ℕ → Option O
begun_next b [] = b
begun_next b (n ∷ ns) = None

-- the machine after these steps
abbrev pub machine_after : {M : Type 0} → (M → ℕ → M) → M → List ℕ → M
machine_after goes m [] = m
machine_after goes m (n ∷ ns) = goes (machine_after goes m ns) n

-- the entries of the actor a, whose machine was m, and had just begun b, if any
abbrev pub entries_made : {M O : Type 0} → (M → Ask) → (M → ℕ → M) → ℕ → Option O → M → List ℕ → List (Entry O)
entries_made asks goes a b m [] = []
entries_made asks goes a b m (n ∷ ns) = entry a (begun_next b ns) (asks (machine_after goes m ns)) n ∷ entries_made asks goes a b m ns

-- it ended with the last of these steps, and gave x
abbrev pub Gave : {M Out : Type 0} → (M → ℕ → M) → (M → ℕ → Option Out) → M → List ℕ → Out → Type 0
Gave goes gives m [] x = ⊥
Gave goes gives m (n ∷ ns) x = gives (machine_after goes m ns) n ≡ Some x

-- each of these steps left a further one to make
abbrev pub WentOn : {M : Type 0} → (M → Bool) → (M → ℕ → M) → M → List ℕ → Type 0
WentOn busy goes m [] = busy m ≡ true
WentOn busy goes m (n ∷ ns) = (busy (machine_after goes m (n ∷ ns)) ≡ true) × WentOn busy goes m ns

module _ {S K A O : Type 0} (of : K → Setting A O) where
  -- The list that the seat has seen last is legal, has the actor's entries, and began as each list that it had seen before
  pub record SawLegalList (a : ℕ) (me me' : Me S (View K O)) : Type 0 where
    pub list : List (Entry O)
    pub legal : Legal (of me'.0.plan) list
    pub own : by a list ≡ by a me'.0.log
    pub last : me'.0.seen ≡ list ∷ []
    pub later : BeganAsEach me.0.seen list

module _ {S K O M : Type 0} (asks : M → Ask) (goes : M → ℕ → M) where
  -- The actor a made these steps and no others: the machine m, which had just begun b, if any, is m' now
  pub record Ran (a : ℕ) (b : Option O) (m : M) (me : Me S (View K O)) (m' : M) (me' : Me S (View K O)) (founds : List ℕ) : Type 0 where
    pub log : me'.0.log ≡ entries_made asks goes a b m founds ++ me.0.log
    pub plan : me'.0.plan ≡ me.0.plan
    pub actors : me'.0.actors ≡ me.0.actors
    pub machine : m' ≡ machine_after goes m founds
