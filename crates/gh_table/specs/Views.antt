-- What a seat knows, and what becomes of it where a seat is split or two are joined.
use Rattle.std.specs.Prelude.{◌≡◌, ℕ, zero, suc, ◌==◌, Bool, true, false, if◌then◌else◌, List, [], ◌∷◌, ◌++◌, Option}
use Rattle.gh_table.specs.Vocabulary.{Ask, by, Entry, View}

-- ---- lists of actors

-- the number is among these
abbrev pub has : List ℕ → ℕ → Bool
has [] a = false
has (x ∷ xs) a = if x == a then true else has xs a

-- n numbers from i on
abbrev pub numbers_from : ℕ → ℕ → List ℕ
numbers_from i zero = []
numbers_from i (suc n) = i ∷ numbers_from (suc i) n

-- no number stands twice among these
abbrev pub Once : List ℕ → Type 0
Once [] = Unit {0}
Once (x ∷ xs) = (has xs x ≡ false) × Once xs

abbrev pub without : ℕ → List ℕ → List ℕ
without a [] = []
without a (x ∷ xs) = if x == a then without a xs else x ∷ without a xs

-- those without the first
abbrev pub others_of : List ℕ → List ℕ
others_of [] = []
others_of (a ∷ xs) = without a xs

-- ---- lists of entries, the newest first

module _ {O : Type 0} where
  -- the entries of these actors
  abbrev pub of_these : List ℕ → List (Entry O) → List (Entry O)
  of_these xs [] = []
  of_these xs (e ∷ es) = if has xs e.actor then e ∷ of_these xs es else of_these xs es

  -- the entries of all others
  abbrev pub of_others : List ℕ → List (Entry O) → List (Entry O)
  of_others xs [] = []
  of_others xs (e ∷ es) = if has xs e.actor then of_others xs es else e ∷ of_others xs es

  -- the actor a began b, if any, asked r and found n
  abbrev pub entry : ℕ → Option O → Ask → ℕ → Entry O
  entry a b r n = record { actor = a; begun = b; ask = r; found = n }

  -- the list began as xs
  abbrev pub BeganAs : List (Entry O) → List (Entry O) → Type 0
  BeganAs es xs = (newer : List (Entry O)) × (newer ++ xs ≡ es)

  -- the list began as each of these
  abbrev pub BeganAsEach : List (List (Entry O)) → List (Entry O) → Type 0
  BeganAsEach [] es = Unit {0}
  BeganAsEach (xs ∷ xss) es = BeganAs es xs × BeganAsEach xss es

-- ---- views

module _ {K O : Type 0} where
  abbrev pub Carries : View K O → ℕ → Type 0
  Carries v a = has v.actors a ≡ true

  -- the seat made the step e, and the list before it was h
  abbrev pub with_entry : View K O → List (Entry O) → Entry O → View K O
  with_entry v h e = record { plan = v.plan; actors = v.actors; log = e ∷ v.log; seen = (e ∷ h) ∷ [] }

  -- A view is spent where it carries no actor: its seat steps no more
  abbrev pub spent : K → View K O
  spent p = record { plan = p; actors = []; log = []; seen = [] }

  -- one actor, before its first step
  abbrev pub one_carried : K → ℕ → View K O
  one_carried p a = record { plan = p; actors = a ∷ []; log = []; seen = [] }

  -- n actors from i on, before the first step of each
  abbrev pub rest_carried : K → ℕ → ℕ → View K O
  rest_carried p i n = record { plan = p; actors = numbers_from i n; log = []; seen = [] }

  -- all n actors, before any step
  abbrev pub all_carried : K → ℕ → View K O
  all_carried p n = rest_carried p 0 n

  -- where a seat is split the first actor that it carries leaves, with its entries, and the others stay
  abbrev pub first_carried : K → List ℕ → List (Entry O) → List (List (Entry O)) → View K O
  first_carried p [] log seen = spent p
  first_carried p (a ∷ xs) log seen = record { plan = p; actors = a ∷ []; log = by a log; seen = seen }

  abbrev pub leaving : View K O → View K O
  leaving v = first_carried v.plan v.actors v.log v.seen

  abbrev pub staying : View K O → View K O
  staying v = record { plan = v.plan; actors = others_of v.actors; log = v.log; seen = v.seen }

  -- where two seats are joined one carries what both carried, and the other is spent
  abbrev pub joined : View K O → View K O → View K O
  joined v w = record { plan = v.plan; actors = v.actors ++ w.actors; log = of_these v.actors v.log ++ of_others v.actors w.log; seen = v.seen ++ w.seen }
