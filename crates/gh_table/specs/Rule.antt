-- The rule of the table: its words are those after one legal list of steps, of which each seat has the entries of the actors that it carries.
use Rattle.std.specs.Prelude.{◌≡◌, ℕ, ◌<◌, true, false, ◌⊎◌, List, [], ◌∷◌, Option, Some, None}
use mathlib.Core.Option.{some}
use lib.ListN.{get_elem?}
use Rattle.gh_table.specs.Vocabulary.{Ask, by, Entry, Legal, Me, Setting, started, State, state_of, View, words_after}
use Rattle.gh_base.specs.declared.layout.Layout.{Layout}
use Rattle.gh_base.specs.Blind.{is_store}
use Rattle.gh_base.specs.Cells.{length_of, ShowsCells}
use Rattle.gh_table.specs.Views.{BeganAsEach, Carries, entry, has, Once, with_entry}

-- ---- the rule

module _ {K O : Type 0} where
  -- What holds of the view at seat id for an actor that it carries, where h is the list: its plan is the table's, no other seat carries the actor, its entries of the actor are those of the list, and what it has seen are beginnings of the list
  pub record Fits (p : K) (actors : ℕ) (owner : ℕ → ℕ) (h : List (Entry O)) (id : ℕ) (v : View K O) (a : ℕ) : Type 0 where
    pub plan : v.plan ≡ p
    pub owned : owner a ≡ id
    pub known : a < actors
    pub entries : by a h ≡ by a v.log
    pub seen : BeganAsEach v.seen h

  abbrev pub NoSeatCarries : List (View K O) → ℕ → Type 0
  NoSeatCarries views a = (id : ℕ) (v : View K O) → get_elem? views id ≡ some v → has v.actors a ≡ false

module _ {S K A O : Type 0} (of : K → Setting A O) where
  -- There is one legal list: the words are those after it, each view has the entries of the actors that it carries, each of them once, and an actor that no seat carries has no entry
  pub record HoldsOneList (p : K) (st : State S (View K O)) : Type 0 where
    pub list : List (Entry O)
    pub owner : ℕ → ℕ
    pub legal : Legal (of p) list
    pub words : ShowsCells (of p).layout st.words (words_after (of p).opening list)
    pub views : (id : ℕ) (v : View K O) → get_elem? st.views id ≡ some v → (a : ℕ) → Carries v a → Fits p (of p).actors owner list id v a
    pub once : (id : ℕ) (v : View K O) → get_elem? st.views id ≡ some v → Once v.actors
    pub others : (a : ℕ) → NoSeatCarries st.views a → by a list ≡ []

  -- ---- what is told of it

  -- What a step tells: one entry more in the view, and the list before it, which began as each list that was seen, has the actor's entries as they were, and is legal with the entry
  pub record Tells (a : ℕ) (b : Option O) (r : Ask) (n : ℕ) (me me' : Me S (View K O)) : Type 0 where
    pub before : List (Entry O)
    pub seen : BeganAsEach me.0.seen before
    pub own : by a before ≡ by a me.0.log
    pub legal : Legal (of me.0.plan) (entry a b r n ∷ before)
    pub view : me' ≡ (with_entry me.0 before (entry a b r n), me.1)

-- The machine that asked for the step is told the word found, and behind a store any
abbrev pub IsTold : Ask → (told found : ℕ) → Type 0
IsTold r told found = (is_store r ≡ true) ⊎ (told ≡ found)

-- What a look at the seat tells: no actor is carried twice, and nothing has changed
abbrev pub TellsOnce : {S K O : Type 0} → (me me' : Me S (View K O)) → Type 0
TellsOnce me me' = (me' ≡ me) × Once me.0.actors

module _ {K A O : Type 0} (of : K → Setting A O) where
  -- the words are those after one legal list, which has of each actor that v carries just the entries of v, and began as all that v has seen
  pub record IsAfterOneList (p : K) (v : View K O) (ws : List ℕ) : Type 0 where
    pub list : List (Entry O)
    pub legal : Legal (of p) list
    pub words : ShowsCells (of p).layout ws (words_after (of p).opening list)
    pub entries : (a : ℕ) → Carries v a → by a list ≡ by a v.log
    pub seen : (a : ℕ) → Carries v a → BeganAsEach v.seen list

  -- ---- what a step asks for

  -- the layout is that of the plan, and there are as many words as it has
  pub record IsLaidOut (p : K) (words : ℕ) (l : Layout) : Type 0 where
    pub layout : l ≡ (of p).layout
    pub long : words ≡ length_of l

  -- the actor after its entries in the view
  abbrev pub actor_in : View K O → ℕ → A
  actor_in v a = state_of (of v.plan).kind a v.log

  -- An operation begins exactly where none is begun, and only where the actor's own entries allow it
  abbrev pub BeginsIn : View K O → ℕ → Option O → Type 0
  BeginsIn v a None = (of v.plan).kind.busy (actor_in v a) ≡ true
  BeginsIn v a (Some o) = ((of v.plan).kind.busy (actor_in v a) ≡ false) × ((of v.plan).may_begin a (by a v.log) o ≡ true)

  -- the actor may ask r, once the operation is begun, if any is
  pub record MayAsk (v : View K O) (a : ℕ) (b : Option O) (r : Ask) : Type 0 where
    pub carries : Carries v a
    pub begins : BeginsIn v a b
    pub runs : (of v.plan).kind.busy (started (of v.plan).kind b (actor_in v a)) ≡ true
    pub asks : r ≡ (of v.plan).kind.asks (started (of v.plan).kind b (actor_in v a))
