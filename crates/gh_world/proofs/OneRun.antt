-- Over a plain list of words a script has one run in each order of steps, and one where the actors take turns.
use Rattle.std.proofs.Common.{◌≡◌, ℕ, ◌≤◌, Bool, true, false, cond, eqb, List, [], ◌∷◌, ◌++◌, length, reverse, Option, Some, None, refl, sym, ap, subst, ◌∙◌, append_assoc, arith, inl, inr}
use Rattle.std.proofs.lemmas.List.{append-nil}
use Rattle.gh_world.proofs.Vocabulary.{actor_after, actors_in, append_cancel_left, Begins, begun_in, by, cases_lt, ended_after, Entry, EveryOrderHasOneRun, EveryRunIsOne, first_going, in_order_from, IsInTurn, IsRun, IsRunSoFar, Layout, MayFollow, next_in, NoneIsLonger, Op, option_to_list, Program, reverse_onto, setting_of, turns_of}
use Rattle.gh_world.proofs.Resting.{other_none}

pub one_more : {A : Type 0} (x : A) (xs rest : List A) → reverse (x ∷ xs) ++ rest ≡ reverse xs ++ x ∷ rest
one_more x xs rest = ap (λ ys. ys ++ rest) (reverse_onto xs x []) ∙ append_assoc (reverse xs) (x ∷ []) rest

-- what was to come before the last step
pub before_turns : (o : Option Op) (bs to_come turns : List Op) → turns ≡ reverse (option_to_list o ++ bs) ++ to_come → turns ≡ reverse bs ++ (option_to_list o ++ to_come)
before_turns None bs to_come turns h = h
before_turns (Some o) bs to_come turns h = h ∙ one_more o bs to_come

-- what the actor begins with this entry
abbrev begins_by : (a : ℕ) → Entry Op → List Op
begins_by a e = cond (eqb e.actor a) (option_to_list e.begun) []

pub before : (p : Program) (l : Layout) (e : Entry Op) (es : List (Entry Op)) → IsRunSoFar p l (e ∷ es) → IsRunSoFar p l es
before p l e es r = record { legal = r.legal.0; to_come = λ a. begins_by a e ++ r.to_come a; turns = λ a lt. go a (eqb e.actor a) (r.turns a lt) } where
  go : (a : ℕ) (b : Bool) → turns_of p a ≡ reverse (begun_in (cond b (e ∷ by a es) (by a es))) ++ r.to_come a → turns_of p a ≡ reverse (begun_in (by a es)) ++ (cond b (option_to_list e.begun) [] ++ r.to_come a)
  go a true h = before_turns e.begun (begun_in (by a es)) (r.to_come a) (turns_of p a) h
  go a false h = h

-- the same operations, where both begin one or neither does
same_begun : (busy : Bool) (o q : Option Op) (bs xs ys turns : List Op) → (o ≡ None → busy ≡ true) → ((x : Op) → o ≡ Some x → busy ≡ false) → (q ≡ None → busy ≡ true) → ((x : Op) → q ≡ Some x → busy ≡ false)
    → turns ≡ reverse bs ++ (option_to_list o ++ xs) → turns ≡ reverse bs ++ (option_to_list q ++ ys) → o ≡ q
same_begun busy None None bs xs ys turns a b c d h k = refl
same_begun busy None (Some q) bs xs ys turns a b c d h k = absurd (let t = a refl in let f = d q refl in cc)
same_begun busy (Some o) None bs xs ys turns a b c d h k = absurd (let t = c refl in let f = b o refl in cc)
same_begun busy (Some o) (Some q) bs xs ys turns a b c d h k =
    let e : o ∷ xs ≡ q ∷ ys = append_cancel_left (reverse bs) (o ∷ xs) (q ∷ ys) (sym h ∙ k) in
    cc

module _ (p : Program) (l : Layout) where
  none_busy : (a : ℕ) (es : List (Entry Op)) (b : Option Op) → Begins (setting_of p l) a es b → b ≡ None → (setting_of p l).kind.busy (actor_after p l es a) ≡ true
  none_busy a es b h e = subst (λ (o : Option Op). Begins (setting_of p l) a es o) e h

  some_idle : (a : ℕ) (es : List (Entry Op)) (b : Option Op) → Begins (setting_of p l) a es b → (x : Op) → b ≡ Some x → (setting_of p l).kind.busy (actor_after p l es a) ≡ false
  some_idle a es b h x e = (subst (λ (o : Option Op). Begins (setting_of p l) a es o) e h).0

  same_step : (es : List (Entry Op)) (e f : Entry Op) → e.actor ≡ f.actor → e.begun ≡ f.begun → MayFollow (setting_of p l) es e → MayFollow (setting_of p l) es f → e ≡ f
  same_step es e f actor begun m n = grind arith

  -- what a processor begins now, and what is to come behind it
  pub begins_now : (a : ℕ) (e : Entry Op) (es : List (Entry Op)) (xs : List Op) → e.actor ≡ a → turns_of p a ≡ reverse (begun_in (by a (e ∷ es))) ++ xs → turns_of p a ≡ reverse (begun_in (by a es)) ++ (option_to_list e.begun ++ xs)
  begins_now a e es xs same h = grind (arith, before_turns)

  -- the entries of one actor that may follow a list, and continue the run, are one
  same_entry : (es : List (Entry Op)) (e f : Entry Op) → e.actor ≡ f.actor → IsRunSoFar p l (e ∷ es) → IsRunSoFar p l (f ∷ es) → e ≡ f
  same_entry es e f same r s = same_step es e f same begun r.legal.1 s.legal.1 where
    there : Begins (setting_of p l) e.actor es f.begun
    there = subst (λ (a : ℕ). Begins (setting_of p l) a es f.begun) (sym same) s.legal.1.begins

    begun : e.begun ≡ f.begun
    begun = elim (cases_lt e.actor l.procs) [
      | inl lt ↦ same_begun ((setting_of p l).kind.busy (actor_after p l es e.actor)) e.begun f.begun (begun_in (by e.actor es)) (r.to_come e.actor) (s.to_come e.actor) (turns_of p e.actor) (none_busy e.actor es e.begun r.legal.1.begins)
          (some_idle e.actor es e.begun r.legal.1.begins) (none_busy e.actor es f.begun there) (some_idle e.actor es f.begun there) (begins_now e.actor e es (r.to_come e.actor) refl (r.turns e.actor lt)) (begins_now e.actor f es (s.to_come e.actor) (sym same) (s.turns e.actor lt))
      | inr le ↦ other_none p l e.actor es e.begun le r.legal.1.begins r.legal.1.runs ∙ sym (other_none p l f.actor es f.begun (subst (λ (a : ℕ). l.procs ≤ a) same le) s.legal.1.begins s.legal.1.runs)
    ]

  heads : (a b : ℕ) (as' bs : List ℕ) → a ∷ as' ≡ b ∷ bs → a ≡ b
  heads a b as' bs e = cc

  tails : (a b : ℕ) (as' bs : List ℕ) → a ∷ as' ≡ b ∷ bs → as' ≡ bs
  tails a b as' bs e = cc

  pub one_order : (es fs : List (Entry Op)) → IsRunSoFar p l es → IsRunSoFar p l fs → actors_in es ≡ actors_in fs → es ≡ fs
  one_order [] [] r s who = refl
  one_order [] (f ∷ fs) r s who = absurd cc
  one_order (e ∷ es) [] r s who = absurd cc
  one_order (e ∷ es) (f ∷ fs) r s who =
      let same : es ≡ fs = one_order es fs (before p l e es r) (before p l f fs s) (tails e.actor f.actor (actors_in es) (actors_in fs) who) in
      let other : IsRunSoFar p l (f ∷ es) = subst (λ (gs : List (Entry Op)). IsRunSoFar p l (f ∷ gs)) (sym same) s in
      let first : e ≡ f = same_entry es e f (heads e.actor f.actor (actors_in es) (actors_in fs) who) r other in
      rw (first, same) refl

  insides : (a b : ℕ) → Some a ≡ Some b → a ≡ b
  insides a b e = cc

  -- where the actors take turns

  pub one_run : (es fs : List (Entry Op)) → IsRunSoFar p l es → IsRunSoFar p l fs → IsInTurn (setting_of p l) es → IsInTurn (setting_of p l) fs → length es ≡ length fs → es ≡ fs
  one_run [] [] r s t u long = refl
  one_run [] (f ∷ fs) r s t u long = absurd (omega arith)
  one_run (e ∷ es) [] r s t u long = absurd (omega arith)
  one_run (e ∷ es) (f ∷ fs) r s t u long =
      let same : es ≡ fs = one_run es fs (before p l e es r) (before p l f fs s) t.0 u.0 (omega arith) in
      let other : IsRunSoFar p l (f ∷ es) = subst (λ (gs : List (Entry Op)). IsRunSoFar p l (f ∷ gs)) (sym same) s in
      let turn : IsInTurn (setting_of p l) (f ∷ es) = subst (λ (gs : List (Entry Op)). IsInTurn (setting_of p l) (f ∷ gs)) (sym same) u in
      let who : Some e.actor ≡ Some f.actor = sym t.1 ∙ turn.1 in
      let first : e ≡ f = same_entry es e f (insides e.actor f.actor who) r other in
      rw (first, same) refl

pub every_order_has_one_run : EveryOrderHasOneRun
every_order_has_one_run = one_order

pub every_run_is_one : EveryRunIsOne
every_run_is_one = one_run

-- ---- none is longer

-- who has the turn has not ended
going_on : (ended : ℕ → Bool) (as' : List ℕ) (a : ℕ) → first_going ended as' ≡ Some a → ended a ≡ false
going_on ended [] a e = absurd cc
going_on ended (b ∷ bs) a e = go (ended b) refl (going_on ended bs a) e where
  go : (c : Bool) → ended b ≡ c → (first_going ended bs ≡ Some a → ended a ≡ false) → cond c (first_going ended bs) (Some b) ≡ Some a → ended a ≡ false
  go true f ih q = ih q
  go false f ih q = let same : b ≡ a = cc in ap ended (sym same) ∙ f

nothing_follows : (p : Program) (l : Layout) (e : Entry Op) (es : List (Entry Op)) → IsRun p l es → IsRunSoFar p l (e ∷ es) → IsInTurn (setting_of p l) (e ∷ es) → ⊥
nothing_follows p l e es run r t =
    let going : ended_after (setting_of p l) es e.actor ≡ false = going_on (ended_after (setting_of p l) es) (in_order_from (next_in (setting_of p l) es) (setting_of p l).actors) e.actor t.1 in
    let done : ended_after (setting_of p l) es e.actor ≡ true = run.done e.actor r.legal.1.actor in
    let no : true ≡ false = sym done ∙ going in
    absurd cc

is_so_far : (p : Program) (l : Layout) (es : List (Entry Op)) → IsRun p l es → IsRunSoFar p l es
is_so_far p l es r = record { legal = r.legal; to_come = λ a. []; turns = λ a lt. sym (append-nil (reverse (begun_in (by a es))) ∙ r.turns a lt) }

not_as_long : (p : Program) (l : Layout) (e : Entry Op) (es fs : List (Entry Op)) → IsRun p l es → IsRunSoFar p l (e ∷ fs) → IsInTurn (setting_of p l) es → IsInTurn (setting_of p l) (e ∷ fs) → length es ≡ length fs → ⊥
not_as_long p l e es fs run r t u long =
    let same : es ≡ fs = every_run_is_one p l es fs (is_so_far p l es run) (before p l e fs r) t u.0 long in
    nothing_follows p l e es run (subst (λ (gs : List (Entry Op)). IsRunSoFar p l (e ∷ gs)) (sym same) r) (subst (λ (gs : List (Entry Op)). IsInTurn (setting_of p l) (e ∷ gs)) (sym same) u)

pub none_is_longer : NoneIsLonger
none_is_longer p l es [] run r t u = omega arith
none_is_longer p l es (f ∷ fs) run r t u =
    let within : length fs ≤ length es = none_is_longer p l es fs run (before p l f fs r) t u.0 in
    let apart = not_as_long p l f es fs run r t u in
    omega (arith, within, apart)
