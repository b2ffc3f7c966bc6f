-- By one schedule a script has one run: as many steps of it are the same steps, and none follows when it is over.
use Rattle.std.proofs.Common.{◌≡◌, ℕ, ◌<◌, ◌≤◌, Bool, true, false, cond, eqb, List, [], ◌∷◌, ◌++◌, length, reverse, Option, Some, None, refl, sym, ap, subst, ◌∙◌, append_assoc, arith}
use Rattle.std.proofs.lemmas.Grind.{reverse_onto}
use Rattle.std.proofs.lemmas.List.{append-nil}
use Rattle.gh_replay.proofs.Vocabulary.{actors_in, begun_in, by, Entry, EveryOrderHasOneRun, IsRun, IsRunSoFar, IsScheduled, Layout, Op, option_to_list, Plan, Program, reached_in, setting_of, stands_in, turns_of, who}
use Rattle.gh_replay.proofs.Choosing.{moved_low}

-- ---- a run so far, before its last step

-- what had begun, and what was to come
earlier : (o : Option Op) (bs rest turns : List Op) → turns ≡ reverse (option_to_list o ++ bs) ++ rest → turns ≡ reverse bs ++ (option_to_list o ++ rest)
earlier None bs rest turns h = h
earlier (Some o) bs rest turns h = h ∙ ap (λ ys. ys ++ rest) (reverse_onto bs o []) ∙ append_assoc (reverse bs) (o ∷ []) rest

before : (p : Program) (l : Layout) (e : Entry Op) (es : List (Entry Op)) → IsRunSoFar p l (e ∷ es) → IsRunSoFar p l es
before p l e es r = record { legal = r.legal.0; to_come = λ a. cond (eqb e.actor a) (option_to_list e.begun) [] ++ r.to_come a; turns = λ a lt. go a (eqb e.actor a) (r.turns a lt) } where
  go : (a : ℕ) (b : Bool) → turns_of p a ≡ reverse (begun_in (cond b (e ∷ by a es) (by a es))) ++ r.to_come a → turns_of p a ≡ reverse (begun_in (by a es)) ++ (cond b (option_to_list e.begun) [] ++ r.to_come a)
  go a true h = earlier e.begun (begun_in (by a es)) (r.to_come a) (turns_of p a) h
  go a false h = h

pub is_so_far : (p : Program) (l : Layout) (es : List (Entry Op)) → IsRun p l es → IsRunSoFar p l es
is_so_far p l es r = record { legal = r.legal; to_come = λ a. []; turns = λ a lt. sym (append-nil (reverse (begun_in (by a es))) ∙ r.turns a lt) }

-- the turn behind the list of a schedule is that of an actor that there is
pub stands_low : (p : Program) (l : Layout) (plan : Plan) (es : List (Entry Op)) → (stands_in p l plan es).next < (setting_of p l).actors
stands_low p l plan [] = omega arith
stands_low p l plan (e ∷ es) = moved_low (reached_in p l es) e.actor (stands_in p l plan es) (stands_low p l plan es)

insides : (a b : ℕ) → Some a ≡ Some b → a ≡ b
insides a b e = cc

module _ (ordered : EveryOrderHasOneRun) (p : Program) (l : Layout) (plan : Plan) where
  pub one_run : (es fs : List (Entry Op)) → IsRunSoFar p l es → IsRunSoFar p l fs → IsScheduled p l plan es → IsScheduled p l plan fs → length es ≡ length fs → es ≡ fs
  one_run [] [] r s t u long = refl
  one_run [] (f ∷ fs) r s t u long = absurd (omega arith)
  one_run (e ∷ es) [] r s t u long = absurd (omega arith)
  one_run (e ∷ es) (f ∷ fs) r s t u long =
      let same : es ≡ fs = one_run es fs (before p l e es r) (before p l f fs s) t.0 u.0 (omega arith) in
      let turn : who (reached_in p l es) (stands_in p l plan es) ≡ Some f.actor = subst (λ (gs : List (Entry Op)). who (reached_in p l gs) (stands_in p l plan gs) ≡ Some f.actor) (sym same) u.1 in
      let first : e.actor ≡ f.actor = insides e.actor f.actor (sym t.1 ∙ turn) in
      let actors : actors_in (e ∷ es) ≡ actors_in (f ∷ fs) = rw (first, same) refl in
      ordered p l (e ∷ es) (f ∷ fs) r s actors

  nothing_follows : (e : Entry Op) (es : List (Entry Op)) → IsRun p l es → IsRunSoFar p l (e ∷ es) → IsScheduled p l plan (e ∷ es) → ⊥
  nothing_follows e es run r t = grind arith

  not_as_long : (e : Entry Op) (es fs : List (Entry Op)) → IsRun p l es → IsRunSoFar p l (e ∷ fs) → IsScheduled p l plan es → IsScheduled p l plan (e ∷ fs) → length es ≡ length fs → ⊥
  not_as_long e es fs run r t u long =
      let same : es ≡ fs = one_run es fs (is_so_far p l es run) (before p l e fs r) t u.0 long in
      nothing_follows e es run (subst (λ (gs : List (Entry Op)). IsRunSoFar p l (e ∷ gs)) (sym same) r) (subst (λ (gs : List (Entry Op)). IsScheduled p l plan (e ∷ gs)) (sym same) u)

  pub none_is_longer : (es fs : List (Entry Op)) → IsRun p l es → IsRunSoFar p l fs → IsScheduled p l plan es → IsScheduled p l plan fs → length fs ≤ length es
  none_is_longer es [] run r t u = omega arith
  none_is_longer es (f ∷ fs) run r t u =
      let within : length fs ≤ length es = none_is_longer es fs run (before p l f fs r) t u.0 in
      let apart = not_as_long f es fs run r t u in
      omega (arith, within, apart)
