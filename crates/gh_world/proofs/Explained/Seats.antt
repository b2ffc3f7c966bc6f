-- A processor begins statements of its own goroutines alone; so what acts for a goroutine is what its processor does.
use Rattle.std.proofs.Common.{◌≡◌, ℕ, ◌<◌, Bool, true, false, cond, eqb, List, [], ◌∷◌, ◌++◌, reverse, Option, Some, None, refl, sym, ap, subst, ◌∙◌, inl, inr, arith}
use Rattle.std.proofs.lemmas.Bool.{eqb-true}
use Rattle.std.proofs.lemmas.List.{append-nil}
use Rattle.gh_world.proofs.Vocabulary.{Act, acted_at, acted_by, acted_in, acts, Answered, answered, Arena, arena_of, before_step, begun_in, by, cases_lt, EachOperationActsOnce, Entry, ever_of, filter, filter-append, goroutine_of, is_of, is_of_seat, is_statement, is_statement_of, its_goroutine, Layout, Legal, Op, option_to_list, order_at, order_of, Program, setting_of}
use Rattle.gh_lists.specs.Beginning.{both}
use Rattle.gh_world.proofs.Explained.Acted.{acts_here, acts_last, reverse_more}
use Rattle.gh_world.proofs.Explained.Steps.{its_own, no_processors}

pub filter-reverse : {A : Type 0} (f : A → Bool) (xs : List A) → filter f (reverse xs) ≡ reverse (filter f xs)
filter-reverse f [] = refl
filter-reverse {A} f (x ∷ xs) = ap (filter f) (reverse_more x xs) ∙ filter-append f (reverse xs) (x ∷ []) ∙ ap (λ (ys : List A). ys ++ filter f (x ∷ [])) (filter-reverse f xs) ∙ go (f x) where
  go : (b : Bool) → reverse (filter f xs) ++ cond b (x ∷ []) [] ≡ reverse (cond b (x ∷ filter f xs) (filter f xs))
  go true = sym (reverse_more x (filter f xs))
  go false = append-nil (reverse (filter f xs))

-- goroutines of one processor are none of another's
pub not_another : (p : Program) (a b g : ℕ) → eqb b a ≡ false → is_of_seat p b g ≡ true → is_of_seat p a g ≡ false
not_another p a b g apart its = grind arith

module _ (p : Program) (l : Layout) (procs : l.procs ≡ p.settings.procs) where
  abbrev arena : Arena
  arena = arena_of p.shapes l

  -- each of these operations is of the processor at seat a
  abbrev pub AreOf : (a : ℕ) → List Op → Type 0
  AreOf a [] = Unit {0}
  AreOf a (o ∷ os) = (is_of arena a (goroutine_of o) ≡ true) × AreOf a os

  pub all_its : (a : ℕ) (es : List (Entry Op)) → Legal (setting_of p l) es → AreOf a (begun_in (by a es))
  all_its a [] legal = tt
  all_its a (e ∷ es) legal = go (eqb e.actor a) refl (all_its a es legal.0) where
    one : e.actor ≡ a → (o : Option Op) → e.begun ≡ o → AreOf a (begun_in (by a es)) → AreOf a (option_to_list o ++ begun_in (by a es))
    one same o is rest = grind arith

    go : (b : Bool) → eqb e.actor a ≡ b → AreOf a (begun_in (by a es)) → AreOf a (begun_in (cond b (e ∷ by a es) (by a es)))
    go true here rest = one (eqb-true e.actor a here) e.begun refl rest
    go false apart rest = rest

  -- a statement's goroutine is of the processor that it is of
  pub its_seat : (a : ℕ) (o : Op) → is_of arena a (goroutine_of o) ≡ true → is_statement o ≡ true → is_of_seat p a (its_goroutine o) ≡ true
  its_seat a o its is = grind arith

  -- What acts, by processors.
  module _ (each : EachOperationActsOnce) (a g : ℕ) (seat : is_of_seat p a g ≡ true) where
    -- no other processor acts for the goroutine
    none_else : (es : List (Entry Op)) (e : Entry Op) → Legal (setting_of p l) (e ∷ es) → eqb e.actor a ≡ false → (x : Act) → acts l (before_step p.shapes l es e) e.found ≡ Some x → is_statement_of g x.op ≡ false
    none_else es e legal apart x is = go (is_statement_of g x.op) refl where
      its : e.actor < l.procs → is_of arena e.actor (goroutine_of x.op) ≡ true
      its lt = (subst (AreOf e.actor) (acts_last p l each e.actor lt es e legal (its_own p l es e legal e.actor lt refl) x is) (all_its e.actor (e ∷ es) legal)).0

      go : (b : Bool) → is_statement_of g x.op ≡ b → is_statement_of g x.op ≡ false
      go false other = other
      go true here = absurd (elim (cases_lt e.actor l.procs) [
        | inl lt ↦
            let y = both (is_statement x.op) (eqb (its_goroutine x.op) g) here in
            let there : is_of_seat p e.actor g ≡ true = subst (λ (h : ℕ). is_of_seat p e.actor h ≡ true) (eqb-true (its_goroutine x.op) g y.1) (its_seat e.actor x.op (its lt) y.0) in
            let no : true ≡ false = sym seat ∙ not_another p a e.actor g apart there in
            cc
        | inr le ↦ let no : None ≡ Some x = sym (no_processors p l es e legal le).acts_not ∙ is in cc
      ])

    none_here : (es : List (Entry Op)) (e : Entry Op) → Legal (setting_of p l) (e ∷ es) → eqb e.actor a ≡ false → acted_by g (acts_here p l es e) ≡ []
    none_here es e legal apart = go (acts l (before_step p.shapes l es e) e.found) refl where
      go : (x : Option Act) → acts l (before_step p.shapes l es e) e.found ≡ x → acted_by g (option_to_list (answered p.shapes l (ever_of p.shapes l es) x)) ≡ []
      go None is = refl
      go (Some x) is = ap (λ (b : Bool). cond b (option_to_list (answered p.shapes l (ever_of p.shapes l es) (Some x))) []) (none_else es e legal apart x is)

    pub order_its : (es : List (Entry Op)) → Legal (setting_of p l) es → acted_by g (order_of p.shapes l es) ≡ acted_by g (order_at p.shapes l a es)
    order_its [] legal = refl
    order_its (e ∷ es) legal = filter-append (λ (x : Answered). is_statement_of g x.op) (acts_here p l es e) (order_of p.shapes l es) ∙ go (eqb e.actor a) refl (order_its es legal.0) where
      go : (b : Bool) → eqb e.actor a ≡ b → acted_by g (order_of p.shapes l es) ≡ acted_by g (order_at p.shapes l a es) →
          acted_by g (acts_here p l es e) ++ acted_by g (order_of p.shapes l es) ≡ acted_by g (cond b (acts_here p l es e) [] ++ order_at p.shapes l a es)
      go true here ih = ap (λ (xs : List Answered). acted_by g (acts_here p l es e) ++ xs) ih ∙ sym (filter-append (λ (x : Answered). is_statement_of g x.op) (acts_here p l es e) (order_at p.shapes l a es))
      go false apart ih = ap (λ (xs : List Answered). xs ++ acted_by g (order_of p.shapes l es)) (none_here es e legal apart) ∙ ih

    -- the goroutine's statements among all that acted are those among what its processor did
    pub acted_its : (es : List (Entry Op)) → Legal (setting_of p l) es → acted_by g (acted_in p.shapes l es) ≡ acted_by g (acted_at p.shapes l a es)
    acted_its es legal = grind (arith, filter-reverse, order_its)
