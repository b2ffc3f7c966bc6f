-- Where an operation of a run acted: the step of the list, what it found there, and its answer.
use Rattle.std.proofs.Common.{◌≡◌, ℕ, zero, suc, ◌⊎◌, Bool, true, cond, List, [], ◌∷◌, ◌++◌, length, reverse, Option, Some, None, refl, sym, ap, ◌∙◌, arith, inl, inr, slice_get}
use Rattle.std.proofs.lemmas.Grind.{reverse_onto}
use Rattle.gh_explained.proofs.Vocabulary.{Act, acted_in, ActedBehind, acts, answer_at, Answered, answered, arena_of, before_step, Entry, ever_of, FullOnlyThere, has_point, Layout, Legal, length-reverse, Op, option_to_list, order_of, point_of, Program, setting_of}

-- what stands in a list with one element more
pub one_more_at : {A : Type 0} (xs : List A) (y : A) (i : ℕ) (x : A) → slice_get (xs ++ y ∷ []) i ≡ Some x → (slice_get xs i ≡ Some x) ⊎ ((length xs ≡ i) × (y ≡ x))
one_more_at [] y zero x e = inr (refl, cc)
one_more_at [] y (suc i) x e = absurd (cc)
one_more_at (z ∷ xs) y zero x e = inl e
one_more_at (z ∷ xs) y (suc i) x e = elim (one_more_at xs y i x e) [ inl h ↦ inl h | inr h ↦ inr (omega (arith, h.0), h.1) ]

-- what a step does is a point, if its operation has one
pub pointed : (x : Act) (does : Option Act) → does ≡ Some x → has_point x.op ≡ true → point_of does ≡ Some x
pointed x does is point = ap point_of is ∙ ap (λ (b : Bool). cond b (Some x) None) point

module _ (p : Program) (l : Layout) where
  abbrev act_with : Op → Bool → Act
  act_with o full = record { op = o; full = full }

  -- the operation acted behind i others, found room or not, and was answered so
  pub record ActsThere (es : List (Entry Op)) (i : ℕ) (x : Answered) (full : Bool) : Type 0 where
    pub step : ActedBehind p l es i x.op full
    pub answered_so : answer_at p.shapes (ever_of p.shapes l step.before) (record { op = x.op; full = full }) ≡ x.answer
    pub legal : Legal (setting_of p l) (step.entry ∷ step.before)
    pub room : FullOnlyThere (arena_of p.shapes l) (setting_of p l).opening (step.entry ∷ step.before)

  pub acts_there : (es : List (Entry Op)) → Legal (setting_of p l) es → FullOnlyThere (arena_of p.shapes l) (setting_of p l).opening es → (i : ℕ) (x : Answered) → slice_get (acted_in p.shapes l es) i ≡ Some x → (full : Bool) × ActsThere es i x full
  acts_there [] legal room i x at = absurd (none i at) where
    none : (i : ℕ) → slice_get {X = Answered} [] i ≡ Some x → ⊥
    none zero e = absurd (cc)
    none (suc i) e = absurd (cc)
  acts_there (e ∷ es) legal room i x at = go (acts l (before_step p.shapes l es e) e.found) refl (acts_there es legal.0 room.0 i x) at where
    further : (full : Bool) → ActsThere es i x full → ActsThere (e ∷ es) i x full
    further full f = record {
      step = record { before = f.step.before; entry = f.step.entry; later = e ∷ f.step.later; there = ap (λ (xs : List (Entry Op)). e ∷ xs) f.step.there; behind = f.step.behind; acted = f.step.acted };
      answered_so = f.answered_so;
      legal = f.legal;
      room = f.room;
    }

    here : (a : Act) → acts l (before_step p.shapes l es e) e.found ≡ Some a → length (reverse (order_of p.shapes l es)) ≡ i → record { op = a.op; answer = answer_at p.shapes (ever_of p.shapes l es) a } ≡ x → ActsThere (e ∷ es) i x a.full
    here a is long same =
        let o : a.op ≡ x.op = ap (λ (y : Answered). y.op) same in
        record {
          step = record { before = es; entry = e; later = []; there = refl; behind = sym (length-reverse (order_of p.shapes l es)) ∙ long; acted = is ∙ ap (λ (q : Op). Some (act_with q a.full)) o };
          answered_so = ap (λ (q : Op). answer_at p.shapes (ever_of p.shapes l es) (act_with q a.full)) (sym o) ∙ ap (λ (y : Answered). y.answer) same;
          legal = legal;
          room = room;
        }

    go : (a : Option Act) → acts l (before_step p.shapes l es e) e.found ≡ a → (slice_get (reverse (order_of p.shapes l es)) i ≡ Some x → (full : Bool) × ActsThere es i x full) → slice_get (reverse (option_to_list (answered p.shapes l (ever_of p.shapes l es) a) ++ order_of p.shapes l es)) i ≡ Some x → (full : Bool) × ActsThere (e ∷ es) i x full
    go None q earlier there = let f = earlier there in (f.0, further f.0 f.1)
    go (Some a) q earlier there =
        let y : Answered = record { op = a.op; answer = answer_at p.shapes (ever_of p.shapes l es) a } in
        elim (one_more_at (reverse (order_of p.shapes l es)) y i x (sym (ap (λ (xs : List Answered). slice_get xs i) (reverse_onto (order_of p.shapes l es) y [])) ∙ there)) [ inl old ↦ let f = earlier old in (f.0, further f.0 f.1) | inr new ↦ (a.full, here a q new.0 new.1) ]
