-- What has acted in a run: of each processor the operations that it began, in their order, each answered as the heap that never frees answers it there.
use Rattle.std.proofs.Common.{◌≡◌, ℕ, ◌<◌, ◌≤◌, Bool, true, false, cond, eqb, arith, List, [], ◌∷◌, ◌++◌, map, reverse, Option, Some, None, refl, sym, ap, subst, ◌∙◌, inl, inr}
use Rattle.std.proofs.lemmas.Bool.{eqb-true}
use Rattle.gh_world.proofs.Vocabulary.{Act, acted, acts, ActsOnce, Answer, Answered, answered, arena_of, before_step, begun_in, by, deeds, EachOperationActsOnce, Entry, ever_of, filter, FullOnlyThere, has_point, is_busy_at, IsFullFor, Layout, Legal, map-append, meaning, OnlyPointsChange, Op, op_at, option_to_list, order_at, order_of, point_of, Processor, processor_kind, Program, reverse_onto, setting_of, Shape, started, state_of, takes, Words, words_after}
use Rattle.gh_model.specs.Answers.{AllAnswer, Answers, ever_after_all}
use Rattle.gh_mutator.specs.Deeds.{answer_at}
use Rattle.gh_base.specs.Orders.{answered_by, AnsweredDeed, model_after, answered as answered_deed, done_at}
use Rattle.gh_model.specs.Ever.{Ever, ever_after, opening_ever}
use Rattle.gh_world.proofs.Explained.Steps.{full_pointed, IsAnothers, IsItsOwn, no_processors, who_steps}

pub reverse_more : {A : Type 0} (x : A) (xs : List A) → reverse (x ∷ xs) ≡ reverse xs ++ x ∷ []
reverse_more x xs = reverse_onto xs x []

pub map-reverse : {A B : Type 0} (f : A → B) (xs : List A) → map f (reverse xs) ≡ reverse (map f xs)
map-reverse f [] = refl
map-reverse f (x ∷ xs) = ap (map f) (reverse_more x xs) ∙ map-append f (reverse xs) (x ∷ []) ∙ ap (λ ys. ys ++ f x ∷ []) (map-reverse f xs) ∙ sym (reverse_more (f x) (map f xs))

-- One answer more.

all_more : (shapes : List Shape) (e : Ever) (ops : List Op) (as' : List Answer) (o : Op) (a : Answer) → AllAnswer shapes e ops as' → Answers shapes (ever_after_all shapes e ops as') o a → AllAnswer shapes e (ops ++ o ∷ []) (as' ++ a ∷ [])
all_more shapes e [] [] o a all one = (one, tt)
all_more shapes e [] (b ∷ bs) o a all one = absurd all
all_more shapes e (p ∷ ps) [] o a all one = absurd all
all_more shapes e (p ∷ ps) (b ∷ bs) o a all one = (all.0, all_more shapes (ever_after shapes e p b) ps bs o a all.1 one)

ever_more : (shapes : List Shape) (e : Ever) (ops : List Op) (as' : List Answer) (o : Op) (a : Answer) → AllAnswer shapes e ops as' → ever_after_all shapes e (ops ++ o ∷ []) (as' ++ a ∷ []) ≡ ever_after shapes (ever_after_all shapes e ops as') o a
ever_more shapes e [] [] o a all = refl
ever_more shapes e [] (b ∷ bs) o a all = absurd all
ever_more shapes e (p ∷ ps) [] o a all = absurd all
ever_more shapes e (p ∷ ps) (b ∷ bs) o a all = ever_more shapes (ever_after shapes e p b) ps bs o a all.1

module _ (p : Program) (l : Layout) where
  abbrev own : (a : ℕ) → List (Entry Op) → Processor
  own a es = state_of (processor_kind p.shapes l) a es

  abbrev opening : Words
  opening = (setting_of p l).opening

  abbrev pub ops_in : List (Entry Op) → List Op
  ops_in es = map (λ (a : Answered). a.op) (order_of p.shapes l es)

  abbrev pub answers_in : List (Entry Op) → List Answer
  answers_in es = map (λ (a : Answered). a.answer) (order_of p.shapes l es)

  -- those of one processor
  abbrev pub ops_by : (a : ℕ) → List (Entry Op) → List Op
  ops_by a es = map (λ (x : Answered). x.op) (order_at p.shapes l a es)

  abbrev pub ever_answers_by : (a : ℕ) → List (Entry Op) → List Answer
  ever_answers_by a es = map (λ (x : Answered). x.answer) (order_at p.shapes l a es)

  -- what the entry is to the operations of one processor
  abbrev pub acts_here : List (Entry Op) → Entry Op → List Answered
  acts_here es e = option_to_list (answered p.shapes l (ever_of p.shapes l es) (acts l (before_step p.shapes l es e) e.found))

  order_own : (a : ℕ) (es : List (Entry Op)) (e : Entry Op) → eqb e.actor a ≡ true → order_at p.shapes l a (e ∷ es) ≡ acts_here es e ++ order_at p.shapes l a es
  order_own a es e here = ap (λ (b : Bool). cond b (acts_here es e) [] ++ order_at p.shapes l a es) here

  order_aside : (a : ℕ) (es : List (Entry Op)) (e : Entry Op) → eqb e.actor a ≡ false → order_at p.shapes l a (e ∷ es) ≡ order_at p.shapes l a es
  order_aside a es e apart = ap (λ (b : Bool). cond b (acts_here es e) [] ++ order_at p.shapes l a es) apart

  pub begun_own : (a : ℕ) (es : List (Entry Op)) (e : Entry Op) → eqb e.actor a ≡ true → begun_in (by a (e ∷ es)) ≡ option_to_list e.begun ++ begun_in (by a es)
  begun_own a es e here = ap (λ (b : Bool). begun_in (cond b (e ∷ by a es) (by a es))) here

  pub begun_aside : (a : ℕ) (es : List (Entry Op)) (e : Entry Op) → eqb e.actor a ≡ false → begun_in (by a (e ∷ es)) ≡ begun_in (by a es)
  begun_aside a es e apart = ap (λ (b : Bool). begun_in (cond b (e ∷ by a es) (by a es))) apart

  -- points alone change the heap that never frees
  pub ever_is : OnlyPointsChange → (es : List (Entry Op)) → model_after (processor_kind p.shapes l) (deeds l p.shapes) (meaning p.shapes) es ≡ ever_of p.shapes l es
  ever_is points [] = refl
  ever_is points (e ∷ es) = (points p.shapes l).follows es e ∙ ap (λ (v : Ever). acted p.shapes v (acts l (before_step p.shapes l es e) e.found)) (ever_is points es)

  -- an act that found no room is one of the points, where there was none
  pub full_there : (es : List (Entry Op)) (e : Entry Op) → FullOnlyThere (arena_of p.shapes l) opening (e ∷ es) → (x : Act) → acts l (before_step p.shapes l es e) e.found ≡ Some x → x.full ≡ true →
      IsFullFor (arena_of p.shapes l) e.actor (words_after opening es) x.op
  full_there es e full x is f =
      let m = before_step p.shapes l es e in
      let point : has_point x.op ≡ true = full_pointed l m m.task e.found x is f in
      full.1 x (ap point_of is ∙ ap (λ (b : Bool). cond b (Some x) None) point) f

  act_answers : (e : Ever) (a : Act) (seat : ℕ) (words : Words) → (a.full ≡ true → IsFullFor (arena_of p.shapes l) seat words a.op) → Answers p.shapes e a.op (answer_at p.shapes e a)
  act_answers e a seat words full = grind arith

  -- the operations that have acted are answered, in order, as the heap that never frees answers them
  pub record Acted (es : List (Entry Op)) : Type 0 where
    pub every : AllAnswer p.shapes opening_ever (reverse (ops_in es)) (reverse (answers_in es))
    pub ever : ever_after_all p.shapes opening_ever (reverse (ops_in es)) (reverse (answers_in es)) ≡ ever_of p.shapes l es

  acted_more : (es : List (Entry Op)) (e : Entry Op) (a : Option Act) → acts l (before_step p.shapes l es e) e.found ≡ a → Acted es →
      ((x : Act) → a ≡ Some x → x.full ≡ true → IsFullFor (arena_of p.shapes l) e.actor (words_after opening es) x.op) → Acted (e ∷ es)
  acted_more es e a is h full = grind (arith, act_answers, all_more, ever_more, reverse_more)

  pub acted_all : (es : List (Entry Op)) → FullOnlyThere (arena_of p.shapes l) opening es → Acted es
  acted_all [] full = record { every = tt; ever = refl }
  acted_all (e ∷ es) full = acted_more es e (acts l (before_step p.shapes l es e) e.found) refl (acted_all es full.0) (λ x is f. full_there es e full x is f)

  -- ---- what a processor has begun has acted, but for what is to act

  module _ (each : EachOperationActsOnce) where
    -- what is to act once this is begun, if anything is
    to_act : (m : Processor) (before acted : List Op) (b : Option Op) → ((o : Op) → b ≡ Some o → is_busy_at m.task ≡ false) → is_busy_at (started (processor_kind p.shapes l) b m).task ≡ true → before ≡ option_to_list (op_at m.task) ++ acted →
        option_to_list b ++ before ≡ option_to_list (op_at (started (processor_kind p.shapes l) b m).task) ++ acted
    to_act m before acted b rested busy h = grind arith

    -- what acts goes over to what has acted
    acts_once : (before after : Option Op) (v : Ever) (x : Option Act) (xs : List Answered) → ActsOnce before after x →
        option_to_list before ++ map (λ (y : Answered). y.op) xs ≡ option_to_list after ++ map (λ (y : Answered). y.op) (option_to_list (answered p.shapes l v x) ++ xs)
    acts_once before after v x xs h = grind arith

    abbrev IsDone : (a : ℕ) → List (Entry Op) → Type 0
    IsDone a es = begun_in (by a es) ≡ option_to_list (op_at (own a es).task) ++ ops_by a es

    -- where the entry is its own, so it is with the operation that is begun
    begun_with : (a : ℕ) (lt : a < l.procs) (es : List (Entry Op)) (e : Entry Op) (legal : Legal (setting_of p l) (e ∷ es)) → IsItsOwn p l es e legal a lt → IsDone a es → begun_in (by a (e ∷ es)) ≡ option_to_list (op_at (before_step p.shapes l es e).task) ++ ops_by a es
    begun_with a lt es e legal x before = grind (arith, begun_own, to_act)

    pub ops_are : (a : ℕ) → a < l.procs → (es : List (Entry Op)) → Legal (setting_of p l) es → IsDone a es
    ops_are a lt [] legal = refl
    ops_are a lt (e ∷ es) legal = elim (who_steps p l es e legal a lt) [ inl x ↦ mine x (ops_are a lt es legal.0) | inr x ↦ other x (ops_are a lt es legal.0) ] where
      mine : IsItsOwn p l es e legal a lt → IsDone a es → IsDone a (e ∷ es)
      mine x before =
          let m = before_step p.shapes l es e in
          begun_with a lt es e legal x before
          ∙ acts_once (op_at m.task) (op_at (takes l p.shapes m e.found).task) (ever_of p.shapes l es) (acts l m e.found) (order_at p.shapes l a es) (each.steps l p.shapes m e.found x.busy)
          ∙ ap (λ (y : Processor). option_to_list (op_at y.task) ++ map (λ (z : Answered). z.op) (acts_here es e ++ order_at p.shapes l a es)) (sym x.after)
          ∙ ap (λ (xs : List Answered). option_to_list (op_at (own a (e ∷ es)).task) ++ map (λ (z : Answered). z.op) xs) (sym (order_own a es e x.here))

      other : IsAnothers p l es e legal a lt → IsDone a es → IsDone a (e ∷ es)
      other x before =
          begun_aside a es e x.apart ∙ before
          ∙ ap (λ (y : Processor). option_to_list (op_at y.task) ++ ops_by a es) (sym x.after)
          ∙ ap (λ (xs : List Answered). option_to_list (op_at (own a (e ∷ es)).task) ++ map (λ (z : Answered). z.op) xs) (sym (order_aside a es e x.apart))

    -- what acts is what was begun last
    pub acts_last : (a : ℕ) (lt : a < l.procs) (es : List (Entry Op)) (e : Entry Op) (legal : Legal (setting_of p l) (e ∷ es)) → IsItsOwn p l es e legal a lt → (act : Act) → acts l (before_step p.shapes l es e) e.found ≡ Some act → begun_in (by a (e ∷ es)) ≡ act.op ∷ ops_by a es
    acts_last a lt es e legal x act is =
        let m = before_step p.shapes l es e in
        let once = subst (λ (q : Option Act). ActsOnce (op_at m.task) (op_at (takes l p.shapes m e.found).task) q) is (each.steps l p.shapes m e.found x.busy) in
        begun_with a lt es e legal x (ops_are a lt es legal.0) ∙ ap (λ (o : Option Op). option_to_list o ++ ops_by a es) once.0

  -- nothing acts at the seat of a worker or of the coordinator
  pub none_acts : (a : ℕ) → l.procs ≤ a → (es : List (Entry Op)) → Legal (setting_of p l) es → order_at p.shapes l a es ≡ []
  none_acts a le [] legal = refl
  none_acts a le (e ∷ es) legal = go (eqb e.actor a) refl (none_acts a le es legal.0) where
    go : (b : Bool) → eqb e.actor a ≡ b → order_at p.shapes l a es ≡ [] → cond b (acts_here es e) [] ++ order_at p.shapes l a es ≡ []
    go false apart ih = ih
    go true here ih =
        let same : e.actor ≡ a = eqb-true e.actor a here in
        let x = no_processors p l es e legal (omega (arith, same, le)) in
        ap (λ (y : Option Act). option_to_list (answered p.shapes l (ever_of p.shapes l es) y) ++ order_at p.shapes l a es) x.acts_not ∙ ih

  -- ---- the points among what has acted

  abbrev is_point_of : Answered → Bool
  is_point_of a = has_point a.op

  abbrev as_answered : AnsweredDeed Act Answer → Answered
  as_answered y = record { op = y.deed.op; answer = y.answer }

  abbrev deeds_by : (a : ℕ) → List (Entry Op) → List (AnsweredDeed Act Answer)
  deeds_by a es = answered_by (processor_kind p.shapes l) (deeds l p.shapes) (meaning p.shapes) a es

  abbrev pub points_by : (a : ℕ) → List (Entry Op) → List Answered
  points_by a es = map as_answered (deeds_by a es)

  one_point : (v w : Ever) (x : Option Act) (xs : List Answered) → w ≡ v → map as_answered (option_to_list (answered_deed (meaning p.shapes) w (point_of x))) ++ filter is_point_of xs ≡ filter is_point_of (option_to_list (answered p.shapes l v x) ++ xs)
  one_point v w x xs e = grind arith

  abbrev deed_here : List (Entry Op) → Entry Op → List (AnsweredDeed Act Answer)
  deed_here es e = option_to_list (answered_deed (meaning p.shapes) (model_after (processor_kind p.shapes l) (deeds l p.shapes) (meaning p.shapes) es) (done_at (processor_kind p.shapes l) (deeds l p.shapes) es e))

  pub points_are : OnlyPointsChange → (a : ℕ) (es : List (Entry Op)) → points_by a es ≡ filter is_point_of (order_at p.shapes l a es)
  points_are points a [] = refl
  points_are points a (e ∷ es) = go (eqb e.actor a) (points_are points a es) where
    go : (b : Bool) → points_by a es ≡ filter is_point_of (order_at p.shapes l a es) → map as_answered (cond b (deed_here es e ++ deeds_by a es) (deeds_by a es)) ≡ filter is_point_of (cond b (acts_here es e) [] ++ order_at p.shapes l a es)
    go true ih =
        map-append as_answered (deed_here es e) (deeds_by a es)
        ∙ ap (λ (xs : List Answered). map as_answered (deed_here es e) ++ xs) ih
        ∙ one_point (ever_of p.shapes l es) (model_after (processor_kind p.shapes l) (deeds l p.shapes) (meaning p.shapes) es) (acts l (before_step p.shapes l es e) e.found) (order_at p.shapes l a es) (ever_is points es)
    go false ih = ih
