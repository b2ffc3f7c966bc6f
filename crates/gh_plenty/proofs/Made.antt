-- How many objects each goroutine has made: no more than it has begun to make in the list, and so no more than its statements make.
use Rattle.std.proofs.Common.{◌≡◌, inl, inr, ℕ, ◌+◌, ◌≤◌, ◌==◌, Bool, true, false, cond, eqb, List, [], ◌∷◌, ◌++◌, length, refl, sym, ap, subst, ◌∙◌, arith, Option, Some, None}
use Rattle.std.specs.Option.{option_to_list}
use Rattle.std.proofs.lemmas.Bool.{eq-eqb}
use Rattle.std.proofs.lemmas.Bool.Decides.{eqb_tells}
use Rattle.gh_plenty.proofs.Vocabulary.{acted, acted_by, acted_in, answer_of, Answered, answered, before_step, deeds, Entry, Ever, ever_after, ever_of, is_new_statement, IsExplained, Layout, makes_object, meaning, objects_of, OnlyPointsChange, Op, order_of, Outcome, processor_kind, Program, sets_global, Shape, statement_as_op, statements_of, stores_value, takes_answer}
use Rattle.gh_base.specs.declared.value.Answer.{Answer}
use Rattle.gh_base.specs.Orders.{model_after}
use Rattle.gh_model.specs.declared.EverValue.{EverValue}
use Rattle.gh_mutator.specs.Listing.{Act, acts}
use Rattle.gh_script.specs.declared.statement.Stmt.{Stmt}
use Rattle.gh_world.specs.Turns.{is_statement_of}
use Rattle.gh_plenty.proofs.Counts.{count, count-append, count-filter, count-map, count-reverse, count-same}

-- the operation makes an object of goroutine g
abbrev pub makes_for : ℕ → Op → Bool
makes_for g (Op.New h d t) = h == g
makes_for g _ = false

abbrev pub made_in : ℕ → List Answered → ℕ
made_in g xs = count (λ (x : Answered). makes_for g x.op) xs

-- Of the other statements none makes an object.

takes_none : (e : Ever) (g d : ℕ) (a : Answer) → (takes_answer e g d a).made ≡ e.made
takes_none e g d Answer.Nil = refl
takes_none e g d (Answer.Int n) = refl
takes_none e g d (Answer.Ref n) = refl
takes_none e g d _ = refl

stores_none : (e : Ever) (k : ℕ) (base v : EverValue) (a : Answer) → (stores_value e base k v a).made ≡ e.made
stores_none e k (EverValue.Ref n) v Answer.Done = refl
stores_none e k _ v _ = refl

sets_none : (e : Ever) (k : ℕ) (v : EverValue) (a : Answer) → (sets_global e k v a).made ≡ e.made
sets_none e k v Answer.Done = refl
sets_none e k v _ = refl

module _ (shapes : List Shape) (e : Ever) (g : ℕ) where
  -- the object is of goroutine g, or of another
  object_made : (h : ℕ) → cond (eqb g h) (e.made h + 1) (e.made g) ≤ e.made g + cond (eqb h g) 1 0
  object_made h = elim (eqb_tells g h) [
    | inl is ↦ subst (λ (b : Bool). cond b (e.made h + 1) (e.made g) ≤ e.made g + cond (eqb h g) 1 0) (sym is.0)
        (subst (λ (b : Bool). e.made h + 1 ≤ e.made g + cond b 1 0) (sym (eq-eqb h g (sym is.1))) (let same = ap e.made is.1 in omega (arith, same)))
    | inr other ↦ subst (λ (b : Bool). cond b (e.made h + 1) (e.made g) ≤ e.made g + cond (eqb h g) 1 0) (sym other.0) (omega arith)
  ]

  grows : (h : ℕ) (x : Answered) → cond (eqb g h) (e.made h + 1) (e.made g) ≤ e.made g + length (cond (eqb h g) (x ∷ []) [])
  grows h x = go (eqb h g) (object_made h) where
    go : (b : Bool) → cond (eqb g h) (e.made h + 1) (e.made g) ≤ e.made g + cond b 1 0 → cond (eqb g h) (e.made h + 1) (e.made g) ≤ e.made g + length (cond b (x ∷ []) [])
    go true le = le
    go false le = le

  new_made : (h d t : ℕ) (full : Bool) (x : Answered) → (makes_object shapes e h d t (cond full Answer.Full (answer_of shapes e (Op.New h d t)))).made g ≤ e.made g + length (cond (eqb h g) (x ∷ []) [])
  new_made h d t true x = omega arith
  new_made h d t false x = grows h x

  same : (made : ℕ → ℕ) → made ≡ e.made → made g ≤ e.made g + 0
  same made is = let one = ap (λ (f : ℕ → ℕ). f g) is in omega (arith, one)

  -- one act more
  act_made : (o : Op) (full : Bool) (x : Answered) → x.op ≡ o → (ever_after shapes e o (cond full Answer.Full (answer_of shapes e o))).made g ≤ e.made g + made_in g (x ∷ [])
  act_made o full x is = subst (λ (y : Op). (ever_after shapes e o (cond full Answer.Full (answer_of shapes e o))).made g ≤ e.made g + length (cond (makes_for g y) (x ∷ []) [])) (sym is) (go o) where
    go : (y : Op) → (ever_after shapes e y (cond full Answer.Full (answer_of shapes e y))).made g ≤ e.made g + length (cond (makes_for g y) (x ∷ []) [])
    go (Op.New h d t) = new_made h d t full x
    go (Op.Load h d b k) = same _ (takes_none e h d _)
    go (Op.Store h b k v) = same _ (stores_none e k (e.register h b) (e.register h v) _)
    go (Op.GetGlobal h d k) = same _ (takes_none e h d _)
    go (Op.SetGlobal h k v) = same _ (sets_none e k (e.register h v) _)
    go _ = omega arith

module _ (p : Program) (l : Layout) (changed : OnlyPointsChange) where
  -- the heap that never frees after the list
  abbrev pub ever : List (Entry Op) → Ever
  ever es = model_after (processor_kind p.shapes l) (deeds l p.shapes) (meaning p.shapes) es

  step_made : (e f : Ever) (g : ℕ) (x : Option Act) → (acted p.shapes e x).made g ≤ e.made g + made_in g (option_to_list (answered p.shapes l f x))
  step_made e f g None = omega arith
  step_made e f g (Some x) = act_made p.shapes e g x.op x.full _ refl

  -- a goroutine has made no more objects than have acted
  pub made_few : (es : List (Entry Op)) (g : ℕ) → (ever es).made g ≤ made_in g (order_of p.shapes l es)
  made_few [] g = omega arith
  made_few (e ∷ es) g =
      let x = acts l (before_step p.shapes l es e) e.found in
      let one = step_made (ever es) (ever_of p.shapes l es) g x in
      let rest = made_few es g in
      let all = count-append (λ (y : Answered). makes_for g y.op) (option_to_list (answered p.shapes l (ever_of p.shapes l es) x)) (order_of p.shapes l es) in
      let is = ap (λ (y : Ever). y.made g) ((changed p.shapes l).follows es e) in
      omega (arith, one, rest, all, is)

  -- more act later
  pub later_more : (later es : List (Entry Op)) (g : ℕ) → made_in g (order_of p.shapes l es) ≤ made_in g (order_of p.shapes l (later ++ es))
  later_more [] es g = omega arith
  later_more (e ∷ later) es g =
      let rest = later_more later es g in
      let all = count-append (λ (y : Answered). makes_for g y.op) (option_to_list (answered p.shapes l (ever_of p.shapes l (later ++ es)) (acts l (before_step p.shapes l (later ++ es) e) e.found))) (order_of p.shapes l (later ++ es)) in
      omega (arith, rest, all)

-- The objects of a whole run are those of the script.
module _ (p : Program) (l : Layout) (es : List (Entry Op)) (o : Outcome) (run : IsExplained p l es o) (g : ℕ) where
  is_its : (x : Answered) → makes_for g x.op ≡ true → is_statement_of g x.op ≡ true
  is_its x is = go x.op is where
    go : (y : Op) → makes_for g y ≡ true → is_statement_of g y ≡ true
    go (Op.New h d t) e = e
    go _ e = absurd (cc)

  all_its : made_in g (acted_by g (acted_in p.shapes l es)) ≡ made_in g (order_of p.shapes l es)
  all_its =
      count-filter (λ (x : Answered). makes_for g x.op) (λ (x : Answered). is_statement_of g x.op) (acted_in p.shapes l es) is_its
      ∙ count-reverse (λ (x : Answered). makes_for g x.op) (order_of p.shapes l es)

  of_statement : (s : Stmt) → makes_for g (statement_as_op g s) ≡ is_new_statement s
  of_statement (Stmt.New d t) = eq-eqb g g refl
  of_statement (Stmt.Load d b k) = refl
  of_statement (Stmt.Store b k v) = refl
  of_statement (Stmt.GetGlobal d k) = refl
  of_statement (Stmt.SetGlobal k v) = refl
  of_statement (Stmt.Int d n) = refl
  of_statement (Stmt.Move d s) = refl
  of_statement (Stmt.Nil d) = refl
  of_statement Stmt.Gc = refl

  pub of_script : made_in g (order_of p.shapes l es) ≡ objects_of p g
  of_script =
      sym all_its ∙ (sym (count-map (makes_for g) (λ (x : Answered). x.op) (acted_by g (acted_in p.shapes l es)))
      ∙ (ap (count (makes_for g)) (run.each g).statements
      ∙ (count-map (makes_for g) (statement_as_op g) (statements_of p g) ∙ count-same (λ (s : Stmt). makes_for g (statement_as_op g s)) is_new_statement (statements_of p g) of_statement)))

  -- nobody else makes any
  pub of_others : length p.goroutines ≤ g → made_in g (order_of p.shapes l es) ≡ 0
  of_others le = sym all_its ∙ ap (made_in g) (run.others g le)
