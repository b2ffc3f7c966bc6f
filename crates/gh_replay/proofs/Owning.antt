-- Each name that the heap that never frees answers is one that a goroutine of the script gave.
use Rattle.std.proofs.Common.{◌≡◌, ℕ, ◌<◌, ◌≤◌, Bool, true, false, cond, ◌==◌, List, [], ◌∷◌, ◌++◌, length, map, refl, sym, subst, ◌∙◌, inl, inr, arith}
use Rattle.std.proofs.lemmas.Bool.{eq-eqb}
use Rattle.gh_replay.proofs.Vocabulary.{acted_in, AllAnswer, AllByRecursion, Answer, Answered, Answers, answers_by, cases_lt, Ever, ever_after, filter, is_statement_of, IsReportOf, MakerStands, makes_object, Name, next_name, Op, opening_ever, Program, ReportState, sets_global, Shape, stores_value, takes_answer, with_object, with_register}
use Rattle.gh_model.specs.declared.EverValue.{EverValue}

module _ (shapes : List Shape) (n : ℕ) where
  abbrev pub Own : EverValue → Type 0
  Own (EverValue.Ref m) = m.g < n
  Own _ = Unit {0}

  pub record AllOwn (e : Ever) : Type 0 where
    registers : (g d : ℕ) → Own (e.register g d)
    fields : (m : Name) (k : ℕ) → Own (e.field m k)
    globals : (k : ℕ) → Own (e.global k)

  abbrev pub OwnOp : Op → Type 0
  OwnOp (Op.New g d t) = g < n
  OwnOp _ = Unit {0}

  abbrev pub OwnAnswer : Answer → Type 0
  OwnAnswer (Answer.Ref m) = m.g < n
  OwnAnswer _ = Unit {0}

  answer_own : (e : Ever) (o : Op) (a : Answer) → AllOwn e → OwnOp o → Answers shapes e o a → OwnAnswer a
  answer_own e o a h own q = grind arith

  register_own : (e : Ever) (g d : ℕ) (v : EverValue) → AllOwn e → Own v → AllOwn (with_register e g d v)
  register_own e g d v x o = grind arith

  takes_own : (e : Ever) (g d : ℕ) (a : Answer) → AllOwn e → OwnAnswer a → AllOwn (takes_answer e g d a)
  takes_own e g d a x o = grind arith

  stores_own : (e : Ever) (v : EverValue) (k : ℕ) (w : EverValue) (a : Answer) → AllOwn e → Own w → AllOwn (stores_value e v k w a)
  stores_own e v k w a x o = grind arith

  sets_own : (e : Ever) (k : ℕ) (v : EverValue) (a : Answer) → AllOwn e → Own v → AllOwn (sets_global e k v a)
  sets_own e k v a x o = grind arith

  made_own : (e : Ever) (g d t : ℕ) → AllOwn e → g < n → AllOwn (with_register (with_object shapes e g t) g d (EverValue.Ref (next_name e g)))
  made_own e g d t x o = grind arith

  makes_own : (e : Ever) (g d t : ℕ) (a : Answer) → AllOwn e → g < n → AllOwn (makes_object shapes e g d t a)
  makes_own e g d t a x o = grind (arith, made_own, register_own)

  after_own : (e : Ever) (o : Op) (a : Answer) → AllOwn e → OwnOp o → OwnAnswer a → AllOwn (ever_after shapes e o a)
  after_own e o a x own q = grind (arith, makes_own, register_own, sets_own, stores_own, takes_own)

  -- the answers to operations of goroutines that there are
  pub all_own : (e : Ever) (os : List Op) (told_so : List Answer) → AllOwn e → AllByRecursion OwnOp os → AllAnswer shapes e os told_so → AllByRecursion OwnAnswer told_so
  all_own e [] [] x own q = tt
  all_own e [] (a ∷ more) x own q = absurd q
  all_own e (o ∷ rest) [] x own q = absurd q
  all_own e (o ∷ rest) (a ∷ more) x own q =
      let named = answer_own e o a x own.0 q.0 in
      (named, all_own (ever_after shapes e o a) rest more (after_own e o a x own.0 named) own.1 q.1)

  pub opening_own : AllOwn opening_ever
  opening_own = record { registers = λ g d. tt; fields = λ m k. tt; globals = λ k. tt }

  -- operations that are statements of no other goroutine
  abbrev NoOthers : List Answered → Type 0
  NoOthers xs = (g : ℕ) → n ≤ g → filter (λ (x : Answered). is_statement_of g x.op) xs ≡ []

  none_here : (x : Answered) (xs : List Answered) (b : Bool) → cond b (x ∷ xs) xs ≡ [] → (b ≡ false) × (xs ≡ [])
  none_here x xs b e = grind arith

  op_own : (o : Op) → ((g : ℕ) → n ≤ g → is_statement_of g o ≡ false) → OwnOp o
  op_own (Op.New g d t) none = elim (cases_lt g n) [
    | inl lt ↦ lt
    | inr le ↦ absurd (let no : true ≡ false = sym (eq-eqb g g refl) ∙ none g le in cc)
  ]
  op_own _ none = tt

  pub ops_own : (xs : List Answered) → NoOthers xs → AllByRecursion OwnOp (map (λ (x : Answered). x.op) xs)
  ops_own [] none = tt
  ops_own (x ∷ xs) none =
      let parts : (g : ℕ) → n ≤ g → (is_statement_of g x.op ≡ false) × (filter (λ (y : Answered). is_statement_of g y.op) xs ≡ []) = λ g le. none_here x (filter (λ (y : Answered). is_statement_of g y.op) xs) (is_statement_of g x.op) (none g le) in
      (op_own x.op (λ g le. (parts g le).0), ops_own xs (λ g le. (parts g le).1))

  -- what all say, some of them say
  pub some_own : (q : Answered → Bool) (xs : List Answered) → AllByRecursion OwnAnswer (map (λ (x : Answered). x.answer) xs) → AllByRecursion OwnAnswer (map (λ (x : Answered). x.answer) (filter q xs))
  some_own q [] h = tt
  some_own q (x ∷ xs) h = go (q x) (some_own q xs h.1) where
    go : (b : Bool) → AllByRecursion OwnAnswer (map (λ (y : Answered). y.answer) (filter q xs)) → AllByRecursion OwnAnswer (map (λ (y : Answered). y.answer) (cond b (x ∷ filter q xs) (filter q xs)))
    go true rest = (h.0, rest)
    go false rest = rest

-- each answer that names an object has a goroutine of the script that made it
maker_stands : (p : Program) (b : Answer) → OwnAnswer p.shapes (length p.goroutines) b → MakerStands p b
maker_stands p b o = grind arith

-- what is so of each goroutine's answers is so of all
by_goroutine : (p : Program) (told_so : List (ℕ × Answer)) → ((g : ℕ) → AllByRecursion (OwnAnswer p.shapes (length p.goroutines)) (answers_by g told_so)) → AllByRecursion (λ (x : ℕ × Answer). MakerStands p x.1) told_so
by_goroutine p [] each = tt
by_goroutine p (x ∷ more) each = (maker_stands p x.1 here, by_goroutine p more (λ g. rest g (x.0 == g) (each g))) where
  rest : (g : ℕ) (b : Bool) → AllByRecursion (OwnAnswer p.shapes (length p.goroutines)) (cond b (x.1 ∷ []) [] ++ answers_by g more) → AllByRecursion (OwnAnswer p.shapes (length p.goroutines)) (answers_by g more)
  rest g true h = h.1
  rest g false h = h

  here : OwnAnswer p.shapes (length p.goroutines) x.1
  here = (subst (λ (b : Bool). AllByRecursion (OwnAnswer p.shapes (length p.goroutines)) (cond b (x.1 ∷ []) [] ++ answers_by x.0 more)) (eq-eqb x.0 x.0 refl) (each x.0)).0

pub answers_stand : (p : Program) (report : ReportState) → IsReportOf p report → AllByRecursion (λ (x : ℕ × Answer). MakerStands p x.1) report.outcome.answers
answers_stand p report r = by_goroutine p report.outcome.answers of_each where
  acted : List Answered
  acted = acted_in p.shapes r.layout r.steps

  all_answers : AllByRecursion (OwnAnswer p.shapes (length p.goroutines)) (map (λ (x : Answered). x.answer) acted)
  all_answers =
      let e = r.explained in
      subst (AllByRecursion (OwnAnswer p.shapes (length p.goroutines))) (sym e.answered)
      (all_own p.shapes (length p.goroutines) opening_ever (map (λ (x : Answered). x.op) acted) e.all (opening_own p.shapes (length p.goroutines)) (ops_own p.shapes (length p.goroutines) acted e.others) e.ever)

  of_each : (g : ℕ) → AllByRecursion (OwnAnswer p.shapes (length p.goroutines)) (answers_by g report.outcome.answers)
  of_each g = subst (AllByRecursion (OwnAnswer p.shapes (length p.goroutines))) ((r.explained.each g).answered ∙ sym (r.answers g)) (some_own p.shapes (length p.goroutines) (λ (x : Answered). is_statement_of g x.op) acted all_answers)
