-- What acts in a whole run is an order of all operations, and where nothing is answered `full` it leaves the heap that this order leaves.
use Rattle.std.proofs.Common.{◌≡◌, ◌≢◌, ℕ, suc, ◌<◌, ◌%◌, Bool, true, false, cond, eqb, List, [], ◌∷◌, ◌++◌, reverse, length, Option, Some, None, refl, sym, ap, subst, ◌∙◌, arith, inl, inr, slice_get}
use Rattle.std.proofs.lemmas.Bool.{eq-eqb, eqb-true}
use Rattle.std.proofs.lemmas.Grind.{reverse_onto}
use Rattle.std.proofs.lemmas.List.{append-nil, map-append, reverse-reverse}
use Rattle.std.proofs.lemmas.Nat.{mod_below}
use Rattle.gh_soak.proofs.Vocabulary.{acted_at, acted_in, answer_of, Answered, answered, answers_of, before_step, cases_lt, eqb-false, Ever, ever_after, ever_left_by, ever_of, filter, filter-append, is_by_goroutine, is_of_seat, IsOrderOf, Op, opening_ever, operations_of, ops_of, option_to_list, order_at, order_of, Program, Shape, turns_of}
use Rattle.gh_base.specs.declared.layout.Layout.{Layout}
use Rattle.gh_base.specs.declared.machine.Entry.{Entry}
use Rattle.gh_base.specs.declared.value.Answer.{Answer}
use Rattle.gh_lines.specs.Text.{Outcome}
use Rattle.gh_model.specs.Answers.{AllAnswer, answers_from, Answers, ever_after_all}
use Rattle.gh_mutator.specs.Deeds.{acted, answer_at}
use Rattle.gh_mutator.specs.Listing.{Act, acts}
use Rattle.gh_plenty.specs.Plenty.{NeverFull}
use Rattle.gh_world.specs.Runs.{IsExplained}
use Rattle.gh_world.specs.World.{LaysOut}
use Rattle.gh_soak.proofs.Turns.{turns_away, turns_beyond, turns_mine}

-- ---- lists

reverse_more : {A : Type 0} (x : A) (xs : List A) → reverse (x ∷ xs) ≡ reverse xs ++ x ∷ []
reverse_more x xs = reverse_onto xs x []

left_none : {A : Type 0} (xs ys : List A) → xs ++ ys ≡ [] → xs ≡ []
left_none [] ys e = refl
left_none (x ∷ xs) ys e = absurd cc

right_none : {A : Type 0} (xs ys : List A) → xs ++ ys ≡ [] → ys ≡ []
right_none [] ys e = e
right_none (x ∷ xs) ys e = absurd cc

reversed_none : {A : Type 0} (xs : List A) → reverse xs ≡ [] → xs ≡ []
reversed_none xs e = sym (reverse-reverse xs) ∙ ap reverse e

-- ---- what acts for one goroutine

module _ (g : ℕ) where
  -- the operations of the goroutine among these
  abbrev mine : List Answered → List Op
  mine xs = filter (is_by_goroutine g) (ops_of xs)

  mine_append : (xs ys : List Answered) → mine (xs ++ ys) ≡ mine xs ++ mine ys
  mine_append xs ys = ap (filter (is_by_goroutine g)) (map-append (λ (a : Answered). a.op) xs ys) ∙ filter-append (is_by_goroutine g) (ops_of xs) (ops_of ys)

  mine_reverse : (xs : List Answered) → mine (reverse xs) ≡ reverse (mine xs)
  mine_reverse [] = refl
  mine_reverse (x ∷ xs) = ap mine (reverse_more x xs) ∙ mine_append (reverse xs) (x ∷ []) ∙ ap (λ (os : List Op). os ++ mine (x ∷ [])) (mine_reverse xs) ∙ go (is_by_goroutine g x.op) where
    go : (b : Bool) → reverse (mine xs) ++ cond b (x.op ∷ []) [] ≡ reverse (cond b (x.op ∷ mine xs) (mine xs))
    go true = sym (reverse_more x.op (mine xs))
    go false = append-nil (reverse (mine xs))

  module _ (shapes : List Shape) (l : Layout) (a : ℕ) where
    -- no other actor does anything of the goroutine
    abbrev NoOther : List (Entry Op) → Type 0
    NoOther es = (b : ℕ) → b ≢ a → mine (order_at shapes l b es) ≡ []

    abbrev acts_here : List (Entry Op) → Entry Op → List Answered
    acts_here es e = option_to_list (answered shapes l (ever_of shapes l es) (acts l (before_step shapes l es e) e.found))

    -- so what all do of it is what this one does
    one_does : (es : List (Entry Op)) → NoOther es → mine (order_of shapes l es) ≡ mine (order_at shapes l a es)
    one_does [] none = refl
    one_does (e ∷ es) none =
        mine_append (acts_here es e) (order_of shapes l es)
        ∙ ap (λ (os : List Op). mine (acts_here es e) ++ os) (one_does es before)
        ∙ ap (λ (os : List Op). os ++ mine (order_at shapes l a es)) (go (eqb e.actor a) refl)
        ∙ sym (mine_append (cond (eqb e.actor a) (acts_here es e) []) (order_at shapes l a es)) where
          split : (b : ℕ) → b ≢ a → mine (cond (eqb e.actor b) (acts_here es e) []) ++ mine (order_at shapes l b es) ≡ []
          split b ne = sym (mine_append (cond (eqb e.actor b) (acts_here es e) []) (order_at shapes l b es)) ∙ none b ne

          before : NoOther es
          before b ne = right_none (mine (cond (eqb e.actor b) (acts_here es e) [])) (mine (order_at shapes l b es)) (split b ne)

          go : (b : Bool) → eqb e.actor a ≡ b → mine (acts_here es e) ≡ mine (cond b (acts_here es e) [])
          go true is = refl
          go false is =
              ap (λ (b : Bool). mine (cond b (acts_here es e) [])) (sym (eq-eqb e.actor e.actor refl))
              ∙ left_none (mine (cond (eqb e.actor e.actor) (acts_here es e) [])) (mine (order_at shapes l e.actor es)) (split e.actor (eqb-false e.actor a is))

    one_acts : (es : List (Entry Op)) → ((b : ℕ) → b ≢ a → mine (acted_at shapes l b es) ≡ []) → mine (acted_in shapes l es) ≡ mine (acted_at shapes l a es)
    one_acts es none =
        mine_reverse (order_of shapes l es)
        ∙ ap (λ (os : List Op). reverse os) (one_does es (λ b ne. reversed_none (mine (order_at shapes l b es)) (sym (mine_reverse (order_at shapes l b es)) ∙ none b ne)))
        ∙ sym (mine_reverse (order_at shapes l a es))

-- ---- a run's operations are an order of all

module _ (p : Program) (l : Layout) (es : List (Entry Op)) (o : Outcome) (out : LaysOut p l) (x : IsExplained p l es o) where
  -- what an actor does of a goroutine, where its turns have nothing of it
  none_by : (g b : ℕ) → filter (is_by_goroutine g) (turns_of p b) ≡ [] → mine g (acted_at p.shapes l b es) ≡ []
  none_by g b none = elim (cases_lt b l.procs) [
    | inl lt ↦ ap (filter (is_by_goroutine g)) (x.acted b lt) ∙ none
    | inr le ↦ ap (mine g) (x.alone b le)
  ]

  its_own : (g : ℕ) → g < length p.goroutines → mine g (acted_in p.shapes l es) ≡ operations_of p g
  its_own g lt =
      let a = g % p.settings.procs in
      let some = l.limits.procs_fit.0 in
      let procs = out.procs_are in
      let below = mod_below g p.settings.procs (omega (arith, procs, some)) in
      let there : a < l.procs = omega (arith, procs, below) in
      one_acts g p.shapes l a es (λ b ne. none_by g b (turns_away p g b (other b ne)))
      ∙ ap (filter (is_by_goroutine g)) (x.acted a there)
      ∙ turns_mine p g a lt (eq-eqb a a refl) where
        other : (b : ℕ) → b ≢ g % p.settings.procs → is_of_seat p b g ≡ false
        other b ne = go (is_of_seat p b g) refl where
          go : (c : Bool) → is_of_seat p b g ≡ c → is_of_seat p b g ≡ false
          go false e = e
          go true e = absurd (ne (sym (eqb-true (g % p.settings.procs) b e)))

  pub is_order : IsOrderOf p (ops_of (acted_in p.shapes l es))
  is_order = record {
    each = its_own;
    no_other = λ g le.
        one_acts g p.shapes l 0 es (λ b ne. none_by g b (turns_beyond p g b le))
        ∙ none_by g 0 (turns_beyond p g 0 le);
  }

-- ---- the heap that never frees behind a run

after_more : (shapes : List Shape) (e : Ever) (xs : List Answered) (y : Answered) → ever_after_all shapes e (ops_of (xs ++ y ∷ [])) (answers_of (xs ++ y ∷ [])) ≡ ever_after shapes (ever_after_all shapes e (ops_of xs) (answers_of xs)) y.op y.answer
after_more shapes e [] y = refl
after_more shapes e (x ∷ xs) y = after_more shapes (ever_after shapes e x.op x.answer) xs y

-- it is what the operations leave that acted, answered as they were
left_so : (shapes : List Shape) (l : Layout) (es : List (Entry Op)) → ever_of shapes l es ≡ ever_after_all shapes opening_ever (ops_of (acted_in shapes l es)) (answers_of (acted_in shapes l es))
left_so shapes l [] = refl
left_so shapes l (e ∷ es) = go (acts l (before_step shapes l es e) e.found) (left_so shapes l es) where
  go : (x : Option Act) → ever_of shapes l es ≡ ever_after_all shapes opening_ever (ops_of (acted_in shapes l es)) (answers_of (acted_in shapes l es)) → acted shapes (ever_of shapes l es) x
      ≡ ever_after_all shapes opening_ever (ops_of (reverse (option_to_list (answered shapes l (ever_of shapes l es) x) ++ order_of shapes l es))) (answers_of (reverse (option_to_list (answered shapes l (ever_of shapes l es) x) ++ order_of shapes l es)))
  go None before = before
  go (Some x) before =
      let y : Answered = record { op = x.op; answer = answer_at shapes (ever_of shapes l es) x } in
      ap (λ (v : Ever). ever_after shapes v y.op y.answer) before
      ∙ sym (after_more shapes opening_ever (acted_in shapes l es) y)
      ∙ ap (λ (xs : List Answered). ever_after_all shapes opening_ever (ops_of xs) (answers_of xs)) (sym (reverse_more y (order_of shapes l es)))

-- an answer that is not `full` is the one of that heap
as_ever : (shapes : List Shape) (e : Ever) (o : Op) (a : Answer) → Answers shapes e o a → a ≢ Answer.Full → a ≡ answer_of shapes e o
as_ever shapes e (Op.New g d t) a (inl is) ne = is
as_ever shapes e (Op.New g d t) a (inr full) ne = absurd (ne full)
as_ever shapes e (Op.Load g d b k) a is ne = is
as_ever shapes e (Op.Store g b k v) a is ne = is
as_ever shapes e (Op.GetGlobal g d k) a is ne = is
as_ever shapes e (Op.SetGlobal g k v) a is ne = is
as_ever shapes e (Op.Int g d n) a is ne = is
as_ever shapes e (Op.Move g d s) a is ne = is
as_ever shapes e (Op.Nil g d) a is ne = is
as_ever shapes e (Op.Gc g) a is ne = is
as_ever shapes e Op.Poll a is ne = is
as_ever shapes e (Op.End g) a is ne = is
as_ever shapes e Op.Leave a is ne = is

-- none of these was answered `full`
abbrev NoneFull : List Answered → Type 0
NoneFull xs = (i : ℕ) (a : Answered) → slice_get xs i ≡ Some a → a.answer ≢ Answer.Full

all_ever : (shapes : List Shape) (e : Ever) (xs : List Answered) → AllAnswer shapes e (ops_of xs) (answers_of xs) → NoneFull xs → answers_of xs ≡ answers_from shapes e (ops_of xs)
all_ever shapes e [] all none = refl
all_ever shapes e (x ∷ xs) all none =
    let first = as_ever shapes e x.op x.answer all.0 (none 0 x refl) in
    let rest = all_ever shapes (ever_after shapes e x.op x.answer) xs all.1 (λ i a is. none (suc i) a is) in
    ap (λ (more : List Answer). x.answer ∷ more) rest ∙ ap (λ (a : Answer). a ∷ answers_from shapes (ever_after shapes e x.op a) (ops_of xs)) first

pub leaves : (p : Program) (l : Layout) (es : List (Entry Op)) (o : Outcome) → IsExplained p l es o → NeverFull p l es → ever_of p.shapes l es ≡ ever_left_by p.shapes (ops_of (acted_in p.shapes l es))
leaves p l es o x never =
    let all : AllAnswer p.shapes opening_ever (ops_of (acted_in p.shapes l es)) (answers_of (acted_in p.shapes l es)) = subst (λ (as' : List Answer). AllAnswer p.shapes opening_ever (ops_of (acted_in p.shapes l es)) as') (sym x.answered) x.ever in
    left_so p.shapes l es
    ∙ ap (λ (as' : List Answer). ever_after_all p.shapes opening_ever (ops_of (acted_in p.shapes l es)) as') (all_ever p.shapes opening_ever (acted_in p.shapes l es) all never)
