-- A goroutine ends with the step of its end alone, and has ended for good. A processor that leaves does nothing else any more.
use Rattle.std.proofs.Common.{◌≡◌, ℕ, ◌⊎◌, inl, inr, Bool, true, false, cond, refl, sym, ap, ◌∙◌, arith, List, Option, Some, None, eq-eqb}
use Rattle.gh_marked.specs.Vocabulary.{Act, acted, acts, acts_at, after_assist, after_gc, after_poll, answer_at, begins_at, ends-by, Ever, follows, is_busy_at, Layout, Name, NewStage, Op, Processor, Shape, takes_at, Task}
use Rattle.gh_mutator.specs.New as new
use Rattle.gh_poll.specs.Wait as wait
use Rattle.gh_marked.specs.LemmaVocabulary.{Assisting, Found, is_last_task, Placing, Polling, Seeking, Then, Wanted}

-- Its step is that of its end, or is not.
pub is_its_end : (t : Task) (g : ℕ) → (t ≡ Task.End g) ⊎ (t ≡ Task.End g → ⊥)
is_its_end t g = grind arith

pub acts_end : (l : Layout) (m : Processor) (t : Task) (found : ℕ) (p : Act) (g : ℕ) → acts_at l m t found ≡ Some p → p.op ≡ Op.End g → t ≡ Task.End g
acts_end l m t found p g is end = grind arith

module _ (l : Layout) (shapes : List Shape) (m : Processor) (found : ℕ) (e : Ever) (g : ℕ) where
  pub acted_stays : (p : Option Act) → e.ended g ≡ true → (acted shapes e p).ended g ≡ true
  acted_stays p is = grind arith

  acted_back : (p : Option Act) → acts l m found ≡ p → (acted shapes e p).ended g ≡ true → (e.ended g ≡ true) ⊎ (m.task ≡ Task.End g)
  acted_back None at is = inl is
  acted_back (Some x) at is = elim (ends-by shapes e x.op (answer_at shapes e x) g is) [
    | inl y ↦ inl y
    | inr y ↦ inr (acts_end l m m.task found x g at y)
  ]

  pub ended_by : (acted shapes e (acts l m found)).ended g ≡ true → (e.ended g ≡ true) ⊎ (m.task ≡ Task.End g)
  ended_by is = grind (arith, acted_back)

  pub end_ends : m.task ≡ Task.End g → (acted shapes e (acts l m found)).ended g ≡ true
  end_ends is = ap (λ (t : Task). (acted shapes e (acts_at l m t found)).ended g) is ∙ ap (λ (b : Bool). cond b true (e.ended g)) (eq-eqb g g refl)

-- A processor that leaves.

follows_none : {S : Type 0} (goes : S → Task) → ((s : S) → is_last_task (goes s) ≡ false) → (t : Then S) → is_last_task (follows goes t) ≡ false
follows_none goes none t = grind arith

module _ (l : Layout) (shapes : List Shape) (m : Processor) (found : ℕ) where
  search_none : (c : Processor) (w : Wanted) (waited : Bool) (q : Seeking) (o : Option Found) → is_last_task (new.after_search shapes c w waited q o).task ≡ false
  search_none c w waited q o = grind arith

  wait_none : (w : Wanted) (x : wait.Waiting) (o : Option (Unit {0})) → is_last_task (new.after_wait m w x o).task ≡ false
  wait_none w x o = grind arith

  gc_none : (g : ℕ) (x : wait.Waiting) (o : Option (Unit {0})) → is_last_task (after_gc m g x o).task ≡ false
  gc_none g x o = grind arith

  poll_none : (p : Polling) (o : Option (Unit {0})) → is_last_task (after_poll m p o).task ≡ false
  poll_none p o = grind arith

  place_none : (w : Wanted) (p : Placing) (asks : Option Bool) → is_last_task (new.made_task m.poll w p asks) ≡ false
  place_none w p asks = grind arith

  assist_none : (w : Wanted) (n : Name) (x : Assisting) (o : Option (Unit {0})) → is_last_task (after_assist m w n x o).task ≡ false
  assist_none w n x o = grind arith

  new_none : (w : Wanted) (s : NewStage) → is_last_task (new.takes_at l shapes m w s found).task ≡ false
  new_none w s = grind (arith, assist_none, place_none, search_none, wait_none)

  other : {b : Bool} → b ≡ false → b ≡ true → ⊥
  other x y = let both : false ≡ true = sym x ∙ y in cc

  -- it left already
  pub last_before : (t : Task) → is_busy_at t ≡ true → is_last_task (takes_at l shapes m t found).task ≡ true → is_last_task t ≡ true
  last_before t busy is = grind (arith, follows_none, gc_none, new_none, other, poll_none)

-- and began to leave with a leave
pub last_begun : (shapes : List Shape) (m : Processor) (o : Op) → is_last_task (begins_at shapes m o) ≡ true → o ≡ Op.Leave
last_begun shapes m o is = grind arith
