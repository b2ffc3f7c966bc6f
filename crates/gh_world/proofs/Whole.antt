-- A world's actors are those of the list that it is the state of; and where all are done the list is a whole run.
use Rattle.std.proofs.Common.{◌≡◌, ℕ, zero, suc, ◌+◌, ◌-◌, ◌<◌, ◌≤◌, Bool, true, cond, List, [], ◌++◌, length, reverse, refl, sym, ◌∙◌, ap, Option, Some, None, arith, slice_get}
use Rattle.std.proofs.lemmas.List.{append-nil}
use Rattle.gh_world.proofs.Vocabulary.{actors_of, AllDone, begun_in, by, ended_after, Entry, first_going, has_ended, has_left_at, is_done, is_leaving, IsAfter, IsRun, Layout, Op, Program, range_with_len, Runner, setting_of, State, Task, turn_from, turn_in, turns_of}
use Rattle.gh_world.proofs.Due.{none_to_come}
use Rattle.gh_world.proofs.OneStep.{Kept}
use Rattle.gh_world.proofs.Parts.{none_within, runner_here}

module _ (w : State) (f : Kept w) (es : List (Entry Op)) (after : IsAfter w es) where
  abbrev p : Program
  p = w.script

  abbrev l : Layout
  l = w.layout

  pub same_end : (a : ℕ) → a < actors_of w → ended_after (setting_of p l) es a ≡ is_done w a
  same_end a lt = ap has_ended (sym (after.actors a lt))

  pub same_count : (setting_of p l).actors ≡ actors_of w
  same_count = let many = f.fit.others.many in let procs = f.fit.running.many in omega (arith, many, procs)

  left_leaves : (t : Task) → has_left_at t ≡ true → is_leaving t ≡ true
  left_leaves t e = grind arith

  -- a processor that has left has begun all its turns
  turns_over : AllDone w → (a : ℕ) → a < l.procs → (o : Option Runner) → slice_get w.runners a ≡ o → reverse (begun_in (by a es)) ≡ turns_of p a
  turns_over all a lt None is = let high : length w.runners ≤ a = none_within w.runners a is in let procs = f.fit.running.many in absurd (omega (arith, high, procs, lt))
  turns_over all a lt (Some x) is =
      let procs = f.fit.running.many in
      let left : has_left_at x.mutator.processor.task ≡ true = ap has_ended (sym (runner_here w a x is)) ∙ all a (omega (arith, procs, lt)) in
      let fits = f.fit.running.each a x is in
      let none = none_to_come p a x.progress.next (sym fits.leaves ∙ left_leaves x.mutator.processor.task left) in
      sym ((after.keeps.each a x is).turns ∙ ap (λ (os : List Op). reverse (begun_in (by a es)) ++ os) none ∙ append-nil (reverse (begun_in (by a es))))

  pub whole : AllDone w → IsRun p l es
  whole all = record {
    legal = after.run.legal;
    turns = λ a lt. turns_over all a lt (slice_get w.runners a) refl;
    done = λ a lt. let low : a < actors_of w = omega (arith, lt, same_count) in same_end a low ∙ all a low;
  }

  -- ---- whose turn it is

  first_same : (f g : ℕ → Bool) (n a m : ℕ) (rest : List ℕ) (more : List ℕ) → a + m ≤ n → ((b : ℕ) → b < n → f b ≡ g b) → first_going f rest ≡ first_going g more → first_going f (range_with_len a m ++ rest) ≡ first_going g (range_with_len a m ++ more)
  first_same f g n a zero rest more le same e = e
  first_same f g n a (suc m) rest more le same e =
      ap (λ (b : Bool). cond b (first_going f (range_with_len (a + 1) m ++ rest)) (Some a)) (same a (omega (arith, le)))
      ∙ ap (λ (o : Option ℕ). cond (g a) o (Some a)) (first_same f g n (a + 1) m rest more (omega (arith, le)) same e)

  first_low : (f g : ℕ → Bool) (n a m : ℕ) → a + m ≤ n → ((b : ℕ) → b < n → f b ≡ g b) → first_going f (range_with_len a m) ≡ first_going g (range_with_len a m)
  first_low f g n a m le same =
      ap (first_going f) (sym (append-nil (range_with_len a m))) ∙ first_same f g n a m [] [] le same refl ∙ ap (first_going g) (append-nil (range_with_len a m))

  pub same_turn : (a : ℕ) → a < actors_of w → turn_from (is_done w) (actors_of w) a ≡ turn_in p l es a
  same_turn a lt = grind (arith, first_low, first_same, same_count, same_end)

-- one actor more is passed over, or has the turn
pub turn_on : (ended : ℕ → Bool) (a n : ℕ) (rest : List ℕ) (b : Bool) → a < n → ended a ≡ b → first_going ended (range_with_len a (n - a) ++ rest) ≡ cond b (first_going ended (range_with_len (a + 1) (n - (a + 1)) ++ rest)) (Some a)
turn_on ended a n rest b lt e =
    let more : n - a ≡ suc (n - (a + 1)) = omega (arith, lt) in
    ap (λ (k : ℕ). first_going ended (range_with_len a k ++ rest)) more ∙ ap (λ (c : Bool). cond c (first_going ended (range_with_len (a + 1) (n - (a + 1)) ++ rest)) (Some a)) e

pub turn_low : (ended : ℕ → Bool) (a n : ℕ) (b : Bool) → a < n → ended a ≡ b → first_going ended (range_with_len a (n - a)) ≡ cond b (first_going ended (range_with_len (a + 1) (n - (a + 1)))) (Some a)
turn_low ended a n b lt e = grind arith
