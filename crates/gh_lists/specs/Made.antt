-- How many objects each goroutine has made: never fewer than before, and at most as many as it has statements that may ask for a cycle.
use Rattle.std.proofs.Common.{ℕ, ◌+◌, ◌≤◌, Bool, cond, List, [], ◌∷◌, length, Option, Some, ap, arith, inl, inr}
use Rattle.std.specs.List.{filter}
use Rattle.gh_lists.specs.Vocabulary.{Act, acted, acts, Answer, Entry, Ever, ever_after, Layout, Op, Shape}
use Rattle.gh_model.specs.Answers.{ever_after_all}
use Rattle.gh_lists.specs.Marking.{IsStartOf}
use Rattle.gh_lists.specs.Order.{before_step, ever_of}
use Rattle.gh_lists.specs.Processors.{asks_collector}

-- one object more, if the operation makes one for the goroutine
pub record MakesAtMostOne (before after : ℕ) (may : Bool) : Type 0 where
  pub no_fewer : before ≤ after
  pub few : after ≤ before + cond may 1 0

module _ (shapes : List Shape) (g : ℕ) where
  pub made_by : (e : Ever) (o : Op) (a : Answer) → MakesAtMostOne (e.made g) ((ever_after shapes e o a).made g) (asks_collector g (Some o))
  made_by e o a = record { no_fewer = grind arith; few = grind arith }

  -- as many at most as ask
  abbrev pub asked : List Op → ℕ
  asked os = length (filter (λ (o : Op). asks_collector g (Some o)) os)

  pub made_all : (e : Ever) (os : List Op) (as' : List Answer) → (ever_after_all shapes e os as').made g ≤ e.made g + asked os
  made_all e [] as' = omega arith
  made_all e (o ∷ os) [] = omega arith
  made_all e (o ∷ os) (a ∷ as') = go (asks_collector g (Some o)) (made_by e o a).few (made_all (ever_after shapes e o a) os as') where
    go : (b : Bool) → (ever_after shapes e o a).made g ≤ e.made g + cond b 1 0 → (ever_after_all shapes (ever_after shapes e o a) os as').made g ≤ (ever_after shapes e o a).made g + asked os →
        (ever_after_all shapes (ever_after shapes e o a) os as').made g ≤ e.made g + length (cond b (o ∷ filter (λ (o : Op). asks_collector g (Some o)) os) (filter (λ (o : Op). asks_collector g (Some o)) os))
    go b few rest = grind arith

  pub acted_no_fewer : (e : Ever) (x : Option Act) → e.made g ≤ (acted shapes e x).made g
  acted_no_fewer e x = grind arith

  -- along a list
  pub grows : (l : Layout) (start es : List (Entry Op)) → IsStartOf start es → (ever_of shapes l start).made g ≤ (ever_of shapes l es).made g
  grows l start [] is = let same = ap (λ (xs : List (Entry Op)). (ever_of shapes l xs).made g) is in omega (arith, same)
  grows l start (e ∷ es) (inl is) = let same = ap (λ (xs : List (Entry Op)). (ever_of shapes l xs).made g) is in omega (arith, same)
  grows l start (e ∷ es) (inr is) =
      let before = grows l start es is in
      let more = acted_no_fewer (ever_of shapes l es) (acts l (before_step shapes l es e) e.found) in
      omega (arith, before, more)
