-- What may begin by its tests may begin by the heap: its goroutine goes on, and its registers, global and type are there.
use Rattle.std.proofs.Common.{◌≡◌, ℕ, ◌<◌, true, not, ltb, length, List, Some, refl, subst, arith, ◌&&◌}
use Rattle.std.proofs.lemmas.Bool.{ltb-true}
use Rattle.gh_marked.specs.Vocabulary.{Arena, both, ended_in, Entry, goroutine_is_over, goroutine_of, GoroutineRuns, in_range, is_of, IsOf, may_run, MayBegin, MOST_STATEMENTS, Op, Processor, REGISTERS, View}
use Rattle.gh_lists.specs.LemmaVocabulary.{has_names, made_by}

module _ (z : Arena) (a : ℕ) (v : View) (m : Processor) (es : List (Entry Op)) (ended : (g : ℕ) → IsOf z a g → v.ever.ended g ≡ true → ended_in es g ≡ true) (counts : (g : ℕ) → IsOf z a g → made_by m g ≡ v.ever.made g) where
  -- the tests of an operation of goroutine g
  of-goroutine : (o : Op) (g : ℕ) → goroutine_of o ≡ Some g → may_run z a m es o ≡ true → ltb g z.layout.goroutines ≡ true → GoroutineRuns z v a g
  of-goroutine o g e may below = grind arith

  range : (o : Op) → may_run z a m es o ≡ true → in_range z.layout.goroutines z.layout.globals (length z.shapes) o ≡ true
  range o may =
      let x = both _ (not (goroutine_is_over es (goroutine_of o))) may in
      let y = both _ (has_names m o) x.0 in
      (both (in_range z.layout.goroutines z.layout.globals (length z.shapes) o) (is_of z a (goroutine_of o)) y.0).0

  names : (o : Op) → may_run z a m es o ≡ true → has_names m o ≡ true
  names o may =
      let x = both _ (not (goroutine_is_over es (goroutine_of o))) may in
      (both _ (has_names m o) x.0).1

  pub may-begin : (o : Op) → may_run z a m es o ≡ true → MayBegin z a v o
  may-begin (Op.New g d t) may =
      let r = range (Op.New g d t) may in
      let x = both (ltb g z.layout.goroutines && ltb d REGISTERS) (ltb t (length z.shapes)) r in
      let y = both (ltb g z.layout.goroutines) (ltb d REGISTERS) x.0 in
      let run = of-goroutine (Op.New g d t) g refl may y.0 in
      (run, ltb-true d REGISTERS y.1, ltb-true t (length z.shapes) x.1, subst (λ (n : ℕ). n < MOST_STATEMENTS) (counts g run.of) (ltb-true (made_by m g) MOST_STATEMENTS (names (Op.New g d t) may)))
  may-begin (Op.Load g d b k) may =
      let x = both (ltb g z.layout.goroutines && ltb d REGISTERS) (ltb b REGISTERS) (range (Op.Load g d b k) may) in
      let y = both (ltb g z.layout.goroutines) (ltb d REGISTERS) x.0 in
      (of-goroutine (Op.Load g d b k) g refl may y.0, ltb-true d REGISTERS y.1, ltb-true b REGISTERS x.1)
  may-begin (Op.Store g b k c) may =
      let x = both (ltb g z.layout.goroutines && ltb b REGISTERS) (ltb c REGISTERS) (range (Op.Store g b k c) may) in
      let y = both (ltb g z.layout.goroutines) (ltb b REGISTERS) x.0 in
      (of-goroutine (Op.Store g b k c) g refl may y.0, ltb-true b REGISTERS y.1, ltb-true c REGISTERS x.1)
  may-begin (Op.GetGlobal g d k) may =
      let x = both (ltb g z.layout.goroutines && ltb d REGISTERS) (ltb k z.layout.globals) (range (Op.GetGlobal g d k) may) in
      let y = both (ltb g z.layout.goroutines) (ltb d REGISTERS) x.0 in
      (of-goroutine (Op.GetGlobal g d k) g refl may y.0, ltb-true d REGISTERS y.1, ltb-true k z.layout.globals x.1)
  may-begin (Op.SetGlobal g k c) may =
      let x = both (ltb g z.layout.goroutines && ltb k z.layout.globals) (ltb c REGISTERS) (range (Op.SetGlobal g k c) may) in
      let y = both (ltb g z.layout.goroutines) (ltb k z.layout.globals) x.0 in
      (of-goroutine (Op.SetGlobal g k c) g refl may y.0, ltb-true c REGISTERS x.1, ltb-true k z.layout.globals y.1)
  may-begin (Op.Int g d n) may =
      let y = both (ltb g z.layout.goroutines) (ltb d REGISTERS) (range (Op.Int g d n) may) in
      (of-goroutine (Op.Int g d n) g refl may y.0, ltb-true d REGISTERS y.1)
  may-begin (Op.Move g d c) may =
      let x = both (ltb g z.layout.goroutines && ltb d REGISTERS) (ltb c REGISTERS) (range (Op.Move g d c) may) in
      let y = both (ltb g z.layout.goroutines) (ltb d REGISTERS) x.0 in
      (of-goroutine (Op.Move g d c) g refl may y.0, ltb-true d REGISTERS y.1, ltb-true c REGISTERS x.1)
  may-begin (Op.Nil g d) may =
      let y = both (ltb g z.layout.goroutines) (ltb d REGISTERS) (range (Op.Nil g d) may) in
      (of-goroutine (Op.Nil g d) g refl may y.0, ltb-true d REGISTERS y.1)
  may-begin (Op.Gc g) may = tt
  may-begin (Op.End g) may = of-goroutine (Op.End g) g refl may (range (Op.End g) may)
  may-begin _ may = tt
