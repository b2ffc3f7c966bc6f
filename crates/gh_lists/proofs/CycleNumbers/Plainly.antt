-- The numbers of cycles are how often the list stores each: with each store of one it is one cycle later.
use Rattle.std.proofs.Common.{◌≡◌, ℕ, suc, ◌+◌, ◌*◌, ◌≤◌, Bool, true, false, refl, subst, arith, List, [], ◌∷◌}
use Rattle.gh_lists.proofs.Vocabulary.{ahead_at, Ask, Cell, Change, Coordinating, CoordStage, CountsCycles, effect, Entry, IsFew, KeepsCycles, KeepsIt, Legal, Op, opened_in, opened_in_stored, Part, part_of, ProcessorWritesItsOwn, put, rises, same_cell, Setup, Store, Words, WorkersWriteTheirOwn}
use Rattle.gh_lists.specs.Counts.{about_to_tell, CountsPlainly, stored_in, stores_cell}
use Rattle.gh_lists.proofs.Changes.{change}
use Rattle.gh_lists.specs.Steps as seats

-- what leaves a word whatever it is does not store it
not_stored : (ask : Ask) (c : Cell) → ((w : Words) → effect w ask c ≡ w c) → stores_cell c ask ≡ false
not_stored (Store at value) c leaves = go (same_cell at c) refl where
  go : (b : Bool) → same_cell at c ≡ b → b ≡ false
  go true is = absurd (
      let w : Words = λ x. suc value in
      let same_value : put w at value c ≡ suc value = leaves w in
      let stored : put w at value c ≡ value = rw is refl in
      omega (arith, same_value, stored))
  go false is = refl
not_stored _ c leaves = refl

-- how far the parts of a cycle are apart
record InTurn (p : Part) : Type 0 where
  opened_first : (ahead_at p).begun ≤ (ahead_at p).opened
  begun_then : (ahead_at p).ended ≤ (ahead_at p).begun
  one : (ahead_at p).opened ≤ 1

in_turn : (p : Part) → InTurn p
in_turn p = grind arith

kept_at : (p : CoordStage) → (ahead_at (part_of p)).kept ≡ about_to_tell p
kept_at p = grind arith

module _ (setup : Setup)
    (writes : ProcessorWritesItsOwn) (works : WorkersWriteTheirOwn)
    (keeps : (es : List (Entry Op)) → Legal (seats.it setup) es → KeepsIt (seats.it setup) es) where
  abbrev told : List (Entry Op) → Words
  told es = seats.words setup es

  record Stored (words : Words) (begun gen swept : ℕ) : Type 0 where
    begun_is : words Cell.Begun ≡ begun
    gen_is : words Cell.Gen ≡ 2 + 2 * gen
    swept_is : words Cell.Swept ≡ swept

  abbrev StoredIn : List (Entry Op) → Type 0
  StoredIn es = Stored (told es) (stored_in Cell.Begun es) (stored_in Cell.Gen es) (stored_in Cell.Swept es)

  one_more : (e : Entry Op) (es : List (Entry Op)) → Change setup e es → StoredIn es → StoredIn (e ∷ es)
  one_more e es h h2 = grind (arith, not_stored)

  few_before : (e : Entry Op) (es : List (Entry Op)) → IsFew (e ∷ es) → IsFew es
  few_before e es few = let up = rises e.ask (opened_in es) in omega (arith, few, up)

  stored : (es : List (Entry Op)) → Legal (seats.it setup) es → IsFew es → StoredIn es
  stored [] legal few = record { begun_is = refl; gen_is = refl; swept_is = refl }
  stored (e ∷ es) legal few = let rest = few_before e es few in one_more e es (change setup writes works keeps e es legal rest) (stored es legal.0 rest)

  pub plainly : (es : List (Entry Op)) (c : Coordinating) → Legal (seats.it setup) es → IsFew es → CountsCycles (seats.it setup) setup.pacing.room es c → CountsPlainly (seats.it setup) setup.pacing.room es c
  plainly es c legal few h =
      let s = stored es legal few in
      let turn = in_turn (part_of c.stage) in
      let begun = s.begun_is in
      let gen = s.gen_is in
      let swept = s.swept_is in
      let want = opened_in_stored es in
      let opened = h.opened in
      let number = h.begun in
      let generation = h.gen in
      record {
        begun = begun;
        swept = swept;
        gen = gen;
        opened_first = let a = turn.opened_first in omega (arith, a, begun, swept, want, opened, number);
        begun_then = let a = turn.begun_then in omega (arith, a, begun, swept, gen, number, generation);
        ended_then = omega (arith, swept, gen, generation);
        one_at_once = let a = turn.one in omega (arith, a, swept, want, opened);
        marks = (
          λ x. h.marks.0 (omega (arith, x, begun, gen)),
          λ x. let y = h.marks.1 x in omega (arith, y, begun, gen),
        );
        kept = subst (λ (n : ℕ). KeepsCycles setup.pacing.room n c.cycles) (let k = kept_at c.stage in omega (arith, k, swept)) h.cycles;
      }
